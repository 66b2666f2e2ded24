-- Lookups: many balances looked up on a board. Gathering: books of some sites in one list.
-- Rests on lookup_pairs, machine, views, arrays, books and posting.
pub mod Lookups
pub mod Gathering
