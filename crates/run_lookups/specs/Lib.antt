-- Looked: a run file run, and balances looked up. Changed: the same on a changed board.
-- Rests on lookups, runfile, by_value and counted.
pub mod Looked
pub mod Changed
