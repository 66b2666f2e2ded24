-- A table of look-ups and what must come of them.
-- Rests on lookups and figure_cases.
pub mod Balances
