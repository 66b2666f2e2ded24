-- A table of calls that are refused, and of their neighbours that are not.
-- Rests on cases.
pub mod Refusals
