-- A table of what a drain does next, and of how it ends.
-- Rests on cases.
pub mod Drains
