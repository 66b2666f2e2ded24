-- The table of specs/, evaluated, and what makes any table of cases compute.
-- Rests on the specs. Assumes nothing.
pub mod Computes
pub mod Known
pub mod Ways
pub mod KnownBoards
pub mod Evaluated
