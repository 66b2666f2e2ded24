-- The tables of specs/, evaluated.
-- Rests on the specs. Assumes nothing.
pub mod Evaluated
