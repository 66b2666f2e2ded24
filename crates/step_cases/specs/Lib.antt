-- A table of steps that the marked cases do not reach.
-- Rests on cases.
pub mod Steps
