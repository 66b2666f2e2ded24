-- What the proofs of runfile share, and the evaluated files.
-- Rests on the specs. Assumes nothing.
pub mod Events
pub mod Runs
pub mod Programs
pub mod Fits
pub mod Computes
pub mod Evaluated
