-- What the proofs of statements share, and the evaluated case.
-- Rests on the specs. Assumes nothing.
pub mod Stated
pub mod Evaluated
