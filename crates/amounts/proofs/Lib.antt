-- What the proofs of amounts share: laws of signed numbers.
-- Rests on the specs. Assumes nothing.
pub mod Figures
