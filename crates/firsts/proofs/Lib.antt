-- What the proofs of each step share: the ways out of it.
-- Rests on flat.
pub mod OnFirst
