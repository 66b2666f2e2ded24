-- What the proofs of the loops share: a list filled place by place.
-- Rests on nothing of this crate.
pub mod Filled
