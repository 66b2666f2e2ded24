-- What the proofs of the functions share.
-- Rests on the specs.
pub mod Walk
