-- Laws of tests, bits, numbers, words and sets; and what the proofs of the loops share.
-- Rests on the specs.
pub mod Truth
pub mod BelowLaws
pub mod MaskLaws
pub mod NumberLaws
pub mod WordLaws
pub mod Loops
pub mod SetLaws
