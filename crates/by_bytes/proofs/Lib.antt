-- What the proofs of these functions share.
-- Rests on the specs.
pub mod Products
pub mod Loops
pub mod Reading
pub mod Outcomes
