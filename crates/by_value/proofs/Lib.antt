-- What the proofs of the calls by value share.
-- Rests on the specs.
pub mod LeftBy
pub mod Filled
pub mod CallLaws
