-- What the proofs of these functions share, and those of by_value.
-- Rests on the specs.
pub mod DrainLaws
pub mod AfterDrain
pub mod NumberLaws
