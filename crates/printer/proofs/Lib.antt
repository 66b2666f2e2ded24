-- What the proofs of printer share: bytes put into a slice, the texts, their lengths, and what the checker tells of a parameter.
-- Rests on the specs. Assumes nothing.
pub mod Writing
pub mod Texts
pub mod Lengths
pub mod Typed
