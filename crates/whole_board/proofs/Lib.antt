-- What the proofs of quiet and of the books share.
-- Rests on machine.
pub mod Places
pub mod Showing
