-- The steps by masks are the steps; and what the proofs of the functions share.
-- Rests on the specs.
pub mod ByMaskLaws
pub mod Counts
pub mod Firsts
pub mod Fits
