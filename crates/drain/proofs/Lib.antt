-- What the proofs of drain share.
-- Rests on the specs and on invariants.
pub mod Searches
pub mod Pooled
pub mod Nexts
pub mod NextEvent
pub mod Floor
pub mod Offered
pub mod Loop
pub mod Turn
