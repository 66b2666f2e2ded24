-- What the proofs of the calls share: what their passed tests say, and the ways out of each.
-- Rests on flat.
pub mod OnReceive
