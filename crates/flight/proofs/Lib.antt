-- Laws of what is in flight; and what the proofs of the functions share.
-- Rests on the specs.
pub mod CellLaws
pub mod ArrayLaws
pub mod CarriedLaws
pub mod FlightLaws
pub mod SendLaws
pub mod BroadcastLaws
pub mod SearchLaws
pub mod LowestLaws
pub mod FloorLaws
pub mod Joined
pub mod Places
pub mod Changes
pub mod Loads
