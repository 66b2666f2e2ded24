-- What every call keeps of a board: sound, in shape, blank where nothing is live; what a list has done; and when a board is quiet.
-- Rests on machine.
pub mod SiteSound
pub mod StepSound
pub mod Judged
pub mod CarriedOut
pub mod Room
pub mod History
pub mod Grow
pub mod PoolSound
pub mod FlightSound
pub mod Blank
pub mod Kept
pub mod Reached
pub mod Start
pub mod Quiet
