-- A table of boards, unsound in each way, and odd ones that are sound.
-- Rests on cases.
pub mod Unsound
