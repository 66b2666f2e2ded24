-- Laws that the crates above share.
-- Rests on the specs.
pub mod Slots
