-- Ways: the ways out of an event, refused or done.
-- Rests on the specs.
pub mod Ways
