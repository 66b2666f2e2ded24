-- Events: the bytes of an event, as a part of the file.
-- Rests on the specs. Assumes nothing.
pub mod Events
