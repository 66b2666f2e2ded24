-- Laws of the index that the crates above share.
-- Rests on the specs.
pub mod Indexed
