-- Lengths: how long what is read can be.
-- Rests on audit_files.
pub mod Lengths
