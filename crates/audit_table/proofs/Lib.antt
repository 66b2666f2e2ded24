-- What the proofs of audit_table share: laws of its columns and of searches.
-- Rests on the specs. Assumes nothing.
pub mod Columns
