-- Lines: a bound of a posting's place in a record.
-- Rests on audit_pair.
pub mod Lines
