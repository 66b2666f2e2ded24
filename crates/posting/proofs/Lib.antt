-- Laws of kinds, conflicts and records.
-- Rests on the specs.
pub mod KindLaws
pub mod ConflictLaws
pub mod RecordLaws
