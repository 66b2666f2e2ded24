-- Postings, conflicts and records: Kinds, Conflicts and Records; and Touched, which the code and the index test.
-- Rests on sets.
pub mod Kinds
pub mod Conflicts
pub mod Touched
pub mod Records
