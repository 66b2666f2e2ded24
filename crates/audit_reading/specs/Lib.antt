-- Kept: what a reading keeps, and how it tests a line. Sites: the records of all sites, and what a reading of them answers.
-- Rests on audit_rule.
pub mod Kept
pub mod Sites
