-- Passes: the records of a board pass the audit.
-- Rests on audit_rule and machine.
pub mod Passes
