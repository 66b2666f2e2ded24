-- Passed: the machine's records pass the audit.
-- Rests on the specs.
pub mod Passed
