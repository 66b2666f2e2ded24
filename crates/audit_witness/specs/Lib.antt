-- Refusals: the words of a refusal. Witness: the words of a pair that shows that records do not agree. Needs: what the code needs to write them.
-- Rests on audit_files, audit_input, audit_rule, amounts, posting and printer.
pub mod Refusals
pub mod Witness
pub mod Needs
