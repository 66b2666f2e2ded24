-- Input: what the audit refuses, and the answer that it gives. Lawful: what is known where nothing is refused. Refusals: the same, as the code answers it.
-- Rests on audit_rule and posting.
pub mod Input
pub mod Lawful
pub mod Refusals
