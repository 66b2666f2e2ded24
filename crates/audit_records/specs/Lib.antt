-- Audited: what the audit answers. Needs: what its code needs at a line that departs.
-- Rests on audit_rule, audit_pair and audit_input.
pub mod Audited
pub mod Needs
