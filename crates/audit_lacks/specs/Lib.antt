-- Lacks: which postings a site lacks that others hold. Needs: what the code needs and keeps.
-- Rests on audit_rule and sets.
pub mod Lacks
pub mod Needs
