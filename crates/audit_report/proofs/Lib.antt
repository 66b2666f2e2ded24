-- Figures: the table needs 64 numbers of each site. Lacks: what was noted of each site. Texts: the report from what was prepared. Answered: what an answer says of its place. Verdict: what the report's first line says of the books.
-- Rests on the specs, on audit_lacks and on audit_records.
pub mod Figures
pub mod Lacks
pub mod Texts
pub mod Answered
pub mod Verdict
