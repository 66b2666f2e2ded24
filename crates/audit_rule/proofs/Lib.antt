-- Pairs: the rule, both ways. Seeking, Searches: searches. Findings, Audited: what the audit's answer means. Reading to Answer: one reading decides it. Before: what was read before the line named.
-- Rests on the specs.
pub mod Handed
pub mod Order
pub mod Pairs
pub mod Seeking
pub mod Searches
pub mod Findings
pub mod Audited
pub mod Reading
pub mod Lines
pub mod Notes
pub mod First
pub mod Answer
pub mod Before
