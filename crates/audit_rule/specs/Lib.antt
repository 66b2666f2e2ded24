-- Audit: when records agree, and what the audit answers. Handed: postings and records in slices; Needs: what the code needs of them. Reading and Notes: how one reading decides it.
-- Rests on broadcast and posting.
pub mod Audit
pub mod Handed
pub mod Needs
pub mod Reading
pub mod Notes
pub mod Searches
