-- Figures: what is promised. Lines: what a record needs to be posted, and how large figures grow from zeros. All: the figures of all sites.
-- Rests on books, audit_rule and audit_input.
pub mod Figures
pub mod Lines
pub mod All
