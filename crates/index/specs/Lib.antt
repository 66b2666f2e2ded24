-- Index: the postings offered by account and kind, and C(m) from them.
-- Rests on arrays, posting and sets.
pub mod Index
