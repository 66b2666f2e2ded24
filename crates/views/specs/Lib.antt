-- Views: what flat arrays show of a board.
-- Rests on arrays, on flight, site, posting, books and sets.
pub mod Views
