-- Effect: what a posting does. Books: postings posted line by line. Bounds: how large figures grow.
-- Rests on posting and sets.
pub mod Effect
pub mod Books
pub mod Bounds
