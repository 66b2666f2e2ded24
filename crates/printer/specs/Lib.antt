-- Output: the lines. Writing: a text in a lent slice. Puts: what the writers of lines promise.
-- Rests on books, posting and sets.
pub mod Output
pub mod Writing
pub mod Puts
