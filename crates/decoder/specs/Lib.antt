-- RunFile: the file, and the call of each event.
-- Rests on steps and books.
pub mod RunFile
