-- Files: what comes of a run file. Program: the whole. Begins: how a file begins. Parts: a part of a file. Examples: files by their bytes.
-- Rests on decoder, printer, machine, site and books.
pub mod Files
pub mod Program
pub mod Begins
pub mod Parts
pub mod Examples
