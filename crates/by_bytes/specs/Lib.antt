-- Bytes says how tables and records come as bytes, Answers what each function answers and writes.
-- Rests on books, posting and sets.
pub mod Bytes
pub mod Answers
