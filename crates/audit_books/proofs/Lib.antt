-- Growth: how large figures grow from zeros. Sheets: what a record that may be posted says of each line.
-- Rests on the specs and on books.
pub mod Growth
pub mod Sheets
pub mod Judged
pub mod Blocks
