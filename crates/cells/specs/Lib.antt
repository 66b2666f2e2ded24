-- Cells: what is in flight, tested cell by cell.
-- Rests on flight, site, posting and sets.
pub mod Cells
