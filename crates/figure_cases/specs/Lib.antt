-- A table of what stands in a slice once books have filled it.
-- Rests on cases.
pub mod Figures
