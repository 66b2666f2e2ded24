-- Same: a statement says that the sites that are up show the same figures. Fits: no statement is longer than the buffer.
-- Rests on statements and agreement.
pub mod Same
pub mod Fits
