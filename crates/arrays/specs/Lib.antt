-- Layout: where each part stands. Arrays: the arrays, and what is read and stored there.
-- Rests on flight, steps, masks, site and sets.
pub mod Layout
pub mod Arrays
