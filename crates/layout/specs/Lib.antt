-- Laying: what each function makes of its array.
-- Rests on arrays and index, on site, posting and sets.
pub mod Laying
