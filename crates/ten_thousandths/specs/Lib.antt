-- Rounding: ten-thousandths in whole ones. Parts: a power of two taken away.
-- Rests on nothing.
pub mod Rounding
pub mod Parts
