-- Amounts: signed numbers as text, cents among them, and whether two are the same.
-- Rests on printer for digits.
pub mod Amounts
