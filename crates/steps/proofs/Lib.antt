-- ByCase: a cut by its case. Numbers: the number of a refusal is not 0.
-- Rests on the specs.
pub mod ByCase
pub mod Numbers
