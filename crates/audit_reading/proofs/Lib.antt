-- Bumps, RowLaws: numbers by class, and the classes of a posting. Meaning: what the slices mean. Loop, Tour: the two loops. Answered: what the answer means.
-- Rests on the specs.
pub mod Bumps
pub mod RowLaws
pub mod Meaning
pub mod Loop
pub mod Tour
pub mod Answered
