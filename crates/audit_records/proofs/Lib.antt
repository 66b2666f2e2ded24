-- Pairs: the posting that the code names at a line. Answers: what the answer means.
-- Rests on the specs.
pub mod Pairs
pub mod Lawful
pub mod Answers
