-- Places, Several, Visits, Answers, Marks: the laws behind the functions for a pair of postings.
-- Rests on the specs.
pub mod Places
pub mod Several
pub mod Visits
pub mod Answers
pub mod Marks
