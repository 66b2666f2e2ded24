-- The theory: what every run keeps, one order of all postings, progress, and what a posting costs.
-- Rests on the specs.
pub mod Tests
pub mod Counts
pub mod Lists
pub mod Exchange
pub mod Late
pub mod Steps
pub mod Voting
pub mod Tallies
pub mod Ending
pub mod Safety
pub mod Records
pub mod OneOrder
pub mod Live
pub mod Progress
pub mod Uniform
pub mod Sums
pub mod Potential
pub mod Thrift
pub mod Ceiling
