-- Image: a board as a row of numbers. Layout: where its parts stand there. Stored: what the loops that write it do.
-- Rests on machine, flight, site, posting, books and sets.
pub mod Layout
pub mod Image
pub mod Stored
