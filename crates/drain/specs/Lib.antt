-- Drain: the next event, and a drain. Firsts: what the code's searches give.
-- Rests on machine and flight.
pub mod Drain
pub mod Firsts
