-- Delivery: into a record where it lies.
-- Rests on arrays and sets.
pub mod Delivery
