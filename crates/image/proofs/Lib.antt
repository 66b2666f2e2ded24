-- What the proofs of writing and reading share, and the laws of an image: its length, and that reading it gives the board back.
-- Rests on the specs.
pub mod Rows
pub mod Written
pub mod Widths
pub mod Unchanged
