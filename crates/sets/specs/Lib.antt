-- Sets of posting numbers: Below, Masks, Numbers, Words and Sets.
-- Rests on nothing.
pub mod Below
pub mod Masks
pub mod Numbers
pub mod Words
pub mod Sets
