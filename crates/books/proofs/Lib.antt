-- Laws of figures and books, and what the proofs of the code share.
-- Rests on the specs.
pub mod Signed
pub mod Lists
pub mod Blocks
pub mod Effects
pub mod Commute
pub mod Balance
pub mod Bounds
pub mod Lines
pub mod Sheets
