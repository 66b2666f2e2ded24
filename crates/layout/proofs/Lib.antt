-- What the proofs of the loops share: stores at places in rows.
-- Rests on the specs.
pub mod Grid
