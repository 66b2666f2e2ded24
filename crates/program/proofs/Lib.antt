-- What the proofs of the programs rest on.
-- Rests on printer.
mod Made
