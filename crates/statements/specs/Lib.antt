-- Statement: what the program prints. Examples: a statement by its numbers and bytes.
-- Rests on amounts, decoder, printer, drain and machine.
pub mod Table
pub mod Statement
pub mod Examples
