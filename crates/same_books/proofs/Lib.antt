-- SameBooks: the books of records that have one order.
-- Rests on the specs.
pub mod SameBooks
