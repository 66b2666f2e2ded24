-- Blocks: a block of 64 numbers put among figures. Lookup: what each return of a look-up gives. Answers: what a look-up means, in the request's words.
-- Rests on the specs, on lookup_pairs, whole_board, machine, books and posting.
pub mod Blocks
pub mod Lookup
pub mod Answers
