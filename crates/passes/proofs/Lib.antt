-- RecordLines: a line of a record where it lies, by the kind of its posting.
-- Rests on books, views, flight and posting.
pub mod RecordLines
