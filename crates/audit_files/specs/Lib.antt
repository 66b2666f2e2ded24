-- Words: whether bytes are the same. Entries: what the lines of a file say. Files: what is made of the files of an audit, and what is refused. Room: how long the slices are.
-- Written: how entries are written. Steps: what the steps of reading promise one another. Rests on amounts, audit_rule, audit_input and posting.
pub mod Words
pub mod Entries
pub mod Files
pub mod Room
pub mod Written
pub mod Steps
