-- EntryLaws, FileLaws, LineLaws: the laws behind the functions that read lines, files and their loops. LineBack, ReadsBack: what is written reads back. Kept: postings stand at their numbers.
-- Rests on the specs.
pub mod EntryLaws
pub mod FileLaws
pub mod LineLaws
pub mod LineBack
pub mod ReadsBack
pub mod Kept
