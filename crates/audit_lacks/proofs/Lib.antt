-- Marks: what the loops keep of marks and counts. Held: where no site lacks any, all sites hold the same postings.
-- Rests on the specs.
pub mod Lists
pub mod Marks
pub mod Held
