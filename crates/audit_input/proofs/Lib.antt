-- Searches, Marks: what the judge's loops have found. Judged, Accepted: what its tests say, and what holds where nothing is refused.
-- Rests on the specs.
pub mod Searches
pub mod Judged
pub mod Judgements
pub mod Marks
pub mod Accepted
