-- PairLaws: tests, masks and lines of pairs. Refusals: which refusal comes first.
-- Rests on the specs, on steps, site, books, masks and sets.
pub mod PairLaws
pub mod Refusals
