-- Pairs: pairs of site and account, their refusals and lines. Gathered: the sites named as a mask, figures of several sites in one list.
-- Rests on steps, posting, masks and sets.
pub mod Pairs
pub mod Gathered
