-- Causes, CauseLists: causes of refusal. Refusals: their numbers. ByMask and Cuts: a step by masks, and as far as a cut lets it go. Receipts: a receipt in range.
-- Rests on site, masks, posting and sets.
pub mod Causes
pub mod CauseLists
pub mod Refusals
pub mod ByMask
pub mod Cuts
pub mod Receipts
