-- LookedLaws: what each way out of a run and a look-up gives.
-- Rests on the specs, on lookups, runfile and counted.
pub mod LookedLaws
