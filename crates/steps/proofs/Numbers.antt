-- The number of a refusal is not 0, which is that of what is accepted.
-- Rests on Refusals. Assumes nothing.
use Prim.Native.Nat.{◌<◌}
use native.Mathlib.Omega.{arith}
use mathlib.Core.Logic.{◌≢◌}
use Rattle.steps.specs.declared.Refusal.{Refusal}
use Rattle.steps.specs.declared.Refusal.TheVariants.{MalformedFile, SiteCount, CrashCount, Asymmetric, LacksPair, Unsound, NoSite, SiteDown, BadFields, TableFull, NotInFlight, NotInPool, LogRead, CrashLimit, CutPastSends, ShortSlice, BadPairs}
use Rattle.steps.specs.Refusals.{number_of}

above_zero : (r : Refusal) → 0 < number_of r
above_zero MalformedFile = omega arith
above_zero SiteCount = omega arith
above_zero CrashCount = omega arith
above_zero Asymmetric = omega arith
above_zero LacksPair = omega arith
above_zero Unsound = omega arith
above_zero NoSite = omega arith
above_zero SiteDown = omega arith
above_zero BadFields = omega arith
above_zero TableFull = omega arith
above_zero NotInFlight = omega arith
above_zero NotInPool = omega arith
above_zero LogRead = omega arith
above_zero CrashLimit = omega arith
above_zero CutPastSends = omega arith
above_zero ShortSlice = omega arith
above_zero BadPairs = omega arith

pub is_refusal : (r : Refusal) → number_of r ≢ 0
is_refusal r = let h : 0 < number_of r = above_zero r in omega (arith, h)
