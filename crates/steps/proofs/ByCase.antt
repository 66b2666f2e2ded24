-- A cut by its case: in the causes of refusal, and in a step.
-- Rests on CauseLists and Cuts. Assumes nothing.
use Prim.Native.Nat.{ℕ}
use mathlib.Core.Path.{◌≡◌}
use native.Mathlib.Omega.{arith}
use borrow.Author.Tests.{le-ltb}
use Rattle.masks.specs.SiteMasks.{with_site}
use Rattle.steps.specs.declared.Cut.{Cut}
use Rattle.steps.specs.declared.Cut.TheVariants.{Whole, After}
use Rattle.steps.specs.CauseLists.{first_cause, cut_causes}
use Rattle.steps.specs.Cuts.{sites_to, down_after}

-- what is not cut has no cause
pub whole_cut : (f down sends : ℕ) (cut : Cut) → cut ≡ Whole → first_cause (cut_causes f down sends cut) ≡ 0
unfolding first_cause
whole_cut f down sends cut e = rw (e, le-ltb sends 0 (omega arith))

pub cut_sites : (mask : ℕ) (cut : Cut) (j : ℕ) → cut ≡ After j → sites_to mask (After j) ≡ sites_to mask cut
cut_sites mask cut j e = rw e
