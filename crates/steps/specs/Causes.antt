-- Causes of refusal, each its number and whether it applies; whether a step is cut, and after how many sends.
-- Rests on the declared Cut.
use Rattle.std.specs.Prelude.{ℕ, Bool, true, false}
use Rattle.steps.specs.declared.Cut.{Cut}
use Rattle.steps.specs.declared.Cut.TheVariants.{Whole, After}

-- a cause of refusal: its number, and whether it applies
pub record Cause : Type 0 where
  pub number : ℕ
  pub applies : Bool

abbrev pub cause : ℕ → Bool → Cause
cause number applies = record { number = number; applies = applies }

-- 14 and 15 of a cut
abbrev pub is_cut : Cut → Bool
is_cut Whole = false
is_cut (After j) = true

abbrev pub cut_after : Cut → ℕ
cut_after Whole = 0
cut_after (After j) = j
