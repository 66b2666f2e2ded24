-- `masks_ok` meets its contract. The loop's invariant: the first m masks pass.
-- Assumes nothing.
use Prim.Native.Nat.{ℕ}
use mathlib.Core.Path.{◌≡◌}
use mathlib.Core.Bool.{Bool, true}
use mathlib.Core.List.{List}
use lib.ListN.{get_or}
use Rattle.sets.specs.Below.{all_below}
use Rattle.soundness.specs.Parts.{mask_sound}
use Rattle.soundness.proofs.sites.masks_ok.Given as goal

abbrev pub passes : ℕ → ℕ → List ℕ → ℕ → Bool
passes n count masks m = mask_sound n count m (get_or masks m 0)

abbrev pub invariant-loop-m : goal.invariant-loop-m
invariant-loop-m l = all_below (passes l.n l.count l.masks) l.m ≡ true
