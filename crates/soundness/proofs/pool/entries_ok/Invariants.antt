-- `entries_ok` meets its contract. The loop's invariant: the first m postings pass.
-- Assumes nothing.
use Prim.Native.Nat.{ℕ}
use mathlib.Core.Path.{◌≡◌}
use mathlib.Core.Bool.{Bool, true}
use mathlib.Core.List.{List}
use lib.ListN.{get_or}
use Rattle.sets.specs.declared.Set.{Set}
use Rattle.sets.specs.Below.{all_below}
use Rattle.sets.specs.Sets.{has, subset}
use Rattle.site.specs.Sites.{no_set}
use Rattle.soundness.specs.Parts.{entry_sound}
use Rattle.soundness.proofs.pool.entries_ok.Given as goal

abbrev pub passes : Set → Set → Set → List Set → Set → ℕ → Bool
passes pool logged finished entries all m = entry_sound (has pool m) (has logged m) (has finished m) (subset (get_or entries m no_set) all)

abbrev pub invariant-loop-m : goal.invariant-loop-m
invariant-loop-m l = all_below (passes l.pool l.logged l.finished l.fn.entries l.all) l.m ≡ true
