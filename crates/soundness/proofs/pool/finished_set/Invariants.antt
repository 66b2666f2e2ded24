-- `finished_set` meets its contract. The loop's invariant: the set is that of the numbers below m that their owners have finished.
-- Assumes nothing.
use Prim.Native.Nat.{ℕ}
use mathlib.Core.Path.{◌≡◌}
use mathlib.Core.Bool.{Bool}
use mathlib.Core.List.{List}
use lib.ListN.{get_or}
use Rattle.sets.specs.Words.{collect}
use Rattle.sets.specs.Sets.{words, of_words, has}
use Rattle.posting.specs.declared.Table.{Table}
use Rattle.site.specs.declared.Site.{Site}
use Rattle.site.specs.Sites.{no_site}
use Rattle.site.specs.Steps.{owner_of}
use Rattle.soundness.proofs.pool.finished_set.Given as goal

abbrev pub byOwner : Table → List Site → ℕ → Bool
byOwner table l m = has (get_or l (owner_of table m) no_site).finished m

abbrev pub invariant-loop-m : goal.invariant-loop-m
invariant-loop-m l = l.done ≡ of_words (collect words (byOwner l.fn.table l.sites) l.m)
