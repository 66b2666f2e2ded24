-- `gather` meets its contract: after p sites the blocks of those named stand among the figures, and their places were visited.
-- Assumes nothing.
use Prim.Native.Nat.{◌*◌, ◌≤◌, ◌-◌}
use mathlib.Core.Path.{◌≡◌}
use mathlib.Core.List.{[]}
use lib.ListN.{length}
use Rattle.sets.specs.Masks.{has_bit}
use Rattle.site.specs.Sites.{sites}
use Rattle.lookup_pairs.specs.Pairs.{visited_to}
use Rattle.lookups.specs.Gathering.{places_at, numbers_at, Gathered}
use Rattle.lookups.proofs.gather.Given as goal

abbrev pub invariant-loop-p : goal.invariant-loop-p
invariant-loop-p l = (l.p ≤ l.n)
    × (length l.figures ≡ 64 * sites)
    × (l.visited ≡ visited_to l.p (has_bit l.named) (places_at l.board))
    × (l.visited ≤ 256 * l.p)
    × Gathered (numbers_at l.board) l.named l.p l.figures
