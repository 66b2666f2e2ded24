-- `deliver_entry` meets its contract.
-- Assumes nothing.
use Prim.Native.Nat.{◌*◌, ◌≤◌}
use mathlib.Core.Path.{◌≡◌}
use Rattle.sets.specs.Words.{members_below}
use Rattle.sets.specs.Sets.{words}
use Rattle.delivery.specs.Delivery.{laid_of, with_laid, delivered_all}
use Rattle.delivery.proofs.deliver_entry.Given as goal

abbrev pub invariant-loop-k : goal.invariant-loop-k
invariant-loop-k l =
    record {
      within : l.k ≤ words;
      delivered : laid_of l.board ≡ delivered_all (laid_of l.initial.board) l.p (members_below l.carried.words (64 * l.k));
      rest : with_laid l.initial.board (laid_of l.board) ≡ l.board;
    }
