-- `deliver_word` meets its contract.
-- Assumes nothing.
use Prim.Native.Nat.{◌+◌, ◌-◌}
use mathlib.Core.Path.{◌≡◌}
use Rattle.delivery.specs.Delivery.{laid_of, with_laid, delivered_all, bits_from}
use Rattle.delivery.proofs.Walk.{Left}
use Rattle.delivery.proofs.deliver_word.Given as goal

abbrev pub invariant-loop-w : goal.invariant-loop-w
invariant-loop-w l =
    record {
      left : Left l.base l.x l.w;
      delivered : delivered_all (laid_of l.initial.board) l.p (bits_from 64 l.word l.base) ≡ delivered_all (laid_of l.board) l.p (bits_from 64 l.w l.x);
      rest : with_laid l.initial.board (laid_of l.board) ≡ l.board;
    }

abbrev pub decreases-loop-w : goal.decreases-loop-w
decreases-loop-w l = l.base + 64 - l.x
