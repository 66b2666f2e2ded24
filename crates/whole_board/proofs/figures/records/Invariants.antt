-- `records` meets its contract. The loop's invariant: the first s records are copied.
-- Assumes nothing.
use Prim.Native.Nat.{◌≤◌, ◌-◌}
use Rattle.site.specs.Sites.{sites}
use Rattle.whole_board.proofs.Showing.{Copied}
use Rattle.whole_board.proofs.figures.records.Given as goal

abbrev pub invariant-loop-s : goal.invariant-loop-s
invariant-loop-s l = (l.s ≤ sites) × Copied l.board.sites sites l.s l.records.sites
