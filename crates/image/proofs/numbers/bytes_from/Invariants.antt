-- `bytes_from` meets its contract.
-- Assumes nothing.
use Prim.Native.Nat.{◌+◌, ◌≤◌}
use Rattle.views.proofs.Filled.{Filled}
use Rattle.image.specs.Image.{number}
use Rattle.image.proofs.numbers.bytes_from.Given as goal

abbrev pub invariant-loop-k : goal.invariant-loop-k
invariant-loop-k g l = (l.k ≤ g.row.N) × Filled g.row.N (λ j. number 8 l.image (l.at + j)) 0 l.all l.k
