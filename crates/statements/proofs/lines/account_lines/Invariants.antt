-- `account_lines` meets its contract. The loop's invariant: the lines of the first k accounts are put.
-- Assumes nothing.
use Prim.Native.Nat.{◌≤◌, ◌-◌}
use Rattle.printer.specs.Puts.{Put}
use Rattle.posting.specs.Kinds.{accounts}
use Rattle.statements.specs.Table.{account_lines}
use Rattle.statements.proofs.lines.account_lines.Given as goal

abbrev pub invariant-loop-k : goal.invariant-loop-k
invariant-loop-k l = (l.k ≤ accounts) × Put (account_lines l.figures l.p l.k) l.at l.initial.out l.out l.place
