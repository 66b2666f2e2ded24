-- `site_parts` meets its contract. The loop's invariant: the parts of the first p sites are put.
-- Assumes nothing.
use Prim.Native.Nat.{◌≤◌, ◌-◌}
use Rattle.printer.specs.Puts.{Put}
use Rattle.statements.specs.Table.{site_parts}
use Rattle.statements.proofs.lines.site_parts.Given as goal

abbrev pub invariant-loop-p : goal.invariant-loop-p
invariant-loop-p l = (l.p ≤ l.n) × Put (site_parts l.figures l.down l.p) l.at l.initial.out l.out l.place
