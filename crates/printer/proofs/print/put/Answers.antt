-- `put` meets its contract.
-- Assumes nothing.
use mathlib.Core.List.{[], ◌∷◌}
use mathlib.Core.Path.{sym, ◌∙◌}
use native.Mathlib.Omega.{arith}
use lib.Seq.{set_out}
use Rattle.printer.specs.Puts.{after, putting}
use Rattle.printer.proofs.Writing.{after_is}
use Rattle.printer.proofs.print.put.Goals as goal

pub returns-else-at-out : goal.returns-else-at-out
unfolding after putting
returns-else-at-out c =
    let args = c.args in
    record { moved = c.saturating_add.ensures ∙ sym (after_is (args.byte ∷ []) args.at (omega arith)); holds = sym (set_out args.out.now args.at args.byte c.if-at-out.false) }
