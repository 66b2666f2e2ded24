-- `put_text` meets its contract.
-- Assumes nothing.
use mathlib.Core.Path.{sym}
use native.Mathlib.Omega.{arith}
use Rattle.std.proofs.lemmas.List.{take_more}
use Rattle.printer.proofs.Writing.{nothing_put, then_put, put_as}
use Rattle.printer.proofs.print.put_text.Goals as goal

pub loop-byte-init : goal.loop-byte-init
loop-byte-init c = nothing_put c.args.at c.args.out.now

pub loop-byte-preserved : goal.loop-byte-preserved
loop-byte-preserved c =
    put_as (sym (take_more c.args.text.now c.loop-byte.byte-index 0 (omega arith))) (then_put c.loop-byte.invariant c.put-place.ensures)
