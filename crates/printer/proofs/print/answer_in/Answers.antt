-- `answer_in` meets its contract.
-- Assumes nothing.
use borrow.Author.Tests.{eq-eqb, ne_eqb}
use borrow.Author.Rules.{rules}
use native.Mathlib.Omega.{arith}
use Rattle.printer.proofs.Lengths.{three_digits}
use Rattle.printer.proofs.Writing.{then_put, put_room}
use Rattle.printer.proofs.print.answer_in.Goals as goal

pub returns-then-refusal-eq0 : goal.returns-then-refusal-eq0
returns-then-refusal-eq0 c =
    rw (eq-eqb c.args.refusal 0 c.if-refusal-eq0.true) c.put_four_in.ensures

pub put_number_in-q-requires : goal.put_number_in-q-requires
put_number_in-q-requires c = put_room 4 c.put_four_in-p.ensures (omega arith)

pub put_in-requires : goal.put_in-requires
put_in-requires c =
    let few = three_digits c.wide.result (search rules) in
    omega (arith, few, put_room 1 (then_put c.put_four_in-p.ensures c.put_number_in-q.ensures) (omega (arith, few)))

pub returns : goal.returns
returns c =
    rw (ne_eqb c.args.refusal 0 c.if-refusal-eq0.false, ← c.wide.ensures)
    (then_put c.put_four_in-p.ensures (then_put c.put_number_in-q.ensures c.put_in.ensures))
