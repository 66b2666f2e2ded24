-- `event_line_in` meets its contract.
-- Assumes nothing.
use borrow.Author.Rules.{rules}
use native.Mathlib.Omega.{arith}
use Rattle.printer.specs.Output.{event_line}
use Rattle.printer.proofs.Lengths.{most_digits}
use Rattle.printer.proofs.Writing.{then_put, put_room}
use Rattle.printer.proofs.print.event_line_in.Goals as goal

pub put_number_in-q-requires : goal.put_number_in-q-requires
put_number_in-q-requires c = put_room 4 c.put_pair_in-p.ensures (omega arith)

pub answer_in-requires : goal.answer_in-requires
answer_in-requires c =
    let few = most_digits c.args.k (search rules) in
    put_room 8 (then_put c.put_pair_in-p.ensures c.put_number_in-q.ensures) (omega (arith, few))

pub returns : goal.returns
unfolding event_line
returns c =
    then_put c.put_pair_in-p.ensures (then_put c.put_number_in-q.ensures c.answer_in.ensures)
