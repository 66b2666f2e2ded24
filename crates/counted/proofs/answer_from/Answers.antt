-- `answer_from` meets its contract.
-- Assumes nothing.
use native.Mathlib.Omega.{arith}
use Rattle.machine.proofs.Fresh.{fresh_shown, fresh_right}
use Rattle.runfile.proofs.Runs.{fresh_noted}
use Rattle.counted.proofs.NumberLaws.{no_place, all_numbered}
use Rattle.counted.proofs.answer_from.Goals as goal

pub returns-then-numbers-count : goal.returns-then-numbers-count
returns-then-numbers-count c =
    let g = c.args in let shown = no_place g.setup g.input.now g.numbers.now _ c.event_count-count.ensures c.if-numbers-count.true in record { value = shown.0; numbers_after = shown.1 }

pub run_events-requires : goal.run_events-requires
run_events-requires c =
    rw c.empty-board.ensures (fresh_right, rw (fresh_shown c.args.setup) c.requires.0, omega arith, c.if-numbers-count.false)

pub returns : goal.returns
returns c =
    let g = c.args in
    let n = c.event_count-count in
    let l = c.run_events.new in
    let noted = fresh_noted g.setup g.input.now g.numbers.now n.result n.ensures l.board l.numbers
    (rw c.empty-board.ensures at c.run_events.ensures.numbers_after) in
    let shown = all_numbered g.setup g.input.now g.numbers.now _ n.ensures _ c.if-numbers-count.false noted in
    record { value = shown.0; numbers_after = shown.1 }
