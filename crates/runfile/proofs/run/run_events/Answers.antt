-- `run_events` meets its contract. The loop keeps `Ran`.
-- Assumes nothing.
use Prim.Native.Nat.{◌-◌}
use mathlib.Core.Path.{◌≡◌, sym}
use native.Mathlib.Omega.{arith}
use Rattle.machine.proofs.Gives.{few_sites}
use Rattle.machine.proofs.Performed.{log_fits}
use Rattle.runfile.proofs.Runs.{ran_none, ran_long, ran_sound, ran_more}
use Rattle.runfile.proofs.run.run_events.Goals as goal

pub loop-k-init : goal.loop-k-init
loop-k-init c =
    let g = c.args in
    let p = c.requires in
    ran_none g.setup g.input.now g.numbers.now g.first g.last _ p.0 p.2

pub perform_at-answer-requires : goal.perform_at-answer-requires
perform_at-answer-requires c =
    let g = c.args in
    let p = c.requires in
    let at = c.loop-k in
    let sound = ran_sound g.setup g.input.now g.numbers.now g.first g.last p.1 at.invariant in
    (few_sites g.setup _ at.invariant.right sound, log_fits g.setup _ at.invariant.right sound)

pub bounds-numbers-k : goal.bounds-numbers-k
bounds-numbers-k c =
    let g = c.args in
    let p = c.requires in
    let at = c.loop-k in
    omega (arith, ran_long g.setup g.input.now g.numbers.now g.first g.last p.3 at.invariant, c.loop-k-test.true, p.3)

pub overflow_step-k : goal.overflow_step-k
overflow_step-k c = omega (arith, c.loop-k-test.true)

pub loop-k-smaller : goal.loop-k-smaller
loop-k-smaller c = omega (arith, c.loop-k-test.true)

pub loop-k-preserved : goal.loop-k-preserved
loop-k-preserved c =
    let g = c.args in
    let p = c.requires in
    let at = c.loop-k in
    rw c.answer_number.ensures
    (ran_more g.setup g.input.now g.numbers.now g.first g.last p.1 p.3 at.invariant c.loop-k-test.true _ _ c.perform_at-answer.ensures)

pub shape_of-numbers : goal.shape_of-numbers
shape_of-numbers c =
    let g = c.args in
    let p = c.requires in
    let at = c.loop-k in
    ran_long g.setup g.input.now g.numbers.now g.first g.last p.3 at.invariant

pub returns : goal.returns
returns c =
    let g = c.args in
    let p = c.requires in
    let at = c.loop-k in
    let end : at.k ≡ g.last = omega (arith, c.loop-k-test.false, at.invariant.upto) in record { carried_after = rw (sym end) at.invariant.shown; right = at.invariant.right; numbers_after = rw (sym end) at.invariant.answered }
