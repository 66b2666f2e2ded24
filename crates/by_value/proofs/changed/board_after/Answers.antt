-- `board_after` meets its contract.
-- Assumes nothing.
use Prim.Native.Nat.{ℕ}
use mathlib.Core.Path.{◌∙◌}
use native.Mathlib.Omega.{arith}
use lib.ListN.{replicate, length-replicate}
use Rattle.machine.proofs.Fresh.{fresh_shown, fresh_right}
use Rattle.runfile.proofs.Runs.{fresh_run}
use Rattle.by_value.proofs.changed.board_after.Goals as goal

pub run_events-requires : goal.run_events-requires
run_events-requires c =
    rw c.empty-board.ensures (fresh_right, rw (fresh_shown c.args.setup) c.requires.0, omega arith, omega (arith, c.event_count-count.ensures, c.requires.1, length-replicate {A = ℕ} 4096 0))

pub returns : goal.returns
returns c =
    let count = c.event_count-count in
    let ran = c.run_events in
    c.board_of.ensures
    ∙ fresh_run c.args.setup c.args.input.now (replicate 4096 0) count.result count.ensures ran.new.board ran.new.numbers
    (rw c.empty-board.ensures at ran.ensures.carried_after)
