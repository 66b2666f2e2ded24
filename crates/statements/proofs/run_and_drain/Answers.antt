-- `run_and_drain` meets its contract.
-- Assumes nothing.
use Prim.Native.Nat.{ℕ}
use mathlib.Core.Path.{◌≡◌, ap, ◌∙◌}
use mathlib.Core.List.{List}
use mathlib.Core.Bool.{true}
use native.Mathlib.Omega.{arith}
use lib.ListN.{replicate, length-replicate}
use Rattle.site.specs.declared.Setup.{Setup}
use Rattle.steps.specs.declared.Call.{Call}
use Rattle.arrays.specs.declared.Arrays.{Arrays}
use Rattle.machine.specs.Boards.{fresh_board}
use Rattle.machine.specs.Calls.{refusal_of}
use Rattle.machine.specs.Soundness.{is_sound}
use Rattle.machine.specs.Runs.{running}
use Rattle.machine.specs.View.{view}
use Rattle.invariants.proofs.Reached.{run_good}
use Rattle.machine.proofs.Fresh.{fresh_shown, fresh_right}
use Rattle.machine.proofs.Gives.{few_sites}
use Rattle.whole_board.proofs.Showing.{may_post_at}
use Rattle.decoder.specs.RunFile.{calls_of}
use Rattle.runfile.specs.Program.{StaysSound}
use Rattle.runfile.proofs.Runs.{fresh_run}
use Rattle.statements.proofs.Stated.{settled_sound, settled_view, settled_count, settled_down, settled_setup, settled_books}
use Rattle.statements.proofs.run_and_drain.Goals as goal
use Rattle.statements.proofs.run_and_drain.Goals.{After-drain_events-done, After-run_events}

pub run_events-requires : goal.run_events-requires
run_events-requires c =
    let g = c.args in
    let p = c.requires in
    rw c.empty-board.ensures (fresh_right, rw (fresh_shown g.setup) p.0, omega arith, omega (arith, c.event_count-events.ensures, p.2, length-replicate {A = ℕ} 4096 0))

-- ---- what the run has left, and the drain after it
abbrev setup : After-run_events → Setup
setup c = c.args.setup

abbrev calls : After-run_events → List Call
calls c = calls_of c.args.input.now

abbrev after_run : After-run_events → Arrays
after_run c = c.run_events.new.board

run : (c : After-run_events) → view (setup c) (after_run c) ≡ running (fresh_board (setup c)) (calls c)
run c = fresh_run (setup c) c.args.input.now (replicate 4096 0) c.event_count-events.result c.event_count-events.ensures (after_run c) c.run_events.new.numbers
    (rw c.empty-board.ensures at c.run_events.ensures.carried_after)

abbrev left : After-drain_events-done → Arrays
left c = c.drain_events-done.new.board

sound : (c : After-drain_events-done) → is_sound (view c.args.setup (left c)) ≡ true
sound c =
    let ran = c.run_events.new.board in
    let input = c.args.input.now in
    let shown = fresh_run c.args.setup input (replicate 4096 0) c.event_count-events.result c.event_count-events.ensures ran c.run_events.new.numbers
    (rw c.empty-board.ensures at c.run_events.ensures.carried_after) in
    rw (settled_view c.args.setup (calls_of input) c.args.limit c.requires.0 ran (left c) shown c.drain_events-done.ensures.carried_after)
    (settled_sound c.args.setup (calls_of input) c.args.limit c.requires.0)

pub drain_events-done-requires : goal.drain_events-done-requires
drain_events-done-requires c =
    let at = (goal.at.drain_events-done-requires c).After-run_events in
    (c.run_events.ensures.right, rw (run at) (run_good (fresh_board (setup at)) (calls at) c.requires.1))

pub books_all_at-answer-requires : goal.books_all_at-answer-requires
books_all_at-answer-requires c =
    let at = (goal.at.books_all_at-answer-requires c).After-drain_events-done in
    let few = few_sites (setup (goal.at.books_all_at-answer-requires c).After-run_events) (left at) c.drain_events-done.ensures.right (sound at) in
    (few, may_post_at (setup (goal.at.books_all_at-answer-requires c).After-run_events) (left at) c.drain_events-done.ensures.right.masks_long (sound at) few)

pub returns : goal.returns
returns c =
    let at = (goal.at.returns c).After-drain_events-done in
    let s = setup (goal.at.returns c).After-run_events in
    let l = calls (goal.at.returns c).After-run_events in
    let a = after_run (goal.at.returns c).After-run_events in
    let d = left at in
    let r = run (goal.at.returns c).After-run_events in
    let done = c.drain_events-done.ensures in
    let books = settled_books s l c.args.limit c.requires.0 a d r done.carried_after _ c.args.out.now _ (c.books_all_at-answer.ensures d.sets d.masks d.good d.carried) in record {
      count_value = settled_count s l c.args.limit c.requires.0 a d r done.carried_after _ done.count_value;
      down_value = settled_down s l c.args.limit c.requires.0 a d r done.carried_after;
      why_value = c.refusal_of.ensures ∙ ap refusal_of books.0;
      limit_value = settled_setup s l c.args.limit c.requires.0 a d r done.carried_after;
      out_after = books.1;
    }
