-- `run_from` meets its contract.
-- Assumes nothing.
use Prim.Native.Nat.{ℕ, ◌≤◌}
use mathlib.Core.Path.{◌≡◌, refl, sym}
use native.Mathlib.Omega.{arith}
use mathlib.Core.Bool.{true}
use mathlib.Core.List.{List}
use lib.ListN.{length, take, replicate, length-replicate}
use lib.Seq.{length-take-le}
use Rattle.site.specs.declared.Setup.{Setup}
use Rattle.arrays.specs.declared.Arrays.{Arrays}
use Rattle.machine.specs.Boards.{fresh_board}
use Rattle.machine.specs.Soundness.{is_sound}
use Rattle.machine.specs.Runs.{running}
use Rattle.machine.specs.View.{view}
use Rattle.machine.proofs.Fresh.{fresh_shown, fresh_right}
use Rattle.machine.proofs.Gives.{few_sites}
use Rattle.decoder.specs.RunFile.{calls_of}
use Rattle.runfile.specs.Program.{refusals}
use Rattle.runfile.proofs.Programs.{run_printed, printed_as}
use Rattle.runfile.proofs.Runs.{fresh_run, fresh_numbers, fresh_long}
use Rattle.runfile.proofs.run.run_from.Goals as goal
use Rattle.runfile.proofs.run.run_from.Goals.{After-run_events}

pub run_events-requires : goal.run_events-requires
run_events-requires c =
    let g = c.args in
    let p = c.requires in
    rw c.empty-board.ensures (fresh_right, rw (fresh_shown g.setup) p.0, omega arith, omega (arith, c.event_count-count.ensures, p.1))

-- ---- what the run has left
abbrev setup : After-run_events → Setup
setup c = c.args.setup

abbrev file : After-run_events → List ℕ
file c = c.args.input.now

abbrev count : After-run_events → ℕ
count c = c.event_count-count.result

abbrev left : After-run_events → Arrays
left c = c.run_events.new.board

abbrev numbers : After-run_events → List ℕ
numbers c = c.run_events.new.numbers

shown : (c : After-run_events) → view (setup c) (left c) ≡ running (fresh_board (setup c)) (calls_of (file c))
shown c =
    fresh_run (setup c) (file c) (replicate 4096 0) (count c) c.event_count-count.ensures (left c) (numbers c)
    (rw c.empty-board.ensures at c.run_events.ensures.carried_after)

answered : (c : After-run_events) → take (count c) (numbers c) ≡ refusals (fresh_board (setup c)) (calls_of (file c))
answered c =
    fresh_numbers (setup c) (file c) (replicate 4096 0) (count c) c.event_count-count.ensures (left c) (numbers c)
    (rw c.empty-board.ensures at c.run_events.ensures.numbers_after)

fits : (c : After-run_events) → count c ≤ length (numbers c)
fits c =
    let counted = c.event_count-count.ensures in
    let few : count c ≤ length (replicate {A = ℕ} 4096 0) = omega (arith, counted, c.requires.1, length-replicate {A = ℕ} 4096 0) in
    omega (
      arith,
      few,
      fresh_long (setup c) (file c) (replicate 4096 0) (count c) counted (left c) (numbers c)
          (rw c.empty-board.ensures at c.run_events.ensures.numbers_after) few,
    )

sound : (c : After-run_events) → is_sound (view (setup c) (left c)) ≡ true
sound c = rw (shown c) (c.requires.0 (calls_of (file c)))

pub is_quiet_at-quiet-requires : goal.is_quiet_at-quiet-requires
is_quiet_at-quiet-requires c =
    let at = (goal.at.is_quiet_at-quiet-requires c).After-run_events in
    (few_sites (setup at) (left at) c.run_events.ensures.right (sound at), c.run_events.ensures.right.masks_long)

pub slice_bounds-numbers-end : goal.slice_bounds-numbers-end
slice_bounds-numbers-end c = fits (goal.at.slice_bounds-numbers-end c).After-run_events

pub slice_bounds-print_run-end : goal.slice_bounds-print_run-end
slice_bounds-print_run-end c =
    let at = (goal.at.slice_bounds-print_run-end c).After-run_events in
    sym (length-take-le (count at) (numbers at) (fits at))

pub returns : goal.returns
returns c =
    let at = (goal.at.returns c).After-run_events in
    let a = left at in
    let shown = printed_as c.args.out.now
    (run_printed (fresh_board (setup at)) (view (setup at) a) (calls_of (file at)) (take (count at) (numbers at)) _ _ (shown at) (answered at)
    (c.is_quiet_at-quiet.ensures a.amounts a.good a.carried) (c.ended_on-ended.ensures (setup at) refl))
    (c.print_run.ensures.value, (c.print_run.ensures.out_after, c.print_run.ensures.result_value)) in
    record { value = shown.0; out_after = shown.1.0; result_value = shown.1.1 }
