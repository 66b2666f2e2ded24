-- `look_up_after` meets its contract.
-- Assumes nothing.
use Prim.Native.Nat.{ℕ}
use mathlib.Core.Path.{◌≡◌, ap, ◌∙◌}
use mathlib.Core.Bool.{true}
use mathlib.Core.List.{List}
use native.Mathlib.Omega.{arith}
use lib.ListN.{replicate, length-replicate}
use Rattle.site.specs.declared.Setup.{Setup}
use Rattle.steps.specs.declared.Call.{Call}
use Rattle.arrays.specs.declared.Arrays.{Arrays}
use Rattle.machine.specs.Boards.{fresh_board}
use Rattle.machine.specs.Soundness.{is_sound}
use Rattle.machine.specs.Runs.{running}
use Rattle.machine.specs.View.{view}
use Rattle.machine.proofs.Fresh.{fresh_shown, fresh_right}
use Rattle.decoder.specs.RunFile.{calls_of}
use Rattle.runfile.proofs.Runs.{fresh_run}
use Rattle.lookups.proofs.Lookup.{may_look_up, gives_on}
use Rattle.run_lookups.proofs.LookedLaws.{looked_gives}
use Rattle.run_lookups.proofs.look_up_after.Goals as goal
use Rattle.run_lookups.proofs.look_up_after.Goals.{After-run_events}

pub run_events-requires : goal.run_events-requires
run_events-requires c =
    rw c.empty-board.ensures (fresh_right, rw (fresh_shown c.args.setup) c.requires.0, omega arith, omega (arith, c.event_count-events.ensures, c.requires.1, length-replicate {A = ℕ} 4096 0))

-- what the run has left
module _ (c : After-run_events) where
  abbrev setup : Setup
  setup = c.args.setup

  abbrev calls : List Call
  calls = calls_of c.args.input.now

  abbrev left : Arrays
  left = c.run_events.new.board

  shows : view setup left ≡ running (fresh_board setup) calls
  shows =
      let count = c.event_count-events in
      fresh_run setup c.args.input.now (replicate 4096 0) count.result count.ensures left c.run_events.new.numbers
      (rw c.empty-board.ensures at c.run_events.ensures.carried_after)

  sound : is_sound (view setup left) ≡ true
  sound = ap is_sound shows ∙ c.requires.0 calls

pub look_up_at-looked-requires : goal.look_up_at-looked-requires
look_up_at-looked-requires c =
    let at = (goal.at.look_up_at-looked-requires c).After-run_events in
    may_look_up (setup at) (left at) c.run_events.ensures.right (sound at)

pub returns : goal.returns
returns c =
    let at = (goal.at.returns c).After-run_events in
    let a = left at in
    let looked = c.look_up_at-looked in
    let pairs = c.args.pairs.now in
    let out = c.args.out.now in
    let filled = looked.new.out in
    let shown = looked_gives (running (fresh_board (setup at)) (calls at)) pairs out looked.result.answer looked.result.visited filled
    (gives_on looked.result.answer looked.result.visited filled pairs out (shows at) (looked.ensures a.sets a.masks a.good a.carried (sound at)))
    c.answer_of.result c.answer_of.ensures in
    record { value = shown.0; out_after = shown.1 }
