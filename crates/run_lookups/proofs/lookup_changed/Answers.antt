-- `lookup_changed` meets its contract.
-- Assumes nothing.
use Prim.Native.Nat.{ℕ}
use mathlib.Core.Path.{refl, sym, ap, ◌∙◌}
use Rattle.steps.proofs.Numbers.{is_refusal}
use Rattle.machine.specs.declared.Board.{Board}
use Rattle.machine.specs.Boards.{fresh_board}
use Rattle.machine.specs.Runs.{running}
use Rattle.decoder.specs.RunFile.{calls_of}
use Rattle.by_value.specs.Changed.{changed_at}
use Rattle.runfile.proofs.Programs.{begun_runs, file_runs}
use Rattle.counted.proofs.DrainLaws.{gives_as}
use Rattle.lookups.proofs.Lookup.{gives_on}
use Rattle.run_lookups.specs.Looked.{count_or, not_looked, looked_on}
use Rattle.run_lookups.specs.Changed.{looked_changed}
use Rattle.run_lookups.proofs.LookedLaws.{looked_gives, refused_gives}
use Rattle.run_lookups.proofs.lookup_changed.Goals as goal

pub board_after-left-requires : goal.board_after-left-requires
board_after-left-requires c =
    let (stays, good, few) = begun_runs c.args.input.now _ c.in-Ok.ensures refl in
    (stays, few)

pub returns-in-Ok : goal.returns-in-Ok
unfolding looked_changed
returns-in-Ok c =
    let looked = c.look_up-looked in
    let g = c.args in
    let pairs = g.pairs.now in
    let out = g.out.now in
    let change : Board → Board = λ b. changed_at b g.place g.value in
    let board = c.changed-board.ensures ∙ ap change c.board_after-left.ensures in
    let e = looked.ensures in
    let shown =
    gives_as (sym (file_runs g.input.now _ c.in-Ok.ensures (not_looked out) (λ b calls. looked_on pairs out (change (running b calls))) refl))
    (looked_gives (change (running (fresh_board c.in-Ok.setup) (calls_of g.input.now))) pairs out looked.result.answer looked.result.visited looked.new.out
    (gives_on looked.result.answer looked.result.visited looked.new.out pairs out board (e.answer_value, e.visited_value, e.out_after))
    c.answer_of.result c.answer_of.ensures) in
    record { value = shown.0; out_after = shown.1 }

pub returns-in-Err : goal.returns-in-Err
unfolding looked_changed
returns-in-Err c =
    let g = c.args in
    let count = c.count_or.ensures ∙ ap (λ (why : ℕ). count_or why 0) c.number.ensures in
    let shown = refused_gives g.input.now g.out.now _ c.in-Err.ensures _ (is_refusal c.in-Err.not_begun.refusal) c.count_or.result count in
    record { value = shown.0; out_after = shown.1 }
