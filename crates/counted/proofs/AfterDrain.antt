-- Each way out of a run and a drain in place gives what its definition says, from what `run_and_drain` and `begin` give.
-- Rests on DrainLaws for a drain and its books, on runfile for how a file begins. Assumes nothing.
use Prim.Native.Nat.{ℕ}
use mathlib.Core.Path.{◌≡◌, refl, ◌∙◌}
use mathlib.Core.Logic.{◌≢◌}
use mathlib.Core.List.{List}
use lib.IntN.{ℤ}
use borrow.Author.Tests.{ne_eqb}
use Rattle.site.specs.declared.Setup.{Setup}
use Rattle.steps.specs.declared.Call.{Call}
use Rattle.machine.specs.declared.Outcome.{Outcome}
use Rattle.machine.specs.Boards.{fresh_board}
use Rattle.machine.specs.Calls.{refusal_of}
use Rattle.machine.specs.Runs.{running}
use Rattle.machine.specs.Figures.{showing_all}
use Rattle.drain.specs.declared.Drained.{Drained}
use Rattle.drain.specs.Drain.{drained}
use Rattle.decoder.specs.RunFile.{calls_of}
use Rattle.runfile.specs.Begins.{Begun, begun_by}
use Rattle.runfile.proofs.Programs.{begun_refused, begun_taken}
use Rattle.counted.specs.Answers.{Counted, no_count, not_done}
use Rattle.counted.specs.Drains.{drained_run, drained_from, drained_file}
use Rattle.counted.proofs.DrainLaws as drains
use Rattle.counted.proofs.DrainLaws.{Gives, gives_as}

-- a drain in place of the board that a run leaves, and the books after it
module _ (setup : Setup) (calls : List Call) (limit : ℕ) (slice left : List ℤ) (count why : ℕ) where
  abbrev done : Drained
  done = drained (running (fresh_board setup) calls) limit

  module _ (ec : count ≡ done.count) (ew : why ≡ refusal_of (showing_all done.board slice).answer) (es : left ≡ (showing_all done.board slice).slice) where
    pub no_room : why ≢ 0 → Gives no_count left (drained_run (fresh_board setup) calls limit slice)
    no_room n = drains.no_room (fresh_board setup) calls limit slice left done why refl ew es n

    pub all_done : why ≡ 0 → Gives count left (drained_run (fresh_board setup) calls limit slice)
    all_done z =
        let (e, f) = drains.all_done (fresh_board setup) calls limit slice left done why refl ew es z in
        (ec ∙ e, f)

module _ (input : List ℕ) (limit : ℕ) (slice : List ℤ) (begun : Begun) (eb : begun ≡ begun_by input) where
  abbrev from : Outcome → Counted ℤ
  from o = drained_from o (calls_of input) limit slice

  pub refused_none : begun.why ≢ 0 → Gives no_count slice (drained_file input limit slice)
  unfolding drained_file drained_from
  refused_none d =
      gives_as (begun_refused input begun eb from (not_done slice) (not_done slice) d (λ e. refl) (rw (ne_eqb begun.why 0 d))) (refl, refl)

  pub started_drains : begun.why ≡ 0 → drained_run (fresh_board begun.setup) (calls_of input) limit slice ≡ drained_file input limit slice
  unfolding drained_file drained_from
  started_drains z = begun_taken input begun eb from (not_done slice) z
