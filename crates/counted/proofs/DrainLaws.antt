-- Each way out of a run and a drain gives what its definition says, from the results of the code's calls.
-- Rests on the specs, on runfile for a start. Assumes nothing.
use Prim.Native.Nat.{ℕ}
use mathlib.Core.Path.{◌≡◌, sym, ap, ◌∙◌}
use mathlib.Core.Logic.{◌≢◌}
use mathlib.Core.Bool.{true, false}
use mathlib.Core.List.{List}
use lib.IntN.{ℤ}
use borrow.Author.Tests.{eq-eqb, ne_eqb}
use Rattle.steps.specs.declared.Call.{Call}
use Rattle.machine.specs.declared.Board.{Board}
use Rattle.machine.specs.declared.Outcome.{Outcome}
use Rattle.machine.specs.Calls.{refusal_of}
use Rattle.machine.specs.Runs.{running}
use Rattle.machine.specs.Figures.{showing_all}
use Rattle.drain.specs.declared.Drained.{Drained}
use Rattle.drain.specs.Drain.{drained}
use Rattle.decoder.specs.RunFile.{setup_of, well_formed, calls_of}
use Rattle.runfile.proofs.Programs.{start_with}
use Rattle.counted.specs.Answers.{Counted, no_count}
use Rattle.counted.specs.Drains.{drained_run, drained_from, drained_file}

-- an answer and a slice are those of a definition
abbrev pub Gives : {A : Type 0} → ℕ → List A → Counted A → Type 0
Gives count slice d = (count ≡ d.count) × (slice ≡ d.slice)

-- those of a definition, by another name
pub gives_as : {A : Type 0} {count : ℕ} {slice : List A} {c d : Counted A} → c ≡ d → Gives count slice c → Gives count slice d
gives_as e g = rw e at g

-- a drain of the board that calls leave, and the books after it
module _ (b : Board) (calls : List Call) (limit : ℕ) (slice left : List ℤ) (done : Drained) (why : ℕ) (ed : done ≡ drained (running b calls) limit)
    (ew : why ≡ refusal_of (showing_all done.board slice).answer) (es : left ≡ (showing_all done.board slice).slice) where
  number : refusal_of (showing_all (drained (running b calls) limit).board slice).answer ≡ why
  number = ap (λ (x : Drained). refusal_of (showing_all x.board slice).answer) (sym ed) ∙ sym ew

  filled : left ≡ (showing_all (drained (running b calls) limit).board slice).slice
  filled = es ∙ ap (λ (x : Drained). (showing_all x.board slice).slice) ed

  pub no_room : why ≢ 0 → Gives no_count left (drained_run b calls limit slice)
  unfolding drained_run
  no_room n = (rw (number, ne_eqb why 0 n), filled)

  pub all_done : why ≡ 0 → Gives done.count left (drained_run b calls limit slice)
  unfolding drained_run
  all_done z = (ap (λ (x : Drained). x.count) ed ∙ rw (number, eq-eqb why 0 z), filled)

module _ (input : List ℕ) (limit : ℕ) (slice : List ℤ) where
  pub malformed_none : well_formed input ≡ false → Gives no_count slice (drained_file input limit slice)
  unfolding drained_file
  malformed_none f = (rw f, rw f)

  -- a start, and the number of its refusal
  module _ (o : Outcome) (why : ℕ) (well : well_formed input ≡ true) (eo : o ≡ start_with (setup_of input)) (ew : why ≡ refusal_of o.answer) where
    pub start_none : why ≢ 0 → Gives no_count slice (drained_file input limit slice)
    unfolding drained_file drained_from
    start_none n = (rw (well, sym eo, sym ew, ne_eqb why 0 n), rw (well, sym eo, sym ew, ne_eqb why 0 n))

    pub start_drains : why ≡ 0 → drained_run o.board (calls_of input) limit slice ≡ drained_file input limit slice
    unfolding drained_file drained_from
    start_drains z = rw (well, sym eo, sym ew, eq-eqb why 0 z)
