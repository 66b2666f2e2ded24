-- How a run file begins, as `begin` finds it: its setup, and the number of its refusal.
-- Rests on decoder, on machine and steps for the causes of a start's refusal.
use Rattle.std.specs.Prelude.{ℕ, cond, List, Result, Ok, Err}
use Rattle.site.specs.declared.Setup.{Setup}
use Rattle.steps.specs.CauseLists.{first_cause}
use Rattle.steps.specs.Refusals.{number_of}
use Rattle.machine.specs.ByMask.{start_causes}
use Rattle.decoder.specs.RunFile.{setup_of, well_formed}
use Rattle.runfile.specs.declared.begin.NotBegun.{NotBegun}

-- the setup of a file, and the number of its refusal: 1 if it is malformed, that of its start, or 0 if it runs
pub record Begun : Type 0 where
  pub setup : Setup
  pub why : ℕ

unfoldable pub begun_by : List ℕ → Begun
begun_by input =
    let setup = setup_of input in
    record { setup = setup; why = cond (well_formed input) (first_cause (start_causes setup.n setup.f setup.matrix)) 1 }

-- the same as an answer hands it back: the setup of a file that runs, or a setup and a refusal
abbrev pub begun_of : Result Setup NotBegun → Begun
begun_of (Ok setup) = record { setup = setup; why = 0 }
begun_of (Err e) = record { setup = e.setup; why = number_of e.refusal }
