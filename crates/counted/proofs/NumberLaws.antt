-- Each way out of a run that notes numbers gives what its definition says, from the results of the code's calls.
-- Rests on the specs and DrainLaws, on runfile for how a file begins and for a run. Assumes nothing.
use Prim.Native.Nat.{ℕ, ◌<◌, ◌≤◌}
use mathlib.Core.Path.{◌≡◌, refl}
use mathlib.Core.Logic.{◌≢◌}
use mathlib.Core.List.{List, ◌++◌}
use lib.ListN.{length, drop}
use borrow.Author.Tests.{ne_eqb, lt-ltb, le-ltb}
use Rattle.site.specs.declared.Setup.{Setup}
use Rattle.machine.specs.declared.Outcome.{Outcome}
use Rattle.machine.specs.Boards.{fresh_board}
use Rattle.machine.specs.ByMask.{taken}
use Rattle.decoder.specs.RunFile.{event_count, calls_of}
use Rattle.runfile.specs.Begins.{Begun, begun_by}
use Rattle.runfile.specs.Program.{refusals}
use Rattle.runfile.proofs.Programs.{begun_refused, begun_taken}
use Rattle.counted.specs.Answers.{Counted, no_count, not_done}
use Rattle.counted.proofs.DrainLaws.{Gives, gives_as}
use Rattle.counted.specs.Numbers.{numbered_from, numbered_file}

module _ (setup : Setup) (input slice : List ℕ) (count : ℕ) (all : count ≡ event_count input) where
  pub no_place : length slice < count → Gives no_count slice (numbered_from (taken (fresh_board setup)) input slice)
  unfolding numbered_from
  no_place h = rw (← all, lt-ltb (length slice) count h) (refl, refl)

  pub all_numbered : (left : List ℕ) → count ≤ length slice → left ≡ refusals (fresh_board setup) (calls_of input) ++ drop count slice
      → Gives count left (numbered_from (taken (fresh_board setup)) input slice)
  unfolding numbered_from
  all_numbered left h e = rw (← all, le-ltb (length slice) count h) (refl, e)

module _ (input slice : List ℕ) (begun : Begun) (eb : begun ≡ begun_by input) where
  abbrev from : Outcome → Counted ℕ
  from o = numbered_from o input slice

  pub refused_not_run : begun.why ≢ 0 → Gives no_count slice (numbered_file input slice)
  unfolding numbered_file numbered_from
  refused_not_run d =
      gives_as (begun_refused input begun eb from (not_done slice) (not_done slice) d (λ e. refl) (rw (ne_eqb begun.why 0 d))) (refl, refl)

  pub started_runs : begun.why ≡ 0 → numbered_from (taken (fresh_board begun.setup)) input slice ≡ numbered_file input slice
  unfolding numbered_file
  started_runs z = begun_taken input begun eb from (not_done slice) z
