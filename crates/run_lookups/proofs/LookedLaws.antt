-- Each way out of a run and a look-up gives what its definition says, from the results of the code's calls.
-- Rests on the specs, on lookups for a look-up, on runfile for how a file begins. Assumes nothing.
use Prim.Native.Nat.{ℕ, ◌+◌, ◌-◌, ◌<◌}
use mathlib.Core.Path.{◌≡◌, refl, sym, ap₂, ◌∙◌}
use mathlib.Core.Logic.{◌≢◌}
use mathlib.Core.List.{List}
use native.Mathlib.Omega.{arith}
use lib.IntN.{ℤ}
use borrow.Author.Tests.{eq-eqb, ne_eqb}
use Rattle.machine.specs.declared.Answer.{Answer}
use Rattle.machine.specs.declared.Board.{Board}
use Rattle.steps.specs.declared.Call.{Call}
use Rattle.machine.specs.Calls.{refusal_of}
use Rattle.runfile.specs.Begins.{Begun, begun_by}
use Rattle.runfile.specs.Files.{of_file}
use Rattle.runfile.proofs.Programs.{file_refuses}
use Rattle.counted.specs.Answers.{Counted}
use Rattle.counted.proofs.DrainLaws.{Gives, gives_as}
use Rattle.lookups.proofs.Lookup as of_board
use Rattle.run_lookups.specs.Looked.{count_or, not_looked, looked_on}

pub count_done : (why count : ℕ) → why ≡ 0 → count ≡ count_or why count
unfolding count_or
count_done why count z = rw (eq-eqb why 0 z) refl

pub count_refused : (why count : ℕ) → why ≢ 0 → why < 256 → 18_446_744_073_709_551_615 - why + 1 ≡ count_or why count
unfolding count_or
count_refused why count d small = rw (ne_eqb why 0 d) (omega (arith, small))

-- a look-up on a board, its answer as a count
pub looked_gives : (b : Board) (pairs : List ℕ) (out : List ℤ) (answer : Answer) (visited : ℕ) (left : List ℤ) → of_board.Gives answer visited left b pairs out
    → (count : ℕ) → count ≡ count_or (refusal_of answer) visited → Gives count left (looked_on pairs out b)
unfolding looked_on
looked_gives b pairs out answer visited left g count e = (e ∙ ap₂ (λ (a : Answer) (v : ℕ). count_or (refusal_of a) v) g.0 g.1, g.2)

-- a file that is refused, whatever is made of its run
pub refused_gives : (input : List ℕ) (out : List ℤ) (begun : Begun) → begun ≡ begun_by input → (run : Board → List Call → Counted ℤ)
    → begun.why ≢ 0 → (count : ℕ) → count ≡ count_or begun.why 0 → Gives count out (of_file (not_looked out) run input)
refused_gives input out begun eb run d count e = gives_as (sym (file_refuses input begun eb (not_looked out) run d)) (e, refl)
