-- A run file run, and balances looked up on the board that it leaves: the answer as a count, and the slice.
-- Rests on lookups, on runfile for the file, on counted for a count and a slice.
use Rattle.std.specs.Prelude.{ℕ, ◌-◌, cond, List, eqb, ℤ}
use Rattle.machine.specs.declared.Board.{Board}
use Rattle.machine.specs.Calls.{refusal_of}
use Rattle.machine.specs.Runs.{running}
use Rattle.counted.specs.Answers.{Counted}
use Rattle.runfile.specs.Files.{of_file}
use Rattle.lookups.specs.Lookups.{looking_up}

-- a count, or a refusal: 2^64 less its number, which is no count
unfoldable pub count_or : (refusal count : ℕ) → ℕ
count_or refusal count = cond (eqb refusal 0) count (18_446_744_073_709_551_616 - refusal)

-- nothing looked up, and the slice as it was
abbrev pub not_looked : List ℤ → ℕ → Counted ℤ
not_looked slice refusal = record { count = count_or refusal 0; slice = slice }

unfoldable pub looked_on : List ℕ → List ℤ → Board → Counted ℤ
looked_on pairs slice b =
    let looked = looking_up b pairs slice in
    record { count = count_or (refusal_of looked.answer) looked.visited; slice = looked.slice }

-- The look-up after a run file: on the board that its calls leave.
unfoldable pub looked_file : (input pairs : List ℕ) → List ℤ → Counted ℤ
looked_file input pairs slice = of_file (not_looked slice) (λ b calls. looked_on pairs slice (running b calls)) input
