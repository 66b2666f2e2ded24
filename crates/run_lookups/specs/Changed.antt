-- For tests: balances looked up on the board that a run file leaves, with the number at a place of its row replaced.
-- Rests on Looked, and on by_value for a changed board.
use Rattle.std.specs.Prelude.{ℕ, List, ℤ}
use Rattle.machine.specs.Runs.{running}
use Rattle.counted.specs.Answers.{Counted}
use Rattle.runfile.specs.Files.{of_file}
use Rattle.by_value.specs.Changed.{changed_at}
use Rattle.run_lookups.specs.Looked.{not_looked, looked_on}

unfoldable pub looked_changed : List ℕ → (place value : ℕ) → List ℕ → List ℤ → Counted ℤ
looked_changed input place value pairs slice =
    of_file (not_looked slice) (λ b calls. looked_on pairs slice (changed_at (running b calls) place value)) input
