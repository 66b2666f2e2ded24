-- A part of a run file's events, as calls.
-- Rests on decoder.
use Rattle.std.specs.Prelude.{ℕ, ◌+◌, ◌-◌, List}
use Rattle.books.specs.Books.{tabulate}
use Rattle.steps.specs.declared.Call.{Call}
use Rattle.decoder.specs.RunFile.{call_at}

-- the calls of the events from first on and before last
unfoldable pub calls_from : List ℕ → ℕ → ℕ → List Call
calls_from input first last = tabulate (last - first) (λ i. call_at input (first + i))
