-- One name to unfold every definition that a case rests on, so that a closed term computes.
-- Rests on the Computes of machine and runfile, on the specs of drain, and on Trials. Assumes nothing.
use mathlib.Core.Bool.{Bool, true}
use Rattle.machine.proofs.Computes.{of_board}
use Rattle.drain.specs.Drain.{next_read, next_order, next_after, next_event, draining, drained}
use Rattle.runfile.proofs.Computes.{of_program}
use Rattle.cases.specs.Trials.{is_delivering, entries_of, view, looked, found}

-- An unfolding line with one of these names unfolds all that stands on the line under it.
unfoldable pub of_drain : Bool
unfolding next_read next_order next_after next_event draining drained
of_drain = true

unfoldable pub of_cases : Bool
unfolding is_delivering entries_of view looked found
of_cases = true

unfoldable pub computes : Bool
unfolding of_board of_program of_drain of_cases
computes = true
