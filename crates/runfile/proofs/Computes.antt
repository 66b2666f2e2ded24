-- Names to unfold all that a run file and what is printed of it rest on beside a board, so that a closed term computes.
-- Rests on the specs of decoder, printer and runfile. Assumes nothing.
use mathlib.Core.Bool.{Bool, true}
use Rattle.decoder.specs.RunFile.{has_mark, header_ok, setup_of, length_ok, unused_ok, event_ok, events_ok, well_formed, offer_of, receive_of, call_of, call_at, calls_of}
use Rattle.printer.specs.Output.{digits, decimal, event_line, event_lines, items, site_line, site_lines, log_line, refused_line, board_lines, printed_of}
use Rattle.runfile.specs.Program.{ended_on, refusals, printed_run, printed_from, printed}

-- An unfolding line with one of these names unfolds all that stands on the line under it.
unfoldable pub of_decoder : Bool
unfolding has_mark header_ok setup_of length_ok unused_ok event_ok events_ok well_formed offer_of receive_of call_of call_at calls_of
of_decoder = true

unfoldable pub of_printer : Bool
unfolding digits decimal event_line event_lines items site_line site_lines log_line refused_line board_lines printed_of
of_printer = true

-- both, and the program
unfoldable pub of_program : Bool
unfolding of_decoder of_printer ended_on refusals printed_run printed_from printed
of_program = true
