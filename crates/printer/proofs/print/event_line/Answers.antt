-- `event_line` meets its contract.
-- Assumes nothing.
use mathlib.Core.Path.{sym, ◌∙◌}
use borrow.Author.Tests.{leb-true}
use Rattle.printer.proofs.print.event_line.Goals as goal

pub event_line_in-requires : goal.event_line_in-requires
event_line_in-requires c = leb-true _ _ (sym c.has_room.ensures ∙ c.if-has_room.true)
