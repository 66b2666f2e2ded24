-- `put_number` meets its contract.
-- Assumes nothing.
use mathlib.Core.Path.{sym, ◌∙◌}
use borrow.Author.Tests.{leb-true}
use Rattle.printer.proofs.print.put_number.Goals as goal

pub put_number_in-requires : goal.put_number_in-requires
put_number_in-requires c = leb-true _ _ (sym c.has_room.ensures ∙ c.if-has_room.true)
