-- `put_two_in` meets its contract.
-- Assumes nothing.
use Rattle.printer.proofs.Texts.{two_digits}
use Rattle.printer.proofs.Writing.{put_as}
use Rattle.printer.proofs.print.put_two_in.Goals as goal

pub returns : goal.returns
returns c = put_as (two_digits c.args.x) c.put_pair_in.ensures
