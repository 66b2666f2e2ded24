-- `mark` meets its contract. A whole step stores nothing: the mask of those down is the one that stands there.
-- Assumes nothing.
use mathlib.Core.Path.{sym}
use lib.Seq.{set-get_or}
use Rattle.arrays.specs.Arrays.{marked}
use Rattle.arrays.proofs.mark.Goals as goal

pub returns-in-Whole : goal.returns-in-Whole
unfolding marked
returns-in-Whole c = rw c.in-Whole.is (sym (set-get_or c.args.bytes.now 0 0))

pub returns : goal.returns
unfolding marked
returns c = rw (c.in-After.is, c.with_site.ensures)
