-- `numbers_of` meets its contract.
-- Assumes nothing.
use mathlib.Core.Path.{◌≡◌}
use lib.ListN.{length}
use borrow.Author.Rules.{rules}
use Rattle.std.proofs.lemmas.List.{take_min}
use Rattle.sets.specs.Sets.{capacity}
use Rattle.posting.specs.Records.{numbers_of}
use Rattle.printer.proofs.print.numbers_of.Goals as goal

pub returns : goal.returns
unfolding numbers_of
returns c =
    let r = c.args.delivered.now in
    let long : length r.numbers ≡ capacity = search rules in
    rw (c.min.ensures, ← long) (take_min r.count r.numbers)
