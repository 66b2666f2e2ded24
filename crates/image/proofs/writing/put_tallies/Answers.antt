-- `put_tallies` meets its contract.
-- Assumes nothing.
use Prim.Native.Nat.{◌-◌}
use Rattle.sets.specs.Sets.{capacity}
use Rattle.site.specs.Sites.{no_tally}
use Rattle.image.specs.Layout.{tallies_at, tally_long}
use Rattle.image.specs.Image.{tally_numbers}
use Rattle.image.proofs.Rows.{stored_none, stored_more, stored_end}
use borrow.Author.Rules.{rules}
use Rattle.image.proofs.writing.put_tallies.Goals as goal

pub loop-m-init : goal.loop-m-init
loop-m-init c = (search rules, stored_none tally_numbers tallies_at tally_long c.args.all no_tally _)

pub loop-m-preserved : goal.loop-m-preserved
loop-m-preserved c =
    let at = c.loop-m in
    let args = c.args in
    (search rules, stored_more tally_numbers tallies_at tally_long args.all no_tally args.out.now at.out _ at.m at.invariant.1 c.put_tally.ensures)

pub returns : goal.returns
returns c =
    let at = c.loop-m in
    let args = c.args in
    stored_end tally_numbers tallies_at tally_long args.all no_tally args.out.now at.out at.m capacity at.invariant.1 at.invariant.0 c.loop-m-test.false
