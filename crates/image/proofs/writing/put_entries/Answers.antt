-- `put_entries` meets its contract.
-- Assumes nothing.
use Prim.Native.Nat.{◌-◌}
use Rattle.sets.specs.Sets.{words, capacity}
use Rattle.site.specs.Sites.{no_set}
use Rattle.image.specs.Layout.{entries_at}
use Rattle.image.specs.Image.{set_numbers}
use Rattle.image.proofs.Rows.{stored_none, stored_more, stored_end}
use borrow.Author.Rules.{rules}
use Rattle.image.proofs.writing.put_entries.Goals as goal

pub loop-m-init : goal.loop-m-init
loop-m-init c = (search rules, stored_none set_numbers entries_at words c.args.all no_set _)

pub loop-m-preserved : goal.loop-m-preserved
loop-m-preserved c =
    let at = c.loop-m in
    let args = c.args in
    (search rules, stored_more set_numbers entries_at words args.all no_set args.out.now at.out _ at.m at.invariant.1 c.put_set.ensures)

pub returns : goal.returns
returns c =
    let at = c.loop-m in
    let args = c.args in
    stored_end set_numbers entries_at words args.all no_set args.out.now at.out at.m capacity at.invariant.1 at.invariant.0 c.loop-m-test.false
