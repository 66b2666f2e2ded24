-- `figures_all` meets its contract.
-- Rests on Blocks. Assumes nothing.
use Rattle.std.proofs.Common.{◌*◌, refl, ◌∙◌}
use Rattle.books.proofs.Blocks.{part_all, part_back}
use Rattle.audit_books.specs.All.{numbers_of_all}
use Rattle.audit_books.proofs.Blocks.{next_all}
use Rattle.audit_books.proofs.figures_all.Goals as goal

pub loop-p-init : goal.loop-p-init
unfolding numbers_of_all
loop-p-init c = refl

pub loop-p-preserved : goal.loop-p-preserved
loop-p-preserved c =
    let v = c.args.postings in
    let r = c.args.records in
    part_back (64 * c.loop-p.p) c.loop-p.out c.site_figures.new.out
    ∙ rw (c.site_figures.ensures, part_all, c.loop-p.invariant)
    (next_all v.kinds.now v.firsts.now v.seconds.now v.amounts.now r.lines.now r.ends.now c.loop-p.p c.args.out.now)
