-- `count_all` meets its contract.
-- Rests on Bumps. Assumes nothing.
use Rattle.std.proofs.Common.{◌≡◌, ◌+◌, ◌*◌, ◌∙◌, arith}
use Rattle.audit_reading.proofs.Bumps.{rows_to, rows_none, rows_more, rows_all, changed_most}
use Rattle.audit_reading.proofs.count_all.Goals as goal

pub loop-row-init : goal.loop-row-init
loop-row-init c = (c.from-k.ensures, rows_none c.args.numbers.now (λ v. v + 1) c.args.kind c.requires.0)

pub count_class-requires : goal.count_class-requires
count_class-requires c =
    let l = c.loop-row in
    let m = changed_most c.args.numbers.now (rows_to c.args.kind l.row) 4294967293 c.requires.1 (4 * c.from.result + c.from-k.result) in
    (omega (arith, c.requires.0), rw l.invariant.1 (omega (arith, m)))

pub loop-row-preserved : goal.loop-row-preserved
loop-row-preserved c =
    let l = c.loop-row in
    (c.from-k.ensures, rw (c.from.ensures, c.from-k.ensures, l.invariant.1) at c.count_class.ensures ∙ rows_more c.args.numbers.now (λ v. v + 1) c.args.kind c.requires.0 l.row)

pub returns : goal.returns
returns c =
    let e : c.loop-row.row ≡ 17 = omega arith in
    (rw e at c.loop-row.invariant.1) ∙ rows_all c.args.numbers.now (λ v. v + 1) c.args.kind c.requires.0
