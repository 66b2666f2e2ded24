-- `lift_all` meets its contract.
-- Rests on Bumps. Assumes nothing.
use Rattle.std.proofs.Common.{◌≡◌, max, ◌∙◌, arith}
use Rattle.audit_reading.proofs.Bumps.{rows_none, rows_more, rows_all}
use Rattle.audit_reading.proofs.lift_all.Goals as goal

pub loop-row-init : goal.loop-row-init
loop-row-init c = (c.from-k.ensures, rows_none c.args.numbers.now (λ n. max n c.args.place) c.args.kind c.requires)

pub loop-row-preserved : goal.loop-row-preserved
loop-row-preserved c =
    let l = c.loop-row in
    (c.from-k.ensures, rw (c.from.ensures, c.from-k.ensures, l.invariant.1) at c.lift_class.ensures ∙ rows_more c.args.numbers.now (λ n. max n c.args.place) c.args.kind c.requires l.row)

pub returns : goal.returns
returns c =
    let e : c.loop-row.row ≡ 17 = omega arith in
    (rw e at c.loop-row.invariant.1) ∙ rows_all c.args.numbers.now (λ n. max n c.args.place) c.args.kind c.requires
