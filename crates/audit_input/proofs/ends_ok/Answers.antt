-- `ends_ok` meets its contract.
-- Rests on Judged. Assumes nothing.
use Rattle.std.proofs.Common.{◌≡◌, eqb, length, ap, sym, ◌∙◌, arith}
use Rattle.audit_rule.specs.Handed.{start_of}
use Rattle.audit_input.proofs.Judged.{ends_fall, ends_rise}
use Rattle.audit_input.proofs.ends_ok.Goals as goal

pub returns-then-to-from : goal.returns-then-to-from
returns-then-to-from c =
    let r = c.args.records in
    sym (ends_fall r.ends.now (length r.lines.now) c.loop-to.to-index c.loop-to-test.true (omega arith))

pub returns : goal.returns
returns c =
    let r = c.args.records in
    let at = c.loop-to in
    let e : at.to-index ≡ length r.ends.now = omega arith in
    ap (λ m. eqb m (length r.lines.now)) (at.invariant.0 ∙ ap (start_of r.ends.now) e)
    ∙ sym (ends_rise r.ends.now (length r.lines.now) (λ p h. at.invariant.1 p (omega (arith, h))))
