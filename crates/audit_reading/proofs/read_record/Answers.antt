-- `read_record` meets its contract.
-- Rests on Loop. Assumes nothing.
use Rattle.std.proofs.Common.{◌≡◌, true, get_or, sym, arith}
use mathlib.Core.Bool.{true≢false}
use Rattle.audit_reading.proofs.RowLaws.{rows_below}
use Rattle.audit_reading.proofs.Loop.{going_start, y_known, going_again, going_breaks}
use Rattle.audit_reading.proofs.read_record.Goals as goal

pub loop-i-init : goal.loop-i-init
loop-i-init c =
    let v = c.args in
    let p = v.postings in
    going_start v.matrix p.kinds.now p.firsts.now p.seconds.now v.lines.now v.notes.now.seen v.notes.now.totals v.places.now v.ahead.now c.requires.full c.requires.most

pub read_line-requires : goal.read_line-requires
read_line-requires c =
    let p = c.args.postings in
    let g = c.loop-i.invariant in
    let y = c.from-y.result in
    let k = y_known g c.requires y c.from-y.ensures c.loop-i-test.true in
    let r = rows_below (get_or p.kinds.now y 0) (get_or p.firsts.now y 0) (get_or p.seconds.now y 0) k.accounts_are_ok in
    let few = c.requires.few in
    rw c.line_of-line.ensures (
      k.kind_below,
      r.0,
      r.1,
      r.2,
      omega (arith, k.in_places, g.same_places),
      omega (arith, k.in_ahead, g.same_ahead),
      omega (arith, g.few),
      g.most,
      λ n. let m = g.counts_most n in omega (arith, m),
    )

pub returns-then-not-read_line-clause-read_says : goal.returns-then-not-read_line-clause-read_says
returns-then-not-read_line-clause-read_says c =
    let e = rw c.line_of-line.ensures at c.read_line.ensures.value in
    λ t before rows n. (
      λ u. absurd (true≢false (sym u)),
      λ u. going_breaks c.loop-i.invariant c.requires c.from-y.result c.from-y.ensures c.loop-i-test.true e c.if-not-read_line.true t before rows n,
    )

pub loop-i-preserved : goal.loop-i-preserved
loop-i-preserved c =
    let l = c.line_of-line.ensures in
    let e = c.read_line.ensures in
    let ok : c.read_line.result ≡ true = search in
    going_again c.loop-i.invariant c.requires c.from-y.result c.from-y.ensures c.loop-i-test.true
    (rw l at e.value) ok e.seen_after e.places_after (rw l at e.totals_after) (rw l at e.ahead_after) (rw l at (e.counts_after ok)) (rw l at (e.highest_after ok))
