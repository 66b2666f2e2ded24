-- `pair_at` meets its contract.
-- Rests on Pairs. Assumes nothing.
use Rattle.std.proofs.Common.{◌≡◌, get_or, refl}
use Rattle.audit_rule.specs.Handed.{record_of}
use Rattle.audit_records.specs.Needs.{shown}
use Rattle.audit_records.proofs.Pairs.{found_shown, answer_shown}
use Rattle.audit_records.proofs.pair_at.Goals as goal

pub unwrap-posting-requires : goal.unwrap-posting-requires
unwrap-posting-requires c =
    let p = c.args.postings in
    let r = c.args.records in
    let u = c.args.unfit in
    let e = found_shown c.args.matrix p.kinds.now p.firsts.now p.seconds.now p.amounts.now r.lines.now r.ends.now u.site u.line c.requires _ _ (rw c.record_of.ensures refl) c.lowest_differing.ensures in
    rw e refl

pub returns : goal.returns
returns c =
    let p = c.args.postings in
    let r = c.args.records in
    let u = c.args.unfit in
    let y : get_or c.record_of.result.now u.line 0 ≡ get_or (record_of r.lines.now r.ends.now u.site) u.line 0 = rw c.record_of.ensures refl in
    let e = found_shown c.args.matrix p.kinds.now p.firsts.now p.seconds.now p.amounts.now r.lines.now r.ends.now u.site u.line c.requires _ _ y c.lowest_differing.ensures in
    let s : c.unwrap-posting.result ≡ shown c.args.matrix p.kinds.now p.firsts.now p.seconds.now p.amounts.now r.lines.now r.ends.now u.site u.line = cc e in
    rw (c.from.ensures, c.from-2.ensures)
    (answer_shown c.args.matrix p.kinds.now p.firsts.now p.seconds.now p.amounts.now r.lines.now r.ends.now u.site u.line c.requires _ _ _ _ s refl y c.finding-found.ensures)
