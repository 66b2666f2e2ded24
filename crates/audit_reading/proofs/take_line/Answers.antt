-- `take_line` meets its contract.
-- Rests on Bumps. Assumes nothing.
use Rattle.std.proofs.Common.{◌+◌, max, ◌∙◌}
use Rattle.audit_reading.proofs.Bumps.{line_all, line_two, line_three}
use Rattle.audit_reading.proofs.take_line.Goals as goal

pub returns-then-a-eq-EVERY_ROW : goal.returns-then-a-eq-EVERY_ROW
returns-then-a-eq-EVERY_ROW c =
    let v = c.args.line in
    let t = c.args.tally.now in
    let every = c.if-a-eq-EVERY_ROW.true in
    record {
      counts_after = c.count_all.ensures ∙ line_all t.counts (λ n. n + 1) v.kind c.requires.0 v.a v.b every;
      highest_after = c.lift_all.ensures ∙ line_all t.highest (λ n. max n c.args.place) v.kind c.requires.0 v.a v.b every;
    }

pub returns-then-a-b : goal.returns-then-a-b
returns-then-a-b c =
    let v = c.args.line in
    let t = c.args.tally.now in
    let k = c.from-k.ensures in
    let named = c.if-a-eq-EVERY_ROW.false in
    let first = rw (c.from.ensures, k) at c.take_class.ensures in
    let second = rw (c.from-2.ensures, k, first.counts_after, first.highest_after) at c.take_class-2.ensures in
    record {
      counts_after = second.counts_after ∙ line_two t.counts (λ n. n + 1) v.kind c.requires.0 v.a named v.b c.if-a-b.true;
      highest_after = second.highest_after ∙ line_two t.highest (λ n. max n c.args.place) v.kind c.requires.0 v.a named v.b c.if-a-b.true;
    }

pub returns : goal.returns
returns c =
    let v = c.args.line in
    let t = c.args.tally.now in
    let k = c.from-k.ensures in
    let named = c.if-a-eq-EVERY_ROW.false in
    let first = rw (c.from.ensures, k) at c.take_class.ensures in
    let second = rw (c.from-2.ensures, k, first.counts_after, first.highest_after) at c.take_class-2.ensures in
    let third = rw (c.from-3.ensures, k, second.counts_after, second.highest_after) at c.take_class-3.ensures in
    record {
      counts_after = third.counts_after ∙ line_three t.counts (λ n. n + 1) v.kind c.requires.0 v.a named v.b c.if-a-b.false (λ e. named (c.requires.3 e));
      highest_after = third.highest_after ∙ line_three t.highest (λ n. max n c.args.place) v.kind c.requires.0 v.a named v.b c.if-a-b.false (λ e. named (c.requires.3 e));
    }
