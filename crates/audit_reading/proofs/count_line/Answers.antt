-- `count_line` meets its contract.
-- Rests on Bumps. Assumes nothing.
use Rattle.std.proofs.Common.{◌+◌, ◌∙◌}
use Rattle.audit_reading.proofs.Bumps.{line_all, line_two, line_three}
use Rattle.audit_reading.proofs.count_line.Goals as goal

pub returns-then-a-eq-EVERY_ROW : goal.returns-then-a-eq-EVERY_ROW
returns-then-a-eq-EVERY_ROW c =
    let v = c.args.line in
    c.count_all.ensures ∙ line_all c.args.numbers.now (λ v. v + 1) v.kind c.requires.0 v.a v.b c.if-a-eq-EVERY_ROW.true

pub returns-then-a-b : goal.returns-then-a-b
returns-then-a-b c =
    let v = c.args.line in
    let k = c.from-k.ensures in
    let first = rw (c.from.ensures, k) at c.count_class.ensures in
    let second = rw (c.from-2.ensures, k, first) at c.count_class-2.ensures in
    second ∙ line_two c.args.numbers.now (λ v. v + 1) v.kind c.requires.0 v.a c.if-a-eq-EVERY_ROW.false v.b c.if-a-b.true

pub returns : goal.returns
returns c =
    let v = c.args.line in
    let k = c.from-k.ensures in
    let named = c.if-a-eq-EVERY_ROW.false in
    let first = rw (c.from.ensures, k) at c.count_class.ensures in
    let second = rw (c.from-2.ensures, k, first) at c.count_class-2.ensures in
    let third = rw (c.from-3.ensures, k, second) at c.count_class-3.ensures in
    third ∙ line_three c.args.numbers.now (λ v. v + 1) v.kind c.requires.0 v.a named v.b c.if-a-b.false (λ e. named (c.requires.3 e))
