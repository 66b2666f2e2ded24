-- `number_of` meets its contract.
-- Rests on EntryLaws. Assumes nothing.
use mathlib.Core.Path.{sym, ◌∙◌}
use native.Mathlib.Omega.{arith}
use native.Mathlib.Numerals.{add-one}
use Rattle.std.proofs.Common.{rules, tests}
use Rattle.audit_files.specs.Entries.{is_digit, number_of}
use Rattle.audit_files.proofs.EntryLaws.{scan_no_digit, scan_too_large, scan_next, scan_end, number_scanned}
use Rattle.audit_files.proofs.entries.number_of.Goals as goal

pub returns-then-badly_begun-clause-value : goal.returns-then-badly_begun-clause-value
unfolding number_of
returns-then-badly_begun-clause-value c = search (rules, tests)

pub loop-byte-init : goal.loop-byte-init
loop-byte-init c = (omega arith, number_scanned c.args.most c.args.field.now (sym c.badly_begun.ensures ∙ c.if-badly_begun.false))

pub returns-then-not-is_ascii_digit-clause-value : goal.returns-then-not-is_ascii_digit-clause-value
unfolding is_digit
returns-then-not-is_ascii_digit-clause-value c =
    let l = c.loop-byte in
    sym (l.invariant.1 ∙ scan_no_digit c.args.most l.value c.args.field.now l.byte-index c.loop-byte-test.true (sym c.is_ascii_digit.ensures.value ∙ c.if-not-is_ascii_digit.true))

pub returns-then-most-value-clause-value : goal.returns-then-most-value-clause-value
returns-then-most-value-clause-value c =
    let l = c.loop-byte in
    sym (l.invariant.1 ∙ scan_too_large c.args.most l.value c.args.field.now l.byte-index c.loop-byte-test.true (omega (arith, c.if-most-value.true, c.from.ensures)))

pub loop-byte-preserved : goal.loop-byte-preserved
unfolding is_digit
loop-byte-preserved c =
    let l = c.loop-byte in
    (c.if-most-value.false, rw (c.from.ensures, add-one l.byte-index) (l.invariant.1 ∙ scan_next c.args.most l.value c.args.field.now l.byte-index c.loop-byte-test.true (sym c.is_ascii_digit.ensures.value ∙ c.if-not-is_ascii_digit.false) (omega (arith, c.if-most-value.false, c.from.ensures))))

pub returns-clause-value : goal.returns-clause-value
returns-clause-value c =
    let l = c.loop-byte in
    sym (l.invariant.1 ∙ scan_end c.args.most l.value c.args.field.now l.byte-index (omega (arith, c.loop-byte-test.false)))
