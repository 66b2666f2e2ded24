-- `kind_of` meets its contract.
-- Rests on EntryLaws. Assumes nothing.
use Rattle.audit_files.specs.Entries.{kind_of}
use Rattle.audit_files.proofs.EntryLaws.{is_same}
use Rattle.audit_files.proofs.entries.kind_of.Goals as goal

pub returns-then-eq-clause-value : goal.returns-then-eq-clause-value
unfolding kind_of
returns-then-eq-clause-value c =
    rw (is_same c.args.field.now c.eq.ensures c.as_slice.ensures c.if-eq.true) c.from.ensures

pub returns-then-eq-2-clause-value : goal.returns-then-eq-2-clause-value
unfolding kind_of
returns-then-eq-2-clause-value c =
    rw (is_same c.args.field.now c.eq.ensures c.as_slice.ensures c.if-eq.false, is_same c.args.field.now c.eq-else-eq.ensures c.as_slice-else-eq.ensures c.if-eq-2.true) c.from-then-eq-2.ensures

pub returns-then-eq-3-clause-value : goal.returns-then-eq-3-clause-value
unfolding kind_of
returns-then-eq-3-clause-value c =
    rw (is_same c.args.field.now c.eq.ensures c.as_slice.ensures c.if-eq.false, is_same c.args.field.now c.eq-else-eq.ensures c.as_slice-else-eq.ensures c.if-eq-2.false, is_same c.args.field.now c.eq-else-eq-2.ensures c.as_slice-else-eq-2.ensures c.if-eq-3.true) c.from-then-eq-3.ensures

pub returns-then-eq-4-clause-value : goal.returns-then-eq-4-clause-value
unfolding kind_of
returns-then-eq-4-clause-value c =
    rw (is_same c.args.field.now c.eq.ensures c.as_slice.ensures c.if-eq.false, is_same c.args.field.now c.eq-else-eq.ensures c.as_slice-else-eq.ensures c.if-eq-2.false, is_same c.args.field.now c.eq-else-eq-2.ensures c.as_slice-else-eq-2.ensures c.if-eq-3.false, is_same c.args.field.now c.eq-else-eq-3.ensures c.as_slice-else-eq-3.ensures c.if-eq-4.true) c.from-then-eq-4.ensures

pub returns-else-eq-4-clause-value : goal.returns-else-eq-4-clause-value
unfolding kind_of
returns-else-eq-4-clause-value c =
    rw (is_same c.args.field.now c.eq.ensures c.as_slice.ensures c.if-eq.false, is_same c.args.field.now c.eq-else-eq.ensures c.as_slice-else-eq.ensures c.if-eq-2.false, is_same c.args.field.now c.eq-else-eq-2.ensures c.as_slice-else-eq-2.ensures c.if-eq-3.false, is_same c.args.field.now c.eq-else-eq-3.ensures c.as_slice-else-eq-3.ensures c.if-eq-4.false) c.number_of.ensures.value
