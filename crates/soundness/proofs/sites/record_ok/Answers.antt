-- `record_ok` meets its contract. The loop's invariant: the first numbers are offered, none is twice among them, and they are the set met.
-- Assumes nothing.
use Prim.Native.Nat.{◌<◌}
use mathlib.Core.Path.{◌≡◌, sym, ap, ◌∙◌}
use native.Mathlib.Omega.{arith}
use native.Mathlib.Numerals.{add-one}
use lib.ListN.{length, get_or, length-take}
use lib.Seq.{get_or-take}
use borrow.Author.Rules.{rules}
use Rattle.sets.specs.Sets.{capacity, has}
use Rattle.posting.specs.Conflicts.{offered_by}
use Rattle.soundness.proofs.Turns.{first_of, checked_none, checked_more, record_long, record_not_offered, record_twice, record_end}
use Rattle.soundness.proofs.sites.record_ok.Goals as goal
use Rattle.soundness.proofs.sites.record_ok.Goals.{After-from-m}

-- the number whose turn it is
module _ (c : After-from-m) where
  long : length c.args.postings.numbers ≡ capacity
  long = search rules

  here : c.loop-number.number-index < c.args.postings.count
  here = omega (arith, length-take c.args.postings.count c.args.postings.numbers)

  number : c.from-m.result ≡ get_or c.args.postings.numbers c.loop-number.number-index 0
  number = c.from-m.ensures ∙ get_or-take c.args.postings.count c.args.postings.numbers c.loop-number.number-index 0 here

pub returns-then-postings-gt-POSTINGS : goal.returns-then-postings-gt-POSTINGS
returns-then-postings-gt-POSTINGS c = sym (record_long _ _ c.if-postings-gt-POSTINGS.true)

pub loop-number-init : goal.loop-number-init
unfolding first_of
loop-number-init c = (c.empty-met.ensures, checked_none _ _)

pub returns-then-not-offered_by : goal.returns-then-not-offered_by
returns-then-not-offered_by c =
    let args = c.args in
    let turn = (goal.at.returns-then-not-offered_by c).After-from-m in
    sym
    (record_not_offered args.count args.postings c.loop-number.number-index (here turn) c.if-postings-gt-POSTINGS.false (long turn)
    (ap (offered_by args.count) (sym (number turn)) ∙ sym c.offered_by.ensures ∙ c.if-not-offered_by.true))

pub returns-then-has : goal.returns-then-has
returns-then-has c =
    let args = c.args in
    let at = c.loop-number in
    let turn = (goal.at.returns-then-has c).After-from-m in
    sym
    (record_twice args.count args.postings at.number-index (here turn) c.if-postings-gt-POSTINGS.false (long turn) at.met at.invariant.0
    (ap (offered_by args.count) (sym (number turn)) ∙ sym c.offered_by.ensures ∙ c.if-not-offered_by.false)
    (ap (has at.met) (sym (number turn)) ∙ sym c.has.ensures ∙ c.if-has.true))

pub loop-number-preserved : goal.loop-number-preserved
unfolding first_of
loop-number-preserved c =
    let args = c.args in
    let at = c.loop-number in
    let turn = (goal.at.loop-number-preserved c).After-from-m in (
      rw (add-one, c.with-met.ensures, number turn, at.invariant.0),
      checked_more args.count args.postings at.number-index (here turn) c.if-postings-gt-POSTINGS.false (long turn) at.met at.invariant.0
          (ap (offered_by args.count) (sym (number turn)) ∙ sym c.offered_by.ensures ∙ c.if-not-offered_by.false)
          at.invariant.1
          (ap (has at.met) (sym (number turn)) ∙ sym c.has.ensures ∙ c.if-has.false),
    )

pub returns : goal.returns
returns c =
    let r = c.args.postings in
    let long : length r.numbers ≡ capacity = search rules in
    sym (record_end _ _ c.loop-number.number-index c.if-postings-gt-POSTINGS.false (omega (arith, length-take r.count r.numbers)) c.loop-number.invariant.1)
