-- The loops of `drain_events`: what each keeps, what the search left by its label needs, and that it finds the lowest message from the floor on.
-- Rests on flight's laws of the search, on Offered and on Turn. Assumes nothing.
use Rattle.std.proofs.Common.{None}
use native.Mathlib.Omega.{arith}
use borrow.Author.Rules.{rules}
use Rattle.drain.proofs.Turn.{few_offered, at_start, few, fits, receive_turn, receive_spent, order_turn, order_spent, read_turn, read_spent, quiet}
use Prim.Native.Nat.{ℕ, ◌-◌, ◌/◌, ◌%◌, ◌<◌}
use mathlib.Core.Path.{◌≡◌, refl, sym, ◌∙◌}
use mathlib.Core.Logic.{inl, inr}
use mathlib.Core.List.{List}
use borrow.Author.Tests.{eq-eqb, ne_eqb}
use Rattle.sets.specs.Sets.{capacity}
use Rattle.site.specs.Sites.{sites}
use Rattle.flight.specs.Flights.{cells, Found, message}
use Rattle.flight.proofs.SearchLaws.{site_hit, site_miss, site_end, cell_step, cell_end}
use Rattle.drain.proofs.Offered.{in_cells, place_at, message_at_lem, next_cell, next_form, past_cells, past_forms}
use Rattle.drain.proofs.Turn.{passes_on, Sought, sought_as}
use Rattle.drain.proofs.drain_events.Goals as goal
use Rattle.drain.proofs.drain_events.Goals.{After-lowest_pooled-first, After-up_mask-up, In-Some-2, In-loop-k, Left-search, else-search-test, then-search-test+then-loop-k-test+else-w-eq0+then-loop-to-test+then-has_site}

pub search-init : goal.search-init
search-init c = (refl, refl, c.loop-form.invariant.stands)

pub loop-k-init : goal.loop-k-init
loop-k-init c = c.search.invariant

-- a cell that is looked at is one of the flight's
at-cell : (c : In-loop-k) → c.loop-k.k < cells
at-cell c = in_cells _ _ _ _ c.loop-k.invariant.2 c.search-test.true c.loop-k-test.true

pub bounds-board-k : goal.bounds-board-k
bounds-board-k c = at-cell (goal.at.bounds-board-k c).In-loop-k

pub loop-k-preserved-then-w-eq0 : goal.loop-k-preserved-then-w-eq0
loop-k-preserved-then-w-eq0 c =
    let at = c.loop-k in (
      at.invariant.0,
      at.invariant.1 ∙ cell_step c.loop-form.board.masks c.up_mask-up.result at.k (at-cell (goal.at.loop-k-preserved-then-w-eq0 c).In-loop-k) ∙ rw (eq-eqb _ _ c.if-w-eq0.true),
      next_cell _ _ _ _ at.invariant.2 c.search-test.true c.loop-k-test.true,
    )

pub loop-to-init : goal.loop-to-init
loop-to-init c =
    let at = c.loop-k in
    (search rules, at.invariant.0, at.invariant.1 ∙ cell_step c.loop-form.board.masks c.up_mask-up.result at.k (at-cell (goal.at.loop-to-init c).In-loop-k) ∙ rw (ne_eqb _ _ c.if-w-eq0.false))

pub loop-to-preserved : goal.loop-to-preserved
loop-to-preserved c =
    let at = c.loop-to in
    (search rules, at.invariant.1, at.invariant.2 ∙ site_miss sites _ _ _ at.to c.loop-to-test.true (sym c.has_site.ensures ∙ c.if-has_site.false))

pub loop-k-preserved : goal.loop-k-preserved
loop-k-preserved c =
    let at = c.loop-to in (
      at.invariant.1,
      at.invariant.2 ∙ site_end sites _ _ _ at.to c.loop-to-test.false,
      next_cell _ _ _ _ c.loop-k.invariant.2 c.search-test.true c.loop-k-test.true,
    )

pub overflow_add-end : goal.overflow_add-end
overflow_add-end c = omega (arith, c.search.invariant.2.to_end, c.search.invariant.2.few, c.search-test.true)

pub search-preserved : goal.search-preserved
search-preserved c =
    let at = c.loop-k in
    let form = c.search-test.true in
    let on = passes_on _ _ _ _ _ _ _ _ c.loop-form.invariant c.up_mask-up.result _ at.k _ at.invariant.2 form c.loop-k-test.false in
    (at.invariant.0, at.invariant.1 ∙ on, next_form _ _ _ _ at.invariant.2 form)

-- what the search gives, left by its end or by its label
sought :
    (c : Left-search) (found : Found) → c.search-test.found ≡ found
    → let at = c.loop-form in
    Sought _ _ _ _ _ at.floor _ _ at.invariant _ c.up_mask-up.ensures c.search-test.start c.search.end found
sought c found f =
    let at = c.search in
    let w = c.loop-form.invariant in
    let up = c.up_mask-up.ensures in
    elim c.search-test.branch [
      | else-search-test e ↦
          let none = sym (at.invariant.1 ∙ cell_end c.loop-form.board.masks c.up_mask-up.result at.start (past_cells _ _ _ _ at.invariant.2 e.search-test.false)) in
          sought_as _ _ _ _ _ _ _ _ w _ up at.start at.end None (none, past_forms _ _ _ _ at.invariant.2 e.search-test.false) _ found e.start-is (sym f ∙ e.found-is ∙ at.invariant.0)
      | then-search-test+then-loop-k-test+else-w-eq0+then-loop-to-test+then-has_site e ↦
          let k = e.loop-k.k in
          let to = e.loop-to.to in
          let hit = e.loop-to.invariant.2 ∙ site_hit sites _ _ _ to e.loop-to-test.true (sym e.has_site.ensures ∙ e.if-has_site.true) in
          let is = message_at_lem _ at.form k _ e.loop-k.invariant.2 e.search-test.true e.loop-k-test.true to ∙ sym hit in
          sought_as _ _ _ _ _ _ _ _ w _ up k at.end (message at.form (k / sites % capacity) (k % sites) to)
          (is, (place_at _ _ _ _ e.loop-k.invariant.2 e.search-test.true e.loop-k-test.true, e.loop-k.invariant.2)) _ found e.start-is (sym f ∙ e.found-is)
    ]

pub overflow_mul-end : goal.overflow_mul-end
overflow_mul-end c = omega (arith, few_offered _ _ c.requires.1)

pub loop-form-init : goal.loop-form-init
loop-form-init c = at_start _ _ _ c.requires.0 c.requires.1

pub receive-requires : goal.receive-requires
receive-requires c = few _ _ _ _ _ _ _ _ c.loop-form.invariant

pub overflow_add-count : goal.overflow_add-count
overflow_add-count c =
    omega (arith, c.loop-form.invariant.going.within, c.if-count-limit.false, c.ranges.limit.fits)

pub loop-form-smaller-in-Some : goal.loop-form-smaller-in-Some
loop-form-smaller-in-Some c = omega (arith, c.loop-form.invariant.going.within, c.if-count-limit.false)

pub loop-form-preserved-in-Some : goal.loop-form-preserved-in-Some
loop-form-preserved-in-Some c =
    receive_turn _ _ _ _ _ _ _ _ c.loop-form.invariant _ c.up_mask-up.ensures _ _ _ _ _ _ (sought (goal.at.loop-form-preserved-in-Some c).Left-search _ c.in-Some.is)
    c.if-count-limit.false _ _ c.receive.ensures _ c.floor_after-floor.ensures

pub overflow_add-count-then-first-lt-POSTINGS : goal.overflow_add-count-then-first-lt-POSTINGS
overflow_add-count-then-first-lt-POSTINGS c =
    omega (arith, c.loop-form.invariant.going.within, c.if-count-limit-2.false, c.ranges.limit.fits)

pub loop-form-smaller-then-first-lt-POSTINGS : goal.loop-form-smaller-then-first-lt-POSTINGS
loop-form-smaller-then-first-lt-POSTINGS c = omega (arith, c.loop-form.invariant.going.within, c.if-count-limit-2.false)

pub loop-form-preserved-then-first-lt-POSTINGS : goal.loop-form-preserved-then-first-lt-POSTINGS
loop-form-preserved-then-first-lt-POSTINGS c =
    order_turn _ _ _ _ _ _ _ _ c.loop-form.invariant _ c.up_mask-up.ensures _ (sought (goal.at.loop-form-preserved-then-first-lt-POSTINGS c).Left-search _ c.in-None.is) _ c.lowest_pooled-first.ensures
    c.if-first-lt-POSTINGS.true c.if-count-limit-2.false _ _ c.order.ensures

pub next_reader-reader-requires : goal.next_reader-reader-requires
next_reader-reader-requires c = few _ _ _ _ _ _ _ _ c.loop-form.invariant

pub read-requires : goal.read-requires
read-requires c = fits _ _ _ _ _ _ _ _ c.loop-form.invariant

pub overflow_add-count-in-None : goal.overflow_add-count-in-None
overflow_add-count-in-None c =
    omega (arith, c.loop-form.invariant.going.within, c.if-count-limit-3.false, c.ranges.limit.fits)

pub loop-form-smaller : goal.loop-form-smaller
loop-form-smaller c = omega (arith, c.loop-form.invariant.going.within, c.if-count-limit-3.false)

pub loop-form-preserved : goal.loop-form-preserved
loop-form-preserved c =
    read_turn _ _ _ _ _ _ _ _ c.loop-form.invariant _ c.up_mask-up.ensures _ (sought (goal.at.loop-form-preserved c).Left-search _ c.in-None.is) _ c.lowest_pooled-first.ensures
    c.if-first-lt-POSTINGS.false _ c.next_reader-reader.ensures (omega arith) c.if-count-limit-3.false _ _ c.read.ensures

pub returns-then-count-limit : goal.returns-then-count-limit
returns-then-count-limit c =
    let shown = receive_spent _ _ _ _ _ _ _ _ c.loop-form.invariant _ c.up_mask-up.ensures _ _ _ _ _ _ (sought (goal.at.returns-then-count-limit c).Left-search _ c.in-Some.is) c.if-count-limit.true in
    record { carried_after = shown.0; count_value = shown.1.0; ending_value = shown.1.1.0; right = shown.1.1.1.0; ending_value_2 = shown.1.1.1.1 }

pub returns-then-count-limit-2 : goal.returns-then-count-limit-2
returns-then-count-limit-2 c =
    let shown = order_spent _ _ _ _ _ _ _ _ c.loop-form.invariant _ c.up_mask-up.ensures _ (sought (goal.at.returns-then-count-limit-2 c).Left-search _ c.in-None.is) _ c.lowest_pooled-first.ensures c.if-first-lt-POSTINGS.true c.if-count-limit-2.true in
    record { carried_after = shown.0; count_value = shown.1.0; ending_value = shown.1.1.0; right = shown.1.1.1.0; ending_value_2 = shown.1.1.1.1 }

pub returns-then-from-reader : goal.returns-then-from-reader
returns-then-from-reader c =
    let shown = quiet _ _ _ _ _ _ _ _ c.loop-form.invariant _ c.up_mask-up.ensures _ (sought (goal.at.returns-then-from-reader c).Left-search _ c.in-None.is) _ c.lowest_pooled-first.ensures c.if-first-lt-POSTINGS.false _ c.next_reader-reader.ensures (omega arith) in
    record { carried_after = shown.0; count_value = shown.1.0; ending_value = shown.1.1.0; right = shown.1.1.1.0; ending_value_2 = shown.1.1.1.1 }

pub returns-then-count-limit-3 : goal.returns-then-count-limit-3
returns-then-count-limit-3 c =
    let shown = read_spent _ _ _ _ _ _ _ _ c.loop-form.invariant _ c.up_mask-up.ensures _ (sought (goal.at.returns-then-count-limit-3 c).Left-search _ c.in-None.is) _ c.lowest_pooled-first.ensures c.if-first-lt-POSTINGS.false _ c.next_reader-reader.ensures (omega arith) c.if-count-limit-3.true in
    record { carried_after = shown.0; count_value = shown.1.0; ending_value = shown.1.1.0; right = shown.1.1.1.0; ending_value_2 = shown.1.1.1.1 }
