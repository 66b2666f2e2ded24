-- The cell that the code takes for the next floor; what a receipt sends stands from it on, so that it is a floor of the flight that is left.
-- Rests on Firsts, on site's steps by mask and on flight's laws of floors. Assumes nothing.
use Prim.Native.Nat.{ℕ, ◌+◌, ◌*◌, ◌<◌, ◌≤◌}
use mathlib.Core.Path.{◌≡◌, refl, ap, ◌∙◌}
use mathlib.Core.Logic.{◌⊎◌, inl, inr}
use mathlib.Core.Bool.{Bool, true, false, cond}
use mathlib.Core.List.{List}
use native.Mathlib.Omega.{arith}
use native.Mathlib.Decide.{ℕ_discrete, dec_lt}
use lib.Dec.{ltb}
use lib.ListN.{get_or}
use lib.Bits.{bit_and}
use borrow.Author.Tests.{eq-eqb, ne_eqb, lt-ltb, le-ltb}
use Rattle.sets.specs.declared.Set.{Set}
use Rattle.sets.proofs.Truth.{test}
use Rattle.sets.specs.Sets.{has}
use Rattle.posting.specs.declared.Table.{Table}
use Rattle.masks.specs.SiteMasks.{with_site, with_site_if}
use Rattle.site.specs.declared.Setup.{Setup}
use Rattle.site.specs.declared.Site.{Site}
use Rattle.site.specs.declared.Tally.{Tally}
use Rattle.site.specs.declared.Sends.{Sends}
use Rattle.site.specs.declared.Stepped.{Stepped}
use Rattle.site.specs.Sites.{heard_for, good_for, site_heard}
use Rattle.site.specs.Sends.{FIRST, SECOND, THIRD, DELIVER}
use Rattle.site.specs.Steps.{majority}
use Rattle.site.specs.ByMask.{ENTRY, reached, late, no_step_by_mask, first_by_mask, step_second_by_mask, second_by_mask, finish_sends, step_third_by_mask, tallied_by_mask, third_by_mask, deliver_by_mask}
use Rattle.flight.specs.Flights.{pairs, is_cell, cell_at, sending_to, taking_from}
use Rattle.flight.proofs.CellLaws.{cell_in, cell_out, cell_below}
use Rattle.flight.proofs.ArrayLaws.{sending_none}
use Rattle.flight.proofs.FloorLaws.{NoneBelow, sending_below, taking_below}
use Rattle.steps.specs.ByMask.{receipt_by_mask}
use Rattle.machine.proofs.Facts.{Placed}
use Rattle.drain.specs.Firsts.{floor_after}

-- ---- as the code finds it

module _ (taken form m to : ℕ) where
  pub floor_early : form < DELIVER → taken ≡ floor_after taken form m to
  unfolding floor_after
  floor_early h = rw (lt-ltb form DELIVER h)

  -- of a DELIVER the lower of two cells
  module _ (late : DELIVER ≤ form) (relayed : ℕ) (r : relayed ≡ cell_at form m to) where
    pub floor_lower : relayed < taken → relayed ≡ floor_after taken form m to
    unfolding floor_after
    floor_lower l = rw (le-ltb form DELIVER late) (omega (arith, l, r))

    pub floor_higher : taken ≤ relayed → taken ≡ floor_after taken form m to
    unfolding floor_after
    floor_higher l = rw (le-ltb form DELIVER late) (omega (arith, l, r))

-- the floor that the receipt of a message leaves
abbrev pub floor_left : ℕ → ℕ → ℕ → ℕ → ℕ
floor_left form m from to = floor_after (cell_at form m from) form m to

module _ (form m from to : ℕ) where
  floor_taken : floor_left form m from to ≤ cell_at form m from
  unfolding floor_after
  floor_taken = elim (test (ltb form DELIVER)) [
    | inl e ↦ rw e (omega arith)
    | inr e ↦ rw e (omega arith)
  ]

  floor_relayed : DELIVER ≤ form → floor_left form m from to ≤ cell_at form m to
  unfolding floor_after
  floor_relayed h = rw (le-ltb form DELIVER h) (omega arith)

-- ---- what is sent stands from a floor on

module _ (floor m to : ℕ) where
  abbrev Above : Sends → Type 0
  Above s = (s.to ≡ 0) ⊎ (floor ≤ cell_at s.form m to)

  either : (e : Bool) (x y : Stepped) → Above x.sends → Above y.sends → Above (cond e x y).sends
  either true x y p q = p
  either false x y p q = q

  sends_either : (e : Bool) (x y : Sends) → Above x → Above y → Above (cond e x y)
  sends_either true x y p q = p
  sends_either false x y p q = q

  module _ (setup : Setup) (table : Table) (site : Site) (tally : Tally) where
    first_above : floor ≤ cell_at SECOND m to → Above (first_by_mask setup table site tally m).sends
    unfolding first_by_mask
    first_above h = inr h

    second_above : floor ≤ cell_at THIRD m to → (from : ℕ) (good : Bool) → Above (second_by_mask setup table site tally m from good).sends
    unfolding second_by_mask step_second_by_mask
    second_above h from good =
        let heard = with_site (heard_for site m) from in
        let after = site_heard site m heard (with_site_if (good_for site m) from good) in
        let now = step_second_by_mask setup table after tally m in
        either (late setup (heard_for site m) from (has site.stepped m)) (no_step_by_mask site tally) (cond (reached setup heard) now (no_step_by_mask after tally))
        (inl refl) (either (reached setup heard) now (no_step_by_mask after tally) (inr h) (inl refl))

    third_above : floor ≤ cell_at DELIVER m to → floor ≤ cell_at ENTRY m to → (from : ℕ) (carried : Set) → Above (third_by_mask setup site tally m from carried).sends
    unfolding third_by_mask step_third_by_mask finish_sends
    third_above h i from carried =
        let after = tallied_by_mask tally m from carried in
        let now = step_third_by_mask setup site after m in
        either (late setup tally.heard from (has site.finished m)) (no_step_by_mask site tally) (cond (reached setup after.heard) now (no_step_by_mask site after))
        (inl refl) (either (reached setup after.heard) now (no_step_by_mask site after)
        (sends_either (majority setup (bit_and after.has after.heard)) _ _ (inr h) (inr i)) (inl refl))

    deliver_above : floor ≤ cell_at DELIVER m to → Above (deliver_by_mask setup table site tally to m).sends
    unfolding deliver_by_mask
    deliver_above h = either (has site.got m) (no_step_by_mask site tally) _ (inl refl) (inr h)

-- ---- a receipt's

module _ (form m from to : ℕ) (at : Placed form m from to) where
  -- the cells of a later form come later, and the entry into the pool has none
  later : (sent : ℕ) → form < sent → cell_at form m from ≤ cell_at sent m to
  later sent h = elim (dec_lt sent 4) [
    | yes l ↦
        let taken = cell_in form m from at.form_below at.posting_below at.from_below in
        let filled = cell_in sent m to l at.posting_below at.to_below in
        omega (arith, taken, filled, at.posting_below, at.from_below, h)
    | no l ↦
        let past : is_cell sent m to ≡ false = rw (le-ltb sent 4 (omega arith)) in
        omega (arith, cell_out sent m to past, cell_below form m from at.form_below at.posting_below at.from_below)
  ]

  floor_later : (sent : ℕ) → form < sent → floor_left form m from to ≤ cell_at sent m to
  floor_later sent h = omega (arith, later sent h, floor_taken form m from to)

  floor_relay : form ≡ DELIVER → floor_left form m from to ≤ cell_at DELIVER m to
  floor_relay e = rw (← e) (floor_relayed form m from to (omega arith))

  -- it stands among the cells of the message's form
  pub floor_in_form : (form * pairs ≤ floor_left form m from to) × (floor_left form m from to ≤ (form + 1) * pairs)
  unfolding floor_after
  floor_in_form =
      let taken = cell_in form m from at.form_below at.posting_below at.from_below in
      let relayed = cell_in form m to at.form_below at.posting_below at.to_below in
      elim (test (ltb form DELIVER)) [
        | inl e ↦ rw e (omega (arith, taken), omega (arith, taken, at.posting_below, at.from_below))
        | inr e ↦ rw e (omega (arith, taken, relayed), omega (arith, taken, relayed, at.posting_below, at.from_below))
      ]

  module _ (setup : Setup) (table : Table) (site : Site) (tally : Tally) (good : Bool) (carried : Set) where
    pub receipt_above : Above (floor_left form m from to) m to (receipt_by_mask setup table site tally form m from to good carried).sends
    unfolding receipt_by_mask
    receipt_above = elim (ℕ_discrete form FIRST) [
      | yes e ↦ rw (eq-eqb form FIRST e) (first_above (floor_left form m from to) m to setup table site tally (floor_later SECOND (omega arith)))
      | no d0 ↦ rw (ne_eqb form FIRST d0) (elim (ℕ_discrete form SECOND) [
        | yes e ↦ rw (eq-eqb form SECOND e) (second_above (floor_left form m from to) m to setup table site tally (floor_later THIRD (omega arith)) from good)
        | no d1 ↦ rw (ne_eqb form SECOND d1) (elim (ℕ_discrete form THIRD) [
          | yes e ↦ rw (eq-eqb form THIRD e) (third_above (floor_left form m from to) m to setup table site tally (floor_later DELIVER (omega arith)) (floor_later ENTRY (omega arith)) from carried)
          | no d2 ↦ rw (ne_eqb form THIRD d2) (deliver_above (floor_left form m from to) m to setup table site tally (floor_relay (omega (arith, at.form_below, d0, d1, d2))))
        ])
      ])
    ]

-- ---- the cells below it stay as they were

module _ (form m from to : ℕ) (masks : List ℕ) (s : Sends) (above : Above (floor_left form m from to) m to s) where
  abbrev passed : List ℕ
  passed = sending_to (taking_from masks form m from to) s.form m to s.to

  below_sent : (k : ℕ) → k < floor_left form m from to → get_or passed k 0 ≡ get_or (taking_from masks form m from to) k 0
  below_sent k h = elim above [
    | inl z ↦ rw (z, sending_none (taking_from masks form m from to) s.form m to)
    | inr l ↦ let b : k < cell_at s.form m to = omega (arith, h, l) in sending_below (taking_from masks form m from to) s.form m to k b s.to
  ]

  pub passed_floor : (up : ℕ) → NoneBelow masks up (cell_at form m from) → NoneBelow passed up (floor_left form m from to)
  passed_floor up low k h =
      let l : k < cell_at form m from = omega (arith, h, floor_taken form m from to) in
      ap (λ (w : ℕ). bit_and w up) (below_sent k h ∙ taking_below masks form m from k l to) ∙ low k l
