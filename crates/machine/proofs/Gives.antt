-- What an event on the arrays leaves is an outcome of Calls, and they stay right; and so it is of a receipt, by the law of its form.
-- Rests on the laws of the forms (OnFirst, OnSecond, OnThird, OnDeliver), on Received for the refusals. Assumes nothing.
use Prim.Native.Nat.{ℕ, ◌+◌, ◌<◌, ◌≤◌}
use mathlib.Core.Path.{◌≡◌, refl, sym, ap, ◌∙◌}
use mathlib.Core.Logic.{◌≢◌, inl, inr}
use mathlib.Core.Bool.{Bool, true, false, cond, ◌&&◌}
use mathlib.Core.List.{List}
use native.Mathlib.Omega.{arith}
use native.Mathlib.Decide.{ℕ_discrete, dec_lt}
use lib.Dec.{eqb, ltb, leb}
use lib.ListN.{length, get_or, set}
use lib.Count.{ones}
use borrow.Author.Tests.{eq-eqb, ne_eqb, eqb-true, eqb-false, lt-ltb, le-ltb, le-leb, lt-leb, leb-true, leb-false}
use Rattle.sets.proofs.Truth.{test}
use Rattle.sets.specs.Masks.{has_bit}
use Rattle.sets.specs.Sets.{capacity, has}
use Rattle.posting.specs.declared.Posting.{Posting}
use Rattle.posting.specs.Kinds.{fields_ok}
use Rattle.posting.proofs.KindLaws.{Fields, fields, row_kind}
use Rattle.posting.specs.Conflicts.{row, conflict_set}
use Rattle.site.specs.declared.Setup.{Setup}
use Rattle.site.specs.declared.Stepped.{Stepped}
use Rattle.site.specs.Sites.{sites}
use Rattle.site.specs.ByMask.{offer_by_mask}
use Rattle.masks.specs.SiteMasks.{every_site}
use Rattle.site.specs.Sends.{FIRST, SECOND, THIRD, DELIVER}
use Rattle.flight.specs.Flights.{cells, message_in, in_flight}
use Rattle.steps.specs.declared.Cut.{Cut}
use Rattle.steps.specs.declared.Call.{Call}
use Rattle.steps.specs.declared.Call.TheVariants.{Offer, Receive, Order, Read, Crash}
use Rattle.steps.specs.CauseLists.{first_cause, message_causes, offer_causes}
use Rattle.steps.specs.ByMask.{receipt_by_mask}
use Rattle.arrays.specs.Layout.{down_at, count_at, kind_at, from_at, into_at}
use Rattle.arrays.specs.declared.Arrays.{Arrays}
use Rattle.arrays.specs.Arrays.{byte}
use Rattle.index.specs.Index.{conflicts_in}
use Rattle.index.proofs.Indexed.{conflicts_right}
use Rattle.flat.specs.Flat.{Flat, flat, cut_cause, flat_first, flat_second, flat_third, flat_deliver, flat_receive, flat_offer, site_cause}
use Rattle.machine.specs.declared.Board.{Board}
use Rattle.machine.specs.declared.Outcome.{Outcome}
use Rattle.machine.specs.Boards.{site_at, tally_at}
use Rattle.machine.specs.Soundness.{is_sound}
use Rattle.machine.specs.Calls.{refusal_of, receiving, offering}
use Rattle.machine.specs.declared.Answer.TheVariants.{Offered}
use Rattle.machine.specs.ByMask.{refusing, taken}
use Rattle.views.specs.Views.{row_of, table_of}
use Rattle.machine.specs.View.{view, Right}
use Rattle.machine.proofs.Placed.{receipt}
use Rattle.machine.proofs.Local.{Follows, row_at}
use Rattle.machine.proofs.Facts.{Placed, message_placed, few, site_there, offer_room}
use Rattle.machine.proofs.Outcomes.{offer_site, offer_fields, offer_late, offer_done}
use Rattle.machine.proofs.Received.{receive_site, receive_none, receive_late, receive_done}
use Rattle.machine.proofs.OnFirst.{first_follows}
use Rattle.machine.proofs.OnSecond.{second_follows}
use Rattle.machine.proofs.OnThird.{third_follows}
use Rattle.machine.proofs.OnDeliver.{deliver_follows}
use Rattle.machine.proofs.OnOffer.{offered, offer_shown, offer_right}

-- what an event leaves, and its answer, are those of an outcome
pub record Gives (setup : Setup) (r : Flat) (o : Outcome) : Type 0 where
  pub shown : view setup r.arrays ≡ o.board
  pub answer : r.answer ≡ refusal_of o.answer
  pub right : Right r.arrays

module _ (setup : Setup) (a : Arrays) (ok : Right a) where
  -- refused
  pub gives_refused : (why : ℕ) (o : Outcome) → refusing (view setup a) why ≡ o → Gives setup (flat why a) o
  gives_refused why o e =
      record { shown = ap (λ (x : Outcome). x.board) e; answer = ap (λ (x : Outcome). refusal_of x.answer) e; right = ok }

-- done
pub gives_as :
    (setup : Setup) (r : Flat) (o x : Outcome) → r.answer ≡ refusal_of x.answer → view setup r.arrays ≡ x.board → x ≡ o → Right r.arrays
    → Gives setup r o
gives_as setup r o x z v e right =
    record { shown = v ∙ ap (λ (y : Outcome). y.board) e; answer = z ∙ ap (λ (y : Outcome). refusal_of y.answer) e; right = right }

pub gives_done :
    (setup : Setup) (r : Flat) (o : Outcome) (after : Board) → r.answer ≡ 0 → view setup r.arrays ≡ after → taken after ≡ o → Right r.arrays
    → Gives setup r o
gives_done setup r o after z v e right = gives_as setup r o (taken after) z v e right

-- ---- receive

module _ (setup : Setup) (a : Arrays) (ok : Right a) (sound : is_sound (view setup a) ≡ true) where
  abbrev b : Board
  b = view setup a

  pub cells_long : length b.flight.masks ≡ cells
  unfolding view
  cells_long = ok.masks_long

  pub few_sites : setup.n ≤ sites
  unfolding view
  few_sites = few b cells_long sound

  -- C(m) from the index
  index_right : (m : ℕ) → m < capacity → conflicts_in a.sets a.bytes setup.matrix m ≡ conflict_set setup.matrix b.table m
  unfolding view row_of
  index_right m hm =
      conflicts_right a.sets a.bytes (table_of a) ok.indexed setup.matrix m hm
      (sym (ap (λ (p : Posting). p.kind) (row_at a m hm))) (sym (ap (λ (p : Posting). p.a) (row_at a m hm))) (sym (ap (λ (p : Posting). p.b) (row_at a m hm)))

  module _ (m from to : ℕ) (cut : Cut) where
    abbrev tested : ℕ
    tested = first_cause (message_causes setup.n (byte a.bytes down_at) from to)

    -- a receipt that follows its step
    module _ (form : ℕ) (z : tested ≡ 0) (t : message_in a.masks form m from to ≡ true) where
      abbrev step : Stepped
      step = receipt b form m from to

      abbrev late : ℕ
      late = cut_cause setup a.bytes step.sends.to cut

      gives_followed : (r : Flat) → Follows setup a form m from to cut step r → Gives setup r (receiving b form m from to cut)
      unfolding view in_flight
      gives_followed r f = elim (ℕ_discrete late 0) [
        | yes y ↦ gives_done setup r _ _ (f.answer y) (f.shown y) (receive_done b sound cells_long form m from to cut tested refl z t late refl y _ refl) (f.right y)
        | no d ↦ rw (f.refused d) (gives_refused setup a ok late _ (receive_late b sound cells_long form m from to cut tested refl z t late refl d))
      ]

      placed : Placed form m from to
      unfolding view in_flight
      placed = message_placed b form m from to t

    site_refused : (form : ℕ) → tested ≢ 0 → refusing b tested ≡ receiving b form m from to cut
    unfolding view
    site_refused form d = receive_site b sound cells_long form m from to cut tested refl d

    none_refused : (form : ℕ) → tested ≡ 0 → message_in a.masks form m from to ≡ false → refusing b 11 ≡ receiving b form m from to cut
    unfolding view in_flight
    none_refused form z f = receive_none b sound cells_long form m from to cut tested refl z f

    -- each form by its law
    by_form : (form : ℕ) → tested ≡ 0 → message_in a.masks form m from to ≡ true
        → Gives setup
        (cond (eqb form FIRST) (flat_first setup a m from to cut)
        (cond (eqb form SECOND) (flat_second setup a m from to cut)
        (cond (eqb form THIRD) (flat_third setup a m from to cut)
        (flat_deliver setup a m from to cut))))
        (receiving b form m from to cut)
    unfolding receipt_by_mask view
    by_form form z t =
        let at = placed form z t in
        let hm = at.posting_below in
        let hf = at.from_below in
        let ht = at.to_below in
        elim (ℕ_discrete form FIRST) [
          | yes e ↦ rw (eq-eqb form FIRST e) (gives_followed form z t _ (rw e (first_follows setup a ok few_sites m from to hm hf ht cut (index_right m hm))))
          | no d0 ↦ rw (ne_eqb form FIRST d0) (elim (ℕ_discrete form SECOND) [
            | yes e ↦ rw (eq-eqb form SECOND e) (gives_followed form z t _ (rw e (second_follows setup a ok few_sites m from to hm hf ht cut (index_right m hm))))
            | no d1 ↦ rw (ne_eqb form SECOND d1) (elim (ℕ_discrete form THIRD) [
              | yes e ↦ rw (eq-eqb form THIRD e) (gives_followed form z t _ (rw e (third_follows setup a ok few_sites m from to hm hf ht cut)))
              | no d2 ↦
                  let e : form ≡ DELIVER = omega (arith, at.form_below) in
                  rw (ne_eqb form THIRD d2) (gives_followed form z t _ (rw e (deliver_follows setup a ok few_sites m from to hm hf ht cut)))
            ])
          ])
        ]

    pub receive_gives : (form : ℕ) → Gives setup (flat_receive setup a form m from to cut) (receiving b form m from to cut)
    unfolding flat_receive
    receive_gives form = elim (ℕ_discrete tested 0) [
      | no d ↦ rw (ne_eqb tested 0 d) (gives_refused setup a ok tested _ (site_refused form d))
      | yes z ↦ rw (eq-eqb tested 0 z) (elim (test (message_in a.masks form m from to)) [
        | inl t ↦ rw t (by_form form z t)
        | inr f ↦ rw f (gives_refused setup a ok 11 _ (none_refused form z f))
      ])
    ]
