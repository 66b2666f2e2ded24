-- A call on the arrays of a sound board: what they then show is what Calls says of the board shown, and they stay right.
-- Rests on Gives, which has receive, on OnOffer, OnRead and Tables, on Outcomes and Received for the refusals. Assumes nothing.
use Prim.Native.Nat.{ℕ, ◌+◌, ◌<◌, ◌≤◌}
use mathlib.Core.Path.{◌≡◌, refl, sym, ap, ap₂, ◌∙◌}
use mathlib.Core.Logic.{◌≢◌, inl, inr}
use mathlib.Core.Bool.{Bool, true, false, cond, ◌&&◌}
use mathlib.Core.List.{List}
use native.Mathlib.Omega.{arith}
use native.Mathlib.Decide.{ℕ_discrete, dec_lt}
use lib.Dec.{eqb, ltb, leb}
use lib.ListN.{length, get_or, set}
use lib.Count.{ones}
use borrow.Author.Tests.{eq-eqb, ne_eqb, lt-ltb, le-ltb, le-leb, lt-leb, leb-true, leb-false}
use Rattle.sets.proofs.Truth.{test}
use Rattle.sets.specs.declared.Set.{Set}
use Rattle.sets.proofs.WordLaws.{member_below}
use Rattle.sets.specs.Sets.{words, capacity, has, without}
use Rattle.posting.specs.declared.Posting.{Posting}
use Rattle.posting.specs.Kinds.{kinds, fields_ok}
use Rattle.posting.proofs.KindLaws.{Fields, fields, row_kind}
use Rattle.posting.specs.Records.{append}
use Rattle.masks.specs.SiteMasks.{every_site, with_site}
use Rattle.site.specs.declared.Setup.{Setup}
use Rattle.site.specs.declared.Site.{Site}
use Rattle.site.specs.Sites.{sites, plus}
use Rattle.site.specs.ByMask.{offer_by_mask}
use Rattle.site.proofs.ByMaskLaws.{only_site_lem}
use Rattle.flight.specs.Flights.{words_from}
use Rattle.flight.proofs.CarriedLaws.{word_from}
use Rattle.steps.specs.declared.Cut.{Cut}
use Rattle.steps.specs.declared.Cut.TheVariants.{Whole, After}
use Rattle.steps.specs.declared.Call.{Call}
use Rattle.steps.specs.declared.Call.TheVariants.{Offer, Receive, Order, Read, Crash}
use Rattle.steps.specs.CauseLists.{first_cause, offer_causes}
use Rattle.arrays.specs.Layout.{pool_slot, count_at, logged_at, place_at, down_at, log_at}
use Rattle.arrays.specs.declared.Arrays.{Arrays}
use Rattle.arrays.specs.Arrays.{with_sets, with_bytes, slot_set, storing, has_in, dropping, byte, marked}
use Rattle.arrays.proofs.Slots.{slot_long, has_slot, remove_long, dropping_is}
use Rattle.flat.specs.Flat.{Flat, flat, cut_cause, site_cause, flat_offer, logging, flat_order, flat_read, flat_crash, flat_perform, LogFits}
use Rattle.machine.specs.declared.Board.{Board}
use Rattle.machine.specs.declared.Outcome.{Outcome}
use Rattle.machine.specs.declared.Answer.TheVariants.{Offered}
use Rattle.machine.specs.Boards.{site_at, logged_at as loggedPosting, board_down, board_pool}
use Rattle.machine.specs.Soundness.{is_sound}
use Rattle.machine.specs.Calls.{offering, ordering, reading, crashing}
use Rattle.machine.specs.Runs.{taking}
use Rattle.machine.specs.ByMask.{refusing, taken}
use Rattle.views.specs.Views.{site_of, table_of, log_of}
use Rattle.machine.specs.View.{view, Right}
use Rattle.machine.proofs.Local.{site_at_lem}
use Rattle.machine.proofs.Facts.{site_there, offer_room, log_within, logged_below}
use Rattle.machine.proofs.Outcomes.{offer_site, offer_fields, offer_late, offer_done, order_refused, order_done, crash_site, crash_spent, crash_done}
use Rattle.machine.proofs.Received.{read_site, read_ended, read_late, read_done}
use Rattle.machine.proofs.OnOffer.{offered, offer_shown, offer_right}
use Rattle.machine.proofs.OnRead.{has_read, read_right, read_shown}
use Rattle.machine.proofs.Tables.{view_marked, right_marked, view_logged, right_logged, view_pooled, right_pooled}
use Rattle.machine.proofs.Gives.{Gives, gives_refused, gives_as, gives_done, cells_long, few_sites, receive_gives}

-- ---- offer

fields_passed : (p : Posting) (count why : ℕ) → why ≡ first_cause (offer_causes p count) → why ≡ 0 → fields_ok p ≡ true
unfolding first_cause
fields_passed p count why e z = elim (test (fields_ok p)) [
  | inl t ↦ t
  | inr f ↦ let k : why ≡ 9 = rw f at e in absurd (omega (arith, k, z))
]

module _ (setup : Setup) (a : Arrays) (ok : Right a) (sound : is_sound (view setup a) ≡ true) (site kind account other amount : ℕ) (cut : Cut) where
  abbrev posting : Posting
  posting = record { owner = site; kind = kind; a = account; b = other; amount = amount }

  abbrev board : Board
  board = view setup a

  abbrev count : ℕ
  count = get_or a.counts count_at 0

  abbrev why : ℕ
  why = site_cause setup a.bytes site

  abbrev unfit : ℕ
  unfit = first_cause (offer_causes posting count)

  abbrev late_offer : ℕ
  late_offer = cut_cause setup a.bytes (every_site setup.n) cut

  abbrev outcome : Outcome
  outcome = offering board site kind account other amount cut

  offer_7 : why ≢ 0 → refusing board why ≡ outcome
  unfolding view
  offer_7 d = offer_site board sound site kind account other amount cut (few_sites setup a ok sound) why refl d

  module _ (z : why ≡ 0) where
    offer_9 : unfit ≢ 0 → refusing board unfit ≡ outcome
    unfolding view table_of
    offer_9 d = offer_fields board sound site kind account other amount cut (few_sites setup a ok sound) why refl z unfit refl d

    module _ (y : unfit ≡ 0) where
      offer_14 : late_offer ≢ 0 → refusing board late_offer ≡ outcome
      unfolding view table_of offer_by_mask
      offer_14 d = offer_late board sound site kind account other amount cut (few_sites setup a ok sound) why refl z unfit refl y late_offer refl d

      room : count < capacity
      room = offer_room posting count unfit refl y

      there : site < sites
      there = let h = site_there setup.n (byte a.bytes down_at) site why refl z in omega (arith, h, few_sites setup a ok sound)

      rule : Fields posting
      rule = fields posting (fields_passed posting count unfit refl y)

      kind_below : kind < kinds
      kind_below = row_kind kind account other amount rule.within

      abbrev after : Arrays
      after = offered setup a ok posting room kind_below rule.accounts_are_ok site there cut

      accepted : late_offer ≡ 0 → record { board = view setup after; answer = Offered count } ≡ outcome
      unfolding view table_of offer_by_mask
      accepted x =
          offer_done board sound site kind account other amount cut (few_sites setup a ok sound) why refl z unfit refl y late_offer refl x (view setup after)
          (offer_shown setup a ok posting room kind_below rule.accounts_are_ok site there cut)

      offer_accepted : late_offer ≡ 0 → Gives setup (flat 0 after) outcome
      offer_accepted x = gives_as setup (flat 0 after) outcome (record { board = view setup after; answer = Offered count }) refl refl (accepted x)
          (offer_right setup a ok posting room kind_below rule.accounts_are_ok site there cut)

  pub offer_gives : Gives setup (flat_offer setup a site kind account other amount cut) outcome
  unfolding flat_offer
  offer_gives = elim (ℕ_discrete why 0) [
    | no d ↦ rw (ne_eqb why 0 d) (gives_refused setup a ok why outcome (offer_7 d))
    | yes z ↦ rw (eq-eqb why 0 z) (elim (ℕ_discrete unfit 0) [
      | no d ↦ rw (ne_eqb unfit 0 d) (gives_refused setup a ok unfit outcome (offer_9 z d))
      | yes y ↦ rw (eq-eqb unfit 0 y) (elim (ℕ_discrete late_offer 0) [
        | no d ↦ rw (ne_eqb late_offer 0 d) (gives_refused setup a ok late_offer outcome (offer_14 z y d))
        | yes x ↦ rw (eq-eqb late_offer 0 x) (offer_accepted z y x)
      ])
    ])
  ]

-- ---- order

module _ (setup : Setup) (a : Arrays) (ok : Right a) (sound : is_sound (view setup a) ≡ true) (m : ℕ) where
  abbrev here : Board
  here = view setup a

  pool_has : (ltb m capacity && has_in a.sets pool_slot m) ≡ has here.pool m
  unfolding view
  pool_has = elim (dec_lt m capacity) [
    | yes h ↦ rw (lt-ltb m capacity h) (has_slot a.sets pool_slot m h)
    | no h ↦ rw (le-ltb m capacity (omega arith)) (sym (past (omega arith)))
  ]
    where
      past : capacity ≤ m → has (slot_set a.sets pool_slot) m ≡ false
      past h = elim (test (has (slot_set a.sets pool_slot) m)) [
        | inl t ↦ absurd (omega (arith, member_below (slot_set a.sets pool_slot).words m t, slot_long a.sets pool_slot))
        | inr f ↦ f
      ]

  abbrev less : Set
  less = without (slot_set a.sets pool_slot) m

  abbrev unpooled : Arrays
  unpooled = with_sets a (storing a.sets pool_slot less)

  size : length less.words ≡ words
  size = remove_long (slot_set a.sets pool_slot).words m ∙ slot_long a.sets pool_slot

  module _ (hm : m < capacity) where
    ordered_shown : view setup (logging unpooled m) ≡ board_pool here (without here.pool m) here.entries (append here.log m)
    unfolding view
    ordered_shown =
        view_logged setup unpooled (right_pooled setup a ok less size) m hm
        ∙ ap (λ (x : Board). board_pool x x.pool x.entries (append x.log m)) (view_pooled setup a ok less size)

    ordered_right : Right (logging unpooled m)
    ordered_right = right_logged setup unpooled (right_pooled setup a ok less size) m hm

    order_accepted : has here.pool m ≡ true → Gives setup (flat 0 (logging (with_sets a (dropping a.sets pool_slot m)) m)) (ordering here m)
    order_accepted t =
        rw (dropping_is a.sets pool_slot m hm)
        (gives_done setup (flat 0 (logging unpooled m)) (ordering here m) _ refl ordered_shown (order_done here sound m t _ _ refl refl) ordered_right)

  pub order_gives : Gives setup (flat_order a m) (ordering here m)
  unfolding flat_order view
  order_gives = elim (test (has here.pool m)) [
    | inl t ↦
        let h : m < capacity = omega (arith, member_below (slot_set a.sets pool_slot).words m t, slot_long a.sets pool_slot) in
        rw (pool_has ∙ t) (order_accepted h t)
    | inr f ↦ rw (pool_has ∙ f) (gives_refused setup a ok 12 (ordering here m) (order_refused here sound m f))
  ]

-- ---- crash

module _ (setup : Setup) (a : Arrays) (ok : Right a) (sound : is_sound (view setup a) ≡ true) (site : ℕ) where
  abbrev standing : Board
  standing = view setup a

  abbrev down : ℕ
  down = byte a.bytes down_at

  abbrev refusal : ℕ
  refusal = site_cause setup a.bytes site

  crash_7 : refusal ≢ 0 → refusing standing refusal ≡ crashing standing site
  unfolding view
  crash_7 d = crash_site standing sound site refusal refl d

  pub acts : refusal ≡ 0 → site < sites
  acts z = let h = site_there setup.n down site refusal refl z in omega (arith, h, few_sites setup a ok sound)

  crash_14 : refusal ≡ 0 → setup.f ≤ ones down → refusing standing 14 ≡ crashing standing site
  unfolding view
  crash_14 z h = crash_spent standing sound site refusal refl z h

  crash_accepted : refusal ≡ 0 → ones down < setup.f → Gives setup (flat 0 (with_bytes a (set a.bytes down_at (with_site down site)))) (crashing standing site)
  unfolding view marked
  crash_accepted z h =
      gives_done setup _ (crashing standing site) _ refl (view_marked setup a ok site (acts z) (After 0))
      (crash_done standing sound site refusal refl z h (with_site down site) (rw (only_site_lem site (acts z)))) (right_marked setup a ok site (acts z) (After 0))

  pub crash_gives : Gives setup (flat_crash setup a site) (crashing standing site)
  unfolding flat_crash
  crash_gives = elim (ℕ_discrete refusal 0) [
    | no d ↦ rw (ne_eqb refusal 0 d) (gives_refused setup a ok refusal (crashing standing site) (crash_7 d))
    | yes z ↦ rw (eq-eqb refusal 0 z) (elim (test (leb setup.f (ones down))) [
      | inl t ↦ rw t (gives_refused setup a ok 14 (crashing standing site) (crash_14 z (leb-true setup.f (ones down) t)))
      | inr f ↦ rw f (crash_accepted z (leb-false setup.f (ones down) f))
    ])
  ]

-- ---- read

module _ (setup : Setup) (a : Arrays) (ok : Right a) (sound : is_sound (view setup a) ≡ true) where
  abbrev now : Board
  now = view setup a

  abbrev logged : ℕ
  logged = get_or a.counts logged_at 0

  log_fit : logged ≤ capacity
  unfolding view log_of
  log_fit = log_within now (cells_long setup a ok sound) sound

  posting_at : (i : ℕ) → i < capacity → loggedPosting now i ≡ byte a.bytes (log_at i)
  unfolding view log_of
  posting_at i h = let e : log_at 0 + i ≡ log_at i = omega arith in word_from a.bytes (log_at 0) capacity i h ∙ ap (byte a.bytes) e

  posting_below : (i : ℕ) → i < logged → byte a.bytes (log_at i) < capacity
  unfolding view log_of
  posting_below i h =
      let small : i < capacity = omega (arith, log_fit, h) in
      rw (sym (posting_at i small)) (logged_below now (cells_long setup a ok sound) sound i h)

  -- what perform requires of the log
  pub log_fits : LogFits a.counts a.bytes
  log_fits = record { within = log_fit; postings = posting_below }

  module _ (site : ℕ) (cut : Cut) where
    abbrev place : ℕ
    place = get_or a.counts (place_at site) 0

    abbrev late : ℕ
    late = cut_cause setup a.bytes 0 cut

    abbrev barred : ℕ
    barred = site_cause setup a.bytes site

    read_7 : barred ≢ 0 → refusing now barred ≡ reading now site cut
    unfolding view
    read_7 d = read_site now sound site cut barred refl d

    module _ (z : barred ≡ 0) where
      there_site : site < sites
      there_site = acts setup a ok sound site z

      place_is : (site_at now site).place ≡ place
      unfolding site_of
      place_is = ap (λ (s : Site). s.place) (site_at_lem setup a site there_site)

      read_13 : logged ≤ place → refusing now 13 ≡ reading now site cut
      unfolding view log_of
      read_13 h = read_ended now sound site cut barred refl z (rw place_is h)

      module _ (left : place < logged) where
        left_now : (site_at now site).place < now.log.count
        unfolding view log_of
        left_now = rw place_is left

        read_14 : late ≢ 0 → refusing now late ≡ reading now site cut
        unfolding view ones
        read_14 d = read_late now sound site cut barred refl z left_now late refl d

        abbrev m : ℕ
        m = byte a.bytes (log_at place)

        below : m < capacity
        below = posting_below place left

        place_room : place < capacity
        place_room = omega (arith, log_fit, left)

        m_is : loggedPosting now (site_at now site).place ≡ m
        m_is = ap (loggedPosting now) place_is ∙ posting_at place place_room

        read_accepted : late ≡ 0 → Gives setup (flat 0 (has_read a site m cut)) (reading now site cut)
        unfolding view ones
        read_accepted x =
            gives_done setup (flat 0 (has_read a site m cut)) (reading now site cut) _ refl (read_shown a ok site m there_site below cut setup place_room)
            (read_done now sound site cut barred refl z left_now late refl x _ (rw m_is refl))
            (read_right a ok site m there_site below cut)

    pub read_gives : Gives setup (flat_read setup a site cut) (reading now site cut)
    unfolding flat_read
    read_gives = elim (ℕ_discrete barred 0) [
      | no d ↦ rw (ne_eqb barred 0 d) (gives_refused setup a ok barred (reading now site cut) (read_7 d))
      | yes z ↦ rw (eq-eqb barred 0 z) (elim (test (leb logged place)) [
        | inl t ↦ rw t (gives_refused setup a ok 13 (reading now site cut) (read_13 z (leb-true logged place t)))
        | inr f ↦ rw f (elim (ℕ_discrete late 0) [
          | no d ↦ rw (ne_eqb late 0 d) (gives_refused setup a ok late (reading now site cut) (read_14 z (leb-false logged place f) d))
          | yes x ↦ rw (eq-eqb late 0 x) (read_accepted z (leb-false logged place f) x)
        ])
      ])
    ]

-- ---- a call

pub perform_gives : (setup : Setup) (a : Arrays) → Right a → is_sound (view setup a) ≡ true → (c : Call) → Gives setup (flat_perform setup a c) (taking (view setup a) c)
unfolding flat_perform taking
perform_gives setup a ok sound (Offer site kind account other amount cut) = offer_gives setup a ok sound site kind account other amount cut
perform_gives setup a ok sound (Receive form m from to cut) = receive_gives setup a ok sound m from to cut form
perform_gives setup a ok sound (Order m) = order_gives setup a ok sound m
perform_gives setup a ok sound (Read site cut) = read_gives setup a ok sound site cut
perform_gives setup a ok sound (Crash site) = crash_gives setup a ok sound site
