-- A receipt of SECOND is the theory's event: without effect, heard, or the (n - f)th.
-- Rests on Ground, Flown, Seen and Counted. Assumes nothing.
use Prim.Native.Nat.{ℕ, zero, suc, ◌-◌, ◌*◌, ◌^◌, ◌<◌, ◌≤◌, min}
use mathlib.Core.Path.{◌≡◌, refl, sym, ap, ◌∙◌}
use mathlib.Core.Logic.{◌⊎◌, inl, inr, ◌≢◌}
use mathlib.Core.Bool.{Bool, true, false, cond, not, ◌&&◌, ◌||◌, and-false, and_comm, or_comm}
use mathlib.Core.List.{List, [], ◌∷◌}
use native.Mathlib.Omega.{arith}
use native.Mathlib.Decide.{ℕ_discrete}
use lib.Dec.{eqb, ltb, leb}
use lib.Bits.{bit_and, bit_or, or_lt, and_lt}
use lib.Count.{ones}
use lib.ListN.{length, get_or, length-set}
use lib.Seq.{get_or-set_same, take-nil}
use lib.Pow.{pow-lt}
use borrow.Author.Tests.{eqb-true, eq-eqb, ne_eqb}
use Rattle.sets.specs.declared.Set.{Set}
use Rattle.sets.proofs.Truth.{test, never, not_so, both_ways, and_left, and_right, and_intro, and_implied, or_cases, or_left, or_right, or_neither}
use Rattle.sets.specs.Masks.{has_bit}
use Rattle.sets.proofs.MaskLaws.{has_bit_and, has_bit_set}
use Rattle.sets.proofs.WordLaws.{empty_shape, insert_shape, intersect_shape, member_intersect}
use Rattle.sets.specs.Sets.{words, capacity, has, with, with_if, meet, empty_set, Shape}
use Rattle.posting.specs.declared.Table.{Table}
use Rattle.posting.specs.Conflicts.{offered, conflict, conflict_set}
use Rattle.posting.proofs.ConflictLaws.{offered_below, conflict_set_shape, has_conflict_set}
use Rattle.site.specs.declared.Site.{Site}
use Rattle.site.specs.declared.Setup.{Setup}
use Rattle.site.specs.Sites.{sites, heard_for, good_for, plus, plus_if, site_seen, site_heard, site_stepped}
use Rattle.site.specs.Sends.{FIRST, SECOND, THIRD, DELIVER, forms, Send, third, Step}
use Rattle.site.specs.Steps.{owner_of, alone, quorum, no_step, on_second, step_second}
use Rattle.site.specs.Steps as steps
use Rattle.flight.specs.declared.Flight.{Flight}
use Rattle.flight.specs.Flights.{in_flight, good_to, taking_out, sending_all}
use Rattle.flight.specs.Shapes.{Shape as FlightShape}
use Rattle.flight.proofs.FlightLaws.{taking_shape}
use Rattle.machine.specs.declared.Board.{Board}
use Rattle.steps.specs.declared.Cut.{Cut}
use Rattle.machine.specs.Boards.{site_at, tally_at, is_down, board_flight}
use Rattle.steps.specs.declared.Cut.TheVariants.{Whole, After}
use Rattle.machine.specs.Calls.{carried_out, receipt_of, pooling, entering}
use Rattle.steps.specs.Causes.{is_cut}
use Rattle.machine.proofs.Shapes.{SiteShape}
use Rattle.machine.proofs.SoundFacts.{Offers, SiteSound}
use Rattle.invariants.proofs.SiteSound.{offers_with, offers_with_if, shape_with_if}
use Rattle.invariants.proofs.Judged.{Acts, ReceiptTaken}
use Rattle.invariants.proofs.CarriedOut.{sends_out, site_after}
use Rattle.invariants.proofs.FlightSound.{MessageSound}
use Rattle.invariants.proofs.Reached.{Good, good_flight, good_sites}
use Rattle.broadcast.specs.Counts.{count, majority}
use Rattle.broadcast.specs.Machine.{World, State, at2, clear, goes, joins, see, step, send_third, hear_second, take_second, down, down_if}
use Rattle.broadcast.specs.Machine as theory
use Rattle.broadcast.specs.Runs.{Event, second, Allowed, does, Receipt, heard_at, late_second, count_second}
use Rattle.broadcast.specs.Runs as runs
use Rattle.broadcast.proofs.Safety.{Safe}
use Rattle.agreement.proofs.World.{world_of, Earlier, owner_same, clash_same}
use Rattle.agreement.proofs.Casts.{Cast, out_of, cut_by, cast_none_lem, none_mask, cast_third_lem, third_live, eqb_turned}
use Rattle.agreement.proofs.Counted.{count_mask, clear_alone}
use Rattle.agreement.proofs.Entries.{NoEntry, none_out}
use Rattle.agreement.proofs.Seen.{cond_or, hear_own, hear_other, see_own, see_other, step_own, step_other}
use Rattle.agreement.proofs.Flown.{Flown, at2_is, at3_is, flown_none, take_is, send_is, flown_same, flown_taken, flown_sent, Moves, flown_shows}
use Rattle.agreement.proofs.Shows.{SiteShowsIn, TallyShowsIn, FlightShowsIn, OracleShows, Shows}
use Rattle.agreement.proofs.Ground.{W, Seen, nothing_out, out_same, same_n, few_sites, may_cut, is_up, down_site, down_tally, down_flight, down_oracle, down_offered, down_up, together}
use Rattle.agreement.proofs.OnFirst.{after_none}

module _ (last : Board) (g : Good last) (b : Board) (s : State) (k : Seen last g b s) (safe : Safe (W last g) s)
    (m r p : ℕ) (cut : Cut) (t : ReceiptTaken b SECOND m r p cut) where
  abbrev w : World
  w = W last g

  abbrev site : Site
  site = site_at b p

  abbrev tc : theory.Cut
  tc = cut_by (λ x. 0) cut

  message : MessageSound b.table b.setup.n b.flight SECOND m r p
  message = (good_flight b k.good).each SECOND m r p t.coming

  below : m < capacity
  below = (offered_below b.table m message.named).1

  few : b.setup.n ≤ sites
  few = good_sites b k.good

  n_is : b.setup.n ≡ w.n
  n_is = same_n last g b s k

  f_is : b.setup.f ≡ w.f
  f_is = ap (λ (v : Setup). v.f) k.earlier.same_setup

  lr : r < w.n
  lr = rw (← n_is) t.sender

  lp : p < w.n
  lp = rw (← n_is) t.acts.there

  hr : r < sites
  hr = omega (arith, t.sender, few)

  hp : p < sites
  hp = omega (arith, t.acts.there, few)

  pub second_allowed : Allowed w s (second m r p tc)
  second_allowed = (
    k.shows.flight.seconds_is m r p lr lp ∙ t.coming,
    record { sender = lr; receiver = lp; up = is_up last g b s k p lp t.acts.up; may_cut = may_cut last g b s k (λ x. 0) p (receipt_of b SECOND m r p) cut t.acts },
  )

  site_shape : SiteShape (site_at b p)
  site_shape = k.good.shape.each_site p hp

  site_ok : SiteSound b.table b.setup.n b.log.count (site_at b p)
  site_ok = k.good.sound.each_site p t.acts.there

  shown : SiteShowsIn w s p site
  shown = k.shows.each_site p lp

  taken : FlightShape (taking_out b.flight SECOND m r p)
  taken = taking_shape b.flight k.good.shape.flight SECOND m r p

  abbrev good_said : Bool
  good_said = has_bit (good_to b.flight m r) p

  -- ---- late on both sides

  abbrev late : Bool
  late = has_bit (heard_for site m) r || (leb (quorum b.setup) (ones (heard_for site m)) || has site.stepped m)

  heard_mask : heard_for site m < 2 ^ w.n
  heard_mask = rw (← n_is) (site_ok.heard m below).below

  late_is : late_second w s m r p ≡ late
  late_is = rw (shown.heard_is m r lr, count_mask (λ a. s.seconds.heard m a p) (heard_for site m) w.n heard_mask (λ a la. shown.heard_is m a la), shown.stepped_is m, n_is, f_is)

  -- ---- nothing sent: the site may have heard the message

  -- the state with other SECONDs heard
  abbrev hearing : (ℕ → ℕ → ℕ → Bool) → (ℕ → ℕ → ℕ → Bool) → State
  hearing heard agreed = theory.set_seconds s (record { sent = s.seconds.sent; good = s.seconds.good; heard = heard; agreed = agreed })

  none_reached : (v : ℕ) → v < sites → false ≡ false
  none_reached v lt = refl

  abbrev cast_none : Cast (taking_out b.flight SECOND m r p) p THIRD m false empty_set [] (λ v. false)
  cast_none = cast_none_lem (taking_out b.flight SECOND m r p) taken p m THIRD false empty_set (λ v. false) none_reached

  abbrev gone : (ℕ → ℕ → ℕ → Bool) → (ℕ → ℕ → ℕ → Bool) → State
  gone heard agreed = take_second w (hearing heard agreed) m r p

  gone_moves : (heard agreed : ℕ → ℕ → ℕ → Bool) → Moves w (few_sites last g b s k) b.flight k.good.shape.flight SECOND m r p below hr hp
      THIRD false empty_set [] (λ v. false) taken cast_none (omega arith) (empty_shape words)
      s.firsts s.seconds.sent s.seconds.good s.thirds.sent s.thirds.carried s.delivers.sent
      (gone heard agreed).firsts (gone heard agreed).seconds.sent (gone heard agreed).seconds.good (gone heard agreed).thirds.sent (gone heard agreed).thirds.carried (gone heard agreed).delivers.sent
  unfolding take_second
  gone_moves heard agreed = record {
    firsts_moves = λ x a y. sym (flown_same SECOND THIRD m r p (λ v. false) FIRST (s.firsts x a y) x a y refl refl);
    seconds_move = λ x a y. take_is s.seconds.sent (s.seconds.sent x a y) m r p x a y refl ∙ sym (flown_taken SECOND THIRD m r p (λ v. false) SECOND (s.seconds.sent x a y) x a y refl refl);
    good_moves = λ x a y. ap (λ (c : Bool). cond c false (s.seconds.good x a y)) (at3_is m r p x a y);
    thirds_move = λ x a. sym (flown_none SECOND m r p THIRD (s.thirds.sent x a) x a (w.owner x) refl);
    carried_moves = λ x a y. rw (none_mask (taking_out b.flight SECOND m r p) taken p m THIRD false empty_set (λ v. false) none_reached);
    delivers_move = λ x a y. sym (flown_same SECOND THIRD m r p (λ v. false) DELIVER (s.delivers.sent x a y) x a y refl refl);
  }

  quiet_shows : (heard agreed : ℕ → ℕ → ℕ → Bool) (new : Site) → SiteShowsIn w (hearing heard agreed) p new
      → ((q : ℕ) → q < w.n → q ≢ p → SiteShowsIn w (hearing heard agreed) q (site_at b q))
      → Shows w (carried_out (board_flight b (taking_out b.flight SECOND m r p)) p m (no_step new (tally_at b m)) cut) (down_if w tc (gone heard agreed) p)
  quiet_shows heard agreed new own others =
      let step_is = no_step new (tally_at b m) in
      let x = gone heard agreed in
      together w b b.table (taking_out b.flight SECOND m r p) p m step_is cut (down_if w tc x p)
      (omega (arith, k.good.shape.sites_long, hp)) (omega (arith, k.good.shape.tallies_long, below))
      (λ v. down_offered w x p tc v ∙ unfold take_second in k.shows.offers v)
      (λ q lq. down_up w x p (λ v. 0) cut q (is_down b q) (unfold take_second in k.shows.up q lq))
      (rw (after_none step_is cut refl) (down_site w x p tc p new (unfold take_second in own)))
      (λ q lq d. down_site w x p tc q (site_at b q) (unfold take_second in others q lq d))
      (down_tally w x p tc m (tally_at b m) (unfold take_second in k.shows.each_tally m))
      (λ v d. down_tally w x p tc v (tally_at b v) (unfold take_second in k.shows.each_tally v))
      (rw (nothing_out (no_step new (tally_at b m)) cut refl) (down_flight w x p tc _ (flown_shows w (few_sites last g b s k) b.flight k.good.shape.flight SECOND m r p below hr hp
      THIRD false empty_set [] (λ v. false) taken cast_none (omega arith) (empty_shape words)
      s.firsts s.seconds.sent s.seconds.good s.thirds.sent s.thirds.carried s.delivers.sent
      x.firsts x.seconds.sent x.seconds.good x.thirds.sent x.thirds.carried x.delivers.sent (gone_moves heard agreed) k.shows.flight)))
      (rw (nothing_out (no_step new (tally_at b m)) cut refl) (unfold pooling entering in down_oracle w x p tc b.pool b.entries b.log (unfold take_second in k.shows.oracle)))

  -- ---- heard

  others_shown : (q : ℕ) → q < w.n → q ≢ p → SiteShowsIn w s q (site_at b q)
  others_shown q lq d = k.shows.each_site q lq

  abbrev after : Site
  after = site_heard site m (plus (heard_for site m) r) (plus_if (good_for site m) r good_said)

  abbrev one : State
  one = hear_second w s m r p

  module _ (fresh : has_bit (heard_for site m) r ≡ false) where
    not_agreed : has_bit (good_for site m) r ≡ false
    not_agreed = not_so (has_bit (good_for site m) r) (λ h. never (sym (shown.heard_is m r lr) ∙ safe.voting.agreed_heard m r p (shown.agreed_is m r lr ∙ h)) fresh)

    heard_own : SiteShowsIn w one p after
    heard_own = hear_own w s m r p good_said site site_shape below (k.shows.flight.good_is m r p lr lp) fresh not_agreed shown

    heard_others : (q : ℕ) → q < w.n → q ≢ p → SiteShowsIn w one q (site_at b q)
    heard_others q lq d = hear_other w s m r p q (site_at b q) d (others_shown q lq d)

    after_shape : SiteShape after
    after_shape = record {
      seen = site_shape.seen;
      held = site_shape.held;
      stepped = site_shape.stepped;
      finished = site_shape.finished;
      got = site_shape.got;
      heard = length-set site.heard m (plus (heard_for site m) r) ∙ site_shape.heard;
      good = length-set site.good m (plus_if (good_for site m) r good_said) ∙ site_shape.good;
      delivered = site_shape.delivered;
    }

    heard_now : heard_for after m ≡ plus (heard_for site m) r
    heard_now = get_or-set_same site.heard m (plus (heard_for site m) r) 0 (omega (arith, site_shape.heard, below))

    good_now : good_for after m ≡ plus_if (good_for site m) r good_said
    good_now = get_or-set_same site.good m (plus_if (good_for site m) r good_said) 0 (omega (arith, site_shape.good, below))

    mask_now : plus (heard_for site m) r < 2 ^ w.n
    mask_now = or_lt w.n (heard_for site m) (2 ^ r) heard_mask (pow-lt lr)

    count_now : heard_at w one m p ≡ ones (plus (heard_for site m) r)
    count_now = count_mask (λ a. one.seconds.heard m a p) (plus (heard_for site m) r) w.n mask_now (λ a la. heard_own.heard_is m a la ∙ ap (λ (v : ℕ). has_bit v a) heard_now)

    last_is : leb (w.n - w.f) (heard_at w one m p) ≡ leb (quorum b.setup) (ones (plus (heard_for site m) r))
    last_is = rw (count_now, n_is, f_is)

    -- ---- the (n - f)th

    abbrev conflicts : Set
    conflicts = conflict_set b.setup.matrix b.table m

    abbrev seen_now : Set
    seen_now = with site.seen m

    abbrev joins_now : Bool
    joins_now = steps.majority b.setup (bit_and (good_for after m) (heard_for after m)) && alone seen_now conflicts m

    abbrev held_now : Set
    held_now = with_if site.held m joins_now

    abbrev saw : State
    saw = see w one m p

    saw_own : SiteShowsIn w saw p (site_seen after seen_now)
    saw_own = see_own w one m p after after_shape below heard_own

    seen_shape : Shape seen_now
    seen_shape = insert_shape site.seen.words m site_shape.seen

    -- GOOD was only ever said by those heard
    good_bits : (a : ℕ) → a < w.n → has_bit (bit_and (good_for after m) (heard_for after m)) a ≡ has_bit (good_for after m) a
    good_bits a la = has_bit_and (good_for after m) (heard_for after m) a ∙ and_implied (has_bit (good_for after m) a) (has_bit (heard_for after m) a) (λ h.
        rw heard_now (has_bit_set (heard_for site m) r a ∙ elim (ℕ_discrete a r) [
          | yes e ↦ or_right (has_bit (heard_for site m) a) (eqb a r) (eq-eqb a r e)
          | no d ↦ or_left (has_bit (heard_for site m) a) (eqb a r)
              (sym (shown.heard_is m a la) ∙ safe.voting.agreed_heard m a p (shown.agreed_is m a la ∙ old a d (rw good_now at h)))
        ]))
      where
        old : (a : ℕ) → a ≢ r → has_bit (plus_if (good_for site m) r good_said) a ≡ true → has_bit (good_for site m) a ≡ true
        old a d h = go good_said h
          where
            go : (v : Bool) → has_bit (plus_if (good_for site m) r v) a ≡ true → has_bit (good_for site m) a ≡ true
            go true h = elim (or_cases (has_bit (good_for site m) a) (eqb a r) (sym (has_bit_set (good_for site m) r a) ∙ h)) [ inl x ↦ x | inr x ↦ absurd (d (eqb-true a r x)) ]
            go false h = h

    good_mask : bit_and (good_for after m) (heard_for after m) < 2 ^ w.n
    good_mask = rw (heard_now, good_now) (and_lt w.n (plus_if (good_for site m) r good_said) (plus (heard_for site m) r) (go good_said) mask_now)
      where
        old : good_for site m < 2 ^ w.n
        old = rw (← n_is) (site_ok.good m below).below

        go : (v : Bool) → plus_if (good_for site m) r v < 2 ^ w.n
        go true = or_lt w.n (good_for site m) (2 ^ r) old (pow-lt lr)
        go false = old

    joins_is : joins w saw m p ≡ joins_now
    joins_is =
        let agreed = count_mask (λ a. saw.seconds.agreed m a p) (bit_and (good_for after m) (heard_for after m)) w.n good_mask (λ a la. saw_own.agreed_is m a la ∙ sym (good_bits a la)) in
        let free = clear_alone b.setup.matrix b.table seen_now m seen_shape below
        (offers_with b.table site.seen m site_shape.seen message.named site_ok.seen)
        w (saw.sets.seen p) refl (λ x. saw_own.seen_is x) (λ x o. clash_same b last k.earlier m x message.named o) in
        rw (agreed, free, n_is)

    abbrev stepped : State
    stepped = step w saw m p

    stepped_own : SiteShowsIn w stepped p (site_stepped after seen_now (with site.stepped m) held_now)
    stepped_own = step_own w saw m p joins_now (site_seen after seen_now) (record {
      seen = seen_shape;
      held = site_shape.held;
      stepped = site_shape.stepped;
      finished = site_shape.finished;
      got = site_shape.got;
      heard = after_shape.heard;
      good = after_shape.good;
      delivered = site_shape.delivered;
    }) below joins_is saw_own

    stepped_others : (q : ℕ) → q < w.n → q ≢ p → SiteShowsIn w stepped q (site_at b q)
    stepped_others q lq d = step_other w saw m p q (site_at b q) d (see_other w one m p q (site_at b q) d (heard_others q lq d))

    -- THIRD goes to the owner

    abbrev to : ℕ
    to = owner_of b.table m

    owner_is : w.owner m ≡ to
    owner_is = owner_same b last k.earlier m message.named

    to_site : to < sites
    to_site = omega (arith, k.good.sound.owners m message.named, few)

    abbrev load : Set
    load = meet held_now conflicts

    load_shape : Shape load
    load_shape = intersect_shape held_now.words conflicts.words (shape_with_if site.held m joins_now site_shape.held) (conflict_set_shape b.setup.matrix b.table m)

    abbrev out : List Send
    out = out_of (third m to load ∷ []) cut

    abbrev reaches : ℕ → Bool
    reaches v = eqb v to && goes tc v

    abbrev cast_third : Cast (taking_out b.flight SECOND m r p) p THIRD m false load out reaches
    cast_third = cast_third_lem (taking_out b.flight SECOND m r p) taken p m to load to_site cut

    abbrev sent_out : State
    sent_out = take_second w (send_third w stepped m p tc) m r p

    -- what it carries
    load_is : (y : ℕ) → (stepped.sets.held p y && (eqb m y || w.conflict m y)) ≡ has load y
    load_is y =
        ap (λ (v : Bool). v && (eqb m y || w.conflict m y)) (stepped_own.held_is y) ∙ shared (test (has held_now y))
        ∙ sym (member_intersect held_now.words conflicts.words y)
      where
        held_ok : Offers b.table held_now
        held_ok = offers_with_if b.table site.held m joins_now site_shape.held message.named site_ok.held

        shared : (has held_now y ≡ true) ⊎ (has held_now y ≡ false) → (has held_now y && (eqb m y || w.conflict m y)) ≡ (has held_now y && has conflicts y)
        shared (inr h) = rw h
        shared (inl h) =
            let o = held_ok y h in
            rw h (rw (has_conflict_set b.setup.matrix b.table m y (offered_below b.table y o).1, o, clash_same b last k.earlier m y message.named o, eqb_turned m y)
            (or_comm (eqb y m) (conflict b.setup.matrix b.table m y)))

    sent_moves : Moves w (few_sites last g b s k) b.flight k.good.shape.flight SECOND m r p below hr hp
        THIRD false load out reaches taken cast_third (omega arith) load_shape
        s.firsts s.seconds.sent s.seconds.good s.thirds.sent s.thirds.carried s.delivers.sent
        sent_out.firsts sent_out.seconds.sent sent_out.seconds.good sent_out.thirds.sent sent_out.thirds.carried sent_out.delivers.sent
    sent_moves = record {
      firsts_moves = λ x a y. unfold take_second send_third step see hear_second in sym (flown_same SECOND THIRD m r p reaches FIRST (s.firsts x a y) x a y refl refl);
      seconds_move = λ x a y. unfold take_second send_third step see hear_second in
          take_is s.seconds.sent (s.seconds.sent x a y) m r p x a y refl ∙ sym (flown_taken SECOND THIRD m r p reaches SECOND (s.seconds.sent x a y) x a y refl refl);
      good_moves = λ x a y. unfold take_second send_third step see hear_second in ap (λ (c : Bool). cond c false (s.seconds.good x a y)) (at3_is m r p x a y);
      thirds_move = λ x a. unfold take_second send_third step see hear_second in
          ap (λ (c : Bool). cond c true (s.thirds.sent x a)) (hit x a) ∙ cond_or ((eqb x m && eqb a p) && reaches (w.owner x)) (s.thirds.sent x a)
          ∙ sym (flown_sent SECOND THIRD m r p reaches THIRD (s.thirds.sent x a) x a (w.owner x) refl refl);
      carried_moves = λ x a y. unfold take_second send_third step see hear_second in
          ap (λ (v : Bool). cond (at2 m p x a && goes tc (w.owner m)) v (s.thirds.carried x a y)) (unfold step see hear_second in load_is y)
          ∙ ap (λ (c : Bool). cond c (has load y) (s.thirds.carried x a y)) (out_hit x a);
      delivers_move = λ x a y. unfold take_second send_third step see hear_second in sym (flown_same SECOND THIRD m r p reaches DELIVER (s.delivers.sent x a y) x a y refl refl);
    }
      where
        hit : (x a : ℕ) → (at2 m p x a && goes tc (w.owner m)) ≡ ((eqb x m && eqb a p) && reaches (w.owner x))
        hit x a = elim (ℕ_discrete x m) [
          | yes e ↦ rw (at2_is m p x a, e, eq-eqb (w.owner m) to owner_is)
          | no d ↦ rw (at2_is m p x a, ne_eqb x m d)
        ]

        out_hit : (x a : ℕ) → (at2 m p x a && goes tc (w.owner m)) ≡ (not (eqb cast_third.mask 0) && (eqb x m && eqb a p))
        out_hit x a =
            rw (at2_is m p x a, third_live (taking_out b.flight SECOND m r p) taken p m to load to_site cut (w.owner m)) (and_comm (eqb x m && eqb a p) (goes tc (w.owner m)))

    sent_shows : Shows w (carried_out (board_flight b (taking_out b.flight SECOND m r p)) p m (step_second b.setup b.table after (tally_at b m) m) cut) (down_if w tc sent_out p)
    unfolding step_second
    sent_shows =
        let step_is = step_second b.setup b.table after (tally_at b m) m in
        together w b b.table (taking_out b.flight SECOND m r p) p m step_is cut (down_if w tc sent_out p)
        (omega (arith, k.good.shape.sites_long, hp)) (omega (arith, k.good.shape.tallies_long, below))
        (λ v. down_offered w sent_out p tc v ∙ unfold take_second send_third step see hear_second in k.shows.offers v)
        (λ q lq. down_up w sent_out p (λ v. 0) cut q (is_down b q) (unfold take_second send_third step see hear_second in k.shows.up q lq))
        (rw (after_none step_is cut refl) (down_site w sent_out p tc p (site_stepped after seen_now (with site.stepped m) held_now) (unfold take_second send_third in stepped_own)))
        (λ q lq d. down_site w sent_out p tc q (site_at b q) (unfold take_second send_third in stepped_others q lq d))
        (down_tally w sent_out p tc m (tally_at b m) (unfold take_second send_third step see hear_second in k.shows.each_tally m))
        (λ v d. down_tally w sent_out p tc v (tally_at b v) (unfold take_second send_third step see hear_second in k.shows.each_tally v))
        (rw (out_same step_is cut) (down_flight w sent_out p tc _ (flown_shows w (few_sites last g b s k) b.flight k.good.shape.flight SECOND m r p below hr hp
        THIRD false load out reaches taken cast_third (omega arith) load_shape
        s.firsts s.seconds.sent s.seconds.good s.thirds.sent s.thirds.carried s.delivers.sent
        sent_out.firsts sent_out.seconds.sent sent_out.seconds.good sent_out.thirds.sent sent_out.thirds.carried sent_out.delivers.sent sent_moves k.shows.flight)))
        (rw (out_same step_is cut, no_entry.pool_same b.pool, no_entry.entries_same b.entries)
        (down_oracle w sent_out p tc b.pool b.entries b.log (unfold take_second send_third step see hear_second in k.shows.oracle)))
      where
        no_entry : NoEntry out
        no_entry = none_out (third m to load ∷ []) cut (refl, tt)

  pub second_shows : Shows w (carried_out (board_flight b (taking_out b.flight SECOND m r p)) p m (on_second b.setup b.table site (tally_at b m) m r good_said) cut) (does w s (second m r p tc))
  unfolding runs.on_second on_second count_second
  second_shows = go late (late_second w s m r p) refl late_is
    where
      step_is : Bool → Bool → Step
      step_is u v = cond u (no_step site (tally_at b m)) (cond v (step_second b.setup b.table after (tally_at b m) m) (no_step after (tally_at b m)))

      last_now : Bool
      last_now = leb (quorum b.setup) (ones (plus (heard_for site m) r))

      in_time : late ≡ false → (u v : Bool) → u ≡ v
          → Shows w (carried_out (board_flight b (taking_out b.flight SECOND m r p)) p m (step_is false u) cut) (down_if w tc (take_second w (cond v (send_third w (step w (see w one m p) m p) m p tc) one) m r p) p)
      in_time h true true e = sent_shows (or_neither (has_bit (heard_for site m) r) (leb (quorum b.setup) (ones (heard_for site m)) || has site.stepped m) h).0
      in_time h false false e =
          let fresh = (or_neither (has_bit (heard_for site m) r) (leb (quorum b.setup) (ones (heard_for site m)) || has site.stepped m) h).0 in
          unfold hear_second in quiet_shows one.seconds.heard one.seconds.agreed after (unfold hear_second in heard_own fresh) (λ q lq d. unfold hear_second in heard_others fresh q lq d)
      in_time h true false e = absurd (never refl e)
      in_time h false true e = absurd (never e refl)

      go : (u v : Bool) → late ≡ u → v ≡ u
          → Shows w (carried_out (board_flight b (taking_out b.flight SECOND m r p)) p m (step_is u last_now) cut) (down_if w tc (take_second w (cond v s (count_second w one m p tc)) m r p) p)
      go true true h e = quiet_shows s.seconds.heard s.seconds.agreed site shown others_shown
      go false false h e =
          in_time h last_now (leb (w.n - w.f) (heard_at w one m p)) (sym (last_is (or_neither (has_bit (heard_for site m) r) (leb (quorum b.setup) (ones (heard_for site m)) || has site.stepped m) h).0))
      go true false h e = absurd (never e refl)
      go false true h e = absurd (never refl e)
