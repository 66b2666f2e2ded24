-- A receipt of THIRD at the owner is the theory's event: without effect, heard, or the (n - f)th, which goes by DELIVER or into the pool.
-- Rests on Ground, Flown, Seen and Counted. Assumes nothing.
use Prim.Native.Nat.{ℕ, zero, suc, ◌-◌, ◌*◌, ◌^◌, ◌<◌, ◌≤◌}
use mathlib.Core.Path.{◌≡◌, refl, sym, ap, ◌∙◌}
use mathlib.Core.Logic.{◌⊎◌, inl, inr, ◌≢◌}
use mathlib.Core.Bool.{Bool, true, false, cond, not, ◌&&◌, ◌||◌, and-false, and-true, or-false}
use mathlib.Core.List.{List, [], ◌∷◌}
use native.Mathlib.Omega.{arith}
use native.Mathlib.Decide.{ℕ_discrete}
use lib.Dec.{eqb, ltb, leb}
use lib.Bits.{bit_and, or_lt, and_lt}
use lib.Count.{ones}
use lib.ListN.{length, get_or, set}
use lib.Seq.{take-nil, get_or-set_same, get_or-set_other}
use lib.Pow.{pow-lt}
use borrow.Author.Tests.{eqb-true, eq-eqb, ne_eqb, lt-ltb, le-ltb}
use Rattle.sets.specs.declared.Set.{Set}
use Rattle.sets.proofs.Truth.{test, never, not_so, and_left, and_right, and_intro, and_implied, or_cases, or_left, or_right, or_neither}
use Rattle.sets.specs.Masks.{has_bit}
use Rattle.sets.proofs.MaskLaws.{has_bit_and, has_bit_set}
use Rattle.sets.proofs.WordLaws.{empty_shape, insert_shape, union_shape, member_union, member_insert}
use Rattle.sets.specs.Sets.{words, capacity, has, with, join, empty_set, Shape}
use Rattle.posting.specs.declared.Record.{Record}
use Rattle.posting.specs.Conflicts.{offered}
use Rattle.posting.proofs.ConflictLaws.{offered_below}
use Rattle.site.specs.declared.Site.{Site}
use Rattle.site.specs.declared.Setup.{Setup}
use Rattle.site.specs.declared.Tally.{Tally}
use Rattle.site.specs.Sites.{sites, no_set, plus, plus_if, site_finished}
use Rattle.site.specs.Sends.{FIRST, SECOND, THIRD, DELIVER, forms, Send, deliver, entry, to_all, Step}
use Rattle.site.specs.Steps.{owner_of, quorum, no_step, tallied, on_third, step_third}
use Rattle.site.specs.Steps as steps
use Rattle.flight.specs.declared.Flight.{Flight}
use Rattle.flight.specs.Flights.{in_flight, carried_by, taking_out, sending_all}
use Rattle.flight.specs.Shapes.{Shape as FlightShape}
use Rattle.flight.proofs.FlightLaws.{taking_shape}
use Rattle.flight.proofs.BroadcastLaws.{deliver_broadcast}
use Rattle.machine.specs.declared.Board.{Board}
use Rattle.steps.specs.declared.Cut.{Cut}
use Rattle.steps.specs.declared.Cut.TheVariants.{Whole, After}
use Rattle.machine.specs.Boards.{site_at, tally_at, is_down, board_flight}
use Rattle.machine.specs.Calls.{carried_out, receipt_of, pooling, entering}
use Rattle.steps.specs.Causes.{is_cut}
use Rattle.machine.proofs.Shapes.{SiteShape}
use Rattle.machine.proofs.SoundFacts.{SiteSound, TallySound}
use Rattle.invariants.proofs.Judged.{Acts, ReceiptTaken}
use Rattle.invariants.proofs.CarriedOut.{sends_out, site_after}
use Rattle.invariants.proofs.FlightSound.{MessageSound}
use Rattle.invariants.proofs.Reached.{Good, good_flight, good_sites}
use Rattle.broadcast.specs.Counts.{count, majority}
use Rattle.broadcast.specs.Machine.{World, State, at2, goes, hear_third, take_third, finish, send_deliver, enter_pool, down, down_if}
use Rattle.broadcast.specs.Machine as theory
use Rattle.broadcast.specs.Runs.{Event, third, Allowed, does, Receipt, heard_of, late_third, count_third, conclude}
use Rattle.broadcast.specs.Runs as runs
use Rattle.broadcast.proofs.Safety.{Safe}
use Rattle.agreement.proofs.World.{world_of, Earlier, owner_same}
use Rattle.agreement.proofs.Casts.{Cast, out_of, cut_by, cast_none_lem, cast_all, cast_entry, eqb_turned}
use Rattle.agreement.proofs.Counted.{count_mask}
use Rattle.agreement.proofs.Entries.{NoEntry, none_out, none_all}
use Rattle.agreement.proofs.Seen.{cond_or, finish_own, finish_other}
use Rattle.agreement.proofs.Flown.{Flown, at2_is, send_is, flown_same, flown_taken, flown_sent, flown_none, Moves, flown_shows}
use Rattle.agreement.proofs.Shows.{SiteShowsIn, TallyShowsIn, FlightShowsIn, OracleShows, Shows}
use Rattle.agreement.proofs.Ground.{W, Seen, nothing_out, out_same, same_n, few_sites, may_cut, is_up, down_site, down_tally, down_flight, down_oracle, down_offered, down_up, together}
use Rattle.agreement.proofs.OnFirst.{after_none}

module _ (last : Board) (g : Good last) (b : Board) (s : State) (k : Seen last g b s) (safe : Safe (W last g) s)
    (m r p : ℕ) (cut : Cut) (t : ReceiptTaken b THIRD m r p cut) where
  abbrev w : World
  w = W last g

  abbrev site : Site
  site = site_at b p

  abbrev tally : Tally
  tally = tally_at b m

  abbrev carried : Set
  carried = carried_by b.flight m r

  abbrev after : Tally
  after = tallied tally m r carried

  -- more than n/2 of the carried sets contain m
  abbrev fast : Bool
  fast = steps.majority b.setup (bit_and after.has after.heard)

  abbrev tc : theory.Cut
  tc = cut_by (λ x. cond fast x 0) cut

  message : MessageSound b.table b.setup.n b.flight THIRD m r p
  message = (good_flight b k.good).each THIRD m r p t.coming

  below : m < capacity
  below = (offered_below b.table m message.named).1

  few : b.setup.n ≤ sites
  few = good_sites b k.good

  n_is : b.setup.n ≡ w.n
  n_is = same_n last g b s k

  f_is : b.setup.f ≡ w.f
  f_is = ap (λ (v : Setup). v.f) k.earlier.same_setup

  lr : r < w.n
  lr = rw (← n_is) t.sender

  lp : p < w.n
  lp = rw (← n_is) t.acts.there

  hr : r < sites
  hr = omega (arith, t.sender, few)

  hp : p < sites
  hp = omega (arith, t.acts.there, few)

  -- p owns m
  owner_is : w.owner m ≡ p
  owner_is = owner_same b last k.earlier m message.named ∙ sym (message.to_owner refl)

  pub third_allowed : Allowed w s (third m r tc)
  third_allowed = (
    k.shows.flight.thirds_is m r lr ∙ rw owner_is t.coming,
    rw owner_is (record { sender = lr; receiver = lp; up = is_up last g b s k p lp t.acts.up; may_cut = may_cut last g b s k (λ x. cond fast x 0) p (receipt_of b THIRD m r p) cut t.acts }),
  )

  site_shape : SiteShape (site_at b p)
  site_shape = k.good.shape.each_site p hp

  tally_ok : TallySound b.table b.setup.n m (tally_at b m)
  tally_ok = k.good.sound.each_tally m below

  shown : SiteShowsIn w s p site
  shown = k.shows.each_site p lp

  tallied_shown : TallyShowsIn w s m tally
  tallied_shown = k.shows.each_tally m

  taken : FlightShape (taking_out b.flight THIRD m r p)
  taken = taking_shape b.flight k.good.shape.flight THIRD m r p

  -- ---- late on both sides

  abbrev late : Bool
  late = has_bit tally.heard r || (leb (quorum b.setup) (ones tally.heard) || has site.finished m)

  heard_mask : tally.heard < 2 ^ w.n
  heard_mask = rw (← n_is) tally_ok.heard_ok.below

  late_is : late_third w s m r ≡ late
  late_is = rw (tallied_shown.heard_is r lr, count_mask (λ a. s.thirds.heard m a) tally.heard w.n heard_mask (λ a la. tallied_shown.heard_is a la), shown.finished_is m owner_is, n_is, f_is)

  -- ---- heard

  abbrev one : State
  one = hear_third w s m r

  module _ (fresh : has_bit tally.heard r ≡ false) where
    not_had : has_bit tally.has r ≡ false
    not_had = not_so (has_bit tally.has r) (λ h. never (sym (tallied_shown.heard_is r lr) ∙ safe.tallies.has_heard m r (tallied_shown.has_is r lr ∙ h)) fresh)

    heard_tally : TallyShowsIn w one m after
    unfolding hear_third
    heard_tally = record {
      heard_is = λ a la. rw (eq-eqb m m refl, tallied_shown.heard_is a la, eqb_turned r a) (cond_or (eqb a r) (has_bit tally.heard a) ∙ sym (has_bit_set tally.heard r a));
      has_is = λ a la. rw (eq-eqb m m refl, tallied_shown.has_is a la, k.shows.flight.carried_is m r m lr, eqb_turned r a) (told (has carried m) a);
      union_is = λ y. rw (eq-eqb m m refl, tallied_shown.union_is y, k.shows.flight.carried_is m r y lr) (sym (member_union tally.union.words carried.words y));
    }
      where
        told : (v : Bool) (a : ℕ) → cond (eqb a r) v (has_bit tally.has a) ≡ has_bit (plus_if tally.has r v) a
        told true a = cond_or (eqb a r) (has_bit tally.has a) ∙ sym (has_bit_set tally.has r a)
        told false a = elim (ℕ_discrete a r) [ yes d ↦ rw (eq-eqb a r d) (sym (rw d not_had)) | no d ↦ rw (ne_eqb a r d) ]

    other_tally : (x : ℕ) → x ≢ m → TallyShowsIn w one x (tally_at b x)
    unfolding hear_third
    other_tally x d = record {
      heard_is = λ a la. rw (ne_eqb m x (λ e. d (sym e))) ((k.shows.each_tally x).heard_is a la);
      has_is = λ a la. rw (ne_eqb m x (λ e. d (sym e))) ((k.shows.each_tally x).has_is a la);
      union_is = λ y. rw (ne_eqb m x (λ e. d (sym e))) (or-false (s.thirds.union x y) ∙ (k.shows.each_tally x).union_is y);
    }

    mask_now : plus tally.heard r < 2 ^ w.n
    mask_now = or_lt w.n tally.heard (2 ^ r) heard_mask (pow-lt lr)

    last_is : leb (w.n - w.f) (heard_of w one m) ≡ leb (quorum b.setup) (ones (plus tally.heard r))
    last_is = rw (count_mask (λ a. one.thirds.heard m a) (plus tally.heard r) w.n mask_now (λ a la. heard_tally.heard_is a la), n_is, f_is)

    -- only sets that were heard had m
    had_bits : (a : ℕ) → a < w.n → has_bit (bit_and after.has after.heard) a ≡ has_bit after.has a
    had_bits a la = has_bit_and after.has after.heard a ∙ and_implied (has_bit after.has a) (has_bit after.heard a) (λ h.
        has_bit_set tally.heard r a ∙ elim (ℕ_discrete a r) [
          | yes e ↦ or_right (has_bit tally.heard a) (eqb a r) (eq-eqb a r e)
          | no d ↦ or_left (has_bit tally.heard a) (eqb a r)
              (sym (tallied_shown.heard_is a la) ∙ safe.tallies.has_heard m a (tallied_shown.has_is a la ∙ old a d (has carried m) h))
        ])
      where
        old : (a : ℕ) → a ≢ r → (v : Bool) → has_bit (plus_if tally.has r v) a ≡ true → has_bit tally.has a ≡ true
        old a d true h = elim (or_cases (has_bit tally.has a) (eqb a r) (sym (has_bit_set tally.has r a) ∙ h)) [ inl x ↦ x | inr x ↦ absurd (d (eqb-true a r x)) ]
        old a d false h = h

    had_mask : bit_and after.has after.heard < 2 ^ w.n
    had_mask = and_lt w.n after.has after.heard (go (has carried m)) mask_now
      where
        old : tally.has < 2 ^ w.n
        old = rw (← n_is) tally_ok.has_ok.below

        go : (v : Bool) → plus_if tally.has r v < 2 ^ w.n
        go true = or_lt w.n tally.has (2 ^ r) old (pow-lt lr)
        go false = old

    fast_is : majority (λ a. one.thirds.has m a) w.n ≡ fast
    fast_is = rw (count_mask (λ a. one.thirds.has m a) (bit_and after.has after.heard) w.n had_mask (λ a la. heard_tally.has_is a la ∙ sym (had_bits a la)), n_is)

  -- ---- the THIRD leaves the flight

  third_gone : (x a : ℕ) (o : Bool) → cond (at2 m r x a) false o ≡ (o && not ((eqb x m && eqb a r) && eqb (w.owner x) p))
  third_gone x a o = rw (at2_is m r x a) (elim (ℕ_discrete x m) [
    | yes e ↦ rw (e, eq-eqb m m refl, eq-eqb (w.owner m) p owner_is) (rw (and-true (eqb a r)) (gone (eqb a r) o))
    | no d ↦ rw (ne_eqb x m d) (sym (and-true o))
  ])
    where
      gone : (c o : Bool) → cond c false o ≡ (o && not c)
      gone true true = refl
      gone true false = refl
      gone false o = sym (and-true o)

  none_reached : (v : ℕ) → v < sites → false ≡ false
  none_reached v lt = refl

  -- what else is in flight, where nothing or only DELIVERs are sent
  module _ (so : Bool) (load : Set) (sends : List Send) (reaches : ℕ → Bool) (cast : Cast (taking_out b.flight THIRD m r p) p DELIVER m so load sends reaches) (load_shape : Shape load)
      (x : State) (firsts_same : x.firsts ≡ s.firsts) (seconds-same : x.seconds ≡ s.seconds)
      (sent-same : x.thirds.sent ≡ s.thirds.sent) (carried_same : x.thirds.carried ≡ s.thirds.carried)
      (delivers-now : (y a v : ℕ) → x.delivers.sent y a v ≡ (s.delivers.sent y a v || (eqb y m && eqb a p) && reaches v)) where
    third_moves : Moves w (few_sites last g b s k) b.flight k.good.shape.flight THIRD m r p below hr hp
        DELIVER so load sends reaches taken cast (omega arith) load_shape
        s.firsts s.seconds.sent s.seconds.good s.thirds.sent s.thirds.carried s.delivers.sent
        (take_third w x m r).firsts (take_third w x m r).seconds.sent (take_third w x m r).seconds.good (take_third w x m r).thirds.sent (take_third w x m r).thirds.carried (take_third w x m r).delivers.sent
    unfolding take_third
    third_moves = record {
      firsts_moves = λ y a v. ap (λ (f : ℕ → ℕ → ℕ → Bool). f y a v) firsts_same ∙ sym (flown_same THIRD DELIVER m r p reaches FIRST (s.firsts y a v) y a v refl refl);
      seconds_move = λ y a v. ap (λ (q : theory.Seconds). q.sent y a v) seconds-same ∙ sym (flown_same THIRD DELIVER m r p reaches SECOND (s.seconds.sent y a v) y a v refl refl);
      good_moves = λ y a v. ap (λ (q : theory.Seconds). q.good y a v) seconds-same;
      thirds_move = λ y a. ap (λ (f : ℕ → ℕ → Bool). cond (at2 m r y a) false (f y a)) sent-same ∙ third_gone y a (s.thirds.sent y a)
          ∙ sym (flown_taken THIRD DELIVER m r p reaches THIRD (s.thirds.sent y a) y a (w.owner y) refl refl);
      carried_moves = λ y a v. ap (λ (f : ℕ → ℕ → ℕ → Bool). cond (at2 m r y a) false (f y a v)) carried_same ∙ ap (λ (c : Bool). cond c false (s.thirds.carried y a v)) (at2_is m r y a);
      delivers_move = λ y a v. delivers-now y a v ∙ sym (flown_sent THIRD DELIVER m r p reaches DELIVER (s.delivers.sent y a v) y a v refl refl);
    }

    third_together : (step_is : Step) (new : Site) → step_is.site ≡ new → step_is.delivers ≡ [] → sends_out step_is cut ≡ sends
        → ((y : ℕ) → x.offered y ≡ s.offered y) → ((q : ℕ) → x.sites.up q ≡ s.sites.up q)
        → SiteShowsIn w x p new → ((q : ℕ) → q < w.n → q ≢ p → SiteShowsIn w x q (site_at b q))
        → TallyShowsIn w x m step_is.tally → ((y : ℕ) → y ≢ m → TallyShowsIn w x y (tally_at b y))
        → OracleShows w x.oracle (pooling b.pool sends) (entering b.entries sends) b.log
        → Shows w (carried_out (board_flight b (taking_out b.flight THIRD m r p)) p m step_is cut) (down_if w tc (take_third w x m r) (w.owner m))
    third_together step_is new site-is delivers_is sends-is offered_same up_same own others tallied-now tallies oracle =
        let y = take_third w x m r in
        let o = w.owner m in
        together w b b.table (taking_out b.flight THIRD m r p) p m step_is cut (down_if w tc y o)
        (omega (arith, k.good.shape.sites_long, hp)) (omega (arith, k.good.shape.tallies_long, below))
        (λ v. down_offered w y o tc v ∙ unfold take_third in offered_same v ∙ k.shows.offers v)
        (λ q lq. rw (← owner_is) (down_up w y o (λ v. cond fast v 0) cut q (is_down b q) (unfold take_third in up_same q ∙ k.shows.up q lq)))
        (rw (after_none step_is cut delivers_is, site-is) (down_site w y o tc p new (unfold take_third in own)))
        (λ q lq d. down_site w y o tc q (site_at b q) (unfold take_third in others q lq d))
        (down_tally w y o tc m step_is.tally (unfold take_third in tallied-now))
        (λ v d. down_tally w y o tc v (tally_at b v) (unfold take_third in tallies v d))
        (rw sends-is (down_flight w y o tc _ (flown_shows w (few_sites last g b s k) b.flight k.good.shape.flight THIRD m r p below hr hp
        DELIVER so load sends reaches taken cast (omega arith) load_shape
        s.firsts s.seconds.sent s.seconds.good s.thirds.sent s.thirds.carried s.delivers.sent
        y.firsts y.seconds.sent y.seconds.good y.thirds.sent y.thirds.carried y.delivers.sent third_moves k.shows.flight)))
        (rw sends-is (down_oracle w y o tc (pooling b.pool sends) (entering b.entries sends) b.log (unfold take_third in oracle)))

  abbrev cast_none : Cast (taking_out b.flight THIRD m r p) p DELIVER m false empty_set [] (λ v. false)
  cast_none = cast_none_lem (taking_out b.flight THIRD m r p) taken p m DELIVER false empty_set (λ v. false) none_reached

  none_sent : (o : Bool) (y a v : ℕ) → o ≡ (o || (eqb y m && eqb a p) && false)
  none_sent o y a v = sym (ap (λ (c : Bool). o || c) (and-false (eqb y m && eqb a p)) ∙ or-false o)

  late_shows : Shows w (carried_out (board_flight b (taking_out b.flight THIRD m r p)) p m (no_step site tally) cut) (down_if w tc (take_third w s m r) (w.owner m))
  late_shows = third_together false empty_set [] (λ v. false) cast_none (empty_shape words) s refl refl refl refl (λ y a v. none_sent (s.delivers.sent y a v) y a v)
      (no_step site tally) site refl refl (nothing_out (no_step site tally) cut refl) (λ y. refl) (λ q. refl) shown (λ q lq d. k.shows.each_site q lq) tallied_shown (λ y d. k.shows.each_tally y)
      (unfold pooling entering in k.shows.oracle)

  heard_shows : has_bit tally.heard r ≡ false
      → Shows w (carried_out (board_flight b (taking_out b.flight THIRD m r p)) p m (no_step site after) cut) (down_if w tc (take_third w one m r) (w.owner m))
  heard_shows fresh = third_together false empty_set [] (λ v. false) cast_none (empty_shape words) one (unfold hear_third in refl) (unfold hear_third in refl) (unfold hear_third in refl) (unfold hear_third in refl)
      (λ y a v. unfold hear_third in none_sent (s.delivers.sent y a v) y a v)
      (no_step site after) site refl refl (nothing_out (no_step site after) cut refl) (λ y. unfold hear_third in refl) (λ q. unfold hear_third in refl) (unfold hear_third in shown) (λ q lq d. unfold hear_third in k.shows.each_site q lq)
      (heard_tally fresh) (other_tally fresh) (unfold pooling entering hear_third in k.shows.oracle)

  -- ---- the (n - f)th

  abbrev two : State
  two = finish w one m

  module _ (fresh : has_bit tally.heard r ≡ false) where
    done_own : SiteShowsIn w two p (site_finished site (with site.finished m))
    done_own = finish_own w one m p site site_shape below (unfold hear_third in shown)

    done_others : (q : ℕ) → q < w.n → q ≢ p → SiteShowsIn w two q (site_at b q)
    done_others q lq d = finish_other w one m q (site_at b q) (λ e. d (sym e ∙ owner_is)) (unfold hear_third in k.shows.each_site q lq)

    -- by DELIVER

    abbrev sends : List Send
    sends = out_of (to_all b.setup.n (λ to. deliver m to)) cut

    abbrev reaches : ℕ → Bool
    reaches v = ltb v b.setup.n && goes (cut_by (λ x. x) cut) v

    goes_on : fast ≡ true → (v : ℕ) → goes tc v ≡ goes (cut_by (λ x. x) cut) v
    goes_on e v = go cut
      where
        go : (cut : Cut) → goes (cut_by (λ x. cond fast x 0) cut) v ≡ goes (cut_by (λ x. x) cut) v
        go Whole = refl
        go (After j) = ap (λ (c : Bool). ltb (cond c v 0) j) e

    reached : fast ≡ true → (v : ℕ) → theory.to_all w tc v ≡ reaches v
    reached e v = ap (λ (c : Bool). ltb v w.n && c) (goes_on e v) ∙ ap (λ (n : ℕ). ltb v n && goes (cut_by (λ x. x) cut) v) (sym n_is)

    abbrev fast_end : State
    fast_end = send_deliver w two m (w.owner m) (theory.to_all w tc)

    fast_shows : fast ≡ true
        → Shows w (carried_out (board_flight b (taking_out b.flight THIRD m r p)) p m (record { site = site_finished site (with site.finished m); tally = after; sends = to_all b.setup.n (λ to. deliver m to); delivers = [] }) cut)
        (down_if w tc (take_third w fast_end m r) (w.owner m))
    fast_shows e =
        let step_is : Step = record { site = site_finished site (with site.finished m); tally = after; sends = to_all b.setup.n (λ to. deliver m to); delivers = [] } in
        let none = none_out (to_all b.setup.n (λ to. deliver m to)) cut (none_all b.setup.n (λ to. deliver m to) (λ to. refl)) in
        third_together false empty_set sends reaches
        (cast_all (taking_out b.flight THIRD m r p) taken p m (λ to. deliver m to) DELIVER false empty_set (deliver_broadcast m) b.setup.n few cut) (empty_shape words)
        fast_end (unfold send_deliver finish hear_third in refl) (unfold send_deliver finish hear_third in refl) (unfold send_deliver finish hear_third in refl) (unfold send_deliver finish hear_third in refl)
        (λ y a v. unfold send_deliver finish hear_third in rw owner_is (send_is s.delivers.sent (s.delivers.sent y a v) m p (theory.to_all w tc) y a v (reaches v) refl (reached e v)))
        step_is (site_finished site (with site.finished m)) refl refl (out_same step_is cut)
        (λ y. unfold send_deliver finish hear_third in refl) (λ q. unfold send_deliver finish hear_third in refl)
        (unfold send_deliver in done_own) (λ q lq d. unfold send_deliver in done_others q lq d)
        (unfold send_deliver finish in heard_tally fresh) (λ y d. unfold send_deliver finish in other_tally fresh y d)
        (rw (none.pool_same b.pool, none.entries_same b.entries) (unfold send_deliver finish hear_third in k.shows.oracle))

    -- by an entry

    abbrev entries_out : List Send
    entries_out = out_of (entry m after.union ∷ []) cut

    abbrev slow_end : State
    slow_end = enter_pool w two m tc

    -- the entry goes out, or not
    enters : fast ≡ false → ((goes tc (w.owner m) ≡ true) × (pooling b.pool entries_out ≡ with b.pool m) × (entering b.entries entries_out ≡ set b.entries m after.union))
        ⊎ ((goes tc (w.owner m) ≡ false) × (pooling b.pool entries_out ≡ b.pool) × (entering b.entries entries_out ≡ b.entries))
    enters e = go cut
      where
        go : (cut : Cut) → ((goes (cut_by (λ x. cond fast x 0) cut) (w.owner m) ≡ true) × (pooling b.pool (out_of (entry m after.union ∷ []) cut) ≡ with b.pool m) × (entering b.entries (out_of (entry m after.union ∷ []) cut) ≡ set b.entries m after.union))
            ⊎ ((goes (cut_by (λ x. cond fast x 0) cut) (w.owner m) ≡ false) × (pooling b.pool (out_of (entry m after.union ∷ []) cut) ≡ b.pool) × (entering b.entries (out_of (entry m after.union ∷ []) cut) ≡ b.entries))
        go Whole = inl (refl, unfold pooling in refl, unfold entering in refl)
        go (After zero) = inr (ap (λ (c : Bool). ltb (cond c (w.owner m) 0) 0) e, unfold pooling in refl, unfold entering in refl)
        go (After (suc j)) = inl (
          ap (λ (c : Bool). ltb (cond c (w.owner m) 0) (suc j)) e ∙ lt-ltb 0 (suc j) (omega arith),
          unfold pooling in ap (λ (l : List Send). pooling (with b.pool m) l) (take-nil j),
          unfold entering in ap (λ (l : List Send). entering (set b.entries m after.union) l) (take-nil j),
        )

    slow_oracle : fast ≡ false → OracleShows w slow_end.oracle (pooling b.pool entries_out) (entering b.entries entries_out) b.log
    slow_oracle e = elim (enters e) [
      | inl h ↦ rw (h.1, h.2) (unfold enter_pool finish hear_third in record {
        pool_is = λ x. rw (h.0, and-true (eqb m x), k.shows.oracle.pool_is x) (cond_or (eqb m x) (has b.pool x) ∙ ap (λ (c : Bool). has b.pool x || c) (eqb_turned m x)
            ∙ sym (member_insert b.pool.words m x (omega (arith, k.good.shape.pool.long, below))));
        entry_is = λ x y. elim (ℕ_discrete x m) [
          | yes d ↦ rw d (ap (λ (c : Bool). cond c (one.thirds.union m y) (s.oracle.entry m y)) (and_intro (eqb m m) (goes tc (w.owner m)) (eq-eqb m m refl) h.0)
              ∙ (heard_tally fresh).union_is y
              ∙ sym (ap (λ (v : Set). has v y) (get_or-set_same b.entries m after.union no_set (omega (arith, k.good.shape.entries_long, below)))))
          | no d ↦ rw (ne_eqb m x (λ q. d (sym q)), get_or-set_other b.entries m x after.union no_set d) (k.shows.oracle.entry_is x y)
        ];
        log_is = k.shows.oracle.log_is;
      })
      | inr h ↦ rw (h.1, h.2) (unfold enter_pool finish hear_third in record {
        pool_is = λ x. rw (h.0, and-false (eqb m x)) (k.shows.oracle.pool_is x);
        entry_is = λ x y. rw (h.0, and-false (eqb m x)) (k.shows.oracle.entry_is x y);
        log_is = k.shows.oracle.log_is;
      })
    ]

    slow_shows : fast ≡ false
        → Shows w (carried_out (board_flight b (taking_out b.flight THIRD m r p)) p m (record { site = site_finished site (with site.finished m); tally = after; sends = entry m after.union ∷ []; delivers = [] }) cut)
        (down_if w tc (take_third w slow_end m r) (w.owner m))
    slow_shows e =
        let step_is : Step = record { site = site_finished site (with site.finished m); tally = after; sends = entry m after.union ∷ []; delivers = [] } in
        third_together false empty_set entries_out (λ v. false)
        (cast_entry (taking_out b.flight THIRD m r p) taken p m DELIVER false empty_set after.union cut) (empty_shape words)
        slow_end (unfold enter_pool finish hear_third in refl) (unfold enter_pool finish hear_third in refl) (unfold enter_pool finish hear_third in refl) (unfold enter_pool finish hear_third in refl)
        (λ y a v. unfold enter_pool finish hear_third in none_sent (s.delivers.sent y a v) y a v)
        step_is (site_finished site (with site.finished m)) refl refl (out_same step_is cut)
        (λ y. unfold enter_pool finish hear_third in refl) (λ q. unfold enter_pool finish hear_third in refl)
        (unfold enter_pool in done_own) (λ q lq d. unfold enter_pool in done_others q lq d)
        (unfold enter_pool finish in heard_tally fresh) (λ y d. unfold enter_pool finish in other_tally fresh y d)
        (slow_oracle e)

  pub third_shows : Shows w (carried_out (board_flight b (taking_out b.flight THIRD m r p)) p m (on_third b.setup site tally m r carried) cut) (does w s (third m r tc))
  unfolding runs.on_third on_third step_third count_third conclude
  third_shows = go late (late_third w s m r) refl late_is
    where
      last_now : Bool
      last_now = leb (quorum b.setup) (ones (plus tally.heard r))

      ends : Bool → Step
      ends v = record { site = site_finished site (with site.finished m); tally = after; sends = cond v (to_all b.setup.n (λ to. deliver m to)) (entry m after.union ∷ []); delivers = [] }

      end_shows : has_bit tally.heard r ≡ false → (u v : Bool) → fast ≡ u → u ≡ v
          → Shows w (carried_out (board_flight b (taking_out b.flight THIRD m r p)) p m (ends u) cut) (down_if w tc (take_third w (cond v (send_deliver w two m (w.owner m) (theory.to_all w tc)) (enter_pool w two m tc)) m r) (w.owner m))
      end_shows fresh true true e d = fast_shows fresh e
      end_shows fresh false false e d = slow_shows fresh e
      end_shows fresh true false e d = absurd (never refl d)
      end_shows fresh false true e d = absurd (never d refl)

      in_time : has_bit tally.heard r ≡ false → (u v : Bool) → u ≡ v
          → Shows w (carried_out (board_flight b (taking_out b.flight THIRD m r p)) p m (cond u (ends fast) (no_step site after)) cut) (down_if w tc (take_third w (cond v (conclude w two m tc) one) m r) (w.owner m))
      in_time fresh true true e = end_shows fresh fast (majority (λ a. two.thirds.has m a) w.n) refl (sym (unfold finish in fast_is fresh))
      in_time fresh false false e = heard_shows fresh
      in_time fresh true false e = absurd (never refl e)
      in_time fresh false true e = absurd (never e refl)

      go : (u v : Bool) → late ≡ u → v ≡ u
          → Shows w (carried_out (board_flight b (taking_out b.flight THIRD m r p)) p m (cond u (no_step site tally) (cond last_now (ends fast) (no_step site after))) cut)
          (down_if w tc (take_third w (cond v s (count_third w one m tc)) m r) (w.owner m))
      go true true h e = late_shows
      go false false h e =
          let fresh = (or_neither (has_bit tally.heard r) (leb (quorum b.setup) (ones tally.heard) || has site.finished m) h).0 in
          in_time fresh last_now (leb (w.n - w.f) (heard_of w one m)) (sym (last_is fresh))
      go true false h e = absurd (never e refl)
      go false true h e = absurd (never refl e)
