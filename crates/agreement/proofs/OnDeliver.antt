-- A receipt of DELIVER is the theory's event: a later one without effect; the first one, relayed by a site other than the owner.
-- Rests on Ground, Flown and Seen. Assumes nothing.
use Prim.Native.Nat.{ℕ, zero, suc, ◌^◌, ◌<◌, ◌≤◌}
use mathlib.Core.Path.{◌≡◌, refl, sym, ap, ◌∙◌}
use mathlib.Core.Logic.{◌⊎◌, inl, inr, ◌≢◌}
use mathlib.Core.Bool.{Bool, true, false, cond, not, ◌&&◌, ◌||◌, and-false, and-true, or-false}
use mathlib.Core.List.{List, [], ◌∷◌}
use native.Mathlib.Omega.{arith}
use native.Mathlib.Decide.{ℕ_discrete}
use lib.Dec.{eqb, ltb}
use lib.ListN.{length, take}
use lib.Seq.{take-nil}
use borrow.Author.Tests.{eqb-true, eq-eqb, ne_eqb}
use Rattle.sets.specs.declared.Set.{Set}
use Rattle.sets.proofs.Truth.{test, never, not_so, and_left, and_right}
use Rattle.sets.proofs.WordLaws.{empty_shape, insert_shape}
use Rattle.sets.specs.Sets.{words, capacity, has, with, empty_set, Shape}
use Rattle.posting.specs.Conflicts.{offered}
use Rattle.posting.proofs.ConflictLaws.{offered_below}
use Rattle.posting.specs.Records.{numbers_of}
use Rattle.site.specs.declared.Site.{Site}
use Rattle.site.specs.declared.Tally.{Tally}
use Rattle.site.specs.Sites.{sites, site_got, site_delivered}
use Rattle.site.specs.Sends.{FIRST, SECOND, THIRD, DELIVER, forms, Send, deliver, to_others, Step}
use Rattle.site.specs.Steps.{owner_of, no_step, on_deliver, delivering_all}
use Rattle.flight.specs.declared.Flight.{Flight}
use Rattle.flight.specs.Flights.{in_flight, taking_out, sending_all}
use Rattle.flight.specs.Shapes.{Shape as FlightShape}
use Rattle.flight.proofs.FlightLaws.{taking_shape}
use Rattle.flight.proofs.SendLaws.{place_of}
use Rattle.flight.proofs.BroadcastLaws.{deliver_broadcast}
use Rattle.machine.specs.declared.Board.{Board}
use Rattle.steps.specs.declared.Cut.{Cut}
use Rattle.steps.specs.declared.Cut.TheVariants.{Whole, After}
use Rattle.machine.specs.Boards.{site_at, tally_at, is_down, board_flight}
use Rattle.machine.specs.Calls.{carried_out, receipt_of, pooling, entering}
use Rattle.steps.specs.Causes.{is_cut}
use Rattle.machine.proofs.Shapes.{SiteShape}
use Rattle.machine.proofs.SoundFacts.{SiteSound}
use Rattle.invariants.proofs.Judged.{Acts, ReceiptTaken}
use Rattle.invariants.proofs.CarriedOut.{sends_out, site_after}
use Rattle.invariants.proofs.FlightSound.{MessageSound}
use Rattle.invariants.proofs.Reached.{Good, good_flight, good_sites}
use Rattle.broadcast.specs.Deliveries.{deliver_all}
use Rattle.broadcast.specs.Machine.{World, State, at2, at3, goes, lasts, send_deliver, take_deliver, get, deliver_at, down, down_if}
use Rattle.broadcast.specs.Machine as theory
use Rattle.broadcast.specs.Runs.{Event, Allowed, does, Receipt, relay, arrive}
use Rattle.broadcast.specs.Runs as runs
use Rattle.agreement.proofs.World.{world_of, Earlier, owner_same}
use Rattle.agreement.proofs.Casts.{Cast, out_of, cut_by, cast_none_lem, cast_others, eqb_turned}
use Rattle.agreement.proofs.Entries.{NoEntry, none_out, none_others}
use Rattle.agreement.proofs.Seen.{cond_or, get_own, get_other, delivering_all_is}
use Rattle.agreement.proofs.Flown.{Flown, at2_is, at3_is, take_is, flown_same, flown_both, Moves, flown_shows}
use Rattle.agreement.proofs.Shows.{SiteShowsIn, TallyShowsIn, FlightShowsIn, OracleShows, Shows}
use Rattle.agreement.proofs.Delivered.{delivered_own, delivered_other}
use Rattle.agreement.proofs.OnFirst.{after_none}
use Rattle.agreement.proofs.Ground.{W, Seen, nothing_out, out_same, same_n, few_sites, may_cut, is_up, down_site, down_tally, down_flight, down_oracle, down_offered, down_up, together}

module _ (last : Board) (g : Good last) (b : Board) (s : State) (k : Seen last g b s) (m r p : ℕ) (cut : Cut) (t : ReceiptTaken b DELIVER m r p cut) where
  abbrev w : World
  w = W last g

  abbrev site : Site
  site = site_at b p

  abbrev tc : theory.Cut
  tc = cut_by (λ x. place_of x p) cut

  message : MessageSound b.table b.setup.n b.flight DELIVER m r p
  message = (good_flight b k.good).each DELIVER m r p t.coming

  below : m < capacity
  below = (offered_below b.table m message.named).1

  few : b.setup.n ≤ sites
  few = good_sites b k.good

  n_is : b.setup.n ≡ w.n
  n_is = same_n last g b s k

  lr : r < w.n
  lr = rw (← n_is) t.sender

  lp : p < w.n
  lp = rw (← n_is) t.acts.there

  hr : r < sites
  hr = omega (arith, t.sender, few)

  hp : p < sites
  hp = omega (arith, t.acts.there, few)

  owner_is : w.owner m ≡ owner_of b.table m
  owner_is = owner_same b last k.earlier m message.named

  pub deliver_allowed : Allowed w s (Event.deliver m r p tc)
  deliver_allowed = (
    k.shows.flight.delivers_is m r p lr lp ∙ t.coming,
    record { sender = lr; receiver = lp; up = is_up last g b s k p lp t.acts.up; may_cut = may_cut last g b s k (λ x. place_of x p) p (receipt_of b DELIVER m r p) cut t.acts },
  )

  site_shape : SiteShape (site_at b p)
  site_shape = k.good.shape.each_site p hp

  site_ok : SiteSound b.table b.setup.n b.log.count (site_at b p)
  site_ok = k.good.sound.each_site p t.acts.there

  shown : SiteShowsIn w s p site
  shown = k.shows.each_site p lp

  taken : FlightShape (taking_out b.flight DELIVER m r p)
  taken = taking_shape b.flight k.good.shape.flight DELIVER m r p

  -- a message less, and messages to others than p more: the order does not matter
  both_is : (o : Bool) (x a v : ℕ) (reaches : ℕ → Bool) → reaches p ≡ false
      → cond (at3 m r p x a v) false (cond (at2 m p x a && reaches v) true o) ≡ ((o && not ((eqb x m && eqb a r) && eqb v p)) || (eqb x m && eqb a p) && reaches v)
  both_is o x a v reaches none = rw (at3_is m r p x a v, at2_is m p x a) (elim (test ((eqb x m && eqb a r) && eqb v p)) [
    | inl e ↦
        let off : reaches v ≡ false = ap reaches (eqb-true v p (and_right (eqb x m && eqb a r) (eqb v p) e)) ∙ none in
        rw (e, off, and-false (eqb x m && eqb a p), and-false o)
    | inr e ↦ rw (e, and-true o) (cond_or ((eqb x m && eqb a p) && reaches v) o)
  ])

  -- ---- the message leaves, and DELIVERs may have been sent to others

  module _ (sends : List Send) (reaches : ℕ → Bool) (cast : Cast (taking_out b.flight DELIVER m r p) p DELIVER m false empty_set sends reaches) (not_itself : reaches p ≡ false)
      (x : State) (firsts_same : x.firsts ≡ s.firsts) (seconds-same : x.seconds ≡ s.seconds) (thirds-same : x.thirds ≡ s.thirds)
      (delivers-now : (y a v : ℕ) → x.delivers.sent y a v ≡ cond (at2 m p y a && reaches v) true (s.delivers.sent y a v)) where
    deliver_moves : Moves w (few_sites last g b s k) b.flight k.good.shape.flight DELIVER m r p below hr hp
        DELIVER false empty_set sends reaches taken cast (omega arith) (empty_shape words)
        s.firsts s.seconds.sent s.seconds.good s.thirds.sent s.thirds.carried s.delivers.sent
        (take_deliver w x m r p).firsts (take_deliver w x m r p).seconds.sent (take_deliver w x m r p).seconds.good (take_deliver w x m r p).thirds.sent (take_deliver w x m r p).thirds.carried (take_deliver w x m r p).delivers.sent
    unfolding take_deliver
    deliver_moves = record {
      firsts_moves = λ y a v. ap (λ (f : ℕ → ℕ → ℕ → Bool). f y a v) firsts_same ∙ sym (flown_same DELIVER DELIVER m r p reaches FIRST (s.firsts y a v) y a v refl refl);
      seconds_move = λ y a v. ap (λ (q : theory.Seconds). q.sent y a v) seconds-same ∙ sym (flown_same DELIVER DELIVER m r p reaches SECOND (s.seconds.sent y a v) y a v refl refl);
      good_moves = λ y a v. ap (λ (q : theory.Seconds). q.good y a v) seconds-same;
      thirds_move = λ y a. ap (λ (q : theory.Thirds). q.sent y a) thirds-same ∙ sym (flown_same DELIVER DELIVER m r p reaches THIRD (s.thirds.sent y a) y a (w.owner y) refl refl);
      carried_moves = λ y a v. ap (λ (q : theory.Thirds). q.carried y a v) thirds-same;
      delivers_move = λ y a v. ap (λ (c : Bool). cond (at3 m r p y a v) false c) (delivers-now y a v) ∙ both_is (s.delivers.sent y a v) y a v reaches not_itself
          ∙ sym (flown_both DELIVER DELIVER m r p reaches DELIVER (s.delivers.sent y a v) y a v refl refl);
    }

    deliver_together : (step_is : Step) → step_is.tally ≡ tally_at b m → sends_out step_is cut ≡ sends → NoEntry sends
        → ((y : ℕ) → x.offered y ≡ s.offered y) → ((q : ℕ) → x.sites.up q ≡ s.sites.up q) → x.oracle ≡ s.oracle
        → SiteShowsIn w x p (site_after step_is cut) → ((q : ℕ) → q < w.n → q ≢ p → SiteShowsIn w x q (site_at b q))
        → Shows w (carried_out (board_flight b (taking_out b.flight DELIVER m r p)) p m step_is cut) (down_if w tc (take_deliver w x m r p) p)
    deliver_together step_is tally-is sends-is none offered_same up_same oracle-same own others =
        let y = take_deliver w x m r p in
        together w b b.table (taking_out b.flight DELIVER m r p) p m step_is cut (down_if w tc y p)
        (omega (arith, k.good.shape.sites_long, hp)) (omega (arith, k.good.shape.tallies_long, below))
        (λ v. down_offered w y p tc v ∙ unfold take_deliver in offered_same v ∙ k.shows.offers v)
        (λ q lq. down_up w y p (λ v. place_of v p) cut q (is_down b q) (unfold take_deliver in up_same q ∙ k.shows.up q lq))
        (down_site w y p tc p (site_after step_is cut) (unfold take_deliver in own))
        (λ q lq d. down_site w y p tc q (site_at b q) (unfold take_deliver in others q lq d))
        (rw tally-is (down_tally w y p tc m (tally_at b m) (unfold take_deliver in rw thirds-same (k.shows.each_tally m))))
        (λ v d. down_tally w y p tc v (tally_at b v) (unfold take_deliver in rw thirds-same (k.shows.each_tally v)))
        (rw sends-is (down_flight w y p tc _ (flown_shows w (few_sites last g b s k) b.flight k.good.shape.flight DELIVER m r p below hr hp
        DELIVER false empty_set sends reaches taken cast (omega arith) (empty_shape words)
        s.firsts s.seconds.sent s.seconds.good s.thirds.sent s.thirds.carried s.delivers.sent
        y.firsts y.seconds.sent y.seconds.good y.thirds.sent y.thirds.carried y.delivers.sent deliver_moves k.shows.flight)))
        (rw (sends-is, none.pool_same b.pool, none.entries_same b.entries)
        (down_oracle w y p tc b.pool b.entries b.log (unfold take_deliver in rw oracle-same k.shows.oracle)))

  -- ---- a later receipt

  none_sent : (o : Bool) (y a : ℕ) → o ≡ cond (at2 m p y a && false) true o
  none_sent o y a = sym (ap (λ (c : Bool). cond c true o) (and-false (at2 m p y a)))

  abbrev cast_none : Cast (taking_out b.flight DELIVER m r p) p DELIVER m false empty_set [] (λ v. false)
  cast_none = cast_none_lem (taking_out b.flight DELIVER m r p) taken p m DELIVER false empty_set (λ v. false) (λ v lt. refl)

  no_entry : NoEntry []
  no_entry = none_out [] Whole tt

  later_shows : Shows w (carried_out (board_flight b (taking_out b.flight DELIVER m r p)) p m (no_step site (tally_at b m)) cut) (down_if w tc (take_deliver w s m r p) p)
  later_shows = deliver_together [] (λ v. false) cast_none refl s refl refl refl (λ y a v. none_sent (s.delivers.sent y a v) y a)
      (no_step site (tally_at b m)) refl (nothing_out (no_step site (tally_at b m)) cut refl) no_entry (λ y. refl) (λ q. refl) refl
      (rw (after_none (no_step site (tally_at b m)) cut refl) shown) (λ q lq d. k.shows.each_site q lq)

  -- ---- the first receipt

  abbrev first_step : List Send → Step
  first_step sends = record { site = site_got site (with site.got m); tally = tally_at b m; sends = sends; delivers = m ∷ [] }

  got_own : (y : State) (sends : List Send) → SiteShowsIn w y p site → SiteShowsIn w (deliver_at w (get w y m p) p (m ∷ []) tc) p (site_after (first_step sends) cut)
  got_own y sends i = delivered_own w (get w y m p) p b.table (first_step sends) (λ x. place_of x p) cut site_shape.delivered site_ok.delivered (message.named, tt)
      (get_own w y m p site site_shape below i)

  got_other : (y : State) (q : ℕ) → q ≢ p → SiteShowsIn w y q (site_at b q) → SiteShowsIn w (deliver_at w (get w y m p) p (m ∷ []) tc) q (site_at b q)
  got_other y q d i = delivered_other w (get w y m p) p q (site_at b q) (m ∷ []) tc d (get_other w y m p q (site_at b q) d i)

  owner_shows : Shows w (carried_out (board_flight b (taking_out b.flight DELIVER m r p)) p m (first_step []) cut)
      (down_if w tc (take_deliver w (deliver_at w (get w s m p) p (m ∷ []) tc) m r p) p)
  owner_shows = deliver_together [] (λ v. false) cast_none refl (deliver_at w (get w s m p) p (m ∷ []) tc)
      (unfold deliver_at get in refl) (unfold deliver_at get in refl) (unfold deliver_at get in refl)
      (λ y a v. unfold deliver_at get in none_sent (s.delivers.sent y a v) y a)
      (first_step []) refl (nothing_out (first_step []) cut refl) no_entry (λ y. unfold deliver_at get in refl) (λ q. unfold deliver_at get in refl) (unfold deliver_at get in refl)
      (got_own s [] shown) (λ q lq d. got_other s q d (k.shows.each_site q lq))

  abbrev sends : List Send
  sends = out_of (to_others b.setup.n p (λ to. deliver m to)) cut

  abbrev reaches : ℕ → Bool
  reaches v = not (eqb p v) && (ltb v b.setup.n && goes tc v)

  abbrev relayed : State
  relayed = send_deliver w s m p (theory.to_others w p tc)

  relay_shows : Shows w (carried_out (board_flight b (taking_out b.flight DELIVER m r p)) p m (first_step (to_others b.setup.n p (λ to. deliver m to))) cut)
      (down_if w tc (take_deliver w (deliver_at w (get w relayed m p) p (m ∷ []) tc) m r p) p)
  relay_shows = deliver_together sends reaches
      (cast_others (taking_out b.flight DELIVER m r p) taken p m (λ to. deliver m to) DELIVER false empty_set (deliver_broadcast m) b.setup.n few cut)
      (ap (λ (c : Bool). not c && (ltb p b.setup.n && goes tc p)) (eq-eqb p p refl))
      (deliver_at w (get w relayed m p) p (m ∷ []) tc)
      (unfold deliver_at get send_deliver in refl) (unfold deliver_at get send_deliver in refl) (unfold deliver_at get send_deliver in refl)
      (λ y a v. unfold deliver_at get send_deliver in ap (λ (n : ℕ). cond (at2 m p y a && (not (eqb p v) && (ltb v n && goes tc v))) true (s.delivers.sent y a v)) (sym n_is))
      (first_step (to_others b.setup.n p (λ to. deliver m to))) refl (out_same (first_step (to_others b.setup.n p (λ to. deliver m to))) cut)
      (none_out (to_others b.setup.n p (λ to. deliver m to)) cut (none_others b.setup.n p (λ to. deliver m to) (λ to. refl)))
      (λ y. unfold deliver_at get send_deliver in refl) (λ q. unfold deliver_at get send_deliver in refl) (unfold deliver_at get send_deliver in refl)
      (got_own relayed (to_others b.setup.n p (λ to. deliver m to)) (unfold send_deliver in shown))
      (λ q lq d. got_other relayed q d (unfold send_deliver in k.shows.each_site q lq))

  pub deliver_shows : Shows w (carried_out (board_flight b (taking_out b.flight DELIVER m r p)) p m (on_deliver b.setup b.table site (tally_at b m) p m) cut) (does w s (Event.deliver m r p tc))
  unfolding runs.on_deliver on_deliver arrive relay
  deliver_shows = go (has site.got m) (s.delivers.got p m) (shown.got_is m)
    where
      own : (u v : Bool) → u ≡ v
          → Shows w (carried_out (board_flight b (taking_out b.flight DELIVER m r p)) p m (first_step (cond u [] (to_others b.setup.n p (λ to. deliver m to)))) cut)
          (down_if w tc (take_deliver w (deliver_at w (get w (cond v s relayed) m p) p (m ∷ []) tc) m r p) p)
      own true true e = owner_shows
      own false false e = relay_shows
      own true false e = absurd (never refl e)
      own false true e = absurd (never e refl)

      go : (u v : Bool) → v ≡ u
          → Shows w (carried_out (board_flight b (taking_out b.flight DELIVER m r p)) p m (cond u (no_step site (tally_at b m)) (first_step (cond (eqb p (owner_of b.table m)) [] (to_others b.setup.n p (λ to. deliver m to))))) cut)
          (down_if w tc (take_deliver w (cond v s (arrive w s m p tc)) m r p) p)
      go true true e = later_shows
      go false false e = own (eqb p (owner_of b.table m)) (eqb p (w.owner m)) (ap (λ (o : ℕ). eqb p o) (sym owner_is))
      go true false e = absurd (never e refl)
      go false true e = absurd (never refl e)
