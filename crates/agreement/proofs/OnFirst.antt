-- A receipt of FIRST is the theory's event.
-- Rests on Ground, Flown and Seen. Assumes nothing.
use Prim.Native.Nat.{ℕ, zero, suc, ◌^◌, ◌<◌, ◌≤◌, min}
use mathlib.Core.Path.{◌≡◌, refl, sym, ap, ◌∙◌}
use mathlib.Core.Logic.{◌⊎◌, inl, inr, ◌≢◌}
use mathlib.Core.Bool.{Bool, true, false, cond, not, ◌&&◌, ◌||◌}
use mathlib.Core.List.{List, [], ◌∷◌}
use native.Mathlib.Omega.{arith}
use lib.Dec.{eqb, ltb}
use lib.ListN.{length}
use borrow.Author.Tests.{eqb-true}
use Rattle.sets.specs.declared.Set.{Set}
use Rattle.sets.specs.Masks.{has_bit}
use Rattle.sets.proofs.WordLaws.{insert_shape, empty_shape}
use Rattle.sets.specs.Sets.{words, capacity, has, with, empty_set, Shape}
use Rattle.posting.specs.declared.Table.{Table}
use Rattle.posting.specs.Conflicts.{offered, conflict_set}
use Rattle.posting.proofs.ConflictLaws.{offered_below}
use Rattle.site.specs.declared.Site.{Site}
use Rattle.site.specs.declared.Setup.{Setup}
use Rattle.site.specs.Sites.{sites, site_seen}
use Rattle.site.specs.Sends.{FIRST, SECOND, THIRD, DELIVER, forms, Send, second, to_all, Step}
use Rattle.site.specs.Steps.{alone, on_first, delivering_all}
use Rattle.flight.specs.declared.Flight.{Flight}
use Rattle.flight.specs.Flights.{in_flight, good_to, taking_out, sending_all}
use Rattle.flight.specs.Shapes.{Shape as FlightShape}
use Rattle.flight.proofs.FlightLaws.{taking_shape}
use Rattle.flight.proofs.BroadcastLaws.{second_broadcast}
use Rattle.machine.specs.declared.Board.{Board}
use Rattle.steps.specs.declared.Cut.{Cut}
use Rattle.steps.specs.declared.Cut.TheVariants.{Whole, After}
use Rattle.machine.specs.Boards.{site_at, tally_at, is_down, board_flight}
use Rattle.machine.specs.Calls.{carried_out, receipt_of}
use Rattle.steps.specs.Causes.{is_cut}
use Rattle.machine.proofs.Shapes.{SiteShape}
use Rattle.machine.proofs.SoundFacts.{Offers}
use Rattle.invariants.proofs.SiteSound.{offers_with}
use Rattle.invariants.proofs.Judged.{Acts, ReceiptTaken}
use Rattle.invariants.proofs.CarriedOut.{sends_out, site_after}
use Rattle.invariants.proofs.FlightSound.{MessageSound}
use Rattle.invariants.proofs.Reached.{Good, good_flight, good_sites}
use Rattle.broadcast.specs.Machine.{World, State, at2, clear, goes, see, take_first, send_second, down, down_if}
use Rattle.broadcast.specs.Machine as theory
use Rattle.broadcast.specs.Runs.{Event, first, Allowed, does, Receipt}
use Rattle.broadcast.specs.Runs as runs
use Rattle.agreement.proofs.World.{world_of, Earlier, owner_same, clash_same}
use Rattle.agreement.proofs.Casts.{Cast, out_of, cut_by, cast_all}
use Rattle.agreement.proofs.Counted.{clear_alone}
use Rattle.agreement.proofs.Entries.{NoEntry, none_all, none_out}
use Rattle.agreement.proofs.Seen.{see_own, see_other}
use Rattle.agreement.proofs.Flown.{Flown, at2_is, take_is, send_is, flown_same, flown_taken, flown_sent, Moves, flown_shows}
use Rattle.agreement.proofs.Shows.{SiteShowsIn, TallyShowsIn, FlightShowsIn, OracleShows, Shows}
use Rattle.agreement.proofs.Ground.{W, Seen, out_same, same_n, few_sites, may_cut, is_up, down_site, down_tally, down_flight, down_oracle, down_offered, down_up, together}

-- a step that delivers nothing leaves its site as its sets are
pub after_none : (step : Step) (cut : Cut) → step.delivers ≡ [] → site_after step cut ≡ step.site
unfolding delivering_all
after_none step Whole e = rw e
after_none step (After j) e = refl

module _ (last : Board) (g : Good last) (b : Board) (s : State) (k : Seen last g b s) (m r p : ℕ) (cut : Cut) (t : ReceiptTaken b FIRST m r p cut) where
  abbrev w : World
  w = W last g

  abbrev site : Site
  site = site_at b p

  abbrev tc : theory.Cut
  tc = cut_by (λ x. x) cut

  message : MessageSound b.table b.setup.n b.flight FIRST m r p
  message = (good_flight b k.good).each FIRST m r p t.coming

  below : m < capacity
  below = (offered_below b.table m message.named).1

  few : b.setup.n ≤ sites
  few = good_sites b k.good

  n_is : b.setup.n ≡ w.n
  n_is = same_n last g b s k

  lr : r < w.n
  lr = rw (← n_is) t.sender

  lp : p < w.n
  lp = rw (← n_is) t.acts.there

  pub first_allowed : Allowed w s (first m r p tc)
  first_allowed = (
    k.shows.flight.firsts_is m r p lr lp ∙ t.coming,
    record { sender = lr; receiver = lp; up = is_up last g b s k p lp t.acts.up; may_cut = may_cut last g b s k (λ x. x) p (receipt_of b FIRST m r p) cut t.acts },
  )

  -- the step on both sides
  abbrev step_is : Step
  step_is = on_first b.setup b.table site (tally_at b m) m

  abbrev good_is_said : Bool
  good_is_said = alone (with site.seen m) (conflict_set b.setup.matrix b.table m) m

  abbrev one : State
  one = see w (take_first w s m r p) m p

  abbrev two : State
  two = send_second w one m p tc

  site_shape : SiteShape (site_at b p)
  site_shape = k.good.shape.each_site p (omega (arith, t.acts.there, few))

  own : SiteShowsIn w two p (site_seen site (with site.seen m))
  own = unfold send_second in see_own w (take_first w s m r p) m p site site_shape below (unfold take_first in k.shows.each_site p lp)

  others : (q : ℕ) → q < w.n → q ≢ p → SiteShowsIn w two q (site_at b q)
  others q lq d = unfold send_second in see_other w (take_first w s m r p) m p q (site_at b q) d (unfold take_first in k.shows.each_site q lq)

  -- the verdict
  verdict : clear w (one.sets.seen p) m ≡ good_is_said
  verdict =
      clear_alone b.setup.matrix b.table (with site.seen m) m (insert_shape site.seen.words m site_shape.seen) below
      (offers_with b.table site.seen m site_shape.seen message.named (k.good.sound.each_site p t.acts.there).seen)
      w (one.sets.seen p) refl (λ x. unfold send_second in own.seen_is x) (λ x o. clash_same b last k.earlier m x message.named o)

  taken : FlightShape (taking_out b.flight FIRST m r p)
  taken = taking_shape b.flight k.good.shape.flight FIRST m r p

  abbrev reaches : ℕ → Bool
  reaches x = ltb x b.setup.n && goes tc x

  cast : Cast (taking_out b.flight FIRST m r p) p SECOND m good_is_said empty_set (out_of (to_all b.setup.n (λ to. second m to good_is_said)) cut) reaches
  cast = cast_all (taking_out b.flight FIRST m r p) taken p m (λ to. second m to good_is_said) SECOND good_is_said empty_set (second_broadcast m good_is_said) b.setup.n few cut

  hit : (x a y : ℕ) → (at2 m p x a && theory.to_all w tc y) ≡ ((eqb x m && eqb a p) && reaches y)
  hit x a y = rw (at2_is m p x a, n_is)

  moves : Moves w (few_sites last g b s k) b.flight k.good.shape.flight FIRST m r p below (omega (arith, t.sender, few)) (omega (arith, t.acts.there, few))
      SECOND good_is_said empty_set (out_of (to_all b.setup.n (λ to. second m to good_is_said)) cut) reaches taken cast (omega arith) (empty_shape words)
      s.firsts s.seconds.sent s.seconds.good s.thirds.sent s.thirds.carried s.delivers.sent
      two.firsts two.seconds.sent two.seconds.good two.thirds.sent two.thirds.carried two.delivers.sent
  moves = record {
    firsts_moves = λ x a y. unfold send_second see take_first in take_is s.firsts (s.firsts x a y) m r p x a y refl ∙ sym (flown_taken FIRST SECOND m r p reaches FIRST (s.firsts x a y) x a y refl refl);
    seconds_move = λ x a y. unfold send_second see take_first in
        send_is s.seconds.sent (s.seconds.sent x a y) m p (theory.to_all w tc) x a y (reaches y) refl (ap (λ (v : ℕ). ltb y v && goes tc y) (sym n_is))
        ∙ sym (flown_sent FIRST SECOND m r p reaches SECOND (s.seconds.sent x a y) x a y refl refl);
    good_moves = λ x a y. unfold send_second see take_first in
        ap (λ (v : Bool). cond (at2 m p x a && theory.to_all w tc y) v (s.seconds.good x a y)) (unfold see take_first in verdict)
        ∙ ap (λ (c : Bool). cond c good_is_said (s.seconds.good x a y)) (hit x a y);
    thirds_move = λ x a. unfold send_second see take_first in sym (flown_same FIRST SECOND m r p reaches THIRD (s.thirds.sent x a) x a (w.owner x) refl refl);
    carried_moves = λ x a y. unfold send_second see take_first in refl;
    delivers_move = λ x a y. unfold send_second see take_first in sym (flown_same FIRST SECOND m r p reaches DELIVER (s.delivers.sent x a y) x a y refl refl);
  }

  no_entry : NoEntry (out_of (to_all b.setup.n (λ to. second m to good_is_said)) cut)
  no_entry = none_out (to_all b.setup.n (λ to. second m to good_is_said)) cut (none_all b.setup.n (λ to. second m to good_is_said) (λ to. refl))

  pub first_shows : Shows w (carried_out (board_flight b (taking_out b.flight FIRST m r p)) p m step_is cut) (does w s (first m r p tc))
  unfolding runs.on_first on_first
  first_shows =
      together w b b.table (taking_out b.flight FIRST m r p) p m step_is cut (down_if w tc two p)
      (omega (arith, k.good.shape.sites_long, t.acts.there, few)) (omega (arith, k.good.shape.tallies_long, below))
      (λ x. down_offered w two p tc x ∙ unfold send_second see take_first in k.shows.offers x)
      (λ q lq. down_up w two p (λ x. x) cut q (is_down b q) (unfold send_second see take_first in k.shows.up q lq))
      (rw (after_none step_is cut refl) (down_site w two p tc p (site_seen site (with site.seen m)) own))
      (λ q lq d. down_site w two p tc q (site_at b q) (others q lq d))
      (down_tally w two p tc m (tally_at b m) (unfold send_second see take_first in k.shows.each_tally m))
      (λ x d. down_tally w two p tc x (tally_at b x) (unfold send_second see take_first in k.shows.each_tally x))
      (rw (out_same step_is cut) (down_flight w two p tc _ (flown_shows w (few_sites last g b s k) b.flight k.good.shape.flight FIRST m r p below (omega (arith, t.sender, few)) (omega (arith, t.acts.there, few))
      SECOND good_is_said empty_set (out_of (to_all b.setup.n (λ to. second m to good_is_said)) cut) reaches taken cast (omega arith) (empty_shape words)
      s.firsts s.seconds.sent s.seconds.good s.thirds.sent s.thirds.carried s.delivers.sent
      two.firsts two.seconds.sent two.seconds.good two.thirds.sent two.thirds.carried two.delivers.sent moves k.shows.flight)))
      (rw (out_same step_is cut, no_entry.pool_same b.pool, no_entry.entries_same b.entries)
      (down_oracle w two p tc b.pool b.entries b.log (unfold send_second see take_first in k.shows.oracle)))
