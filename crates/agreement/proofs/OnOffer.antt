-- An offer is the theory's event: the table has the posting, and FIRST goes to all.
-- Rests on Ground, Flown and Casts. Assumes nothing.
use Prim.Native.Nat.{ℕ, zero, suc, ◌+◌, ◌^◌, ◌<◌, ◌≤◌}
use mathlib.Core.Path.{◌≡◌, refl, sym, ap, ◌∙◌}
use mathlib.Core.Logic.{◌⊎◌, inl, inr, ◌≢◌}
use mathlib.Core.Bool.{Bool, true, false, cond, not, ◌&&◌, ◌||◌, and-false, and-true, or-false}
use mathlib.Core.List.{List, [], ◌∷◌, ◌++◌}
use native.Mathlib.Omega.{arith}
use native.Mathlib.Decide.{ℕ_discrete}
use lib.Dec.{eqb, ltb}
use borrow.Author.Tests.{eqb-true, eq-eqb, ne_eqb, lt-ltb, le-ltb}
use lib.ListN.{length}
use Rattle.sets.proofs.Truth.{test, never, both_ways, not_so, and_left, and_right, or_cases, or_left, or_right}
use Rattle.sets.specs.Masks.{has_bit}
use Rattle.sets.proofs.WordLaws.{empty_shape}
use Rattle.sets.specs.Sets.{words, capacity, has, empty_set}
use Rattle.posting.specs.declared.Posting.{Posting}
use Rattle.posting.specs.declared.Table.{Table}
use Rattle.posting.specs.Conflicts.{offered, row, table_with}
use Rattle.posting.proofs.ConflictLaws.{offered_below, below_offered}
use Rattle.site.specs.declared.Site.{Site}
use Rattle.site.specs.Sites.{sites}
use Rattle.site.specs.Sends.{FIRST, SECOND, THIRD, DELIVER, Send, first, to_all, Step}
use Rattle.site.specs.Steps.{owner_of, on_offer}
use Rattle.flight.specs.declared.Flight.{Flight}
use Rattle.flight.specs.Flights.{in_flight, good_to, carried_by, sending_all}
use Rattle.flight.proofs.BroadcastLaws.{first_broadcast}
use Rattle.machine.specs.declared.Board.{Board}
use Rattle.steps.specs.declared.Cut.{Cut}
use Rattle.steps.specs.declared.Cut.TheVariants.{Whole, After}
use Rattle.machine.specs.Boards.{site_at, tally_at, is_down, board_table}
use Rattle.machine.specs.Calls.{carried_out}
use Rattle.invariants.proofs.Judged.{OfferTaken, offer_step, posting_of}
use Rattle.invariants.proofs.Grow.{Grows, new_row, new_offered, offered_old, table_grows}
use Rattle.invariants.proofs.Reached.{Good, good_sites}
use Rattle.broadcast.specs.Machine.{World, State, send, goes, down_if, send_first}
use Rattle.broadcast.specs.Machine as theory
use Rattle.broadcast.specs.Runs.{Event, Allowed, does}
use Rattle.broadcast.specs.Runs as runs
use Rattle.agreement.proofs.World.{world_of, Earlier, owner_in}
use Rattle.agreement.proofs.Casts.{Cast, out_of, cut_by, cast_all, eqb_turned}
use Rattle.agreement.proofs.Entries.{NoEntry, none_out, none_all}
use Rattle.agreement.proofs.Seen.{cond_or}
use Rattle.agreement.proofs.Flown.{send_is, cast_in_flight, cast_good, cast_carried}
use Rattle.agreement.proofs.Shows.{SiteShowsIn, TallyShowsIn, FlightShowsIn, OracleShows, Shows}
use Rattle.agreement.proofs.OnFirst.{after_none}
use Rattle.agreement.proofs.Ground.{W, Seen, out_same, same_n, may_cut, is_up, down_site, down_tally, down_flight, down_oracle, down_offered, down_up, together}

-- the later board is one of the list, too
module _ (last : Board) (g : Good last) (b : Board) (s : State) (k : Seen last g b s) (p kind account other amount : ℕ) (cut : Cut) (t : OfferTaken b p kind account other amount cut)
    (later : Grows (table_with b.table (posting_of p kind account other amount)) last.table) where
  abbrev w : World
  w = W last g

  abbrev m : ℕ
  m = b.table.count

  abbrev table : Table
  table = table_with b.table (posting_of p kind account other amount)

  abbrev tc : theory.Cut
  tc = cut_by (λ x. x) cut

  n_is : b.setup.n ≡ w.n
  n_is = same_n last g b s k

  lp : p < w.n
  lp = rw (← n_is) t.acts.there

  few : b.setup.n ≤ sites
  few = good_sites b k.good

  now_offered : offered table m ≡ true
  now_offered = new_offered b.table (posting_of p kind account other amount) t.room

  owner_is : w.owner m ≡ p
  unfolding owner_in
  owner_is = rw (later.more m now_offered)
      (ap (λ (r : Posting). r.owner) (later.same m now_offered ∙ new_row b.table (posting_of p kind account other amount) (omega (arith, t.room, k.good.shape.rows))))

  not_yet : offered b.table m ≡ false
  not_yet = not_so (offered b.table m) (λ h. let l = (offered_below b.table m h).0 in omega arith)

  pub offer_allowed : Allowed w s (Event.offer m tc)
  offer_allowed = (
    t.room,
    k.shows.offers m ∙ not_yet,
    rw owner_is (is_up last g b s k p lp t.acts.up),
    may_cut last g b s k (λ x. x) p (offer_step b p) cut t.acts,
  )

  offers_now : (x : ℕ) → theory.with s.offered m x ≡ offered table x
  offers_now x = elim (ℕ_discrete x m) [
    | yes e ↦ rw (eq-eqb m x (sym e)) (sym (ap (λ (v : ℕ). offered table v) e ∙ now_offered))
    | no d ↦ rw (ne_eqb m x (λ e. d (sym e)), k.shows.offers x)
        (both_ways (offered b.table x) (offered table x) (λ h. (table_grows b.table (posting_of p kind account other amount)).more x h)
        (λ h. offered_old b.table (posting_of p kind account other amount) x d h))
  ]

  abbrev sends : List Send
  sends = out_of (to_all b.setup.n (λ to. first m to)) cut

  abbrev reaches : ℕ → Bool
  reaches v = ltb v b.setup.n && goes tc v

  cast : Cast b.flight p FIRST m false empty_set sends reaches
  cast = cast_all b.flight k.good.shape.flight p m (λ to. first m to) FIRST false empty_set (first_broadcast m) b.setup.n few cut

  hp : p < sites
  hp = omega (arith, t.acts.there, few)

  abbrev after : Flight
  after = sending_all b.flight p sends

  in_flight_lem : (f x a v : ℕ) → v < sites → in_flight after f x a v ≡ (in_flight b.flight f x a v || (eqb f FIRST && (eqb x m && eqb a p)) && reaches v)
  in_flight_lem f x a v lv = cast_in_flight b.flight k.good.shape.flight p FIRST m false empty_set sends reaches cast hp t.room (omega arith) f x a v lv

  abbrev one : State
  one = send_first w s m tc

  flight_shows : FlightShowsIn w one after
  unfolding send_first
  flight_shows = let i = k.shows.flight in record {
    firsts_is = λ x a v la lv. rw owner_is (send_is s.firsts (in_flight b.flight FIRST x a v) m p (theory.to_all w tc) x a v (reaches v)
        (i.firsts_is x a v la lv) (ap (λ (n : ℕ). ltb v n && goes tc v) (sym n_is)))
        ∙ sym (in_flight_lem FIRST x a v (omega (arith, few, n_is, lv)));
    seconds_is = λ x a v la lv. i.seconds_is x a v la lv ∙ sym (in_flight_lem SECOND x a v (omega (arith, few, n_is, lv)) ∙ or-false (in_flight b.flight SECOND x a v));
    good_is = λ x a v la lv. i.good_is x a v la lv
        ∙ sym (cast_good b.flight k.good.shape.flight p FIRST m false empty_set sends reaches cast hp t.room (omega arith) x a v (omega (arith, few, n_is, lv)));
    thirds_is = λ x a la. i.thirds_is x a la ∙ sym (in_flight_lem THIRD x a (w.owner x) (omega (arith, few, n_is, w.owned x)) ∙ or-false (in_flight b.flight THIRD x a (w.owner x)));
    carried_is = λ x a y la. i.carried_is x a y la
        ∙ sym (ap (λ (v : _). has v y) (cast_carried b.flight k.good.shape.flight p FIRST m false empty_set sends reaches cast hp t.room (omega arith) x a (empty_shape words)));
    delivers_is = λ x a v la lv. i.delivers_is x a v la lv ∙ sym (in_flight_lem DELIVER x a v (omega (arith, few, n_is, lv)) ∙ or-false (in_flight b.flight DELIVER x a v));
  }

  no_entry : NoEntry sends
  no_entry = none_out (to_all b.setup.n (λ to. first m to)) cut (none_all b.setup.n (λ to. first m to) (λ to. refl))

  pub offer_shows : Shows w (carried_out (board_table b table) p m (offer_step b p) cut) (does w s (Event.offer m tc))
  unfolding runs.on_offer on_offer
  offer_shows =
      let o = w.owner m in
      let step_is : Step = record { site = site_at b p; tally = tally_at b m; sends = to_all b.setup.n (λ to. first m to); delivers = [] } in
      together w b table b.flight p m step_is cut (down_if w tc one o)
      (omega (arith, k.good.shape.sites_long, hp)) (omega (arith, k.good.shape.tallies_long, t.room))
      (λ x. down_offered w one o tc x ∙ unfold send_first in offers_now x)
      (λ q lq. rw (← owner_is) (down_up w one o (λ v. v) cut q (is_down b q) (unfold send_first in k.shows.up q lq)))
      (rw (after_none step_is cut refl) (down_site w one o tc p (site_at b p) (unfold send_first in k.shows.each_site p lp)))
      (λ q lq d. down_site w one o tc q (site_at b q) (unfold send_first in k.shows.each_site q lq))
      (down_tally w one o tc m (tally_at b m) (unfold send_first in k.shows.each_tally m))
      (λ x d. down_tally w one o tc x (tally_at b x) (unfold send_first in k.shows.each_tally x))
      (rw (out_same step_is cut) (down_flight w one o tc after flight_shows))
      (rw (out_same step_is cut, no_entry.pool_same b.pool, no_entry.entries_same b.entries)
      (down_oracle w one o tc b.pool b.entries b.log (unfold send_first in k.shows.oracle)))
