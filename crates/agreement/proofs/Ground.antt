-- What every event's proof begins and ends with: the facts of an accepted step in the theory's words, and a board put together again
-- from what its parts show. Rests on Shows, Counted and invariants. Assumes nothing.
use Prim.Native.Nat.{ℕ, zero, suc, ◌+◌, ◌-◌, ◌*◌, ◌^◌, ◌<◌, ◌≤◌}
use mathlib.Core.Path.{◌≡◌, refl, sym, ap, ◌∙◌, subst}
use mathlib.Core.Logic.{◌⊎◌, inl, inr, ◌≢◌}
use mathlib.Core.Bool.{Bool, true, false, cond, not, ◌&&◌, ◌||◌, or-false, not-not}
use mathlib.Core.List.{List, [], ◌∷◌}
use native.Mathlib.Omega.{arith}
use native.Mathlib.Decide.{ℕ_discrete}
use lib.Dec.{eqb, ltb}
use lib.Count.{ones}
use lib.ListN.{length, take}
use lib.Seq.{take-nil}
use borrow.Author.Tests.{eq-eqb, ne_eqb, eqb-true}
use Rattle.sets.specs.declared.Set.{Set}
use Rattle.sets.proofs.Truth.{test, never, not_so}
use Rattle.sets.specs.Masks.{has_bit}
use Rattle.sets.specs.Sets.{capacity, has}
use Rattle.posting.specs.declared.Table.{Table}
use Rattle.posting.specs.declared.Record.{Record}
use Rattle.posting.specs.Conflicts.{offered}
use Rattle.site.specs.declared.Setup.{Setup}
use Rattle.site.specs.declared.Site.{Site}
use Rattle.site.specs.declared.Tally.{Tally}
use Rattle.site.specs.Sites.{sites}
use Rattle.site.specs.Sends.{Send, Step}
use Rattle.flight.specs.declared.Flight.{Flight}
use Rattle.flight.specs.Flights.{sending_all}
use Rattle.machine.specs.declared.Board.{Board}
use Rattle.steps.specs.declared.Cut.{Cut}
use Rattle.steps.specs.declared.Cut.TheVariants.{Whole, After}
use Rattle.machine.specs.Boards.{site_at, tally_at, is_down, board_table, board_flight}
use Rattle.machine.specs.Calls.{carried_out, pooling, entering}
use Rattle.steps.specs.Causes.{is_cut, cut_after}
use Rattle.invariants.proofs.Judged.{Acts}
use Rattle.invariants.proofs.CarriedOut.{sends_out, site_after, out_table, out_log, out_flight, out_pool, out_entries, out_site, out_site_other, out_tally, out_tally_other}
use Rattle.invariants.proofs.History.{out_is_down}
use Rattle.invariants.proofs.Reached.{Good, good_sites}
use Rattle.broadcast.specs.Counts.{count}
use Rattle.broadcast.specs.Machine.{World, State, Oracle, whole, part, down, down_if}
use Rattle.broadcast.specs.Machine as theory
use Rattle.broadcast.specs.Runs.{MayCut, lost}
use Rattle.agreement.proofs.World.{world_of, Earlier}
use Rattle.agreement.proofs.Casts.{out_of, cut_by}
use Rattle.agreement.proofs.Counted.{count_mask}
use Rattle.agreement.proofs.Shows.{SiteShowsIn, TallyShowsIn, FlightShowsIn, OracleShows, Shows}

-- what goes out of a step, and out of its sends
pub out_same : (step : Step) (cut : Cut) → sends_out step cut ≡ out_of step.sends cut
out_same step Whole = refl
out_same step (After j) = refl

pub nothing_out : (step : Step) (cut : Cut) → step.sends ≡ [] → sends_out step cut ≡ []
nothing_out step Whole e = e
nothing_out step (After j) e = ap (λ (l : List Send). take j l) e ∙ take-nil j

module _ (last : Board) (g : Good last) where
  abbrev pub W : World
  W = world_of last g

  -- a board of the list, and the state that it shows
  pub record Seen (b : Board) (s : State) : Type 0 where
    pub good : Good b
    pub earlier : Earlier b last
    pub shows : Shows W b s

  module _ (b : Board) (s : State) (k : Seen b s) where
    pub same_n : b.setup.n ≡ last.setup.n
    same_n = ap (λ (v : Setup). v.n) k.earlier.same_setup

    pub few_sites : last.setup.n ≤ sites
    few_sites = let h = good_sites last g in h

    -- as many sites are down as the mask has
    pub lost_ones : lost W s ≡ ones b.down
    lost_ones = count_mask (λ p. not (s.sites.up p)) b.down last.setup.n (rw (← same_n) k.good.sound.down)
        (λ p lt. ap not (k.shows.up p lt) ∙ not-not (is_down b p))

    pub may_cut : (place : ℕ → ℕ) (p : ℕ) (step : Step) (cut : Cut) → Acts b p step cut → MayCut W s (cut_by place cut)
    may_cut place p step Whole acts = tt
    may_cut place p step (After j) acts =
        let f : b.setup.f ≡ last.setup.f = ap (λ (v : Setup). v.f) k.earlier.same_setup in
        rw (lost_ones, ← f) (acts.crashes refl)

    pub is_up : (p : ℕ) → p < last.setup.n → is_down b p ≡ false → s.sites.up p ≡ true
    is_up p lt h = k.shows.up p lt ∙ ap not h

-- ---- a cut leaves all but `up` alone

module _ (w : World) (x : State) (p : ℕ) where
  pub down_site : (c : theory.Cut) (q : ℕ) (site : Site) → SiteShowsIn w x q site → SiteShowsIn w (down_if w c x p) q site
  down_site whole q site i = i
  down_site (part out) q site i = unfold down in i

  pub down_tally : (c : theory.Cut) (m : ℕ) (y : Tally) → TallyShowsIn w x m y → TallyShowsIn w (down_if w c x p) m y
  down_tally whole m y i = i
  down_tally (part out) m y i = unfold down in i

  pub down_flight : (c : theory.Cut) (flight : Flight) → FlightShowsIn w x flight → FlightShowsIn w (down_if w c x p) flight
  down_flight whole flight i = i
  down_flight (part out) flight i = unfold down in i

  pub down_oracle : (c : theory.Cut) (pool : Set) (entries : List Set) (log : Record) → OracleShows w x.oracle pool entries log → OracleShows w (down_if w c x p).oracle pool entries log
  down_oracle whole pool entries log i = i
  down_oracle (part out) pool entries log i = unfold down in i

  pub down_offered : (c : theory.Cut) (m : ℕ) → (down_if w c x p).offered m ≡ x.offered m
  down_offered whole m = refl
  down_offered (part out) m = unfold down in refl

  -- up, as the mask says it
  pub down_up : (place : ℕ → ℕ) (cut : Cut) (q : ℕ) (d : Bool) → x.sites.up q ≡ not d → (down_if w (cut_by place cut) x p).sites.up q ≡ not (d || is_cut cut && eqb q p)
  down_up place Whole q d h = h ∙ ap not (sym (or-false d))
  down_up place (After j) q d h = unfold down in elim (ℕ_discrete q p) [
    | yes e ↦ rw (eq-eqb p q (sym e), eq-eqb q p e) (ap not (sym (or_yes d)))
    | no n ↦ rw (ne_eqb p q (λ e. n (sym e)), ne_eqb q p n, or-false d) h
  ]
    where
      or_yes : (d : Bool) → (d || true) ≡ true
      or_yes true = refl
      or_yes false = refl

-- ---- a board put together again after a step

module _ (w : World) (b : Board) (t : Table) (flight : Flight) (p m : ℕ) (step : Step) (cut : Cut) (s : State)
    (p_place : p < length b.sites) (m_place : m < length b.tallies) where
  abbrev on : Board
  on = board_flight (board_table b t) flight

  pub together : ((x : ℕ) → s.offered x ≡ offered t x)
      → ((q : ℕ) → q < w.n → s.sites.up q ≡ not (is_down b q || is_cut cut && eqb q p))
      → SiteShowsIn w s p (site_after step cut)
      → ((q : ℕ) → q < w.n → q ≢ p → SiteShowsIn w s q (site_at b q))
      → TallyShowsIn w s m step.tally
      → ((x : ℕ) → x ≢ m → TallyShowsIn w s x (tally_at b x))
      → FlightShowsIn w s (sending_all flight p (sends_out step cut))
      → OracleShows w s.oracle (pooling b.pool (sends_out step cut)) (entering b.entries (sends_out step cut)) b.log
      → Shows w (carried_out on p m step cut) s
  together offers up own others tally tallies flights oracle = record {
    offers = λ x. offers x ∙ ap (λ (u : Table). offered u x) (sym (out_table on p m step cut));
    up = λ q lt. up q lt ∙ ap not (sym (out_is_down on p m step cut q));
    each_site = λ q lt. elim (ℕ_discrete q p) [
      | yes e ↦ rw (e, out_site on p m step cut p_place) own
      | no d ↦ rw (out_site_other on p m step cut q d) (others q lt d)
    ];
    each_tally = λ x. elim (ℕ_discrete x m) [
      | yes e ↦ rw (e, out_tally on p m step cut m_place) tally
      | no d ↦ rw (out_tally_other on p m step cut x d) (tallies x d)
    ];
    flight = rw (out_flight on p m step cut) flights;
    oracle = rw (out_pool on p m step cut, out_entries on p m step cut, out_log on p m step cut) oracle;
  }
