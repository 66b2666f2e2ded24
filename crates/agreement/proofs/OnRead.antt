-- A reading is the theory's event: the log's next entry is delivered, its set in rising number and then its posting.
-- Rests on Ground, Delivered and invariants. Assumes nothing.
use Prim.Native.Nat.{ℕ, zero, suc, ◌+◌, ◌*◌, ◌<◌, ◌≤◌}
use mathlib.Core.Path.{◌≡◌, refl, sym, ap, ◌∙◌}
use mathlib.Core.Logic.{◌⊎◌, inl, inr, ◌≢◌}
use mathlib.Core.Bool.{Bool, true, false, cond}
use mathlib.Core.List.{List, [], ◌∷◌, ◌++◌}
use native.Mathlib.Omega.{arith}
use native.Mathlib.Decide.{ℕ_discrete}
use lib.Dec.{eqb}
use lib.ListN.{length, get_or, take}
use lib.Seq.{take-nil, get_or-take}
use borrow.Author.Tests.{eq-eqb, ne_eqb}
use Rattle.sets.specs.declared.Set.{Set}
use Rattle.sets.specs.Numbers.{listed}
use Rattle.sets.specs.Words.{member, members_below}
use Rattle.sets.specs.Words as words
use Rattle.sets.proofs.WordLaws.{listed_members}
use Rattle.sets.specs.Sets.{capacity, has, members_of, Shape}
use Rattle.posting.specs.Conflicts.{offered}
use Rattle.posting.proofs.ConflictLaws.{offered_below}
use Rattle.posting.specs.Records.{numbers_of}
use Rattle.posting.proofs.RecordLaws.{length_numbers}
use Rattle.site.specs.declared.Site.{Site}
use Rattle.site.specs.Sites.{sites, site_place}
use Rattle.site.specs.Sends.{Send, Step}
use Rattle.site.specs.Steps.{on_entry}
use Rattle.flight.specs.Flights.{sending_all}
use Rattle.machine.specs.declared.Board.{Board}
use Rattle.steps.specs.declared.Cut.{Cut}
use Rattle.steps.specs.declared.Cut.TheVariants.{Whole, After}
use Rattle.machine.specs.Boards.{site_at, tally_at, entry_at, is_down}
use Rattle.machine.specs.Calls.{carried_out, pooling, entering}
use Rattle.invariants.proofs.Judged.{ReadTaken, read_step, next_logged}
use Rattle.machine.proofs.Shapes.{SiteShape}
use Rattle.machine.proofs.SoundFacts.{SiteSound}
use Rattle.invariants.proofs.SiteSound.{AllOffered}
use Rattle.invariants.proofs.StepSound.{all_are_offered}
use Rattle.invariants.proofs.CarriedOut.{sends_out, site_after}
use Rattle.invariants.proofs.Reached.{Good, good_sites, at_listed}
use Rattle.broadcast.specs.Deliveries as lists
use Rattle.broadcast.specs.Machine.{World, State, down_if, deliver_at, advance, entry_of}
use Rattle.broadcast.specs.Machine as theory
use Rattle.broadcast.specs.Runs.{Event, Allowed, does, on_read, next_at}
use Rattle.agreement.proofs.Casts.{cut_by}
use Rattle.agreement.proofs.Delivered.{delivered_own, delivered_other}
use Rattle.agreement.proofs.Shows.{SiteShows, SiteShowsIn, TallyShowsIn, FlightShowsIn, OracleShows, Shows}
use Rattle.agreement.proofs.Ground.{W, Seen, nothing_out, same_n, may_cut, is_up, down_site, down_tally, down_flight, down_oracle, down_offered, down_up, together}

-- the members of a set, as the theory lists them
members_below_lem : (q : ℕ → Bool) (ws : List ℕ) → ((x : ℕ) → q x ≡ member ws x) → (n : ℕ) → lists.members q n ≡ members_below ws n
unfolding members_below
members_below_lem q ws e zero = refl
members_below_lem q ws e (suc n) = rw (members_below_lem q ws e n, e n)

members_is : (q : ℕ → Bool) (set : Set) → Shape set → ((x : ℕ) → q x ≡ has set x) → lists.members q capacity ≡ members_of set
unfolding words.members
members_is q set shape e = members_below_lem q set.words e capacity ∙ ap (λ (k : ℕ). members_below set.words (64 * k)) (sym shape.long)

module _ (w : World) (s : State) (p : ℕ) where
  advance_own : (site : Site) → SiteShowsIn w s p site → SiteShowsIn w (advance w s p) p (site_place site (site.place + 1))
  unfolding advance
  advance_own site i = record {
    seen_is = i.seen_is;
    held_is = i.held_is;
    stepped_is = i.stepped_is;
    heard_is = i.heard_is;
    agreed_is = i.agreed_is;
    got_is = i.got_is;
    finished_is = i.finished_is;
    place_is = rw (eq-eqb p p refl, i.place_is) (omega arith);
    delivered_is = i.delivered_is;
  }

  advance_other : (q : ℕ) (site : Site) → q ≢ p → SiteShowsIn w s q site → SiteShowsIn w (advance w s p) q site
  unfolding advance
  advance_other q site d i = record {
    seen_is = i.seen_is;
    held_is = i.held_is;
    stepped_is = i.stepped_is;
    heard_is = i.heard_is;
    agreed_is = i.agreed_is;
    got_is = i.got_is;
    finished_is = i.finished_is;
    place_is = rw (ne_eqb p q (λ e. d (sym e))) i.place_is;
    delivered_is = i.delivered_is;
  }

module _ (last : Board) (g : Good last) (b : Board) (s : State) (k : Seen last g b s) (p : ℕ) (cut : Cut) (t : ReadTaken b p cut) where
  abbrev w : World
  w = W last g

  abbrev m : ℕ
  m = next_logged b p

  abbrev tc : theory.Cut
  tc = cut_by (λ x. x) cut

  lp : p < w.n
  lp = rw (← same_n last g b s k) t.acts.there

  hp : p < sites
  hp = let few = good_sites b k.good in omega (arith, t.acts.there)

  named : offered b.table m ≡ true
  named = k.good.sound.log.named (site_at b p).place t.left

  below : m < capacity
  below = (offered_below b.table m named).1

  log_long : length s.oracle.log ≡ b.log.count
  log_long = ap length k.shows.oracle.log_is ∙ length_numbers b.log k.good.shape.log k.good.sound.log.within

  pub read_allowed : Allowed w s (Event.read p tc)
  read_allowed = (
    lp,
    is_up last g b s k p lp t.acts.up,
    rw ((k.shows.each_site p lp).place_is, log_long) t.left,
    may_cut last g b s k (λ x. x) p (read_step b p) cut t.acts,
  )

  -- the entry read
  pub next_is : next_at w s p ≡ m
  next_is = rw ((k.shows.each_site p lp).place_is, k.shows.oracle.log_is) (unfold numbers_of in get_or-take b.log.count b.log.numbers (site_at b p).place 0 t.left)

  carried_ok : (x : ℕ) → has (entry_at b m) x ≡ true → offered b.table x ≡ true
  carried_ok = (k.good.sound.each_entry m below).carries (inr
      (unfold numbers_of in at_listed b.log.numbers b.log.count (site_at b p).place t.left (omega (arith, k.good.sound.log.within, k.good.shape.log))))

  delivers_is : entry_of w s.oracle.entry (next_at w s p) ≡ members_of (entry_at b m) ++ (m ∷ [])
  unfolding entry_of
  delivers_is = rw next_is (ap (λ (l : List ℕ). l ++ (m ∷ [])) (members_is (s.oracle.entry m) (entry_at b m) (k.good.shape.each_entry m below) (k.shows.oracle.entry_is m)))

  abbrev step_is : Step
  step_is = record { site = site_place (site_at b p) ((site_at b p).place + 1); tally = tally_at b m; sends = []; delivers = members_of (entry_at b m) ++ (m ∷ []) }

  site_shape : SiteShape (site_at b p)
  site_shape = k.good.shape.each_site p hp

  site_ok : SiteSound b.table b.setup.n b.log.count (site_at b p)
  site_ok = k.good.sound.each_site p t.acts.there

  all_named : AllOffered b.table (members_of (entry_at b m) ++ (m ∷ []))
  all_named = all_are_offered b.table m named (members_of (entry_at b m)) (λ x h. carried_ok x (sym (listed_members (entry_at b m).words x) ∙ h))

  abbrev one : State
  one = deliver_at w (advance w s p) p (members_of (entry_at b m) ++ (m ∷ [])) tc

  step_shows : Shows w (carried_out b p m step_is cut) (down_if w tc one p)
  step_shows = together w b b.table b.flight p m step_is cut (down_if w tc one p)
      (omega (arith, k.good.shape.sites_long, hp)) (omega (arith, k.good.shape.tallies_long, below))
      (λ x. down_offered w one p tc x ∙ unfold deliver_at advance in k.shows.offers x)
      (λ q lq. down_up w one p (λ v. v) cut q (is_down b q) (unfold deliver_at advance in k.shows.up q lq))
      (down_site w one p tc p (site_after step_is cut) (delivered_own w (advance w s p) p b.table step_is (λ x. x) cut site_shape.delivered site_ok.delivered all_named
      (advance_own w s p (site_at b p) (k.shows.each_site p lp))))
      (λ q lq d. down_site w one p tc q (site_at b q) (delivered_other w (advance w s p) p q (site_at b q) (members_of (entry_at b m) ++ (m ∷ [])) tc d
      (advance_other w s p q (site_at b q) d (k.shows.each_site q lq))))
      (down_tally w one p tc m (tally_at b m) (unfold deliver_at advance in k.shows.each_tally m))
      (λ x d. down_tally w one p tc x (tally_at b x) (unfold deliver_at advance in k.shows.each_tally x))
      (rw (nothing_out step_is cut refl) (unfold sending_all in down_flight w one p tc b.flight (unfold deliver_at advance in k.shows.flight)))
      (rw (nothing_out step_is cut refl) (unfold pooling entering in down_oracle w one p tc b.pool b.entries b.log (unfold deliver_at advance in k.shows.oracle)))

  pub read_shows : Shows w (carried_out b p m (read_step b p) cut) (does w s (Event.read p tc))
  unfolding on_read on_entry
  read_shows = rw delivers_is step_shows
