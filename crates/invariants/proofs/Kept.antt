-- Every accepted call keeps a board sound and in shape, so every board reached from an accepted start is sound and in shape.
-- Rests on StepSound, Grow, Room, PoolSound, FlightSound, Blank and CarriedOut, on machine. Assumes nothing.
use Prim.Native.Nat.{ℕ, zero, suc, ◌+◌, ◌*◌, ◌/◌, ◌%◌, ◌^◌, ◌<◌, ◌≤◌}
use mathlib.Core.Path.{◌≡◌, refl, sym, ap, ◌∙◌, subst}
use mathlib.Core.Logic.{◌⊎◌, inl, inr, ◌≢◌}
use mathlib.Core.Bool.{Bool, true, false, cond, not, ◌&&◌, ◌||◌}
use mathlib.Core.List.{List, [], ◌∷◌, ◌++◌}
use native.Mathlib.Omega.{arith}
use native.Mathlib.Decide.{ℕ_discrete, dec_lt}
use lib.Dec.{eqb, ltb, leb}
use lib.ListN.{length, get_or, set, take, length-set, get_or-eq_default}
use lib.Bits.{or_lt}
use lib.Pow.{pow-lt, pow_pos}
use borrow.Author.Tests.{eqb-true, leb-true, ltb-true, eq-eqb, ne_eqb}
use Rattle.sets.specs.declared.Set.{Set}
use Rattle.sets.proofs.Truth.{test, never, not_so, and_left, and_right, or_cases}
use Rattle.sets.specs.Masks.{has_bit}
use Rattle.sets.specs.Numbers.{listed}
use Rattle.sets.proofs.NumberLaws.{listed_last}
use Rattle.sets.specs.Sets.{capacity, has, without, Shape}
use Rattle.posting.specs.declared.Posting.{Posting}
use Rattle.posting.specs.declared.Table.{Table}
use Rattle.posting.specs.declared.Record.{Record}
use Rattle.posting.specs.Kinds.{fields_ok}
use Rattle.posting.specs.Conflicts.{row, offered, table_with}
use Rattle.posting.proofs.ConflictLaws.{offered_below}
use Rattle.posting.specs.Records.{numbers_of, contains, append}
use Rattle.posting.proofs.RecordLaws.{Places, append_places, numbers_append}
use Rattle.site.specs.declared.Setup.{Setup}
use Rattle.site.specs.declared.Site.{Site}
use Rattle.site.specs.declared.Tally.{Tally}
use Rattle.site.specs.Sites.{sites, no_site, no_tally, no_set, plus}
use Rattle.site.specs.Sends.{forms, Send, Step}
use Rattle.site.specs.Steps.{owner_of, delivered_site}
use Rattle.flight.specs.declared.Flight.{Flight}
use Rattle.flight.specs.Flights.{receivers_in, cell_at, sending, sending_all}
use Rattle.flight.specs.Shapes.{Shape as FlightShape}
use Rattle.flight.proofs.FlightLaws.{sending_shape}
use Rattle.flight.proofs.CellLaws.{cell_in}
use Rattle.machine.specs.declared.Board.{Board}
use Rattle.steps.specs.declared.Cut.{Cut}
use Rattle.steps.specs.declared.Cut.TheVariants.{Whole, After}
use Rattle.steps.specs.declared.Call.{Call}
use Rattle.steps.specs.declared.Call.TheVariants.{Offer, Receive, Order, Read, Crash}
use Rattle.machine.specs.Boards.{site_at, tally_at, entry_at, board_table, board_flight}
use Rattle.machine.specs.Soundness.{is_sound, setup_ok, sites_ok, crashes_ok}
use Rattle.machine.specs.Calls.{carried_out, pooling, entering}
use Rattle.steps.specs.Causes.{is_cut}
use Rattle.machine.proofs.Shapes.{SiteShape, BoardShape}
use Rattle.machine.proofs.SoundFacts.{AllTrue, of_all, Offers, MaskSound, RecordSound, SiteSound, TallySound, CellSound, EntrySound, Sound}
use Rattle.machine.proofs.Facts.{setup_sites}
use Rattle.machine.proofs.SoundTest.{sound_facts, facts_sound}
use Rattle.invariants.proofs.StepSound.{SendSound, AllSends, all_take, StepSound, delivered_ok, delivered_shape}
use Rattle.invariants.proofs.Grow.{Grows, offers_grow, record_grow, site_grow, tally_grow}
use Rattle.invariants.proofs.Room.{listed_offered, record_room}
use Rattle.invariants.proofs.PoolSound.{PoolSound, pool_sound}
use Rattle.invariants.proofs.FlightSound.{FlightSound, fits, flight_facts, facts_flight, sends_shape, sends_sound}
use Rattle.invariants.proofs.Blank.{Past, Unloaded, Blank, delivering_all_past, sending_unloaded}
use Rattle.invariants.proofs.CarriedOut.{sends_out, site_after, out_setup, out_table, out_log, out_down, out_sites, out_tallies, out_flight, out_pool, out_entries, out_site, out_site_other, out_tally, out_tally_other}

-- ---- all cells of a sound board

pub cells_below : (b : Board) → BoardShape b → ((form m from : ℕ) → form < forms → m < capacity → from < sites → CellSound b form m from)
    → (k : ℕ) → get_or b.flight.masks k 0 < 2 ^ b.setup.n
cells_below b shape each k = elim (dec_lt k (length b.flight.masks)) [
  | yes lt ↦
      let form = k / (capacity * sites) in
      let m = k / sites % capacity in
      let from = k % sites in
      let hm : m < capacity = omega arith in
      let hf : from < sites = omega arith in
      let hform : form < forms = omega (arith, shape.flight.masks.long) in
      let e : cell_at form m from ≡ k = rw (cell_in form m from hform hm hf) (omega arith) in
      rw (← e) (each form m from hform hm hf).below
  | no out ↦ rw (get_or-eq_default b.flight.masks 0 {n = k} (omega arith)) (pow_pos b.setup.n)
]

-- ---- a step carried out

-- a board whose table has grown, with what else of it is sound, before a step of site p is carried out
pub record Ready (b : Board) (p m : ℕ) : Type 0 where
  pub shape : BoardShape b
  pub sound : Sound b
  pub site : p < b.setup.n
  pub posting : m < capacity

module _ (b : Board) (p m : ℕ) (step : Step) (cut : Cut) (i : Ready b p m)
    (s : StepSound b.table b.setup.n b.log.count m p (site_at b p).finished step) where
  abbrev out : Board
  out = carried_out b p m step cut

  few : b.setup.n ≤ sites
  few = (setup_sites b.setup i.sound.setup).1

  p_place : p < length b.sites
  p_place = omega (arith, i.shape.sites_long, i.site, few)

  m_place : m < length b.tallies
  m_place = omega (arith, i.shape.tallies_long, i.posting)

  sends_ok : AllSends b.table b.setup.n (SendSound b.table b.setup.n p (site_at b p).finished step.site) (sends_out step cut)
  sends_ok = go cut
    where
      go : (cut : Cut) → AllSends b.table b.setup.n (SendSound b.table b.setup.n p (site_at b p).finished step.site) (sends_out step cut)
      go Whole = s.sends_ok
      go (After j) = all_take b.table b.setup.n _ j step.sends s.sends_ok

  after_ok : SiteSound b.table b.setup.n b.log.count (site_after step cut)
  after_ok = go cut
    where
      go : (cut : Cut) → SiteSound b.table b.setup.n b.log.count (site_after step cut)
      go Whole = delivered_ok b.table b.setup.n b.log.count m p (site_at b p).finished step s
      go (After j) = s.site_ok

  after_shape : SiteShape (site_after step cut)
  after_shape = go cut
    where
      go : (cut : Cut) → SiteShape (site_after step cut)
      go Whole = delivered_shape b.table b.setup.n b.log.count m p (site_at b p).finished step s
      go (After j) = s.site_shape

  after_finished : (site_after step cut).finished ≡ step.site.finished
  after_finished = go cut
    where
      go : (cut : Cut) → (site_after step cut).finished ≡ step.site.finished
      go Whole = refl
      go (After j) = refl

  -- what has been finished stays finished
  finished_more : (q x : ℕ) → has (site_at b q).finished x ≡ true → has (site_at out q).finished x ≡ true
  finished_more q x h = elim (ℕ_discrete q p) [
    | yes e ↦ rw (e, out_site b p m step cut p_place, after_finished) (s.finished_stays x (rw e at h))
    | no d ↦ rw (out_site_other b p m step cut q d) h
  ]

  pool_before : PoolSound b.table (λ q x. has (site_at out q).finished x) (λ x. listed x (numbers_of b.log)) b.pool b.entries
  pool_before = record {
    shape = i.shape.pool;
    long = i.shape.entries_long;
    shapes = i.shape.each_entry;
    named = i.sound.pool;
    apart = λ x k l. (i.sound.each_entry x (below x (inl k))).apart k l;
    ended = λ x k. finished_more (owner_of b.table x) x ((i.sound.each_entry x (below x k)).finished k);
    carries = λ x k. (i.sound.each_entry x (below x k)).carries k;
  }
    where
      below : (x : ℕ) → (has b.pool x ≡ true) ⊎ (listed x (numbers_of b.log) ≡ true) → x < capacity
      below x k = elim k [
        | inl h ↦ (offered_below b.table x (i.sound.pool x h)).1
        | inr h ↦ (offered_below b.table x (listed_offered b.table b.log i.sound.log i.shape.log x h)).1
      ]

  pool_after : PoolSound b.table (λ q x. has (site_at out q).finished x) (λ x. listed x (numbers_of b.log)) (pooling b.pool (sends_out step cut)) (entering b.entries (sends_out step cut))
  pool_after =
      pool_sound b.table b.setup.n (λ q x. has (site_at out q).finished x) (λ x. listed x (numbers_of b.log)) p (site_at b p).finished step.site
      (λ x l own. let lt = (offered_below b.table x (listed_offered b.table b.log i.sound.log i.shape.log x l)).1 in rw own ((i.sound.each_entry x lt).finished (inr l)))
      (λ x h. rw (out_site b p m step cut p_place, after_finished) h)
      b.pool b.entries (sends_out step cut) sends_ok pool_before

  flight_before : FlightSound b.table b.setup.n b.flight
  flight_before = flight_facts b (cells_below b i.shape i.sound.each_cell) i.sound.each_cell

  flight_after : FlightSound b.table b.setup.n out.flight
  flight_after = rw (out_flight b p m step cut)
      (sends_sound b.table b.setup.n few p i.site (site_at b p).finished step.site b.flight (sends_out step cut) i.shape.flight sends_ok flight_before)

  pub out_shape : BoardShape out
  out_shape = record {
    rows = rw (out_table b p m step cut) i.shape.rows;
    sites_long = rw (out_sites b p m step cut) (length-set b.sites p (site_after step cut) ∙ i.shape.sites_long);
    tallies_long = rw (out_tallies b p m step cut) (length-set b.tallies m step.tally ∙ i.shape.tallies_long);
    entries_long = rw (out_entries b p m step cut) pool_after.long;
    each_site = λ q lq. elim (ℕ_discrete q p) [
      | yes e ↦ rw (e, out_site b p m step cut p_place) after_shape
      | no d ↦ rw (out_site_other b p m step cut q d) (i.shape.each_site q lq)
    ];
    each_union = λ x lx. elim (ℕ_discrete x m) [
      | yes e ↦ rw (e, out_tally b p m step cut m_place) s.union_shape_ok
      | no d ↦ rw (out_tally_other b p m step cut x d) (i.shape.each_union x lx)
    ];
    each_entry = λ x lx. rw (out_entries b p m step cut) (pool_after.shapes x lx);
    flight = rw (out_flight b p m step cut)
        (sends_shape b.table b.setup.n few p i.site (site_at b p).finished step.site b.flight (sends_out step cut) i.shape.flight sends_ok);
    pool = rw (out_pool b p m step cut) pool_after.shape;
    log = rw (out_log b p m step cut) i.shape.log;
  }

  -- ---- cells that hold nothing live

  unloaded_after : (flight : Flight) (l : List Send) → FlightShape flight → AllSends b.table b.setup.n (SendSound b.table b.setup.n p (site_at b p).finished step.site) l
      → Unloaded flight → Unloaded (sending_all flight p l)
  unfolding sending_all
  unloaded_after flight [] shape all u = u
  unloaded_after flight (send ∷ l) shape all u =
      let fit = fits b.table b.setup.n few p i.site (site_at b p).finished step.site send all.0 in
      let there : p < sites = omega (arith, i.site, few) in
      unloaded_after (sending flight p send) l (sending_shape flight shape p there send fit) all.1 (sending_unloaded flight shape u p there send fit)

  after_past : Past (site_at b p).delivered → step.site.delivered ≡ (site_at b p).delivered → Past (site_after step cut).delivered
  after_past h e = go cut
    where
      go : (cut : Cut) → Past (site_after step cut).delivered
      go Whole = delivering_all_past step.site.delivered step.delivers (rw e h)
      go (After j) = rw e h

  pub out_blank : step.site.delivered ≡ (site_at b p).delivered → Blank b → Blank out
  out_blank e k = record {
    sites_past = λ q le lt.
        let past : b.setup.n ≤ q = rw (out_setup b p m step cut) at le in
        rw (out_site_other b p m step cut q (λ d. omega (arith, i.site, past, d))) (k.sites_past q past lt);
    rows_past = rw (out_table b p m step cut) k.rows_past;
    records_past = λ q lq. elim (ℕ_discrete q p) [
      | yes d ↦ rw (d, out_site b p m step cut p_place) (after_past (k.records_past p (rw d at lq)) e)
      | no d ↦ rw (out_site_other b p m step cut q d) (k.records_past q lq)
    ];
    log_past = rw (out_log b p m step cut) k.log_past;
    unloaded = rw (out_flight b p m step cut) (unloaded_after b.flight (sends_out step cut) i.shape.flight sends_ok k.unloaded);
  }

  pub out_sound : Sound out
  out_sound = record {
    setup = rw (out_setup b p m step cut) i.sound.setup;
    count = rw (out_table b p m step cut) i.sound.count;
    owners = rw (out_table b p m step cut, out_setup b p m step cut) i.sound.owners;
    fields = rw (out_table b p m step cut) i.sound.fields;
    down = rw (out_down b p m step cut, out_setup b p m step cut) (down_ok (is_cut cut));
    each_site = λ q lq. elim (ℕ_discrete q p) [
      | yes e ↦ rw (e, out_site b p m step cut p_place, out_table b p m step cut, out_setup b p m step cut, out_log b p m step cut) after_ok
      | no d ↦ rw (out_site_other b p m step cut q d, out_table b p m step cut, out_setup b p m step cut, out_log b p m step cut)
          (i.sound.each_site q (rw (out_setup b p m step cut) at lq))
    ];
    each_tally = λ x lx. elim (ℕ_discrete x m) [
      | yes e ↦ rw (e, out_tally b p m step cut m_place, out_table b p m step cut, out_setup b p m step cut) s.tally_ok
      | no d ↦ rw (out_tally_other b p m step cut x d, out_table b p m step cut, out_setup b p m step cut) (i.sound.each_tally x lx)
    ];
    each_cell = facts_flight out (rw (out_setup b p m step cut) few) (rw (out_table b p m step cut, out_setup b p m step cut) flight_after);
    pool = rw (out_pool b p m step cut, out_table b p m step cut) pool_after.named;
    log = rw (out_log b p m step cut, out_table b p m step cut) i.sound.log;
    each_entry = λ x lx. record {
      apart = rw (out_pool b p m step cut, out_log b p m step cut) (pool_after.apart x);
      finished = rw (out_pool b p m step cut, out_log b p m step cut, out_table b p m step cut) (pool_after.ended x);
      carries = rw (out_pool b p m step cut, out_log b p m step cut, out_table b p m step cut, out_entries b p m step cut) (pool_after.carries x);
    };
  }
    where
      down_ok : (c : Bool) → cond c (plus b.down p) b.down < 2 ^ b.setup.n
      down_ok true = or_lt b.setup.n b.down (2 ^ p) i.sound.down (pow-lt i.site)
      down_ok false = i.sound.down
