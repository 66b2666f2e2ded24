-- An accepted start is sound and in shape, so every board reached from it is; and what a whole list has done to it.
-- Rests on Reached and History. Assumes nothing.
use Prim.Native.Nat.{ℕ, zero, suc, ◌+◌, ◌*◌, ◌^◌, ◌<◌, ◌≤◌}
use mathlib.Core.Path.{◌≡◌, refl, sym, ap, ◌∙◌}
use mathlib.Core.Logic.{◌⊎◌, inl, inr}
use mathlib.Core.Bool.{Bool, true, false, cond, not, ◌&&◌}
use mathlib.Core.List.{List, [], ◌∷◌, ◌++◌, append_assoc, append-nil}
use native.Mathlib.Omega.{arith}
use lib.Dec.{eqb}
use lib.ListN.{length, get_or, replicate, length-replicate, get_or-replicate}
use lib.Pow.{pow_pos}
use Rattle.sets.proofs.Truth.{test, never, not_so}
use Rattle.sets.specs.Masks.{has_bit}
use Rattle.sets.proofs.MaskLaws.{has_bit_zero}
use Rattle.sets.specs.Numbers.{listed, distinct}
use Rattle.sets.proofs.WordLaws.{empty_shape, member_empty}
use Rattle.sets.specs.Sets.{capacity, words, has, empty_set, Shape}
use Rattle.posting.specs.declared.Table.{Table}
use Rattle.posting.specs.Kinds.{symmetric, has_fixed_pairs}
use Rattle.posting.specs.Conflicts.{no_posting, row, offered, empty_table}
use Rattle.posting.proofs.ConflictLaws.{offered_below}
use Rattle.posting.specs.Records.{numbers_of}
use Rattle.posting.proofs.RecordLaws.{empty_places}
use Rattle.site.specs.declared.Setup.{Setup}
use Rattle.site.specs.declared.Site.{Site}
use Rattle.site.specs.declared.Tally.{Tally}
use Rattle.site.specs.Sites.{sites, blank_site, blank_tally, no_site, no_tally, no_set}
use Rattle.flight.specs.Flights.{empty_flight}
use Rattle.flight.proofs.FlightLaws.{empty_flight_shape, empty_in_flight, empty_good, empty_carried}
use Rattle.flight.proofs.ArrayLaws.{zero_at}
use Rattle.machine.specs.declared.Board.{Board}
use Rattle.steps.specs.declared.Call.{Call}
use Rattle.machine.specs.declared.Outcome.{Outcome}
use Rattle.machine.specs.Boards.{fresh_board, site_at, tally_at, entry_at}
use Rattle.sets.specs.Below.{all_of}
use Rattle.machine.specs.Soundness.{setup_ok, sites_ok, crashes_ok, is_sound}
use Rattle.machine.specs.Calls.{starting}
use Rattle.machine.specs.Runs.{taking, accepted, running}
use Rattle.machine.specs.History.{accepted_calls, offers, orders, reads, brought_down}
use Rattle.invariants.proofs.Blank.{Blank}
use Rattle.machine.proofs.Shapes.{SiteShape, BoardShape}
use Rattle.machine.proofs.SoundFacts.{to_all, Offers, MaskSound, RecordSound, SiteSound, TallySound, Sound}
use Rattle.machine.proofs.SoundTest.{facts_sound}
use Rattle.invariants.proofs.Judged.{accepted_none}
use Rattle.invariants.proofs.FlightSound.{facts_flight}
use Rattle.machine.proofs.Facts.{setup_sites}
use Rattle.invariants.proofs.History.{Done, call_done}
use Rattle.invariants.proofs.Reached.{Good, good_sites, call_good, run_good}

-- ---- an accepted start

no_not : (b : Bool) → not b ≡ false → b ≡ true
no_not true e = refl
no_not false e = sym e

pub start_taken : (n f matrix : ℕ) → accepted (starting n f matrix).answer ≡ true
    → ((starting n f matrix).board ≡ fresh_board (record { n = n; f = f; matrix = matrix })) × (setup_ok (record { n = n; f = f; matrix = matrix }) ≡ true)
unfolding starting setup_ok
start_taken n f matrix h =
    let setup : Setup = record { n = n; f = f; matrix = matrix } in
    let (e, none) = accepted_none _ _ _ h in (
      ap (λ (o : Outcome). o.board) e,
      to_all (sites_ok setup ∷ crashes_ok setup ∷ symmetric matrix ∷ has_fixed_pairs matrix ∷ [])
          (no_not (sites_ok setup) none.0, (no_not (crashes_ok setup) none.1.0, (no_not (symmetric matrix) none.1.1.0, (no_not (has_fixed_pairs matrix) none.1.1.1.0, tt)))),
    )

-- ---- nothing offered, nothing sent

module _ (setup : Setup) (ok : setup_ok setup ≡ true) where
  abbrev b : Board
  b = fresh_board setup

  few : setup.n ≤ sites
  few = (setup_sites setup ok).1

  no_posting_lem : (m : ℕ) → offered empty_table m ≡ true → ⊥
  no_posting_lem m o = let lt = (offered_below empty_table m o).0 in omega arith

  no_member : (x : ℕ) → has empty_set x ≡ true → ⊥
  no_member x h = never h (member_empty words x)

  blank_at : (p : ℕ) → p < sites → site_at b p ≡ blank_site
  blank_at p lt = get_or-replicate sites p blank_site no_site lt

  tally_at_lem : (m : ℕ) → m < capacity → tally_at b m ≡ blank_tally
  tally_at_lem m lt = get_or-replicate capacity m blank_tally no_tally lt

  no_mask : (n m : ℕ) → MaskSound empty_table n m 0
  no_mask n m = record { below = pow_pos n; named = λ r h. absurd (never h (has_bit_zero r)) }

  no_record_lem : RecordSound empty_table (record { count = 0; numbers = replicate capacity 0 })
  no_record_lem = record { within = omega arith; named = λ i lt. absurd (omega arith); once = unfold numbers_of distinct in refl }

  blank_shape : SiteShape blank_site
  blank_shape = record {
    seen = empty_shape words;
    held = empty_shape words;
    stepped = empty_shape words;
    finished = empty_shape words;
    got = empty_shape words;
    heard = length-replicate {A = ℕ} capacity 0;
    good = length-replicate {A = ℕ} capacity 0;
    delivered = empty_places;
  }

  blank_sound : (n : ℕ) → SiteSound empty_table n 0 blank_site
  blank_sound n = record {
    seen = λ x h. absurd (no_member x h);
    held = λ x h. absurd (no_member x h);
    stepped = λ x h. absurd (no_member x h);
    finished = λ x h. absurd (no_member x h);
    got = λ x h. absurd (no_member x h);
    heard = λ m lt. rw (zero_at capacity m) (no_mask n m);
    good = λ m lt. rw (zero_at capacity m) (no_mask n m);
    delivered = no_record_lem;
    place = omega arith;
  }

  pub fresh_shape : BoardShape b
  fresh_shape = record {
    rows = length-replicate capacity no_posting;
    sites_long = length-replicate sites blank_site;
    tallies_long = length-replicate capacity blank_tally;
    entries_long = length-replicate capacity empty_set;
    each_site = λ p lt. rw (blank_at p lt) blank_shape;
    each_union = λ m lt. rw (tally_at_lem m lt) (empty_shape words);
    each_entry = λ m lt. rw (get_or-replicate capacity m empty_set no_set lt) (empty_shape words);
    flight = empty_flight_shape;
    pool = empty_shape words;
    log = empty_places;
  }

  fresh_blank : Blank b
  fresh_blank = record {
    sites_past = λ p le lt. blank_at p lt;
    rows_past = λ m le. unfold row in no_row capacity m;
    records_past = λ p lt. rw (blank_at p lt) (λ k le. zero_at capacity k);
    log_past = λ k le. zero_at capacity k;
    unloaded = record { no_good = λ m from to none. empty_good m from to; no_carried = λ m from none. empty_carried m from };
  }
    where
      no_row : (k m : ℕ) → get_or (replicate k no_posting) m no_posting ≡ no_posting
      no_row zero m = refl
      no_row (suc k) zero = refl
      no_row (suc k) (suc m) = no_row k m

  pub fresh_good : Good b
  fresh_good = record {
    blank = λ e. fresh_blank;
    shape = fresh_shape;
    sound = record {
      setup = ok;
      count = omega arith;
      owners = λ m o. absurd (no_posting_lem m o);
      fields = λ m o. absurd (no_posting_lem m o);
      down = pow_pos setup.n;
      each_site = λ p lt. rw (blank_at p (omega (arith, few))) (blank_sound setup.n);
      each_tally = λ m lt. rw (tally_at_lem m lt) (record {
        heard_ok = no_mask setup.n m;
        has_ok = no_mask setup.n m;
        union_ok = λ x h. absurd (no_member x h);
        union_named = λ x h. absurd (no_member x h);
      });
      each_cell = facts_flight b few (record {
        below = λ k. rw (zero_at _ k) (pow_pos setup.n);
        each = λ form m from to h. absurd (never h (empty_in_flight form m from to));
      });
      pool = λ x h. absurd (no_member x h);
      log = no_record_lem;
      each_entry = λ m lt. record {
        apart = λ p l. no_member m p;
        finished = λ k. absurd (neither m k);
        carries = λ k. absurd (neither m k);
      };
    };
  }
    where
      neither : (m : ℕ) → (has empty_set m ≡ true) ⊎ (listed m (numbers_of (record { count = 0; numbers = replicate capacity 0 })) ≡ true) → ⊥
      neither m (inl h) = no_member m h
      neither m (inr h) = never h (unfold numbers_of listed in refl)

  pub fresh_done : Done b []
  fresh_done = record {
    count = unfold offers in refl;
    rows = λ m lt. absurd (omega arith);
    log = unfold numbers_of orders in refl;
    places = λ p lt. ap (λ (s : Site). s.place) (blank_at p (omega (arith, few))) ∙ unfold reads in refl;
    downs = λ p lt. has_bit_zero p ∙ unfold brought_down in refl;
  }

-- ---- a run

pub run_done : (b : Board) (l done : List Call) → Good b → Done b done → Done (running b l) (done ++ accepted_calls b l)
unfolding running accepted_calls
run_done b [] done g i = rw append-nil i
run_done b (c ∷ l) done g i = elim (test (accepted (taking b c).answer)) [
  | inl t ↦ rw t (rw append_assoc at (run_done (taking b c).board l (done ++ (c ∷ [])) (call_good b g c) (rw t at (call_done b g.shape (good_sites b g) done i c))))
  | inr t ↦ rw t (run_done (taking b c).board l done (call_good b g c) (rw t at (call_done b g.shape (good_sites b g) done i c)))
]

-- Every board reached is sound.
module _ (n f matrix : ℕ) (ok : accepted (starting n f matrix).answer ≡ true) (calls : List Call) where
  pub reached_good : Good (running (starting n f matrix).board calls)
  reached_good =
      let (e, s) = start_taken n f matrix ok in
      run_good (starting n f matrix).board calls (rw e (fresh_good (record { n = n; f = f; matrix = matrix }) s))

  pub reached_sound : is_sound (running (starting n f matrix).board calls) ≡ true
  reached_sound = facts_sound (running (starting n f matrix).board calls) reached_good.shape (good_sites _ reached_good) reached_good.sound

  -- Cells that hold nothing live are blank.
  pub reached_blank : Blank (running (starting n f matrix).board calls)
  reached_blank = reached_good.blank refl

  -- What the list has done.
  pub reached_done : Done (running (starting n f matrix).board calls) (accepted_calls (starting n f matrix).board calls)
  reached_done =
      let (e, s) = start_taken n f matrix ok in
      let setup : Setup = record { n = n; f = f; matrix = matrix } in
      run_done (starting n f matrix).board calls [] (rw e (fresh_good setup s)) (rw e (fresh_done setup s))
