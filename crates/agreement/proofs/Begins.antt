-- A fresh board shows the theory's blank state.
-- Rests on Shows, on machine and broadcast. Assumes nothing.
use Prim.Native.Nat.{ℕ, zero, suc, ◌*◌, ◌<◌, ◌≤◌}
use mathlib.Core.Path.{◌≡◌, refl, sym, ap, ◌∙◌}
use mathlib.Core.Bool.{Bool, true, false, cond, not, ◌&&◌, and-false}
use mathlib.Core.List.{List, [], ◌∷◌}
use native.Mathlib.Omega.{arith}
use native.Mathlib.Decide.{dec_lt}
use lib.Dec.{eqb, ltb}
use lib.ListN.{length, get_or, replicate, length-replicate, get_or-replicate, get_or-eq_default}
use Rattle.sets.specs.declared.Set.{Set}
use Rattle.sets.proofs.Truth.{test, never, not_so}
use Rattle.sets.specs.Masks.{has_bit}
use Rattle.sets.proofs.MaskLaws.{has_bit_zero}
use Rattle.sets.proofs.WordLaws.{member_empty}
use Rattle.sets.specs.Sets.{words, capacity, has, empty_set, of_words}
use Rattle.posting.specs.Conflicts.{offered, empty_table}
use Rattle.posting.proofs.ConflictLaws.{offered_below}
use Rattle.posting.specs.Records.{numbers_of, empty_record}
use Rattle.posting.proofs.RecordLaws.{numbers_empty}
use Rattle.site.specs.declared.Setup.{Setup}
use Rattle.site.specs.declared.Tally.{Tally}
use Rattle.site.specs.Sites.{sites, blank_site, blank_tally, no_set, no_site, no_tally}
use Rattle.flight.proofs.ArrayLaws.{zero_at}
use Rattle.flight.proofs.FlightLaws.{empty_in_flight, empty_good, empty_carried}
use Rattle.machine.specs.declared.Board.{Board}
use Rattle.machine.specs.Boards.{fresh_board, site_at, tally_at}
use Rattle.broadcast.specs.Machine.{World, State}
use Rattle.broadcast.specs.Runs.{blank}
use Rattle.agreement.proofs.Shows.{SiteShowsIn, TallyShowsIn, Shows}

-- a blank set, or none
no_set_lem : (m x : ℕ) → has (get_or (replicate capacity empty_set) m no_set) x ≡ false
no_set_lem m x = elim (dec_lt m capacity) [
  | yes h ↦ rw (get_or-replicate capacity m empty_set no_set h) (member_empty words x)
  | no h ↦ let out : length (replicate capacity empty_set) ≤ m = omega (arith, length-replicate capacity empty_set) in
      rw (get_or-eq_default (replicate capacity empty_set) no_set out) (member_empty 0 x)
]

module _ (w : World) (setup : Setup) (few : w.n ≤ sites) where
  abbrev b : Board
  b = fresh_board setup

  no_record_lem : [] ≡ numbers_of empty_record
  no_record_lem = sym numbers_empty

  blank_site_lem : (p : ℕ) → SiteShowsIn w blank p blank_site
  unfolding blank
  blank_site_lem p = record {
    seen_is = λ m. sym (member_empty words m);
    held_is = λ m. sym (member_empty words m);
    stepped_is = λ m. sym (member_empty words m);
    heard_is = λ m r lt. rw (zero_at capacity m) (sym (has_bit_zero r));
    agreed_is = λ m r lt. rw (zero_at capacity m) (sym (has_bit_zero r));
    got_is = λ m. sym (member_empty words m);
    finished_is = λ m o. sym (member_empty words m);
    place_is = refl;
    delivered_is = no_record_lem;
  }

  blank_tally_lem : (m : ℕ) → TallyShowsIn w blank m (tally_at b m)
  unfolding blank
  blank_tally_lem m = elim (dec_lt m capacity) [
    | yes h ↦ rw (get_or-replicate capacity m blank_tally no_tally h) (record { heard_is = λ r lt. sym (has_bit_zero r); has_is = λ r lt. sym (has_bit_zero r); union_is = λ x. sym (member_empty words x) })
    | no h ↦ let out : length (replicate capacity blank_tally) ≤ m = omega (arith, length-replicate capacity blank_tally) in
        rw (get_or-eq_default (replicate capacity blank_tally) no_tally out) (record { heard_is = λ r lt. sym (has_bit_zero r); has_is = λ r lt. sym (has_bit_zero r); union_is = λ x. sym (member_empty 0 x) })
  ]

  pub fresh_shows : Shows w b blank
  fresh_shows = record {
    offers = λ m. unfold blank in sym (not_so (offered empty_table m) (λ h. let lt = (offered_below empty_table m h).0 in omega arith));
    up = λ p lt. unfold blank in sym (ap not (has_bit_zero p));
    each_site = λ p lt. rw (get_or-replicate sites p blank_site no_site (omega (arith, few, lt))) (blank_site_lem p);
    each_tally = blank_tally_lem;
    flight = unfold blank in record {
      firsts_is = λ m r p la lb. sym (empty_in_flight 0 m r p);
      seconds_is = λ m r p la lb. sym (empty_in_flight 1 m r p);
      good_is = λ m r p la lb. sym (empty_good m r p);
      thirds_is = λ m r la. sym (empty_in_flight 2 m r (w.owner m));
      carried_is = λ m r x la. sym (ap (λ (v : Set). has v x) (empty_carried m r) ∙ member_empty words x);
      delivers_is = λ m r p la lb. sym (empty_in_flight 3 m r p);
    };
    oracle = unfold blank in record {
      pool_is = λ m. sym (member_empty words m);
      entry_is = λ m x. sym (no_set_lem m x);
      log_is = no_record_lem;
    };
  }
