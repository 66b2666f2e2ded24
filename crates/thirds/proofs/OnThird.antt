-- The ways out of THIRD, and of the functions it is made of: late and without effect; heard; the (n - f)th, at which m is finished.
-- Rests on Flat and Ways. Assumes nothing.
use Prim.Native.Nat.{ℕ}
use mathlib.Core.Path.{◌≡◌, sym, ap, ◌∙◌}
use mathlib.Core.Logic.{◌≢◌}
use mathlib.Core.Bool.{Bool, true, false}
use mathlib.Core.List.{List}
use lib.Bits.{bit_and}
use borrow.Author.Tests.{eq-eqb, ne_eqb}
use Rattle.sets.specs.declared.Set.{Set}
use Rattle.sets.specs.Sets.{empty_set, has, join}
use Rattle.masks.specs.SiteMasks.{every_site, with_site, with_site_if}
use Rattle.site.specs.declared.Setup.{Setup}
use Rattle.site.specs.Sends.{THIRD, DELIVER}
use Rattle.site.specs.Steps.{majority}
use Rattle.site.specs.ByMask.{reached, late}
use Rattle.flight.specs.Flights.{set_in, taking_from, sending_to, carrying}
use Rattle.steps.specs.declared.Cut.{Cut}
use Rattle.steps.specs.Cuts.{sites_to}
use Rattle.arrays.specs.Layout.{finished_of, pool_slot, union_of, entry_of, tallied_at, has_at}
use Rattle.arrays.specs.declared.Arrays.{Arrays}
use Rattle.arrays.specs.Arrays.{arrays, with_sets, with_bytes, with_masks, with_carried, slot_set, storing, has_in, adding, byte, marked}
use Rattle.flat.specs.Flat.{flat, cut_cause, consumed, passed_third, tallying, heard_third, finishing, sent_third, entering, pooled_third, concluded_third, flat_third}
use Rattle.flat.proofs.Ways.{is_refused, goes_on, not_followed, is_followed}

-- ---- m's entry into the pool

module _ (m receivers : ℕ) (union : Set) (sets : List ℕ) where
  pub stays_out : receivers ≡ 0 → sets ≡ entering sets m receivers union
  unfolding entering
  stays_out z = rw (eq-eqb receivers 0 z)

  pub comes_in :
      (added stored : List ℕ) → receivers ≢ 0 → added ≡ adding sets pool_slot m → stored ≡ storing added (entry_of m) union
      → stored ≡ entering sets m receivers union
  unfolding entering
  comes_in added stored n ea es = rw (ne_eqb receivers 0 n, es, ea)

-- ---- finished, but for what is sent

module _ (a : Arrays) (m from to heard holders : ℕ) (union : Set) (cut : Cut) where
  pub finish_done :
      (none : Set) (stored sets tallied bytes masks carried : List ℕ) → stored ≡ storing a.sets (union_of m) union
      → sets ≡ adding stored (finished_of to) m → tallied ≡ tallying a.bytes m heard holders → bytes ≡ marked tallied to cut
      → masks ≡ taking_from a.masks THIRD m from to → none ≡ empty_set → carried ≡ carrying a.carried m from none
      → arrays sets a.counts bytes a.amounts masks a.good carried ≡ finishing a m from to heard holders union cut
  unfolding finishing
  finish_done none stored sets tallied bytes masks carried eu es et eb em en ec = rw (ec, en, em, eb, et, es, eu)

module _ (setup : Setup) (a : Arrays) (m from to : ℕ) (cut : Cut) where
  -- ---- without effect

  module _ (why : ℕ) (gone : Arrays) where
    abbrev emptied : Arrays → Arrays
    emptied d = with_carried d (carrying d.carried m from empty_set)

    pub passed_refused : flat why gone ≡ consumed setup a THIRD m from to cut → why ≢ 0 → flat why gone ≡ passed_third setup a m from to cut
    unfolding passed_third
    passed_refused is n = not_followed why gone _ is emptied n

    pub passed_done :
        (none : Set) (carried : List ℕ) → flat why gone ≡ consumed setup a THIRD m from to cut → why ≡ 0 → none ≡ empty_set
        → carried ≡ carrying gone.carried m from none → flat 0 (with_carried gone carried) ≡ passed_third setup a m from to cut
    unfolding passed_third
    passed_done none carried is z en ec = rw (ec, en) (is_followed why gone _ is emptied z)

  module _ (heard holders : ℕ) (union : Set) where
    -- ---- heard

    module _ (why : ℕ) (passed : Arrays) where
      abbrev noted : Arrays → Arrays
      noted d = with_sets (with_bytes d (tallying d.bytes m heard holders)) (storing d.sets (union_of m) union)

      pub heard_refused :
          flat why passed ≡ passed_third setup a m from to cut → why ≢ 0 → flat why passed ≡ heard_third setup a m from to heard holders union cut
      unfolding heard_third
      heard_refused is n = not_followed why passed _ is noted n

      pub heard_done :
          (sets bytes2 : List ℕ) → flat why passed ≡ passed_third setup a m from to cut → why ≡ 0 → bytes2 ≡ tallying passed.bytes m heard holders
          → sets ≡ storing passed.sets (union_of m) union
          → flat 0 (with_sets (with_bytes passed bytes2) sets) ≡ heard_third setup a m from to heard holders union cut
      unfolding heard_third
      heard_done sets bytes2 is z eb es = rw (eb, es) (is_followed why passed _ is noted z)

    -- ---- finished

    -- DELIVER goes to all
    module _ (all why : ℕ) (is_all : all ≡ every_site setup.n) (is-why : why ≡ cut_cause setup a.bytes all cut) where
      cause : why ≡ cut_cause setup a.bytes (every_site setup.n) cut
      cause = is-why ∙ ap (λ (x : ℕ). cut_cause setup a.bytes x cut) is_all

      abbrev sent : Arrays → Arrays
      sent d = with_masks d (sending_to d.masks DELIVER m to (sites_to (every_site setup.n) cut))

      pub sent_refused : why ≢ 0 → flat why a ≡ sent_third setup a m from to heard holders union cut
      unfolding sent_third
      sent_refused n = is_refused why _ cause a _ n

      pub sent_done :
          (receivers : ℕ) (d : Arrays) (masks : List ℕ) → why ≡ 0 → receivers ≡ sites_to all cut
          → d ≡ finishing a m from to heard holders union cut → masks ≡ sending_to d.masks DELIVER m to receivers
          → flat 0 (with_masks d masks) ≡ sent_third setup a m from to heard holders union cut
      unfolding sent_third
      sent_done receivers d masks z er is em =
          rw (em, er, is_all)
          (ap (λ (x : Arrays). flat 0 (sent x)) is ∙ goes_on why _ cause a (flat 0 (sent (finishing a m from to heard holders union cut))) z)

    -- m's entry goes into the pool
    module _ (why : ℕ) (is-why : why ≡ cut_cause setup a.bytes 1 cut) where
      abbrev pooled : Arrays → Arrays
      pooled d = with_sets d (entering d.sets m (sites_to 1 cut) union)

      pub pooled_refused : why ≢ 0 → flat why a ≡ pooled_third setup a m from to heard holders union cut
      unfolding pooled_third
      pooled_refused n = is_refused why _ is-why a _ n

      pub pooled_done :
          (receivers : ℕ) (d : Arrays) (sets : List ℕ) → why ≡ 0 → receivers ≡ sites_to 1 cut
          → d ≡ finishing a m from to heard holders union cut → sets ≡ entering d.sets m receivers union
          → flat 0 (with_sets d sets) ≡ pooled_third setup a m from to heard holders union cut
      unfolding pooled_third
      pooled_done receivers d sets z er is es =
          rw (es, er)
          (ap (λ (x : Arrays). flat 0 (pooled x)) is ∙ goes_on why _ is-why a (flat 0 (pooled (finishing a m from to heard holders union cut))) z)

    -- ---- not late

    module _ (is_reached : Bool) (is-reached : is_reached ≡ reached setup heard) where
      pub concluded_heard :
          is_reached ≡ false → concluded_third setup a m from to heard holders union cut ≡ heard_third setup a m from to heard holders union cut
      unfolding concluded_third
      concluded_heard f = rw (sym is-reached, f)

      module _ (so : is_reached ≡ true) (most : Bool) (is-most : most ≡ majority setup (bit_and holders heard)) where
        pub concluded_sent :
            most ≡ true → concluded_third setup a m from to heard holders union cut ≡ sent_third setup a m from to heard holders union cut
        unfolding concluded_third
        concluded_sent t = rw (sym is-reached, so, sym is-most, t)

        pub concluded_pooled :
            most ≡ false → concluded_third setup a m from to heard holders union cut ≡ pooled_third setup a m from to heard holders union cut
        unfolding concluded_third
        concluded_pooled f = rw (sym is-reached, so, sym is-most, f)

  -- ---- THIRD

  module _ (done isLate : Bool) (is_done : done ≡ has_in a.sets (finished_of to) m)
      (is-late : isLate ≡ late setup (byte a.bytes (tallied_at m)) from done) where
    pub third_late : isLate ≡ true → flat_third setup a m from to cut ≡ passed_third setup a m from to cut
    unfolding flat_third
    third_late t = rw (sym is_done, sym is-late, t)

    pub third_concluded :
        (heard holders : ℕ) (load old union : Set) (holds : Bool) → isLate ≡ false → load ≡ set_in a.carried m from
        → heard ≡ with_site (byte a.bytes (tallied_at m)) from → holds ≡ has load m → holders ≡ with_site_if (byte a.bytes (has_at m)) from holds
        → old ≡ slot_set a.sets (union_of m) → union ≡ join old load
        → flat_third setup a m from to cut ≡ concluded_third setup a m from to heard holders union cut
    unfolding flat_third
    third_concluded heard holders load old union holds f el eh es eg eo eu =
        rw (sym is_done, sym is-late, f, eu, eo, eg, es, eh, el)
