-- The ways out of SECOND, and of the functions it is made of: late and without effect; heard; the (n - f)th, at which the site steps.
-- Rests on Flat and Ways. Assumes nothing.
use Prim.Native.Nat.{ℕ, ◌^◌}
use mathlib.Core.Path.{◌≡◌, sym, ap, ◌∙◌}
use mathlib.Core.Logic.{◌≢◌}
use mathlib.Core.Bool.{Bool, true, false}
use mathlib.Core.List.{List}
use Rattle.sets.specs.declared.Set.{Set}
use Rattle.sets.specs.Masks.{has_bit}
use Rattle.sets.specs.Sets.{with, meet}
use Rattle.masks.specs.SiteMasks.{only_site, with_site, with_site_if}
use Rattle.site.specs.declared.Setup.{Setup}
use Rattle.site.specs.Sends.{SECOND, THIRD}
use Rattle.site.specs.ByMask.{reached, late}
use Rattle.flight.specs.Flights.{good_in, taking_from, sending_to, saying}
use Rattle.steps.specs.declared.Cut.{Cut}
use Rattle.steps.specs.Cuts.{sites_to}
use Rattle.arrays.specs.Layout.{seen_of, stepped_of, owner_at, heard_at, good_at}
use Rattle.arrays.specs.declared.Arrays.{Arrays}
use Rattle.arrays.specs.Arrays.{arrays, with_bytes, with_masks, with_good, slot_set, has_in, byte, marked}
use Rattle.index.specs.Index.{conflicts_in}
use Rattle.flat.specs.Flat.{flat, cut_cause, consumed, passed_second, hearing, heard_second, stepping, carrying_to, holding, stepped_second, flat_second}
use Rattle.flat.proofs.Ways.{is_refused, goes_on, not_followed, is_followed}

module _ (setup : Setup) (a : Arrays) (m from to : ℕ) (cut : Cut) where
  -- ---- without effect

  module _ (why : ℕ) (gone : Arrays) where
    abbrev said_bad : Arrays → Arrays
    said_bad d = with_good d (saying d.good m from (2 ^ to) false)

    pub passed_refused : flat why gone ≡ consumed setup a SECOND m from to cut → why ≢ 0 → flat why gone ≡ passed_second setup a m from to cut
    unfolding passed_second
    passed_refused is n = not_followed why gone _ is said_bad n

    pub passed_done :
        (one : ℕ) (good : List ℕ) → flat why gone ≡ consumed setup a SECOND m from to cut → why ≡ 0 → one ≡ 2 ^ to
        → good ≡ saying gone.good m from one false → flat 0 (with_good gone good) ≡ passed_second setup a m from to cut
    unfolding passed_second
    passed_done one good is z eo eg = rw (eg, eo) (is_followed why gone _ is said_bad z)

  -- ---- heard

  module _ (heard goods why : ℕ) (passed : Arrays) where
    abbrev noted : Arrays → Arrays
    noted d = with_bytes d (hearing d.bytes to m heard goods)

    pub heard_refused : flat why passed ≡ passed_second setup a m from to cut → why ≢ 0 → flat why passed ≡ heard_second setup a m from to heard goods cut
    unfolding heard_second
    heard_refused is n = not_followed why passed _ is noted n

    pub heard_done :
        (bytes2 : List ℕ) → flat why passed ≡ passed_second setup a m from to cut → why ≡ 0 → bytes2 ≡ hearing passed.bytes to m heard goods
        → flat 0 (with_bytes passed bytes2) ≡ heard_second setup a m from to heard goods cut
    unfolding heard_second
    heard_done bytes2 is z eb = rw eb (is_followed why passed _ is noted z)

  -- ---- the site steps

  module _ (heard goods all why : ℕ) (is_all : all ≡ only_site (byte a.bytes (owner_at m))) (is-why : why ≡ cut_cause setup a.bytes all cut) where
    cause : why ≡ cut_cause setup a.bytes (only_site (byte a.bytes (owner_at m))) cut
    cause = is-why ∙ ap (λ (x : ℕ). cut_cause setup a.bytes x cut) is_all

    pub step_refused : why ≢ 0 → flat why a ≡ stepped_second setup a m from to heard goods cut
    unfolding stepped_second
    step_refused n = is_refused why _ cause a _ n

    pub step_done :
        (receivers one : ℕ) (against held share : Set) (sets bytes masks good carried : List ℕ) → why ≡ 0
        → against ≡ conflicts_in a.sets a.bytes setup.matrix m → receivers ≡ sites_to all cut
        → held ≡ holding setup a.sets to m heard goods against
        → sets ≡ stepping a.sets to m (with (slot_set a.sets (seen_of to)) m) held → share ≡ meet held against
        → carried ≡ carrying_to a.carried m to receivers share → one ≡ 2 ^ to → good ≡ saying a.good m from one false
        → bytes ≡ marked (hearing a.bytes to m heard goods) to cut
        → masks ≡ sending_to (taking_from a.masks SECOND m from to) THIRD m to receivers
        → flat 0 (arrays sets a.counts bytes a.amounts masks good carried) ≡ stepped_second setup a m from to heard goods cut
    unfolding stepped_second
    step_done receivers one against held share sets bytes masks good carried z ec er eh es ex ed eo eg eb em =
        rw (em, eb, eg, eo, ed, ex, es, eh, er, ec, is_all) (goes_on why _ cause a _ z)

  -- ---- SECOND

  module _ (done isLate : Bool) (is_done : done ≡ has_in a.sets (stepped_of to) m) (is-late : isLate ≡ late setup (byte a.bytes (heard_at to m)) from done) where
    pub second_late : isLate ≡ true → flat_second setup a m from to cut ≡ passed_second setup a m from to cut
    unfolding flat_second
    second_late t = rw (sym is_done, sym is-late, t)

    module _ (not_late : isLate ≡ false) (heard goods : ℕ) (so : Bool)
        (is-heard : heard ≡ with_site (byte a.bytes (heard_at to m)) from)
        (is-so : so ≡ has_bit (good_in a.good m from) to)
        (is-goods : goods ≡ with_site_if (byte a.bytes (good_at to m)) from so)
        (is_reached : Bool) (is-reached : is_reached ≡ reached setup heard) where
      pub second_steps : is_reached ≡ true → flat_second setup a m from to cut ≡ stepped_second setup a m from to heard goods cut
      unfolding flat_second
      second_steps t = rw (sym is_done, sym is-late, not_late, sym is-so, sym is-goods, sym is-heard, sym is-reached, t)

      pub second_heard : is_reached ≡ false → flat_second setup a m from to cut ≡ heard_second setup a m from to heard goods cut
      unfolding flat_second
      second_heard t = rw (sym is_done, sym is-late, not_late, sym is-so, sym is-goods, sym is-heard, sym is-reached, t)
