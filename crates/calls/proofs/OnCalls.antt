-- The ways out of offer, order, read and crash, and of the functions they are made of.
-- Rests on Flat and Ways. Assumes nothing.
use Prim.Native.Nat.{ℕ, ◌+◌, ◌<◌, ◌≤◌}
use mathlib.Core.Path.{◌≡◌, sym, ap, ◌∙◌}
use mathlib.Core.Logic.{◌≢◌}
use mathlib.Core.Bool.{Bool, true, false}
use mathlib.Core.List.{List}
use lib.ListN.{get_or, set}
use lib.Count.{ones}
use borrow.Author.Tests.{lt-ltb, le-ltb, lt-leb, le-leb}
use Rattle.sets.specs.Sets.{capacity}
use Rattle.posting.specs.declared.Posting.{Posting}
use Rattle.masks.specs.SiteMasks.{every_site, with_site}
use Rattle.site.specs.declared.Setup.{Setup}
use Rattle.site.specs.Sends.{FIRST}
use Rattle.flight.specs.Flights.{sending_to}
use Rattle.steps.specs.declared.Cut.{Cut}
use Rattle.steps.specs.CauseLists.{first_cause, offer_causes}
use Rattle.steps.specs.Cuts.{sites_to}
use Rattle.arrays.specs.Layout.{pool_slot, count_at, logged_at, place_at, down_at, log_at}
use Rattle.arrays.specs.declared.Arrays.{Arrays}
use Rattle.arrays.specs.Arrays.{arrays, with_sets, with_counts, with_bytes, has_in, dropping, byte, marked}
use Rattle.index.specs.Index.{indexing}
use Rattle.delivery.specs.Delivery.{Laid, laid, with_laid}
use Rattle.flat.specs.Flat.{Flat, flat, cut_cause, site_cause, entered, flat_offer, logging, flat_order, entry_delivered_to, flat_read, flat_crash}
use Rattle.flat.proofs.Ways.{is_refused, goes_on}

-- ---- offer

module _ (setup : Setup) (a : Arrays) (site kind account other amount : ℕ) (cut : Cut) (why : ℕ)
    (is-why : why ≡ site_cause setup a.bytes site) where
  pub offer_stopped : why ≢ 0 → flat why a ≡ flat_offer setup a site kind account other amount cut
  unfolding flat_offer
  offer_stopped n = is_refused why _ is-why a _ n

  abbrev posting : Posting
  posting = record { owner = site; kind = kind; a = account; b = other; amount = amount }

  abbrev number : ℕ
  number = get_or a.counts count_at 0

  module _ (acts : why ≡ 0) (no : ℕ) (is-no : no ≡ first_cause (offer_causes posting number)) where
    pub offer_refused : no ≢ 0 → flat no a ≡ flat_offer setup a site kind account other amount cut
    unfolding flat_offer
    offer_refused n = is_refused no _ is-no a _ n ∙ goes_on why _ is-why a _ acts

    module _ (taken : no ≡ 0) (all late : ℕ) (is_all : all ≡ every_site setup.n) (is-late : late ≡ cut_cause setup a.bytes all cut) where
      cause : late ≡ cut_cause setup a.bytes (every_site setup.n) cut
      cause = is-late ∙ ap (λ (x : ℕ). cut_cause setup a.bytes x cut) is_all

      pub offer_late : late ≢ 0 → flat late a ≡ flat_offer setup a site kind account other amount cut
      unfolding flat_offer
      offer_late n = is_refused late _ cause a _ n ∙ goes_on no _ is-no a _ taken ∙ goes_on why _ is-why a _ acts

      pub offer_done :
          (receivers : ℕ) (sets row bytes masks : List ℕ) → late ≡ 0 → receivers ≡ sites_to all cut → row ≡ entered a.bytes number posting
          → sets ≡ indexing a.sets number kind account other → masks ≡ sending_to a.masks FIRST number site receivers
          → bytes ≡ marked row site cut
          → flat 0 (arrays sets (set a.counts count_at (number + 1)) bytes (set a.amounts number amount) masks a.good a.carried)
          ≡ flat_offer setup a site kind account other amount cut
      unfolding flat_offer
      offer_done receivers sets row bytes masks z er ew es em eb =
          rw (eb, em, es, ew, er, is_all) (goes_on late _ cause a _ z ∙ goes_on no _ is-no a _ taken ∙ goes_on why _ is-why a _ acts)

-- ---- order

module _ (a : Arrays) (m : ℕ) where
  abbrev logged : ℕ
  logged = get_or a.counts logged_at 0

  pub log_full : capacity ≤ logged → a ≡ logging a m
  unfolding logging
  log_full h = rw (le-ltb logged capacity h)

  pub log_room :
      logged < capacity
      → with_bytes (with_counts a (set a.counts logged_at (logged + 1))) (set a.bytes (log_at logged) m) ≡ logging a m
  unfolding logging
  log_room h = rw (lt-ltb logged capacity h)

  pub order_beyond : capacity ≤ m → flat 12 a ≡ flat_order a m
  unfolding flat_order
  order_beyond h = rw (le-ltb m capacity h)

  module _ (below : m < capacity) (there : Bool) (is-there : there ≡ has_in a.sets pool_slot m) where
    pub order_absent : there ≡ false → flat 12 a ≡ flat_order a m
    unfolding flat_order
    order_absent f = rw (lt-ltb m capacity below, sym is-there, f)

    pub order_done :
        (sets : List ℕ) (after : Arrays) → there ≡ true → sets ≡ dropping a.sets pool_slot m → after ≡ logging (with_sets a sets) m
        → flat 0 after ≡ flat_order a m
    unfolding flat_order
    order_done sets after t es is =
        rw (lt-ltb m capacity below, sym is-there, t) (ap (flat 0) is ∙ ap (λ (x : List ℕ). flat 0 (logging (with_sets a x) m)) es)

-- ---- read

module _ (setup : Setup) (a : Arrays) (site : ℕ) (cut : Cut) (why : ℕ) (is-why : why ≡ site_cause setup a.bytes site) where
  pub read_stopped : why ≢ 0 → flat why a ≡ flat_read setup a site cut
  unfolding flat_read
  read_stopped n = is_refused why _ is-why a _ n

  abbrev place : ℕ
  place = get_or a.counts (place_at site) 0

  abbrev ends : ℕ
  ends = get_or a.counts logged_at 0

  pub read_end : why ≡ 0 → ends ≤ place → flat 13 a ≡ flat_read setup a site cut
  unfolding flat_read
  read_end acts h = rw (le-leb ends place h) (goes_on why _ is-why a _ acts)

  module _ (acts : why ≡ 0) (more : place < ends) (late : ℕ) (is-late : late ≡ cut_cause setup a.bytes 0 cut) where
    pub read_late : late ≢ 0 → flat late a ≡ flat_read setup a site cut
    unfolding flat_read
    read_late n = rw (lt-leb ends place more) (is_refused late _ is-late a _ n ∙ goes_on why _ is-why a _ acts)

    abbrev read : Laid → Flat
    read d = flat 0 (with_sets (with_counts (with_bytes a d.bytes) d.counts) d.sets)

    abbrev entry : ℕ
    entry = byte a.bytes (log_at place)

    abbrev moved : List ℕ
    moved = set a.counts (place_at site) (place + 1)

    pub read_done :
        (down : List ℕ) (after : Arrays) → late ≡ 0 → down ≡ marked a.bytes site cut
        → after ≡ with_laid (with_counts (with_bytes a down) moved) (entry_delivered_to (laid a.sets moved down) site entry cut)
        → flat 0 after ≡ flat_read setup a site cut
    unfolding flat_read
    read_done down after z ed is =
        let all = ap (λ (x : List ℕ). read (entry_delivered_to (laid a.sets moved x) site entry cut)) ed in
        rw (lt-leb ends place more) (ap (flat 0) is ∙ all ∙ goes_on late _ is-late a _ z ∙ goes_on why _ is-why a _ acts)

-- ---- crash

module _ (setup : Setup) (a : Arrays) (site why : ℕ) (is-why : why ≡ site_cause setup a.bytes site) where
  pub crash_stopped : why ≢ 0 → flat why a ≡ flat_crash setup a site
  unfolding flat_crash
  crash_stopped n = is_refused why _ is-why a _ n

  abbrev lost : ℕ
  lost = ones (byte a.bytes down_at)

  pub crash_many : why ≡ 0 → setup.f ≤ lost → flat 14 a ≡ flat_crash setup a site
  unfolding flat_crash
  crash_many acts h = rw (le-leb setup.f lost h) (goes_on why _ is-why a _ acts)

  pub crash_done :
      (down : ℕ) → why ≡ 0 → lost < setup.f → down ≡ with_site (byte a.bytes down_at) site
      → flat 0 (with_bytes a (set a.bytes down_at down)) ≡ flat_crash setup a site
  unfolding flat_crash
  crash_done down acts h ed = rw (lt-leb setup.f lost h, ed) (goes_on why _ is-why a _ acts)
