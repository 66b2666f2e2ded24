-- DELIVER on the flat arrays does what its step says.
-- Rests on Following and DeliveryShown, on Stores and ByteStores. Assumes nothing.
use Prim.Native.Nat.{ℕ, ◌^◌, ◌<◌, ◌≤◌}
use mathlib.Core.Path.{◌≡◌, refl, sym, ap, ◌∙◌}
use mathlib.Core.Logic.{inl, inr}
use mathlib.Core.Bool.{true, false}
use mathlib.Core.List.{List}
use Rattle.sets.proofs.Truth.{test}
use Rattle.sets.specs.Words.{insert_if}
use Rattle.sets.specs.Sets.{capacity, empty_set, has, with}
use Rattle.posting.specs.declared.Posting.{Posting}
use Rattle.posting.specs.Conflicts.{row}
use Rattle.masks.specs.SiteMasks.{relay_to}
use Rattle.site.specs.declared.Setup.{Setup}
use Rattle.site.specs.declared.Site.{Site}
use Rattle.site.specs.declared.Sends.{Sends}
use Rattle.site.specs.declared.Stepped.{Stepped}
use Rattle.site.specs.Sites.{sites, site_got, site_delivered}
use Rattle.site.specs.Sends.{DELIVER}
use Rattle.site.specs.Steps.{delivering}
use Rattle.site.specs.ByMask.{no_step_by_mask, deliver_by_mask}
use Rattle.site.proofs.Fits as fits
use Rattle.flight.specs.Flights.{taking_from, sending_to}
use Rattle.steps.specs.declared.Cut.{Cut}
use Rattle.steps.specs.declared.Cut.TheVariants.{Whole, After}
use Rattle.steps.specs.Cuts.{sites_to, after_delivery_to, down_after}
use Rattle.arrays.specs.Layout.{got_of, down_at, owner_at}
use Rattle.arrays.specs.declared.Arrays.{Arrays}
use Rattle.arrays.specs.Arrays.{with_sets, with_bytes, with_masks, has_in, adding, byte, marked}
use Rattle.arrays.proofs.Slots.{has_slot}
use Rattle.delivery.specs.Delivery.{delivered}
use Rattle.flat.specs.Flat.{Flat, flat, refused_or, cut_cause, consumed, delivered_to, flat_deliver}
use Rattle.machine.specs.Boards.{site_at, tally_at}
use Rattle.views.specs.Views.{record_in, site_of, tally_of, row_of}
use Rattle.machine.specs.View.{view, Right}
use Rattle.machine.proofs.Local.{Local, local_of, Elsewhere, Follows, Received, elsewhere_then, site_at_lem, tally_at_lem, row_at, right_long, site_record}
use Rattle.machine.proofs.Stores.{local_site, local_down, Changes, changes_then, add_got}
use Rattle.machine.proofs.ByteStores.{store_mark, store_flight}
use Rattle.machine.proofs.Following.{length_taking, length_sending, received_follows, quiet_follows}
use Rattle.machine.proofs.DeliveryShown.{relaid, laid_of, Redelivered, delivered_own, delivered_elsewhere, one_delivered, changes_right}

-- ---- one received before

abbrev consumes : Arrays → ℕ → ℕ → ℕ → Cut → Arrays
consumes a m from to cut = with_masks (with_bytes a (marked a.bytes to cut)) (taking_from a.masks DELIVER m from to)

module _ (a : Arrays) (ok : Right a) (m from to : ℕ) (hm : m < capacity) (ht : to < sites) (cut : Cut) where
  abbrev masks : List ℕ
  masks = taking_from a.masks DELIVER m from to

  consumes_changes : Changes to m a (consumes a m from to cut) (λ l. local_down l (down_after l.down to cut))
  consumes_changes =
      let first = store_mark to m ht hm a (right_long ok) to cut in
      changes_then first
      (store_flight to m ht (with_bytes a (marked a.bytes to cut)) first.long masks a.good a.carried
      (length_taking a.masks DELIVER m from to ∙ ok.masks_long))

  consumes_follows :
      (setup : Setup)
      → Follows setup a DELIVER m from to cut (no_step_by_mask (site_of a to) (tally_of a m)) (refused_or (cut_cause setup a.bytes 0 cut) a (flat 0 (consumes a m from to cut)))
  consumes_follows setup =
      quiet_follows setup a (consumes a m from to cut) DELIVER m from to cut ok hm ht (site_of a to) (tally_of a m) consumes_changes refl (site_record a to) refl
      refl refl refl refl refl refl

-- ---- the first receipt

-- m is received, the mark set, the flight changed
abbrev gets : Arrays → ℕ → ℕ → Cut → List ℕ → Arrays
gets a m to cut masks = with_masks (with_bytes (with_sets a (adding a.sets (got_of to) m)) (marked a.bytes to cut)) masks

-- and m delivered, if the step is not cut
abbrev delivers : Arrays → ℕ → ℕ → Cut → List ℕ → Arrays
delivers a m to cut masks = relaid (gets a m to cut masks) (delivered_to (laid_of (gets a m to cut masks)) to m cut)

module _ (a next : Arrays) (p m : ℕ) (hp : p < sites) (hm : m < capacity) (got : Site) (down : ℕ) (x : Elsewhere p m a next)
    (own : local_of next p m ≡ local_down (local_site (local_of a p m) got) down) (ok : Right next) where
  whole : Redelivered p next (delivered (laid_of next) p m) (delivering (record_in next p) m)
  whole = one_delivered next ok p hp m hm

  -- what is site p's and posting m's, with m delivered
  abbrev deliver : Local → Local
  deliver l = local_site l (site_delivered l.site (delivering l.site.delivered m))

  posting_own :
      (cut : Cut) → local_of (relaid next (delivered_to (laid_of next) p m cut)) p m ≡ local_down (local_site (local_of a p m) (after_delivery_to got true m cut)) down
  unfolding site_of
  posting_own Whole = delivered_own next p hp (delivered (laid_of next) p m) (delivering (record_in next p) m) whole m hm ∙ ap deliver own
  posting_own (After j) = own

  posting_else : (cut : Cut) → Elsewhere p m a (relaid next (delivered_to (laid_of next) p m cut))
  posting_else Whole = elsewhere_then x (delivered_elsewhere next p hp (delivered (laid_of next) p m) (delivering (record_in next p) m) whole m)
  posting_else (After j) = x

  posting_keeps : (cut : Cut) → Right (relaid next (delivered_to (laid_of next) p m cut))
  posting_keeps Whole = whole.right
  posting_keeps (After j) = ok

-- to whom it is relayed, what is then in flight, and the step
abbrev relayed : Setup → Arrays → ℕ → ℕ → ℕ
relayed setup a m to = relay_to setup.n to (byte a.bytes (owner_at m))

abbrev relaying : Setup → Arrays → ℕ → ℕ → ℕ → Cut → List ℕ
relaying setup a m from to cut = sending_to (taking_from a.masks DELIVER m from to) DELIVER m to (sites_to (relayed setup a m to) cut)

abbrev got_site : Arrays → ℕ → ℕ → Site
got_site a m to = site_got (site_of a to) (with (site_of a to).got m)

abbrev relays : Setup → Arrays → ℕ → ℕ → Stepped
relays setup a m to =
    let sends : Sends = record { form = DELIVER; to = relayed setup a m to; good = false; carried = empty_set } in
    record { site = got_site a m to; tally = tally_of a m; sends = sends; delivers = true }

module _ (setup : Setup) (a : Arrays) (ok : Right a) (m from to : ℕ) (hm : m < capacity) (ht : to < sites) (cut : Cut) where
  abbrev sends : List ℕ
  sends = relaying setup a m from to cut

  abbrev got : Site
  got = got_site a m to

  abbrev down : ℕ
  down = down_after (byte a.bytes down_at) to cut

  gets_changes : Changes to m a (gets a m to cut sends) (λ l. local_down (local_site l (site_got l.site (with l.site.got m))) (down_after l.down to cut))
  gets_changes =
      let one = add_got to m ht hm a (right_long ok) m hm in
      let two = store_mark to m ht hm (with_sets a (adding a.sets (got_of to) m)) one.long to cut in
      changes_then (changes_then one two)
      (store_flight to m ht (with_bytes (with_sets a (adding a.sets (got_of to) m)) (marked a.bytes to cut)) two.long sends a.good a.carried
      (length_sending (taking_from a.masks DELIVER m from to) DELIVER m to (sites_to (relayed setup a m to) cut)
      ∙ length_taking a.masks DELIVER m from to ∙ ok.masks_long))

  gets_right : Right (gets a m to cut sends)
  gets_right = changes_right ok gets_changes (site_record a to)

  delivers_right : Right (delivers a m to cut sends)
  delivers_right = posting_keeps a (gets a m to cut sends) to m ht hm got down gets_changes.elsewhere gets_changes.own gets_right cut

  delivers_own : local_of (delivers a m to cut sends) to m ≡ local_down (local_site (local_of a to m) (after_delivery_to got true m cut)) down
  delivers_own = posting_own a (gets a m to cut sends) to m ht hm got down gets_changes.elsewhere gets_changes.own gets_right cut

  delivers_received : Received a (delivers a m to cut sends) DELIVER m from to (relays setup a m to) cut
  unfolding insert_if
  delivers_received =
      record {
        elsewhere = posting_else a (gets a m to cut sends) to m ht hm got down gets_changes.elsewhere gets_changes.own gets_right cut;
        site = ap (λ (l : Local). l.site) delivers_own;
        tally = ap (λ (l : Local). l.tally) delivers_own;
        masks = refl;
        good = refl;
        carried = refl;
        pool = ap (λ (l : Local). l.pool) delivers_own;
        entry = ap (λ (l : Local). l.entry) delivers_own;
        down = ap (λ (l : Local). l.down) delivers_own;
      }

-- ---- either way

module _ (setup : Setup) (a : Arrays) (ok : Right a) (m from to : ℕ) (hm : m < capacity) (ht : to < sites) (cut : Cut) where
  -- the step, and what the arrays become
  abbrev step : Stepped
  step = deliver_by_mask setup (view setup a).table (site_at (view setup a) to) (tally_at (view setup a) m) to m

  abbrev result : Flat
  result = flat_deliver setup a m from to cut

  before : has_in a.sets (got_of to) m ≡ has (site_of a to).got m
  unfolding site_of
  before = has_slot a.sets (got_of to) m hm

  owner : (row (view setup a).table m).owner ≡ byte a.bytes (owner_at m)
  unfolding view row_of
  owner = ap (λ (x : Posting). x.owner) (row_at a m hm)

  step_had : has_in a.sets (got_of to) m ≡ true → step ≡ no_step_by_mask (site_of a to) (tally_of a m)
  unfolding deliver_by_mask
  step_had t = rw (site_at_lem setup a to ht, tally_at_lem setup a m hm, sym before ∙ t)

  step_new : has_in a.sets (got_of to) m ≡ false → step ≡ relays setup a m to
  unfolding deliver_by_mask
  step_new f = rw (site_at_lem setup a to ht, tally_at_lem setup a m hm, sym before ∙ f, owner)

  result_had : has_in a.sets (got_of to) m ≡ true → result ≡ refused_or (cut_cause setup a.bytes 0 cut) a (flat 0 (consumes a m from to cut))
  unfolding flat_deliver consumed
  result_had t = rw t

  result_new :
      has_in a.sets (got_of to) m ≡ false
      → result ≡ refused_or (cut_cause setup a.bytes (relayed setup a m to) cut) a (flat 0 (delivers a m to cut (relaying setup a m from to cut)))
  unfolding flat_deliver
  result_new f = rw f

  fits_step : step.sends.to < 2 ^ sites
  fits_step = fits.deliver_fits setup (view setup a).table (site_at (view setup a) to) (tally_at (view setup a) m) m to

  deliver_law : Follows setup a DELIVER m from to cut step result
  deliver_law = elim (test (has_in a.sets (got_of to) m)) [
    | inl t ↦ rw (step_had t, result_had t) (consumes_follows a ok m from to hm ht cut setup)
    | inr f ↦
        rw (step_new f, result_new f)
        (received_follows setup a (delivers a m to cut (relaying setup a m from to cut)) DELIVER m from to (relays setup a m to) cut ok hm ht
        (rw (step_new f) at fits_step) (delivers_received setup a ok m from to hm ht cut) (delivers_right setup a ok m from to hm ht cut))
  ]

pub deliver_follows :
    (setup : Setup) (a : Arrays) → Right a → setup.n ≤ sites → (m from to : ℕ) → m < capacity → from < sites → to < sites → (cut : Cut)
    → Follows setup a DELIVER m from to cut
    (deliver_by_mask setup (view setup a).table (site_at (view setup a) to) (tally_at (view setup a) m) to m)
    (flat_deliver setup a m from to cut)
deliver_follows setup a ok hn m from to hm hf ht cut = deliver_law setup a ok m from to hm ht cut
