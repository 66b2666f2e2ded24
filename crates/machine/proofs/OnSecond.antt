-- SECOND on the arrays follows its step: without effect, heard, or heard as the (n - f)th.
-- Rests on Following, Stores and ByteStores. Assumes nothing.
use Prim.Native.Nat.{ℕ, ◌^◌, ◌<◌, ◌≤◌}
use mathlib.Core.Path.{◌≡◌, refl, sym, ap, ◌∙◌}
use mathlib.Core.Logic.{inl, inr}
use mathlib.Core.Bool.{Bool, true, false, cond}
use mathlib.Core.List.{List}
use native.Mathlib.Omega.{arith}
use lib.Dec.{eqb}
use lib.ListN.{length, get_or, set}
use lib.Seq.{get_or-set_same}
use Rattle.sets.specs.declared.Set.{Set}
use Rattle.sets.proofs.Truth.{test}
use Rattle.sets.specs.Masks.{has_bit}
use Rattle.sets.specs.Words.{insert_if}
use Rattle.sets.specs.Sets.{words, capacity, has, with, with_if, meet}
use Rattle.posting.specs.declared.Posting.{Posting}
use Rattle.posting.specs.Conflicts.{conflict_set}
use Rattle.masks.specs.SiteMasks.{only_site, with_site, with_site_if}
use Rattle.site.specs.declared.Setup.{Setup}
use Rattle.site.specs.declared.Site.{Site}
use Rattle.site.specs.declared.Stepped.{Stepped}
use Rattle.site.specs.Sites.{sites, heard_for, good_for, site_heard, site_stepped}
use Rattle.site.specs.Sends.{SECOND, THIRD}
use Rattle.site.specs.Steps.{owner_of}
use Rattle.site.specs.ByMask.{reached, late, no_step_by_mask, step_second_by_mask, second_by_mask}
use Rattle.site.proofs.Fits.{only_fits}
use Rattle.flight.specs.Flights.{cells, words_from, good_in, taking_from, sending_to, saying}
use Rattle.flight.specs.ByMask.{set_sent}
use Rattle.flight.proofs.CarriedLaws.{word_from, length_words_from}
use Rattle.steps.specs.declared.Cut.{Cut}
use Rattle.steps.specs.Cuts.{sites_to}
use Rattle.arrays.specs.Layout.{seen_of, held_of, stepped_of, pool_slot, owner_at, heard_at, good_at}
use Rattle.arrays.specs.declared.Arrays.{Arrays}
use Rattle.arrays.specs.Arrays.{with_sets, with_bytes, with_masks, with_good, with_carried, slot_set, storing, has_in, byte, marked}
use Rattle.arrays.proofs.Slots.{slot_long, insert_long, has_slot}
use Rattle.index.specs.Index.{conflicts_in}
use Rattle.flat.specs.Flat.{consumed, passed_second, hearing, heard_second, stepping, carrying_to, joining, holding, stepped_second, flat_second, cut_cause, refused_or, flat, followed, Flat}
use Rattle.machine.specs.Boards.{site_at, tally_at}
use Rattle.views.specs.Views.{site_of, tally_of, row_of}
use Rattle.machine.specs.View.{view, Right}
use Rattle.machine.proofs.Local.{Follows, right_long, site_at_lem, tally_at_lem, row_at}
use Rattle.machine.proofs.Stores.{changes_then, store_seen, store_held, add_stepped}
use Rattle.machine.proofs.ByteStores.{store_mark, store_heard, store_flight}
use Rattle.machine.proofs.Following.{length_taking, length_sending, no_entry, settled_none, followed_refused, changes_follow, quiet_follows, either_follows}

-- what a site shown has heard for m
module _ (a : Arrays) (p m : ℕ) (hm : m < capacity) where
  heard_for_lem : heard_for (site_of a p) m ≡ byte a.bytes (heard_at p m)
  unfolding site_of
  heard_for_lem = word_from a.bytes (heard_at p 0) capacity m hm ∙ ap (λ (i : ℕ). byte a.bytes i) (omega arith)

  good_for_lem : good_for (site_of a p) m ≡ byte a.bytes (good_at p m)
  unfolding site_of
  good_for_lem = word_from a.bytes (good_at p 0) capacity m hm ∙ ap (λ (i : ℕ). byte a.bytes i) (omega arith)

  heard_now : (v : ℕ) → get_or (set (site_of a p).heard m v) m 0 ≡ v
  unfolding site_of
  heard_now v =
      let b : m < length (words_from a.bytes (heard_at p 0) capacity) = omega (arith, length_words_from a.bytes (heard_at p 0) capacity) in
      get_or-set_same (words_from a.bytes (heard_at p 0) capacity) m v 0 b

  good_now : (v : ℕ) → get_or (set (site_of a p).good m v) m 0 ≡ v
  unfolding site_of
  good_now v =
      let b : m < length (words_from a.bytes (good_at p 0) capacity) = omega (arith, length_words_from a.bytes (good_at p 0) capacity) in
      get_or-set_same (words_from a.bytes (good_at p 0) capacity) m v 0 b

  has_stepped : has_in a.sets (stepped_of p) m ≡ has (site_of a p).stepped m
  unfolding site_of
  has_stepped = has_slot a.sets (stepped_of p) m hm

-- the set of a THIRD, if it goes out
carrying_sent : (carried : List ℕ) (m from receivers : ℕ) (load : Set) → carrying_to carried m from receivers load ≡ set_sent carried THIRD m from receivers load
unfolding carrying_to
carrying_sent carried m from receivers load = elim (test (eqb receivers 0)) [ inl t ↦ rw t | inr f ↦ rw f ]

insert_if_long : (s : Set) (m : ℕ) (so : Bool) → length (with_if s m so).words ≡ length s.words
unfolding insert_if
insert_if_long s m true = insert_long s.words m
insert_if_long s m false = refl

module _ (setup : Setup) (a : Arrays) (right : Right a) (n : setup.n ≤ sites) (m from to : ℕ) (hm : m < capacity) (hf : from < sites) (ht : to < sites)
    (cut : Cut) (index : conflicts_in a.sets a.bytes setup.matrix m ≡ conflict_set setup.matrix (view setup a).table m) where
  abbrev taken : List ℕ
  taken = taking_from a.masks SECOND m from to

  abbrev unsaid : List ℕ
  unsaid = saying a.good m from (2 ^ to) false

  fits : length taken ≡ cells
  fits = length_taking a.masks SECOND m from to ∙ right.masks_long

  -- ---- without effect

  abbrev none : ℕ
  none = cut_cause setup a.bytes 0 cut

  abbrev left : Arrays
  left = with_carried (with_good (with_masks (with_bytes a (marked a.bytes to cut)) taken) unsaid) a.carried

  passed_is : passed_second setup a m from to cut ≡ refused_or none a (flat 0 left)
  unfolding passed_second consumed
  passed_is = followed_refused none a _ (λ d. with_good d (saying d.good m from (2 ^ to) false))

  passed_follows : Follows setup a SECOND m from to cut (no_step_by_mask (site_of a to) (tally_of a m)) (passed_second setup a m from to cut)
  unfolding site_of
  passed_follows =
      let x = store_mark to m ht hm a (right_long right) to cut in
      let y = store_flight to m ht (with_bytes a (marked a.bytes to cut)) x.long taken unsaid a.carried fits in
      rw passed_is
      (quiet_follows setup a left SECOND m from to cut right hm ht (site_of a to) (tally_of a m) (changes_then x y) refl refl refl refl refl refl refl refl refl)

  module _ (heard good : ℕ) where
    abbrev after : Site
    after = site_heard (site_of a to) m heard good

    -- ---- heard, before the (n - f)th

    heard_is : heard_second setup a m from to heard good cut ≡ refused_or none a (flat 0 (with_bytes left (hearing left.bytes to m heard good)))
    unfolding heard_second
    heard_is =
        ap (λ (r : Flat). followed r (λ d. with_bytes d (hearing d.bytes to m heard good))) passed_is
        ∙ followed_refused none a left (λ d. with_bytes d (hearing d.bytes to m heard good))

    heard_follows : Follows setup a SECOND m from to cut (no_step_by_mask after (tally_of a m)) (heard_second setup a m from to heard good cut)
    unfolding site_of
    heard_follows =
        let x = store_mark to m ht hm a (right_long right) to cut in
        let y = store_flight to m ht (with_bytes a (marked a.bytes to cut)) x.long taken unsaid a.carried fits in
        let z = store_heard to m ht hm left y.long heard good in
        rw heard_is
        (quiet_follows setup a _ SECOND m from to cut right hm ht after (tally_of a m) (changes_then (changes_then x y) z)
        refl refl refl refl refl refl refl refl refl)

    -- ---- heard, the (n - f)th

    abbrev conflicts : Set
    conflicts = conflicts_in a.sets a.bytes setup.matrix m

    abbrev seen : Set
    seen = with (slot_set a.sets (seen_of to)) m

    abbrev held : Set
    held = with_if (slot_set a.sets (held_of to)) m (joining setup seen conflicts m heard good)

    abbrev owner : ℕ
    owner = only_site (byte a.bytes (owner_at m))

    abbrev receivers : ℕ
    receivers = sites_to owner cut

    -- the step, from the arrays
    abbrev stepped : Stepped
    stepped =
        record {
          site = site_stepped after seen (with after.stepped m) held;
          tally = tally_of a m;
          sends = record { form = THIRD; to = owner; good = false; carried = meet held conflicts };
          delivers = false;
        }

    owner_is : owner_of (view setup a).table m ≡ byte a.bytes (owner_at m)
    unfolding view row_of
    owner_is = ap (λ (r : Posting). r.owner) (row_at a m hm)

    step_is : step_second_by_mask setup (view setup a).table after (tally_of a m) m ≡ stepped
    unfolding step_second_by_mask joining
    step_is = rw (heard_now a to m hm heard, good_now a to m hm good, owner_is, sym index) (unfold site_of in refl)

    abbrev masks : List ℕ
    masks = sending_to taken THIRD m to receivers

    masks_fit : length masks ≡ cells
    masks_fit = length_sending taken THIRD m to receivers ∙ fits

    seen_long : length seen.words ≡ words
    seen_long = insert_long (slot_set a.sets (seen_of to)).words m ∙ slot_long a.sets (seen_of to)

    held_long : length held.words ≡ words
    held_long = insert_if_long (slot_set a.sets (held_of to)) m (joining setup seen conflicts m heard good) ∙ slot_long a.sets (held_of to)

    stepped_follows : Follows setup a SECOND m from to cut stepped (stepped_second setup a m from to heard good cut)
    unfolding stepped_second holding stepping site_of
    stepped_follows =
        let ws = storing a.sets (seen_of to) seen in
        let vs = storing ws (held_of to) held in
        let us = stepping a.sets to m seen held in
        let bs = hearing a.bytes to m heard good in
        let x = store_seen to m ht hm a (right_long right) seen seen_long in
        let y = store_held to m ht hm (with_sets a ws) x.long held held_long in
        let z = add_stepped to m ht hm (with_sets a vs) y.long m hm in
        let h = store_heard to m ht hm (with_sets a us) z.long heard good in
        let k = store_mark to m ht hm (with_bytes (with_sets a us) bs) h.long to cut in
        let f = store_flight to m ht (with_bytes (with_sets a us) (marked bs to cut)) k.long masks unsaid
        (carrying_to a.carried m to receivers (meet held conflicts)) masks_fit in
        changes_follow setup a _ SECOND m from to stepped cut right hm ht (only_fits (byte a.bytes (owner_at m)))
        (changes_then (changes_then (changes_then (changes_then (changes_then x y) z) h) k) f)
        (settled_none stepped.site m cut) refl refl refl refl (carrying_sent a.carried m to receivers (meet held conflicts))
        (no_entry (slot_set a.sets pool_slot) m) refl refl

  -- ---- the three ways

  abbrev known : ℕ
  known = byte a.bytes (heard_at to m)

  abbrev heard : ℕ
  heard = with_site known from

  abbrev said : Bool
  said = has_bit (good_in a.good m from) to

  abbrev good : ℕ
  good = with_site_if (byte a.bytes (good_at to m)) from said

  ways :
      second_by_mask setup (view setup a).table (site_of a to) (tally_of a m) m from said
      ≡ cond (late setup known from (has_in a.sets (stepped_of to) m)) (no_step_by_mask (site_of a to) (tally_of a m))
      (cond (reached setup heard) (stepped heard good) (no_step_by_mask (after heard good) (tally_of a m)))
  unfolding second_by_mask
  ways = rw (heard_for_lem a to m hm, good_for_lem a to m hm, has_stepped a to m hm, step_is heard good)

  own_follows :
      Follows setup a SECOND m from to cut (second_by_mask setup (view setup a).table (site_of a to) (tally_of a m) m from said) (flat_second setup a m from to cut)
  unfolding flat_second
  own_follows =
      let done = has_in a.sets (stepped_of to) m in
      rw ways
      (either_follows (late setup known from done) _ _ _ _ passed_follows
      (either_follows (reached setup heard) _ _ _ _ (stepped_follows heard good) (heard_follows heard good)))

  pub second_follows :
      Follows setup a SECOND m from to cut
      (second_by_mask setup (view setup a).table (site_at (view setup a) to) (tally_at (view setup a) m) m from (has_bit (good_in a.good m from) to))
      (flat_second setup a m from to cut)
  second_follows = rw (site_at_lem setup a to ht, tally_at_lem setup a m hm) own_follows
