-- THIRD on the arrays follows its step: without effect, heard, or heard as the (n - f)th; then DELIVER goes to all, or the entry into the pool.
-- Rests on Following, Stores and ByteStores. Assumes nothing.
use Prim.Native.Nat.{ℕ, ◌*◌, ◌<◌, ◌≤◌}
use mathlib.Core.Path.{◌≡◌, refl, ap, ◌∙◌}
use mathlib.Core.Logic.{inl, inr}
use mathlib.Core.Bool.{Bool, true, false, cond, not}
use mathlib.Core.List.{List}
use native.Mathlib.Omega.{arith}
use lib.Dec.{eqb, ltb}
use lib.ListN.{length}
use lib.Bits.{bit_and, bit_or}
use Rattle.sets.specs.declared.Set.{Set}
use Rattle.sets.proofs.Truth.{test}
use Rattle.sets.specs.Words.{insert_if, union}
use Rattle.sets.proofs.WordLaws.{length_wordwise}
use Rattle.sets.specs.Sets.{words, capacity, empty_set, has, with, with_if, join}
use Rattle.masks.specs.SiteMasks.{every_site, with_site, with_site_if}
use Rattle.site.specs.declared.Setup.{Setup}
use Rattle.site.specs.declared.Site.{Site}
use Rattle.site.specs.declared.Tally.{Tally}
use Rattle.site.specs.declared.Sends.{Sends}
use Rattle.site.specs.declared.Stepped.{Stepped}
use Rattle.site.specs.Sites.{sites, site_finished}
use Rattle.site.specs.Sends.{THIRD, DELIVER}
use Rattle.site.specs.Steps.{majority}
use Rattle.site.specs.ByMask.{ENTRY, reached, late, no_step_by_mask, finish_sends, step_third_by_mask, third_by_mask}
use Rattle.site.proofs.Fits.{every_fits}
use Rattle.flight.specs.Flights.{pairs, cells, pair_at, cell_at, set_in, taking_from, sending_to, carrying}
use Rattle.flight.proofs.CarriedLaws.{length_words_from}
use Rattle.steps.specs.declared.Cut.{Cut}
use Rattle.steps.specs.Cuts.{sites_to, down_after}
use Rattle.arrays.specs.Layout.{finished_of, pool_slot, union_of, entry_of, tallied_at, has_at}
use Rattle.arrays.specs.declared.Arrays.{Arrays}
use Rattle.arrays.specs.Arrays.{with_sets, with_bytes, with_masks, with_good, with_carried, slot_set, storing, has_in, adding, byte, marked}
use Rattle.arrays.proofs.Slots.{slot_long, has_slot}
use Rattle.flat.specs.Flat.{consumed, passed_third, tallying, heard_third, finishing, sent_third, entering, pooled_third, concluded_third, flat_third, cut_cause, refused_or, flat, followed, Flat}
use Rattle.machine.specs.Boards.{site_at, tally_at}
use Rattle.views.specs.Views.{site_of, tally_of}
use Rattle.machine.specs.View.{view, Right}
use Rattle.machine.proofs.Local.{Local, Long, Follows, elsewhere_refl, right_long, site_at_lem, tally_at_lem}
use Rattle.machine.proofs.Stores.{Changes, changes_then, local_site, local_tally, local_entry, local_pool, local_down, store_union, store_entry, add_finished, add_pool}
use Rattle.machine.proofs.ByteStores.{store_mark, store_tallied, store_flight}
use Rattle.machine.proofs.Following.{length_taking, length_sending, no_entry, settled_none, followed_refused, changes_follow, quiet_follows, either_follows}

-- ---- sets and sends

load_long : (carried : List ℕ) (m from : ℕ) → length (set_in carried m from).words ≡ words
unfolding set_in
load_long carried m from = elim (test (ltb (pair_at m from) pairs)) [
  | inl t ↦ rw t (length_words_from carried (words * pair_at m from) words)
  | inr f ↦ rw f refl
]

join_long : (s t : Set) → length s.words ≡ words → length t.words ≡ words → length (join s t).words ≡ words
unfolding union
join_long s t x y = omega (arith, length_wordwise bit_or s.words t.words, x, y)

-- the entry into the pool is no message
entry_sent : (masks : List ℕ) (m from receivers : ℕ) → masks ≡ sending_to masks ENTRY m from receivers
unfolding sending_to cell_at
entry_sent masks m from receivers = refl

-- a step with one of two sends
either_sends :
    (so : Bool) (site : Site) (tally : Tally) (x y : Sends)
    → let step : Sends → Stepped = λ s. record { site = site; tally = tally; sends = s; delivers = false } in
    step (cond so x y) ≡ cond so (step x) (step y)
either_sends true site tally x y = refl
either_sends false site tally x y = refl

-- m's entry goes into the pool, unless so
module _ (p m : ℕ) (hp : p < sites) (hm : m < capacity) (a : Arrays) (long : Long a) (load : Set) (size : length load.words ≡ words) where
  abbrev entry : Bool → Local → Local
  entry so l = local_entry (local_pool l (with_if l.pool m (not so))) (cond (not so) load l.entry)

  store_entered : (so : Bool) → Changes p m a (with_sets a (cond so a.sets (storing (adding a.sets pool_slot m) (entry_of m) load))) (entry so)
  unfolding insert_if
  store_entered true = record { elsewhere = elsewhere_refl p m a; own = refl; have = refl; long = long }
  store_entered false =
      let x = add_pool p m hp hm a long m hm in
      changes_then x (store_entry p m hp hm (with_sets a (adding a.sets pool_slot m)) x.long load size)

module _ (setup : Setup) (a : Arrays) (right : Right a) (n : setup.n ≤ sites) (m from to : ℕ) (hm : m < capacity) (hf : from < sites) (ht : to < sites) (cut : Cut) where
  abbrev taken : List ℕ
  taken = taking_from a.masks THIRD m from to

  abbrev emptied : List ℕ
  emptied = carrying a.carried m from empty_set

  fits : length taken ≡ cells
  fits = length_taking a.masks THIRD m from to ∙ right.masks_long

  -- ---- without effect

  abbrev none : ℕ
  none = cut_cause setup a.bytes 0 cut

  abbrev left : Arrays
  left = with_carried (with_good (with_masks (with_bytes a (marked a.bytes to cut)) taken) a.good) emptied

  passed_is : passed_third setup a m from to cut ≡ refused_or none a (flat 0 left)
  unfolding passed_third consumed
  passed_is = followed_refused none a _ (λ d. with_carried d (carrying d.carried m from empty_set))

  passed_follows : Follows setup a THIRD m from to cut (no_step_by_mask (site_of a to) (tally_of a m)) (passed_third setup a m from to cut)
  unfolding site_of
  passed_follows =
      let x = store_mark to m ht hm a (right_long right) to cut in
      let y = store_flight to m ht (with_bytes a (marked a.bytes to cut)) x.long taken a.good emptied fits in
      rw passed_is
      (quiet_follows setup a left THIRD m from to cut right hm ht (site_of a to) (tally_of a m) (changes_then x y) refl refl refl refl refl refl refl refl refl)

  module _ (heard has : ℕ) (union : Set) (size : length union.words ≡ words) where
    abbrev after : Tally
    after = record { heard = heard; has = has; union = union }

    -- ---- heard, before the (n - f)th

    heard_is :
        heard_third setup a m from to heard has union cut
        ≡ refused_or none a (flat 0 (with_sets (with_bytes left (tallying left.bytes m heard has)) (storing a.sets (union_of m) union)))
    unfolding heard_third
    heard_is =
        let next : Arrays → Arrays = λ d. with_sets (with_bytes d (tallying d.bytes m heard has)) (storing d.sets (union_of m) union) in
        ap (λ (r : Flat). followed r next) passed_is ∙ followed_refused none a left next

    heard_follows : Follows setup a THIRD m from to cut (no_step_by_mask (site_of a to) after) (heard_third setup a m from to heard has union cut)
    unfolding site_of
    heard_follows =
        let x = store_mark to m ht hm a (right_long right) to cut in
        let y = store_flight to m ht (with_bytes a (marked a.bytes to cut)) x.long taken a.good emptied fits in
        let z = store_tallied to m ht hm left y.long heard has in
        let w = store_union to m ht hm (with_bytes left (tallying left.bytes m heard has)) z.long union size in
        rw heard_is
        (quiet_follows setup a _ THIRD m from to cut right hm ht (site_of a to) after (changes_then (changes_then (changes_then x y) z) w)
        refl refl refl refl refl refl refl refl refl)

    -- ---- heard, the (n - f)th

    -- what is theirs then
    abbrev ended : Local → Local
    ended l = local_down (local_tally (local_site l (site_finished l.site (with l.site.finished m))) after) (down_after l.down to cut)

    store_ended : (masks : List ℕ) → length masks ≡ cells → Changes to m a (with_masks (finishing a m from to heard has union cut) masks) ended
    unfolding finishing
    store_ended masks long =
        let ws = storing a.sets (union_of m) union in
        let vs = adding ws (finished_of to) m in
        let bs = tallying a.bytes m heard has in
        let x = store_union to m ht hm a (right_long right) union size in
        let y = add_finished to m ht hm (with_sets a ws) x.long m hm in
        let z = store_tallied to m ht hm (with_sets a vs) y.long heard has in
        let k = store_mark to m ht hm (with_bytes (with_sets a vs) bs) z.long to cut in
        let f = store_flight to m ht (with_bytes (with_sets a vs) (marked bs to cut)) k.long masks a.good emptied long in
        changes_then (changes_then (changes_then (changes_then x y) z) k) f

    abbrev stepped : Sends → Stepped
    stepped sends =
        record { site = site_finished (site_of a to) (with (site_of a to).finished m); tally = after; sends = sends; delivers = false }

    -- DELIVER goes to all
    abbrev delivers : Sends
    delivers = record { form = DELIVER; to = every_site setup.n; good = false; carried = empty_set }

    sent_follows : Follows setup a THIRD m from to cut (stepped delivers) (sent_third setup a m from to heard has union cut)
    unfolding sent_third finishing site_of
    sent_follows =
        let receivers = sites_to (every_site setup.n) cut in
        let x = store_ended (sending_to taken DELIVER m to receivers) (length_sending taken DELIVER m to receivers ∙ fits) in
        changes_follow setup a _ THIRD m from to (stepped delivers) cut right hm ht (every_fits setup.n) x
        (settled_none (stepped delivers).site m cut) refl refl refl refl refl (no_entry (slot_set a.sets pool_slot) m) refl refl

    -- m's entry goes into the pool
    abbrev enters : Sends
    enters = record { form = ENTRY; to = 1; good = false; carried = union }

    pooled_follows : Follows setup a THIRD m from to cut (stepped enters) (pooled_third setup a m from to heard has union cut)
    unfolding pooled_third finishing entering site_of
    pooled_follows =
        let x = store_ended taken fits in
        let y = store_entered to m ht hm (finishing a m from to heard has union cut) x.long union size (eqb (sites_to 1 cut) 0) in
        changes_follow setup a _ THIRD m from to (stepped enters) cut right hm ht (omega arith) (changes_then x y)
        (settled_none (stepped enters).site m cut) refl refl (entry_sent taken m to (sites_to 1 cut)) refl refl refl refl refl

    -- ---- the ways of one that is not late

    step_is : step_third_by_mask setup (site_of a to) after m ≡ cond (majority setup (bit_and has heard)) (stepped delivers) (stepped enters)
    unfolding step_third_by_mask finish_sends
    step_is = either_sends (majority setup (bit_and has heard)) (stepped delivers).site after delivers enters

    settled_follows :
        Follows setup a THIRD m from to cut
        (cond (reached setup heard) (step_third_by_mask setup (site_of a to) after m) (no_step_by_mask (site_of a to) after))
        (concluded_third setup a m from to heard has union cut)
    unfolding concluded_third
    settled_follows =
        rw step_is
        (either_follows (reached setup heard) _ _ _ _
        (either_follows (majority setup (bit_and has heard)) _ _ _ _ sent_follows pooled_follows) heard_follows)

  -- ---- late or not

  abbrev known : ℕ
  known = byte a.bytes (tallied_at m)

  abbrev load : Set
  load = set_in a.carried m from

  abbrev heard : ℕ
  heard = with_site known from

  abbrev holders : ℕ
  holders = with_site_if (byte a.bytes (has_at m)) from (has load m)

  abbrev united : Set
  united = join (slot_set a.sets (union_of m)) load

  size : length united.words ≡ words
  size = join_long (slot_set a.sets (union_of m)) load (slot_long a.sets (union_of m)) (load_long a.carried m from)

  has_finished : has_in a.sets (finished_of to) m ≡ has (site_of a to).finished m
  unfolding site_of
  has_finished = has_slot a.sets (finished_of to) m hm

  own_follows : Follows setup a THIRD m from to cut (third_by_mask setup (site_of a to) (tally_of a m) m from load) (flat_third setup a m from to cut)
  unfolding flat_third third_by_mask tally_of
  own_follows =
      rw has_finished
      (either_follows (late setup known from (has (site_of a to).finished m)) _ _ _ _ passed_follows (settled_follows heard holders united size))

  pub third_follows :
      Follows setup a THIRD m from to cut
      (third_by_mask setup (site_at (view setup a) to) (tally_at (view setup a) m) m from (set_in a.carried m from)) (flat_third setup a m from to cut)
  third_follows = rw (site_at_lem setup a to ht, tally_at_lem setup a m hm) own_follows
