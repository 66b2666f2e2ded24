-- FIRST on the arrays follows its step.
-- Rests on Following, Stores and ByteStores. Assumes nothing.
use Prim.Native.Nat.{ℕ, ◌<◌, ◌≤◌}
use mathlib.Core.Path.{◌≡◌, refl, sym, ap, ◌∙◌}
use mathlib.Core.Bool.{Bool}
use mathlib.Core.List.{List}
use native.Mathlib.Omega.{arith}
use lib.ListN.{length}
use Rattle.sets.specs.declared.Set.{Set}
use Rattle.sets.specs.Sets.{words, capacity, with}
use Rattle.posting.specs.Conflicts.{conflict_set}
use Rattle.masks.specs.SiteMasks.{every_site}
use Rattle.site.specs.declared.Setup.{Setup}
use Rattle.site.specs.declared.Stepped.{Stepped}
use Rattle.site.specs.Sites.{sites}
use Rattle.site.specs.Sends.{FIRST, SECOND}
use Rattle.site.specs.Steps.{alone}
use Rattle.site.specs.ByMask.{first_by_mask}
use Rattle.site.proofs.Fits.{first_fits}
use Rattle.flight.specs.Flights.{cells, taking_from, sending_to, saying}
use Rattle.steps.specs.declared.Cut.{Cut}
use Rattle.steps.specs.Cuts.{sites_to}
use Rattle.arrays.specs.Layout.{seen_of, pool_slot}
use Rattle.arrays.specs.declared.Arrays.{Arrays}
use Rattle.arrays.specs.Arrays.{with_sets, with_bytes, slot_set, storing, marked}
use Rattle.arrays.proofs.Slots.{slot_long, insert_long}
use Rattle.index.specs.Index.{conflicts_in}
use Rattle.flat.specs.Flat.{flat_first}
use Rattle.machine.specs.Boards.{site_at, tally_at}
use Rattle.views.specs.Views.{record_in, site_of, tally_of}
use Rattle.machine.specs.View.{view, Right}
use Rattle.machine.proofs.Local.{Long, Follows, right_long, site_at_lem, tally_at_lem}
use Rattle.machine.proofs.Stores.{Changes, changes_then, local_site, local_down, store_seen}
use Rattle.machine.proofs.ByteStores.{store_mark, store_flight}
use Rattle.machine.proofs.Following.{length_taking, length_sending, no_entry, settled_none, changes_follow}

module _ (setup : Setup) (a : Arrays) (right : Right a) (n : setup.n ≤ sites) (m from to : ℕ) (hm : m < capacity) (hf : from < sites) (ht : to < sites)
    (cut : Cut) (index : conflicts_in a.sets a.bytes setup.matrix m ≡ conflict_set setup.matrix (view setup a).table m) where
  abbrev step : Stepped
  step = first_by_mask setup (view setup a).table (site_of a to) (tally_of a m) m

  abbrev seen : Set
  seen = with (slot_set a.sets (seen_of to)) m

  abbrev good : Bool
  good = alone seen (conflicts_in a.sets a.bytes setup.matrix m) m

  abbrev receivers : ℕ
  receivers = sites_to (every_site setup.n) cut

  abbrev masks : List ℕ
  masks = sending_to (taking_from a.masks FIRST m from to) SECOND m to receivers

  size : length seen.words ≡ words
  size = insert_long (slot_set a.sets (seen_of to)).words m ∙ slot_long a.sets (seen_of to)

  fits : length masks ≡ cells
  fits = length_sending (taking_from a.masks FIRST m from to) SECOND m to receivers ∙ length_taking a.masks FIRST m from to ∙ right.masks_long

  own_follows : Follows setup a FIRST m from to cut step (flat_first setup a m from to cut)
  unfolding flat_first first_by_mask site_of
  own_follows =
      let x = store_seen to m ht hm a (right_long right) seen size in
      let y = store_mark to m ht hm (with_sets a (storing a.sets (seen_of to) seen)) x.long to cut in
      let d = with_bytes (with_sets a (storing a.sets (seen_of to) seen)) (marked a.bytes to cut) in
      let z = store_flight to m ht d y.long masks (saying a.good m to receivers good) a.carried fits in
      changes_follow setup a _ FIRST m from to step cut right hm ht (first_fits setup (view setup a).table (site_of a to) (tally_of a m) m)
      (changes_then (changes_then x y) z) (settled_none step.site m cut) refl refl refl (rw index) refl (no_entry (slot_set a.sets pool_slot) m) refl refl

  pub first_follows :
      Follows setup a FIRST m from to cut (first_by_mask setup (view setup a).table (site_at (view setup a) to) (tally_at (view setup a) m) m)
      (flat_first setup a m from to cut)
  first_follows = rw (site_at_lem setup a to ht, tally_at_lem setup a m hm) own_follows
