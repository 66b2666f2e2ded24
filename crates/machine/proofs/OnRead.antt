-- A read on the flat arrays: what they show is the read carried out on the board shown, and they stay right.
-- Rests on DeliveryShown, Stores and ByteStores, on Placed for a read carried out. Assumes nothing.
use Prim.Native.Nat.{ℕ, ◌+◌, ◌<◌}
use mathlib.Core.Path.{◌≡◌, refl, sym, ap, ◌∙◌}
use lib.ListN.{get_or, set}
use lib.Seq.{set-get_or}
use borrow.Author.Tests.{lt-ltb}
use Rattle.sets.specs.declared.Set.{Set}
use Rattle.sets.specs.Sets.{capacity}
use Rattle.posting.specs.declared.Record.{Record}
use Rattle.site.specs.declared.Setup.{Setup}
use Rattle.site.specs.declared.Site.{Site}
use Rattle.site.specs.Sites.{sites, no_set, no_tally, site_place, site_delivered}
use Rattle.site.specs.Steps.{on_entry}
use Rattle.site.specs.ByMask.{read_site, delivering_entry}
use Rattle.flight.specs.Flights.{flight_of}
use Rattle.steps.specs.declared.Cut.{Cut}
use Rattle.steps.specs.declared.Cut.TheVariants.{Whole, After}
use Rattle.steps.specs.Cuts.{entry_to, down_after}
use Rattle.arrays.specs.Layout.{entry_of, place_at, down_at}
use Rattle.arrays.specs.declared.Arrays.{Arrays}
use Rattle.arrays.specs.Arrays.{with_counts, with_bytes, slot_set, byte, marked}
use Rattle.delivery.specs.Delivery.{delivered_entry}
use Rattle.flat.specs.Flat.{entry_delivered_to}
use Rattle.machine.specs.declared.Board.{Board}
use Rattle.machine.specs.Boards.{site_at, tally_at, entry_at}
use Rattle.machine.specs.Calls.{carried_out}
use Rattle.views.specs.Views.{record_in, site_of, tally_of}
use Rattle.machine.specs.View.{view, Right}
use Rattle.machine.proofs.Placed.{board_read, entry_carried}
use Rattle.machine.proofs.Local.{Local, local_of, Elsewhere, elsewhere_then, site_at_lem, tally_at_lem, entry_at_lem, view_local, right_long, site_record}
use Rattle.machine.proofs.Stores.{local_site, local_down, Changes, changes_then}
use Rattle.machine.proofs.ByteStores.{store_mark, store_place}
use Rattle.machine.proofs.DeliveryShown.{relaid, laid_of, Redelivered, delivered_own, delivered_elsewhere, entry_delivered, changes_right}

-- ---- only the site has changed, and the sites that are down

module _ (setup : Setup) (a d : Arrays) (p m : ℕ) (hp : p < sites) (hm : m < capacity) (site : Site) (down : ℕ) where
  abbrev b : Board
  b = view setup a

  tallies_same : set b.tallies m (tally_of a m) ≡ b.tallies
  tallies_same = ap (set b.tallies m) (sym (tally_at_lem setup a m hm)) ∙ set-get_or b.tallies m no_tally

  entries_same : set b.entries m (slot_set a.sets (entry_of m)) ≡ b.entries
  entries_same = ap (set b.entries m) (sym (entry_at_lem setup a m hm)) ∙ set-get_or b.entries m no_set

  pub view_site :
      Elsewhere p m a d → local_of d p m ≡ local_down (local_site (local_of a p m) site) down
      → flight_of d.masks d.good d.carried ≡ flight_of a.masks a.good a.carried → view setup d ≡ board_read b p site down
  unfolding view
  view_site x own flight =
      view_local setup hp hm x
      ∙ rw (
        ap (λ (l : Local). l.site) own,
        ap (λ (l : Local). l.tally) own,
        ap (λ (l : Local). l.entry) own,
        ap (λ (l : Local). l.pool) own,
        ap (λ (l : Local). l.down) own,
        flight,
        tallies_same,
        entries_same,
      )

-- ---- the entry delivered, once the site has moved on

module _ (a next : Arrays) (p m : ℕ) (hp : p < sites) (hm : m < capacity) (moved : Site) (down : ℕ) (x : Elsewhere p m a next)
    (own : local_of next p m ≡ local_down (local_site (local_of a p m) moved) down) (ok : Right next) where
  abbrev end : Record
  end = delivering_entry (record_in next p) (slot_set next.sets (entry_of m)) m

  whole : Redelivered p next (delivered_entry (laid_of next) p m) end
  whole = entry_delivered next ok p hp m hm

  -- what is site p's and posting m's, with the entry delivered
  abbrev deliver : Local → Local
  deliver l = local_site l (site_delivered l.site (delivering_entry l.site.delivered l.entry m))

  entry_own :
      (cut : Cut) → local_of (relaid next (entry_delivered_to (laid_of next) p m cut)) p m
      ≡ local_down (local_site (local_of a p m) (entry_to moved (slot_set a.sets (entry_of m)) m cut)) down
  unfolding site_of
  entry_own Whole = delivered_own next p hp (delivered_entry (laid_of next) p m) end whole m hm ∙ ap deliver own
  entry_own (After j) = own

  entry_else : (cut : Cut) → Elsewhere p m a (relaid next (entry_delivered_to (laid_of next) p m cut))
  entry_else Whole = elsewhere_then x (delivered_elsewhere next p hp (delivered_entry (laid_of next) p m) end whole m)
  entry_else (After j) = x

  entry_keeps : (cut : Cut) → Right (relaid next (entry_delivered_to (laid_of next) p m cut))
  entry_keeps Whole = whole.right
  entry_keeps (After j) = ok

-- ---- the read

-- the site moves on, and goes down if cut
abbrev pub moved_on : Arrays → ℕ → Cut → Arrays
moved_on a p cut = with_bytes (with_counts a (set a.counts (place_at p) (get_or a.counts (place_at p) 0 + 1))) (marked a.bytes p cut)

-- and delivers m's entry, if not
abbrev pub has_read : Arrays → ℕ → ℕ → Cut → Arrays
has_read a p m cut = relaid a (entry_delivered_to (laid_of (moved_on a p cut)) p m cut)

module _ (a : Arrays) (ok : Right a) (p m : ℕ) (hp : p < sites) (hm : m < capacity) (cut : Cut) where
  abbrev place : ℕ
  place = get_or a.counts (place_at p) 0

  abbrev moved : Site
  moved = site_place (site_of a p) (place + 1)

  abbrev down : ℕ
  down = down_after (byte a.bytes down_at) p cut

  moves : Changes p m a (moved_on a p cut) (λ l. local_down (local_site l (site_place l.site (place + 1))) (down_after l.down p cut))
  moves =
      let first = store_place p m hp a (right_long ok) (place + 1) in
      changes_then first (store_mark p m hp hm (with_counts a (set a.counts (place_at p) (place + 1))) first.long p cut)

  moved_right : Right (moved_on a p cut)
  moved_right = changes_right ok moves (site_record a p)

  pub read_right : Right (has_read a p m cut)
  read_right = entry_keeps a (moved_on a p cut) p m hp hm moved down moves.elsewhere moves.own moved_right cut

  module _ (setup : Setup) (room : place < capacity) where
    abbrev board : Board
    board = view setup a

    reads : moved ≡ read_site (site_at board p)
    unfolding read_site site_of
    reads = rw (site_at_lem setup a p hp, lt-ltb place capacity room)

    has_room : (site_at board p).place < capacity
    unfolding site_of
    has_room = rw (site_at_lem setup a p hp) room

    shown : view setup (has_read a p m cut) ≡ board_read board p (entry_to moved (slot_set a.sets (entry_of m)) m cut) down
    shown =
        view_site setup a (has_read a p m cut) p m hp hm (entry_to moved (slot_set a.sets (entry_of m)) m cut) down
        (entry_else a (moved_on a p cut) p m hp hm moved down moves.elsewhere moves.own moved_right cut)
        (entry_own a (moved_on a p cut) p m hp hm moved down moves.elsewhere moves.own moved_right cut) refl

    pub read_shown : view setup (has_read a p m cut) ≡ carried_out board p m (on_entry (site_at board p) (tally_at board m) m (entry_at board m)) cut
    unfolding view
    read_shown =
        shown
        ∙ entry_carried board p m (entry_at board m) has_room hp cut moved (entry_to moved (slot_set a.sets (entry_of m)) m cut) down reads
        (ap (λ (s : Set). entry_to moved s m cut) (sym (entry_at_lem setup a m hm))) refl
