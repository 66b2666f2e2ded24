-- An offer on the arrays shows the posting in the table and its FIRSTs sent, and keeps the index right.
-- Rests on Tables and Placed, on the laws of the index. Assumes nothing.
use Prim.Native.Nat.{ℕ, ◌<◌}
use mathlib.Core.Path.{◌≡◌, refl, sym, ap, ◌∙◌}
use mathlib.Core.Logic.{inl, inr}
use mathlib.Core.Bool.{true, false}
use mathlib.Core.List.{List}
use native.Mathlib.Omega.{arith}
use lib.ListN.{length, get_or, set, length-set}
use lib.Seq.{set-get_or}
use Rattle.sets.specs.declared.Set.{Set}
use Rattle.sets.specs.Sets.{capacity, has}
use Rattle.posting.specs.declared.Posting.{Posting}
use Rattle.posting.specs.declared.Table.{Table}
use Rattle.posting.specs.declared.Record.{Record}
use Rattle.posting.specs.Kinds.{kinds, accounts_ok}
use Rattle.posting.specs.Conflicts.{table_with}
use Rattle.posting.specs.Records.{contains}
use Rattle.books.proofs.Lists.{length_tabulate}
use Rattle.masks.specs.SiteMasks.{every_site}
use Rattle.site.specs.declared.Setup.{Setup}
use Rattle.site.specs.declared.Stepped.{Stepped}
use Rattle.site.specs.Sites.{sites, no_site, no_tally, no_set}
use Rattle.site.specs.Sends.{FIRST}
use Rattle.site.specs.ByMask.{step_of, offer_by_mask}
use Rattle.site.proofs.Fits.{offer_fits}
use Rattle.flight.specs.Flights.{flight_of, sending_to}
use Rattle.steps.specs.declared.Cut.{Cut}
use Rattle.steps.specs.Cuts.{sites_to, down_after}
use Rattle.arrays.specs.Layout.{shown_slots, seen_of, held_of, stepped_of, finished_of, got_of, pool_slot, union_of, entry_of, have_of, count_at, down_at, owner_at, kind_at, from_at, into_at}
use Rattle.arrays.specs.declared.Arrays.{Arrays}
use Rattle.arrays.specs.Arrays.{with_sets, with_bytes, with_masks, slot_set, has_in, byte, marked}
use Rattle.arrays.proofs.Slots.{has_slot}
use Rattle.index.specs.Index.{indexing, Indexed}
use Rattle.index.proofs.Indexed.{indexed_offer, long_indexed, slot_indexed_other}
use Rattle.flat.specs.Flat.{entered}
use Rattle.machine.specs.declared.Board.{Board}
use Rattle.machine.specs.Boards.{site_at, tally_at, entry_at, board_down, board_table, board_flight}
use Rattle.machine.specs.Calls.{carried_out}
use Rattle.views.specs.Views.{record_in, site_of, tally_of, row_of, table_of, log_of}
use Rattle.machine.specs.View.{view, Right}
use Rattle.machine.proofs.Placed.{board_parts, part_to, carried_parts}
use Rattle.machine.proofs.ByteStores.{table_same}
use Rattle.machine.proofs.Following.{length_sending, no_entry, settled_none}
use Rattle.machine.proofs.Tables.{view_marked, right_marked, more, row_table, row_record, view_more}

length_entered : (bs : List ℕ) (m : ℕ) (p : Posting) → length (entered bs m p) ≡ length bs
unfolding entered
length_entered bs m p =
    rw (
      length-set (set (set (set bs (owner_at m) p.owner) (kind_at m) p.kind) (from_at m) p.a) (into_at m) p.b,
      length-set (set (set bs (owner_at m) p.owner) (kind_at m) p.kind) (from_at m) p.a,
      length-set (set bs (owner_at m) p.owner) (kind_at m) p.kind,
      length-set bs (owner_at m) p.owner,
    )

module _ (setup : Setup) (a : Arrays) (ok : Right a) (p : Posting) (room : get_or a.counts count_at 0 < capacity)
    (hk : p.kind < kinds) (named : accounts_ok p.kind p.a p.b ≡ true) where
  abbrev m : ℕ
  m = get_or a.counts count_at 0

  abbrev b : Board
  b = view setup a

  abbrev rowed : Arrays
  rowed = more setup a ok p

  -- the posting in the index too
  abbrev indexed : Arrays
  indexed = with_sets rowed (indexing a.sets m p.kind p.a p.b)

  slot_kept : (slot : ℕ) → slot < shown_slots → slot_set indexed.sets slot ≡ slot_set a.sets slot
  slot_kept slot h = slot_indexed_other a.sets m p.kind p.a p.b room hk named slot (inl h)

  site_kept : (q : ℕ) → q < sites → site_of indexed q ≡ site_of rowed q
  unfolding site_of record_in
  site_kept q h =
      rw (
        slot_kept (seen_of q) (omega arith),
        slot_kept (held_of q) (omega arith),
        slot_kept (stepped_of q) (omega arith),
        slot_kept (finished_of q) (omega arith),
        slot_kept (got_of q) (omega arith),
      )

  tally_kept : (q : ℕ) → q < capacity → tally_of indexed q ≡ tally_of rowed q
  unfolding tally_of
  tally_kept q h = rw (slot_kept (union_of q) (omega arith))

  table_kept : table_of indexed ≡ table_of rowed
  unfolding table_of row_of
  table_kept = refl

  view_indexed : view setup indexed ≡ view setup rowed
  unfolding view log_of
  view_indexed =
      rw (
        table_kept,
        table_same sites (site_of rowed) (site_of indexed) site_kept,
        table_same capacity (tally_of rowed) (tally_of indexed) tally_kept,
        table_same capacity (λ q. slot_set a.sets (entry_of q)) (λ q. slot_set indexed.sets (entry_of q)) (λ q h. slot_kept (entry_of q) (omega arith)),
        slot_kept pool_slot (omega arith),
      )

  rows_long : length (table_of a).rows ≡ capacity
  unfolding table_of
  rows_long = length_tabulate capacity _

  index_right : Indexed indexed.sets (table_of indexed)
  unfolding table_of
  index_right = rw (table_kept ∙ row_table setup a ok p room) (indexed_offer ok.indexed ok.sets_have_length p room rows_long hk named)

  record_kept : (q : ℕ) → record_in indexed q ≡ record_in a q
  unfolding record_in
  record_kept q = row_record setup a ok p room q

  right_indexed : Right indexed
  right_indexed =
      record {
        sets_have_length = long_indexed a.sets m p.kind p.a p.b ∙ ok.sets_have_length;
        counts_have_length = length-set a.counts _ _ ∙ ok.counts_have_length;
        bytes_have_length = rw (length_entered a.bytes m p) ok.bytes_have_length;
        amounts_long = length-set a.amounts _ _ ∙ ok.amounts_long;
        masks_long = ok.masks_long;
        indexed = index_right;
        have = have_kept;
      }
    where
      have_kept : (q x : ℕ) → q < sites → x < capacity → has_in indexed.sets (have_of q) x ≡ contains (record_in indexed q) x
      have_kept q x hq hx =
          has_slot indexed.sets (have_of q) x hx
          ∙ ap (λ (s : Set). has s x) (slot_indexed_other a.sets m p.kind p.a p.b room hk named (have_of q) (inr (omega arith)))
          ∙ sym (has_slot a.sets (have_of q) x hx)
          ∙ ok.have q x hq hx
          ∙ ap (λ (r : Record). contains r x) (sym (record_kept q))

  module _ (site : ℕ) (hs : site < sites) (cut : Cut) where
    abbrev receivers : ℕ
    receivers = sites_to (every_site setup.n) cut

    abbrev sent : List ℕ
    sent = sending_to a.masks FIRST m site receivers

    abbrev pub offered : Arrays
    offered = with_masks (with_bytes indexed (marked indexed.bytes site cut)) sent

    pub offer_right : Right offered
    unfolding table_of row_of record_in
    offer_right =
        let r = right_marked setup indexed right_indexed site hs cut in
        record {
          sets_have_length = r.sets_have_length;
          counts_have_length = r.counts_have_length;
          bytes_have_length = r.bytes_have_length;
          amounts_long = r.amounts_long;
          masks_long = length_sending a.masks FIRST m site receivers ∙ ok.masks_long;
          indexed = r.indexed;
          have = r.have;
        }

    abbrev table : Table
    table = table_with b.table p

    abbrev with_row : Board
    with_row = board_table b table

    down_kept : byte indexed.bytes down_at ≡ b.down
    unfolding view
    down_kept = ap (λ (x : Board). x.down) (view_indexed ∙ view_more setup a ok p room)

    shown : view setup offered ≡ board_flight (board_down with_row (down_after b.down site cut)) (flight_of sent a.good a.carried)
    shown = masks_shown ∙ ap (λ (x : Board). board_flight x (flight_of sent a.good a.carried)) down_shown
      where
        masks_shown : view setup offered ≡ board_flight (view setup (with_bytes indexed (marked indexed.bytes site cut))) (flight_of sent a.good a.carried)
        masks_shown = unfold view table_of site_of record_in tally_of row_of log_of in refl

        down_shown : view setup (with_bytes indexed (marked indexed.bytes site cut)) ≡ board_down with_row (down_after b.down site cut)
        down_shown =
            view_marked setup indexed right_indexed site hs cut
            ∙ ap (λ (x : Board). board_down x (down_after (byte indexed.bytes down_at) site cut)) (view_indexed ∙ view_more setup a ok p room)
            ∙ ap (λ (d : ℕ). board_down with_row (down_after d site cut)) down_kept

    abbrev step : Stepped
    step = offer_by_mask setup (site_at b site) (tally_at b m)

    parts : board_flight (board_down with_row (down_after b.down site cut)) (flight_of sent a.good a.carried)
        ≡ board_down (board_parts with_row site m (part_to step receivers cut) (site_at b site) sent a.good a.carried b.pool (entry_at b m)) (down_after b.down site cut)
    unfolding offer_by_mask
    parts = rw (set-get_or b.sites site no_site, set-get_or b.tallies m no_tally, set-get_or b.entries m no_set) refl

    pub offer_shown : view setup offered ≡ carried_out with_row site m (step_of m step) cut
    unfolding offer_by_mask view
    offer_shown =
        shown ∙ parts
        ∙ carried_parts with_row site m step (offer_fits setup b.table (site_at b site) (tally_at b m) m) hs cut receivers (site_at b site) sent a.good a.carried
        false b.pool (entry_at b m) (down_after b.down site cut) refl (settled_none (site_at b site) m cut) refl refl refl refl (no_entry b.pool m) refl refl
