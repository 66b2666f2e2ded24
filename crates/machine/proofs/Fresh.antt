-- Arrays of zeros show the board of an accepted start, and are right.
-- Rests on View, on the laws of slots and of the index. Assumes nothing.
use Prim.Native.Nat.{ℕ, zero, suc, ◌*◌, ◌<◌, ◌≤◌}
use mathlib.Core.Path.{◌≡◌, refl, sym, ap, ap₂, ◌∙◌}
use mathlib.Core.Bool.{Bool, false}
use mathlib.Core.List.{List, [], ◌∷◌, ◌++◌}
use native.Mathlib.Omega.{arith}
use native.Mathlib.Decide.{dec_lt}
use lib.ListN.{length, get_or, replicate, length-replicate, get_or-replicate, get_or-eq_default}
use Rattle.sets.specs.Numbers.{listed}
use Rattle.sets.proofs.WordLaws.{member_empty}
use Rattle.sets.specs.Sets.{words, capacity, empty_set, has}
use Rattle.sets.specs.declared.Set.{Set}
use Rattle.posting.specs.declared.Record.{Record}
use Rattle.posting.specs.Conflicts.{no_posting}
use Rattle.posting.specs.Records.{numbers_of, contains}
use Rattle.books.specs.Books.{tabulate}
use Rattle.books.proofs.Lists.{is_tabulate}
use Rattle.site.specs.declared.Setup.{Setup}
use Rattle.site.specs.declared.Site.{Site}
use Rattle.site.specs.declared.Tally.{Tally}
use Rattle.site.specs.Sites.{sites, blank_site, blank_tally}
use Rattle.flight.specs.Flights.{pairs, cells, words_from, empty_flight}
use Rattle.arrays.specs.Layout.{seen_of, held_of, stepped_of, finished_of, got_of, pool_slot, union_of, entry_of, kind_of, have_of, sets_long, place_at, delivered_at, counts_long, owner_at, kind_at, from_at, into_at, tallied_at, has_at, log_at, heard_at, good_at, record_at, bytes_long}
use Rattle.arrays.specs.declared.Arrays.{Arrays}
use Rattle.arrays.specs.Arrays.{zeros, slot_set, has_in}
use Rattle.arrays.proofs.Slots.{slot_zero, has_slot}
use Rattle.index.proofs.Indexed.{indexed_empty}
use Rattle.machine.specs.Boards.{fresh_board}
use Rattle.views.specs.Views.{record_in, site_of, tally_of, row_of, table_of, log_of}
use Rattle.machine.specs.View.{view, Right}

zero_at : (n i : ℕ) → get_or {A = ℕ} (replicate n 0) i 0 ≡ 0
zero_at n i = elim (dec_lt i n) [
  | yes h ↦ get_or-replicate {A = ℕ} n i 0 0 h
  | no h ↦ let l : length (replicate {A = ℕ} n 0) ≤ i = omega (arith, length-replicate {A = ℕ} n 0) in get_or-eq_default (replicate n 0) 0 l
]

part_zero : (l : List ℕ) (i n : ℕ) → ((k : ℕ) → get_or l k 0 ≡ 0) → words_from l i n ≡ replicate n 0
unfolding words_from
part_zero l i zero h = refl
part_zero l i (suc n) h = ap₂ (λ (w : ℕ) (ws : List ℕ). w ∷ ws) (h i) (part_zero l (suc i) n h)

table_constant : {A : Type 0} (n : ℕ) (f : ℕ → A) (x : A) → ((q : ℕ) → f q ≡ x) → tabulate n f ≡ replicate n x
table_constant {A} n f x same =
    sym (is_tabulate n f x (replicate n x) (length-replicate n x) (λ k h. get_or-replicate n k x x h ∙ sym (same k)))

zero_record : (p : ℕ) → record_in zeros p ≡ record { count = 0; numbers = replicate capacity 0 }
unfolding record_in
zero_record p = rw (zero_at counts_long (delivered_at p), part_zero (replicate bytes_long 0) (record_at p 0) capacity (zero_at bytes_long))

zero_site : (p : ℕ) → site_of zeros p ≡ blank_site
unfolding site_of
zero_site p =
    rw (
      slot_zero sets_long (seen_of p),
      slot_zero sets_long (held_of p),
      slot_zero sets_long (stepped_of p),
      slot_zero sets_long (finished_of p),
      slot_zero sets_long (got_of p),
      part_zero (replicate bytes_long 0) (heard_at p 0) capacity (zero_at bytes_long),
      part_zero (replicate bytes_long 0) (good_at p 0) capacity (zero_at bytes_long),
      zero_at counts_long (place_at p),
      zero_record p,
    )

zero_tally : (m : ℕ) → tally_of zeros m ≡ blank_tally
unfolding tally_of
zero_tally m = rw (zero_at bytes_long (tallied_at m), zero_at bytes_long (has_at m), slot_zero sets_long (union_of m))

zero_row : (m : ℕ) → row_of zeros m ≡ no_posting
unfolding row_of
zero_row m = rw (zero_at bytes_long (owner_at m), zero_at bytes_long (kind_at m), zero_at bytes_long (from_at m), zero_at bytes_long (into_at m), zero_at capacity m)

pub fresh_shown : (setup : Setup) → view setup zeros ≡ fresh_board setup
unfolding view table_of log_of
fresh_shown setup =
    rw (
      table_constant sites (site_of zeros) blank_site zero_site,
      table_constant capacity (tally_of zeros) blank_tally zero_tally,
      table_constant capacity (row_of zeros) no_posting zero_row,
      table_constant capacity (λ m. slot_set (replicate sets_long 0) (entry_of m)) empty_set (λ m. slot_zero sets_long (entry_of m)),
      slot_zero sets_long pool_slot,
      part_zero (replicate bytes_long 0) (log_at 0) capacity (zero_at bytes_long),
    )

pub fresh_right : Right zeros
unfolding table_of
fresh_right =
    record {
      sets_have_length = length-replicate {A = ℕ} sets_long 0;
      counts_have_length = length-replicate {A = ℕ} counts_long 0;
      bytes_have_length = length-replicate {A = ℕ} bytes_long 0;
      amounts_long = length-replicate {A = ℕ} capacity 0;
      masks_long = length-replicate {A = ℕ} cells 0;
      indexed = indexed_empty (replicate sets_long 0) (table_of zeros) (λ line k _ _. slot_zero sets_long (kind_of line k)) refl;
      have = none;
    }
  where
    none : (p x : ℕ) → p < sites → x < capacity → has_in (replicate sets_long 0) (have_of p) x ≡ contains (record_in zeros p) x
    none p x hp hx =
        has_slot (replicate sets_long 0) (have_of p) x hx ∙ ap (λ (s : Set). has s x) (slot_zero sets_long (have_of p)) ∙ member_empty words x
        ∙ sym (ap (λ (r : Record). contains r x) (zero_record p) ∙ (unfold contains numbers_of listed in refl))
