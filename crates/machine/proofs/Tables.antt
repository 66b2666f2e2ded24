-- The bytes of rows and log, the counts of postings and entries, and who is down, stored: what the board shown becomes. An event of one
-- site is in Stores. Rests on Local, Stores and ByteStores. Assumes nothing.
use Prim.Native.Nat.{ℕ, ◌+◌, ◌<◌, ◌≤◌}
use mathlib.Core.Path.{◌≡◌, refl, sym, ap, ◌∙◌}
use mathlib.Core.Logic.{◌≢◌, ◌⊎◌, inl, inr}
use mathlib.Core.Bool.{false}
use mathlib.Core.List.{List}
use native.Mathlib.Omega.{arith}
use lib.Dec.{ltb}
use lib.ListN.{length, get_or, set, length-set}
use lib.Seq.{set-get_or, get_or-set_same, get_or-set_other}
use borrow.Author.Tests.{lt-ltb, ltb-true}
use Rattle.sets.proofs.Truth.{test}
use Rattle.sets.specs.declared.Set.{Set}
use Rattle.sets.specs.Sets.{words, capacity}
use Rattle.posting.specs.declared.Posting.{Posting}
use Rattle.posting.specs.declared.Record.{Record}
use Rattle.posting.specs.Conflicts.{table_with, no_posting}
use Rattle.posting.specs.Records.{append, contains}
use Rattle.site.specs.declared.Setup.{Setup}
use Rattle.site.specs.declared.Site.{Site}
use Rattle.site.specs.Sites.{sites, no_site, no_tally, no_set}
use Rattle.flight.specs.Flights.{words_from}
use Rattle.steps.specs.declared.Cut.{Cut}
use Rattle.steps.specs.Cuts.{down_after}
use Rattle.arrays.specs.Layout.{down_at, owner_at, kind_at, from_at, into_at, tallied_at, has_at, log_at, heard_at, good_at, record_at, count_at, logged_at, place_at, delivered_at, pool_slot, entry_of}
use Rattle.arrays.specs.declared.Arrays.{Arrays}
use Rattle.arrays.specs.Arrays.{with_sets, with_counts, with_bytes, slot_set, storing, byte, marked}
use Rattle.arrays.proofs.Slots.{part_ext, part_set}
use Rattle.flat.specs.Flat.{entered, logging}
use Rattle.machine.specs.Boards.{site_at, tally_at, entry_at, board_down, board_pool, board_table}
use Rattle.views.specs.Views.{record_in, site_of, tally_of, row_of, table_of, log_of}
use Rattle.machine.specs.View.{view, Right}
use Rattle.machine.proofs.Local.{Local, right_long, right_local, site_at_lem, tally_at_lem, entry_at_lem, view_local, shown_after, table_changed, site_record, indexed_same}
use Rattle.machine.proofs.Stores.{Changes, local_down, local_pool, store_pool}
use Rattle.machine.proofs.ByteStores.{table_same, store_mark}

-- ---- who is down

module _ (setup : Setup) (a : Arrays) (ok : Right a) (p : ℕ) (hp : p < sites) (cut : Cut) where
  abbrev marked_arrays : Arrays
  marked_arrays = with_bytes a (marked a.bytes p cut)

  stored : Changes p 0 a marked_arrays (λ l. local_down l (down_after l.down p cut))
  stored = store_mark p 0 hp (omega arith) a (right_long ok) p cut

  pub view_marked : view setup marked_arrays ≡ board_down (view setup a) (down_after (byte a.bytes down_at) p cut)
  unfolding view
  view_marked = view_local setup hp (omega arith) stored.elsewhere ∙ same
    where
      own_site : site_of marked_arrays p ≡ site_at (view setup a) p
      own_site = ap (λ (l : Local). l.site) stored.own ∙ sym (site_at_lem setup a p hp)

      own_tally : tally_of marked_arrays 0 ≡ tally_at (view setup a) 0
      own_tally = ap (λ (l : Local). l.tally) stored.own ∙ sym (tally_at_lem setup a 0 (omega arith))

      down : byte marked_arrays.bytes down_at ≡ down_after (byte a.bytes down_at) p cut
      down = ap (λ (l : Local). l.down) stored.own

      same : shown_after setup a marked_arrays p 0 ≡ board_down (view setup a) (down_after (byte a.bytes down_at) p cut)
      same =
          rw (
            own_site,
            own_tally,
            down,
            sym (entry_at_lem setup a 0 (omega arith)),
            set-get_or (view setup a).sites p no_site,
            set-get_or (view setup a).tallies 0 no_tally,
            set-get_or (view setup a).entries 0 no_set,
          )

  pub right_marked : Right marked_arrays
  right_marked =
      right_local ok stored.elsewhere stored.long stored.have
      (sym (site_record marked_arrays p) ∙ ap (λ (l : Local). l.site.delivered) stored.own ∙ site_record a p)

-- ---- rows and log

-- a byte of a row, or of the log
abbrev Listed : ℕ → Type 0
Listed k = (owner_at 0 ≤ k) × (k < heard_at 0 0) × ((k < tallied_at 0) ⊎ (log_at 0 ≤ k))

module _ (a : Arrays) (k v : ℕ) (listed : Listed k) where
  abbrev put : Arrays
  put = with_bytes a (set a.bytes k v)

  left : (i : ℕ) → i ≢ k → byte (set a.bytes k v) i ≡ byte a.bytes i
  left i n = get_or-set_other a.bytes k i v 0 n

  part_after : (i : ℕ) → heard_at 0 0 ≤ i → words_from (set a.bytes k v) i capacity ≡ words_from a.bytes i capacity
  part_after i h = part_ext (set a.bytes k v) a.bytes i capacity (λ q b c. left q (λ e. omega (arith, listed.1)))

  pub listed_site : (q : ℕ) → site_of put q ≡ site_of a q
  unfolding site_of record_in
  listed_site q = rw (part_after (heard_at q 0) (omega arith), part_after (good_at q 0) (omega arith), part_after (record_at q 0) (omega arith))

  apart : (q : ℕ) → tallied_at 0 ≤ q → q < log_at 0 → (k < tallied_at 0) ⊎ (log_at 0 ≤ k) → q ≢ k
  apart q b c (inl h) e = omega arith
  apart q b c (inr h) e = omega arith

  pub listed_tally : (q : ℕ) → q < capacity → tally_of put q ≡ tally_of a q
  unfolding tally_of
  listed_tally q h =
      rw (left (tallied_at q) (apart (tallied_at q) (omega arith) (omega arith) listed.2), left (has_at q) (apart (has_at q) (omega arith) (omega arith) listed.2))

  pub listed_down : byte put.bytes down_at ≡ byte a.bytes down_at
  listed_down = left down_at (λ e. omega (arith, listed.0))

-- the log one entry longer
module _ (setup : Setup) (a : Arrays) (ok : Right a) (m : ℕ) (hm : m < capacity) where
  abbrev entries : ℕ
  entries = get_or a.counts logged_at 0

  abbrev longer : Arrays
  longer = with_bytes (with_counts a (set a.counts logged_at (entries + 1))) (set a.bytes (log_at entries) m)

  abbrev counted : Arrays
  counted = with_counts a (set a.counts logged_at (entries + 1))

  count_left : (i : ℕ) → i ≢ logged_at → get_or (set a.counts logged_at (entries + 1)) i 0 ≡ get_or a.counts i 0
  count_left i n = get_or-set_other a.counts logged_at i (entries + 1) 0 n

  counted_site : (q : ℕ) → site_of counted q ≡ site_of a q
  unfolding site_of record_in
  counted_site q = rw (count_left (place_at q) (λ e. omega arith), count_left (delivered_at q) (λ e. omega arith))

  module _ (room : entries < capacity) where
    abbrev at : ℕ
    at = log_at entries

    of_log : Listed at
    of_log = (omega arith, omega arith, inr (omega arith))

    log_site : (q : ℕ) → site_of longer q ≡ site_of a q
    log_site q = listed_site counted at m of_log q ∙ counted_site q

    log_record : (q : ℕ) → record_in longer q ≡ record_in a q
    log_record q = sym (site_record longer q) ∙ ap (λ (s : Site). s.delivered) (log_site q) ∙ site_record a q

    log_table : table_of longer ≡ table_of a
    unfolding table_of row_of
    log_table =
        rw (count_left count_at (λ e. omega arith))
        (ap (λ (l : List Posting). record { count = get_or a.counts count_at 0; rows = l })
        (table_same capacity (row_of a) (row_of longer) (λ q h.
        rw (
          left counted at m of_log (owner_at q) (λ e. omega arith),
          left counted at m of_log (kind_at q) (λ e. omega arith),
          left counted at m of_log (from_at q) (λ e. omega arith),
          left counted at m of_log (into_at q) (λ e. omega arith),
        ))))

    log_longer : log_of longer ≡ record { count = entries + 1; numbers = set (words_from a.bytes (log_at 0) capacity) entries m }
    unfolding log_of
    log_longer =
        let inside : log_at 0 + entries < length a.bytes = omega (arith, ok.bytes_have_length) in
        let counts-inside : logged_at < length a.counts = omega (arith, ok.counts_have_length) in
        rw (get_or-set_same a.counts logged_at (entries + 1) 0 counts-inside, part_set a.bytes (log_at 0) capacity entries m room inside)

    pub view_longer : view setup longer ≡ board_pool (view setup a) (view setup a).pool (view setup a).entries (append (view setup a).log m)
    unfolding view append log_of tally_of
    view_longer =
        rw (
          log_table,
          log_longer,
          listed_down counted at m of_log,
          lt-ltb entries capacity room,
          lt-ltb m capacity hm,
          table_same sites (site_of a) (site_of longer) (λ q h. log_site q),
          table_same capacity (tally_of a) (tally_of longer) (λ q h. listed_tally counted at m of_log q h),
        )

    right_longer : Right longer
    right_longer =
        record {
          sets_have_length = ok.sets_have_length;
          counts_have_length = length-set a.counts logged_at (entries + 1) ∙ ok.counts_have_length;
          bytes_have_length = length-set a.bytes at m ∙ ok.bytes_have_length;
          amounts_long = ok.amounts_long;
          masks_long = ok.masks_long;
          indexed = indexed_same ok.indexed (λ account kind h x. refl) log_table;
          have = λ p x hp hx. ok.have p x hp hx ∙ ap (λ (r : Record). contains r x) (sym (log_record p));
        }

  pub view_logged : view setup (logging a m) ≡ board_pool (view setup a) (view setup a).pool (view setup a).entries (append (view setup a).log m)
  unfolding logging
  view_logged = elim (test (ltb entries capacity)) [
    | inl t ↦ rw t (view_longer (ltb-true entries capacity t))
    | inr f ↦ rw f (full f)
  ]
    where
      full : ltb entries capacity ≡ false → view setup a ≡ board_pool (view setup a) (view setup a).pool (view setup a).entries (append (view setup a).log m)
      full f = unfold view append log_of in rw f refl

  pub right_logged : Right (logging a m)
  unfolding logging
  right_logged = elim (test (ltb entries capacity)) [
    | inl t ↦ rw t (right_longer (ltb-true entries capacity t))
    | inr f ↦ rw f ok
  ]

-- a row more
module _ (setup : Setup) (a : Arrays) (ok : Right a) (p : Posting) where
  abbrev count : ℕ
  count = get_or a.counts count_at 0

  abbrev pub more : Arrays
  more =
      record {
        sets = a.sets;
        counts = set a.counts count_at (count + 1);
        bytes = entered a.bytes count p;
        amounts = set a.amounts count p.amount;
        masks = a.masks;
        good = a.good;
        carried = a.carried;
      }

  module _ (room : count < capacity) where
    in_rows : (k : ℕ) → owner_at 0 ≤ k → k < tallied_at 0 → Listed k
    in_rows k b c = (b, omega arith, inl c)

    abbrev one : Arrays
    one = with_bytes a (set a.bytes (owner_at count) p.owner)

    abbrev two : Arrays
    two = with_bytes a (set one.bytes (kind_at count) p.kind)

    abbrev three : Arrays
    three = with_bytes a (set two.bytes (from_at count) p.a)

    abbrev four : Arrays
    four = with_bytes a (set three.bytes (into_at count) p.b)

    of_owner : Listed (owner_at count)
    of_owner = in_rows (owner_at count) (omega arith) (omega arith)

    of_kind : Listed (kind_at count)
    of_kind = in_rows (kind_at count) (omega arith) (omega arith)

    of_from : Listed (from_at count)
    of_from = in_rows (from_at count) (omega arith) (omega arith)

    of_into : Listed (into_at count)
    of_into = in_rows (into_at count) (omega arith) (omega arith)

    row_count_left : (i : ℕ) → i ≢ count_at → get_or (set a.counts count_at (count + 1)) i 0 ≡ get_or a.counts i 0
    row_count_left i n = get_or-set_other a.counts count_at i (count + 1) 0 n

    four_site : (q : ℕ) → site_of four q ≡ site_of a q
    four_site q =
        listed_site three (into_at count) p.b of_into q ∙ listed_site two (from_at count) p.a of_from q
        ∙ listed_site one (kind_at count) p.kind of_kind q ∙ listed_site a (owner_at count) p.owner of_owner q

    row_site : (q : ℕ) → site_of more q ≡ site_of a q
    unfolding site_of record_in entered
    row_site q = rw (row_count_left (place_at q) (λ e. omega arith), row_count_left (delivered_at q) (λ e. omega arith)) (four_site q)

    pub row_record : (q : ℕ) → record_in more q ≡ record_in a q
    row_record q = sym (site_record more q) ∙ ap (λ (s : Site). s.delivered) (row_site q) ∙ site_record a q

    row_tally : (q : ℕ) → q < capacity → tally_of more q ≡ tally_of a q
    unfolding tally_of entered
    row_tally q h =
        listed_tally three (into_at count) p.b of_into q h ∙ listed_tally two (from_at count) p.a of_from q h
        ∙ listed_tally one (kind_at count) p.kind of_kind q h ∙ listed_tally a (owner_at count) p.owner of_owner q h

    row_down : byte more.bytes down_at ≡ byte a.bytes down_at
    unfolding entered
    row_down =
        listed_down three (into_at count) p.b of_into ∙ listed_down two (from_at count) p.a of_from
        ∙ listed_down one (kind_at count) p.kind of_kind ∙ listed_down a (owner_at count) p.owner of_owner

    row_log : log_of more ≡ log_of a
    unfolding log_of entered
    row_log =
        rw (row_count_left logged_at (λ e. omega arith))
        (ap (λ (l : List ℕ). record { count = get_or a.counts logged_at 0; numbers = l })
        (part_ext more.bytes a.bytes (log_at 0) capacity (λ q b c.
        left three (into_at count) p.b of_into q (λ e. omega arith) ∙ left two (from_at count) p.a of_from q (λ e. omega arith)
        ∙ left one (kind_at count) p.kind of_kind q (λ e. omega arith) ∙ left a (owner_at count) p.owner of_owner q (λ e. omega arith))))

    own_row : row_of more count ≡ p
    unfolding row_of entered
    own_row =
        let l1 : length one.bytes ≡ length a.bytes = length-set a.bytes _ _ in
        let l2 : length two.bytes ≡ length a.bytes = length-set one.bytes _ _ ∙ l1 in
        let l3 : length three.bytes ≡ length a.bytes = length-set two.bytes _ _ ∙ l2 in
        let b0 : owner_at count < length a.bytes = omega (arith, ok.bytes_have_length) in
        let b1 : kind_at count < length one.bytes = omega (arith, ok.bytes_have_length, l1) in
        let b2 : from_at count < length two.bytes = omega (arith, ok.bytes_have_length, l2) in
        let b3 : into_at count < length three.bytes = omega (arith, ok.bytes_have_length, l3) in
        let b4 : count < length a.amounts = omega (arith, ok.amounts_long) in
        rw (
          get_or-set_same three.bytes (into_at count) p.b 0 b3,
          left three (into_at count) p.b of_into (from_at count) (λ e. omega arith),
          get_or-set_same two.bytes (from_at count) p.a 0 b2,
          left three (into_at count) p.b of_into (kind_at count) (λ e. omega arith),
          left two (from_at count) p.a of_from (kind_at count) (λ e. omega arith),
          get_or-set_same one.bytes (kind_at count) p.kind 0 b1,
          left three (into_at count) p.b of_into (owner_at count) (λ e. omega arith),
          left two (from_at count) p.a of_from (owner_at count) (λ e. omega arith),
          left one (kind_at count) p.kind of_kind (owner_at count) (λ e. omega arith),
          get_or-set_same a.bytes (owner_at count) p.owner 0 b0,
          get_or-set_same a.amounts count p.amount 0 b4,
        )

    byte_left : (i : ℕ) → i ≢ owner_at count → i ≢ kind_at count → i ≢ from_at count → i ≢ into_at count → byte more.bytes i ≡ byte a.bytes i
    unfolding entered
    byte_left i n0 n1 n2 n3 =
        left three (into_at count) p.b of_into i n3 ∙ left two (from_at count) p.a of_from i n2
        ∙ left one (kind_at count) p.kind of_kind i n1 ∙ left a (owner_at count) p.owner of_owner i n0

    other_row : (q : ℕ) → q < capacity → q ≢ count → row_of more q ≡ row_of a q
    unfolding row_of
    other_row q h n =
        rw (
          byte_left (owner_at q) (λ e. n (omega arith)) (λ e. omega arith) (λ e. omega arith) (λ e. omega arith),
          byte_left (kind_at q) (λ e. omega arith) (λ e. n (omega arith)) (λ e. omega arith) (λ e. omega arith),
          byte_left (from_at q) (λ e. omega arith) (λ e. omega arith) (λ e. n (omega arith)) (λ e. omega arith),
          byte_left (into_at q) (λ e. omega arith) (λ e. omega arith) (λ e. omega arith) (λ e. n (omega arith)),
          get_or-set_other a.amounts count q p.amount 0 n,
        )

    pub row_table : table_of more ≡ table_with (table_of a) p
    unfolding table_of
    row_table =
        let b : count_at < length a.counts = omega (arith, ok.counts_have_length) in
        rw (get_or-set_same a.counts count_at (count + 1) 0 b)
        (ap (λ (l : List Posting). record { count = count + 1; rows = l }) (table_changed capacity (row_of a) (row_of more) no_posting count room other_row ∙ rw own_row))

    pub view_more : view setup more ≡ board_table (view setup a) (table_with (view setup a).table p)
    unfolding view
    view_more =
        rw (row_table, row_log, row_down, table_same sites (site_of a) (site_of more) (λ q h. row_site q), table_same capacity (tally_of a) (tally_of more) row_tally)

-- ---- the pool

module _ (setup : Setup) (a : Arrays) (ok : Right a) (s : Set) (size : length s.words ≡ words) where
  abbrev pooled_arrays : Arrays
  pooled_arrays = with_sets a (storing a.sets pool_slot s)

  pooled : Changes 0 0 a pooled_arrays (λ l. local_pool l s)
  pooled = store_pool 0 0 (omega arith) (omega arith) a (right_long ok) s size

  pub view_pooled : view setup pooled_arrays ≡ board_pool (view setup a) s (view setup a).entries (view setup a).log
  unfolding view
  view_pooled = view_local setup (omega arith) (omega arith) pooled.elsewhere ∙ same
    where
      own_site : site_of pooled_arrays 0 ≡ site_at (view setup a) 0
      own_site = ap (λ (l : Local). l.site) pooled.own ∙ sym (site_at_lem setup a 0 (omega arith))

      own_tally : tally_of pooled_arrays 0 ≡ tally_at (view setup a) 0
      own_tally = ap (λ (l : Local). l.tally) pooled.own ∙ sym (tally_at_lem setup a 0 (omega arith))

      own_entry : slot_set pooled_arrays.sets (entry_of 0) ≡ entry_at (view setup a) 0
      own_entry = ap (λ (l : Local). l.entry) pooled.own ∙ sym (entry_at_lem setup a 0 (omega arith))

      own_pool : slot_set pooled_arrays.sets pool_slot ≡ s
      own_pool = ap (λ (l : Local). l.pool) pooled.own

      same : shown_after setup a pooled_arrays 0 0 ≡ board_pool (view setup a) s (view setup a).entries (view setup a).log
      same =
          rw (
            own_site,
            own_tally,
            own_entry,
            own_pool,
            set-get_or (view setup a).sites 0 no_site,
            set-get_or (view setup a).tallies 0 no_tally,
            set-get_or (view setup a).entries 0 no_set,
          )

  pub right_pooled : Right pooled_arrays
  right_pooled =
      right_local ok pooled.elsewhere pooled.long pooled.have
      (sym (site_record pooled_arrays 0) ∙ ap (λ (l : Local). l.site.delivered) pooled.own ∙ site_record a 0)
