-- A byte or a count stored in the arrays of a board, about posting m at site p, or its flight changed: what is theirs then, and that all else stays.
-- In order: the bytes of p and m; elsewhere_byte; store_mark; store_heard, store_tallied; elsewhere_count, store_place; store_flight. Rests on Stores. Assumes nothing.
use Prim.Native.Nat.{ℕ, zero, suc, ◌+◌, ◌*◌, ◌<◌, ◌≤◌}
use mathlib.Core.Path.{◌≡◌, refl, sym, ap₂, ◌∙◌}
use mathlib.Core.Logic.{◌≢◌}
use mathlib.Core.List.{List, [], ◌∷◌, ◌++◌}
use native.Mathlib.Omega.{arith}
use lib.ListN.{length, get_or, set, length-set}
use lib.Seq.{get_or-set_same, get_or-set_other}
use Rattle.sets.specs.Sets.{capacity}
use Rattle.books.specs.Books.{tabulate}
use Rattle.site.specs.Sites.{sites, site_heard, site_place}
use Rattle.flight.specs.Flights.{cells, words_from}
use Rattle.steps.specs.declared.Cut.{Cut}
use Rattle.steps.specs.Cuts.{down_after}
use Rattle.arrays.specs.Layout.{count_at, logged_at, place_at, delivered_at, down_at, owner_at, kind_at, from_at, into_at, tallied_at, has_at, log_at, heard_at, good_at, record_at}
use Rattle.arrays.specs.declared.Arrays.{Arrays}
use Rattle.arrays.specs.Arrays.{with_counts, with_bytes, with_masks, with_good, with_carried, byte, marked}
use Rattle.arrays.proofs.Slots.{part_ext, part_set}
use Rattle.flat.specs.Flat.{hearing, tallying}
use Rattle.views.specs.Views.{record_in, site_of, tally_of, row_of, table_of, log_of}
use Rattle.machine.proofs.Local.{Local, local_of, Elsewhere, Long}
use Rattle.machine.proofs.Stores.{Changes, changes_then, changes_as, local_site, local_tally, local_down, tally_masks}

-- ---- a byte stored

-- a function's values that are the same
pub table_same : {A : Type 0} (n : ℕ) (f g : ℕ → A) → ((q : ℕ) → q < n → g q ≡ f q) → tabulate n g ≡ tabulate n f
unfolding tabulate
table_same zero f g same = refl
table_same {A} (suc n) f g same =
    ap₂ (λ (l : List A) (x : A). l ++ (x ∷ [])) (table_same n f g (λ q h. same q (omega arith))) (same n (omega arith))

part_kept : (l : List ℕ) (i n k v : ℕ) → (i ≤ k → k < i + n → ⊥) → words_from (set l k v) i n ≡ words_from l i n
part_kept l i n k v off = part_ext (set l k v) l i n (λ q b c. get_or-set_other l k q v 0 (λ e. off (omega arith) (omega arith)))

-- a byte of p or m, or the one of the sites that are down: in no row, not in the log, of no other site and no other posting
pub record OwnByte (p m k : ℕ) : Type 0 where
  pub rows : owner_at 0 ≤ k → k < tallied_at 0 → ⊥
  pub log : log_at 0 ≤ k → k < heard_at 0 0 → ⊥
  pub tally : (q : ℕ) → q < capacity → q ≢ m → k ≢ tallied_at q
  pub has : (q : ℕ) → q < capacity → q ≢ m → k ≢ has_at q
  pub heard : (q : ℕ) → q < sites → q ≢ p → heard_at q 0 ≤ k → k < heard_at q 0 + capacity → ⊥
  pub good : (q : ℕ) → q < sites → q ≢ p → good_at q 0 ≤ k → k < good_at q 0 + capacity → ⊥
  pub delivered : (q : ℕ) → q < sites → q ≢ p → record_at q 0 ≤ k → k < record_at q 0 + capacity → ⊥

module _ (p m : ℕ) (hp : p < sites) (hm : m < capacity) where
  pub own_down : OwnByte p m down_at
  own_down =
      record {
        rows = λ b c. omega arith;
        log = λ b c. omega arith;
        tally = λ q h n e. omega arith;
        has = λ q h n e. omega arith;
        heard = λ q h n b c. omega arith;
        good = λ q h n b c. omega arith;
        delivered = λ q h n b c. omega arith;
      }

  -- place i of what is p's, past the log: with m for i, heard_at p m and good_at p m; and record_at p i
  pub own_place : (j i : ℕ) → j < 3 → i < capacity → (j < 2 → i ≡ m) → OwnByte p m (1 + 7 * capacity + j * (sites * capacity) + p * capacity + i)
  own_place j i hj hi same =
      record {
        rows = λ b c. omega arith;
        log = λ b c. omega arith;
        tally = λ q h n e. omega arith;
        has = λ q h n e. omega arith;
        heard = λ q h n b c. omega arith;
        good = λ q h n b c. omega arith;
        delivered = λ q h n b c. omega arith;
      }

  -- tallied_at m and has_at m
  pub own_tallied : (j : ℕ) → j < 2 → OwnByte p m (1 + (4 + j) * capacity + m)
  own_tallied j hj =
      record {
        rows = λ b c. omega arith;
        log = λ b c. omega arith;
        tally = λ q h n e. omega arith;
        has = λ q h n e. omega arith;
        heard = λ q h n b c. omega arith;
        good = λ q h n b c. omega arith;
        delivered = λ q h n b c. omega arith;
      }

module _ (p m : ℕ) (hp : p < sites) (hm : m < capacity) (a : Arrays) (long : Long a) where
  module _ (k v : ℕ) (o : OwnByte p m k) where
    abbrev new_bytes : Arrays
    new_bytes = with_bytes a (set a.bytes k v)

    byte_kept : (i : ℕ) → k ≢ i → byte (set a.bytes k v) i ≡ byte a.bytes i
    byte_kept i n = get_or-set_other a.bytes k i v 0 (λ e. n (sym e))

    part_same : (i : ℕ) → (i ≤ k → k < i + capacity → ⊥) → words_from (set a.bytes k v) i capacity ≡ words_from a.bytes i capacity
    part_same i off = part_kept a.bytes i capacity k v off

    row_same : (q : ℕ) → q < capacity → row_of new_bytes q ≡ row_of a q
    unfolding row_of
    row_same q h =
        rw (
          byte_kept (owner_at q) (λ e. o.rows (omega arith) (omega arith)),
          byte_kept (kind_at q) (λ e. o.rows (omega arith) (omega arith)),
          byte_kept (from_at q) (λ e. o.rows (omega arith) (omega arith)),
          byte_kept (into_at q) (λ e. o.rows (omega arith) (omega arith)),
        )

    byte_site : (q : ℕ) → q < sites → q ≢ p → site_of new_bytes q ≡ site_of a q
    unfolding site_of record_in
    byte_site q h n =
        rw (part_same (heard_at q 0) (o.heard q h n), part_same (good_at q 0) (o.good q h n), part_same (record_at q 0) (o.delivered q h n))

    byte_tally : (q : ℕ) → q < capacity → q ≢ m → tally_of new_bytes q ≡ tally_of a q
    unfolding tally_of
    byte_tally q h n = rw (byte_kept (tallied_at q) (o.tally q h n), byte_kept (has_at q) (o.has q h n))

    pub elsewhere_byte : Elsewhere p m a new_bytes
    unfolding table_of log_of
    elsewhere_byte =
        record {
          other_sites = byte_site;
          other_tallies = byte_tally;
          other_entries = λ q h n. refl;
          same_table = rw (table_same capacity (row_of a) (row_of new_bytes) row_same);
          same_log = rw (part_same (log_at 0) (λ b c. o.log b (omega arith)));
          same_index = λ account kind h x. refl;
          other_have = λ q h n. refl;
        }

    byte_stored : (change : Local → Local) → local_of new_bytes p m ≡ change (local_of a p m) → Changes p m a new_bytes change
    byte_stored change own =
        record {
          elsewhere = elsewhere_byte;
          own = own;
          have = refl;
          long = record {
            sets_have_length = long.sets_have_length;
            counts_have_length = long.counts_have_length;
            bytes_have_length = length-set a.bytes k v ∙ long.bytes_have_length;
            amounts_long = long.amounts_long;
            masks_long = long.masks_long;
          };
        }

    own_part : (i j : ℕ) → j < capacity → k ≡ i + j → i + j < length a.bytes → words_from (set a.bytes k v) i capacity ≡ set (words_from a.bytes i capacity) j v
    own_part i j h e b = rw e (part_set a.bytes i capacity j v h b)

  -- a site goes down, if its step is cut
  pub store_mark : (at : ℕ) (cut : Cut) → Changes p m a (with_bytes a (marked a.bytes at cut)) (λ l. local_down l (down_after l.down at cut))
  unfolding marked site_of tally_of record_in
  store_mark at cut =
      let v = down_after (byte a.bytes down_at) at cut in
      let o = own_down p m hp hm in
      let inside : down_at < length a.bytes = omega (arith, long.bytes_have_length) in
      byte_stored down_at v o (λ l. local_down l (down_after l.down at cut))
      (rw (
        get_or-set_same a.bytes down_at v 0 inside,
        part_same down_at v o (heard_at p 0) (λ b c. omega arith),
        part_same down_at v o (good_at p 0) (λ b c. omega arith),
        part_same down_at v o (record_at p 0) (λ b c. omega arith),
        byte_kept down_at v o (tallied_at m) (λ e. omega arith),
        byte_kept down_at v o (has_at m) (λ e. omega arith),
      ))

-- two bytes stored
module _ (p m : ℕ) (hp : p < sites) (hm : m < capacity) (a : Arrays) (long : Long a) where
  module _ (k v i w : ℕ) (o : OwnByte p m k) (u : OwnByte p m i) where
    abbrev once : Arrays
    once = with_bytes a (set a.bytes k v)

    abbrev twice : Arrays
    twice = with_bytes a (set (set a.bytes k v) i w)

    first : Changes p m a once (λ l. local_of once p m)
    first = byte_stored p m hp hm a long k v o (λ l. local_of once p m) refl

    both : (change : Local → Local) → local_of twice p m ≡ change (local_of a p m) → Changes p m a twice change
    both change own =
        changes_as change (changes_then first (byte_stored p m hp hm once first.long i w u (λ l. local_of twice p m) refl)) own

    byte_left : (j : ℕ) → k ≢ j → i ≢ j → byte twice.bytes j ≡ byte a.bytes j
    byte_left j n e = byte_kept p m hp hm once first.long i w u j e ∙ byte_kept p m hp hm a long k v o j n

    part_left : (j : ℕ) → (j ≤ k → k < j + capacity → ⊥) → (j ≤ i → i < j + capacity → ⊥) → words_from twice.bytes j capacity ≡ words_from a.bytes j capacity
    part_left j n e = part_same p m hp hm once first.long i w u j e ∙ part_same p m hp hm a long k v o j n

    inside : length once.bytes ≡ length a.bytes
    inside = length-set a.bytes k v

  -- what site p has heard for m
  pub store_heard : (heard good : ℕ) → Changes p m a (with_bytes a (hearing a.bytes p m heard good)) (λ l. local_site l (site_heard l.site m heard good))
  unfolding hearing site_of tally_of record_in
  store_heard heard good =
      let k = heard_at p m in
      let i = good_at p m in
      let o = own_place p m hp hm 0 m (omega arith) hm (λ h. refl) in
      let u = own_place p m hp hm 1 m (omega arith) hm (λ h. refl) in
      let mid = once k heard i good o u in
      let b : heard_at p 0 + m < length a.bytes = omega (arith, long.bytes_have_length) in
      let c : good_at p 0 + m < length mid.bytes = omega (arith, inside k heard i good o u, long.bytes_have_length) in
      both k heard i good o u (λ l. local_site l (site_heard l.site m heard good))
      (rw (
        part_same p m hp hm mid (first k heard i good o u).long i good u (heard_at p 0) (λ b c. omega arith),
        own_part p m hp hm a long k heard o (heard_at p 0) m hm (omega arith) b,
        own_part p m hp hm mid (first k heard i good o u).long i good u (good_at p 0) m hm (omega arith) c,
        part_same p m hp hm a long k heard o (good_at p 0) (λ b c. omega arith),
        part_left k heard i good o u (record_at p 0) (λ b c. omega arith) (λ b c. omega arith),
        byte_left k heard i good o u (tallied_at m) (λ e. omega arith) (λ e. omega arith),
        byte_left k heard i good o u (has_at m) (λ e. omega arith) (λ e. omega arith),
        byte_left k heard i good o u down_at (λ e. omega arith) (λ e. omega arith),
      ))

  -- the masks of m's tally
  pub store_tallied : (heard has : ℕ) → Changes p m a (with_bytes a (tallying a.bytes m heard has)) (λ l. local_tally l (tally_masks l.tally heard has))
  unfolding tallying site_of tally_of record_in
  store_tallied heard has =
      let k = tallied_at m in
      let i = has_at m in
      let o = own_tallied p m hp hm 0 (omega arith) in
      let u = own_tallied p m hp hm 1 (omega arith) in
      let mid = once k heard i has o u in
      let b : k < length a.bytes = omega (arith, long.bytes_have_length) in
      let c : i < length mid.bytes = omega (arith, inside k heard i has o u, long.bytes_have_length) in
      both k heard i has o u (λ l. local_tally l (tally_masks l.tally heard has))
      (rw (
        byte_kept p m hp hm mid (first k heard i has o u).long i has u k (λ e. omega arith),
        get_or-set_same a.bytes k heard 0 b,
        get_or-set_same mid.bytes i has 0 c,
        part_left k heard i has o u (heard_at p 0) (λ b c. omega arith) (λ b c. omega arith),
        part_left k heard i has o u (good_at p 0) (λ b c. omega arith) (λ b c. omega arith),
        part_left k heard i has o u (record_at p 0) (λ b c. omega arith) (λ b c. omega arith),
        byte_left k heard i has o u down_at (λ e. omega arith) (λ e. omega arith),
      ))

-- ---- a count stored, and the flight

module _ (p m : ℕ) (hp : p < sites) (a : Arrays) (long : Long a) where
  pub elsewhere_count :
      (k v : ℕ) → 2 ≤ k → ((q : ℕ) → q < sites → q ≢ p → (place_at q ≢ k) × (delivered_at q ≢ k)) → Elsewhere p m a (with_counts a (set a.counts k v))
  unfolding site_of record_in tally_of table_of row_of log_of
  elsewhere_count k v past off =
      record {
        other_sites = λ q h n. rw (left (place_at q) (off q h n).0, left (delivered_at q) (off q h n).1);
        other_tallies = λ q h n. refl;
        other_entries = λ q h n. refl;
        same_table = rw (left count_at (λ e. omega arith));
        same_log = rw (left logged_at (λ e. omega arith));
        same_index = λ account kind h x. refl;
        other_have = λ q h n. refl;
      }
    where
      left : (j : ℕ) → j ≢ k → get_or (set a.counts k v) j 0 ≡ get_or a.counts j 0
      left j n = get_or-set_other a.counts k j v 0 n

  -- p's place in the log
  pub store_place : (v : ℕ) → Changes p m a (with_counts a (set a.counts (place_at p) v)) (λ l. local_site l (site_place l.site v))
  unfolding site_of tally_of record_in
  store_place v =
      let b : place_at p < length a.counts = omega (arith, long.counts_have_length) in
      record {
        elsewhere = elsewhere_count (place_at p) v (omega arith) (λ q h n. ((λ e. n (omega arith)), (λ e. omega arith)));
        own =
            rw (get_or-set_same a.counts (place_at p) v 0 b, get_or-set_other a.counts (place_at p) (delivered_at p) v 0 (λ e. omega arith));
        have = refl;
        long = record {
          sets_have_length = long.sets_have_length;
          counts_have_length = length-set a.counts (place_at p) v ∙ long.counts_have_length;
          bytes_have_length = long.bytes_have_length;
          amounts_long = long.amounts_long;
          masks_long = long.masks_long;
        };
      }

  -- what is in flight is neither theirs nor another's
  pub store_flight : (masks good carried : List ℕ) → length masks ≡ cells → Changes p m a (with_carried (with_good (with_masks a masks) good) carried) (λ l. l)
  unfolding site_of tally_of record_in table_of row_of log_of
  store_flight masks good carried fits =
      record {
        elsewhere = record {
          other_sites = λ q h n. refl;
          other_tallies = λ q h n. refl;
          other_entries = λ q h n. refl;
          same_table = refl;
          same_log = refl;
          same_index = λ account kind h x. refl;
          other_have = λ q h n. refl;
        };
        own = refl;
        have = refl;
        long = record {
          sets_have_length = long.sets_have_length;
          counts_have_length = long.counts_have_length;
          bytes_have_length = long.bytes_have_length;
          amounts_long = long.amounts_long;
          masks_long = fits;
        };
      }
