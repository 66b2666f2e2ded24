-- Delivery on the flat arrays: the record of one site changes as site's delivering says, what each record has stays right, all else stays.
-- In order: Redelivered and what follows of it: delivered_site, delivered_tally, delivered_down, delivered_own, delivered_elsewhere; then one
-- posting, a list of postings, a log entry: one_delivered, all_delivered, entry_delivered; changes_right. Rests on View, Local and Stores,
-- on arrays' Slots. Assumes nothing.
use Prim.Native.Nat.{ℕ, zero, suc, ◌+◌, ◌*◌, ◌<◌, ◌≤◌}
use mathlib.Core.Path.{◌≡◌, refl, sym, ap, ap₂, ◌∙◌}
use mathlib.Core.Logic.{◌⊎◌, inl, inr, ◌≢◌}
use mathlib.Core.Bool.{Bool, true, false, cond, ◌||◌}
use mathlib.Core.List.{List, [], ◌∷◌, ◌++◌, append-nil}
use native.Mathlib.Omega.{arith}
use native.Mathlib.Decide.{ℕ_discrete, dec_lt}
use lib.Dec.{eqb, ltb}
use lib.ListN.{length, get_or, set, length-set}
use lib.Seq.{get_or-set_same, get_or-set_other}
use borrow.Author.Tests.{ltb-true, ltb-false}
use Rattle.sets.specs.declared.Set.{Set}
use Rattle.sets.proofs.Truth.{test}
use Rattle.sets.specs.Words.{member, members, members_below}
use Rattle.sets.proofs.WordLaws.{member_insert}
use Rattle.sets.specs.Sets.{capacity, has, members_of}
use Rattle.posting.specs.declared.Record.{Record}
use Rattle.posting.specs.Records.{contains}
use Rattle.posting.proofs.RecordLaws.{append_room, append_full, contains_append}
use Rattle.books.specs.Books.{tabulate}
use Rattle.site.specs.Sites.{sites, site_delivered}
use Rattle.site.specs.Steps.{delivering, delivering_all}
use Rattle.site.specs.ByMask.{delivering_entry}
use Rattle.flight.specs.Flights.{words_from}
use Rattle.flight.proofs.CarriedLaws.{length_words_from}
use Rattle.arrays.specs.Layout.{seen_of, held_of, stepped_of, finished_of, got_of, pool_slot, union_of, entry_of, kind_of, have_of, count_at, logged_at, place_at, delivered_at, down_at, owner_at, kind_at, from_at, into_at, tallied_at, has_at, log_at, heard_at, good_at, record_at}
use Rattle.arrays.specs.declared.Arrays.{Arrays}
use Rattle.arrays.specs.Arrays.{arrays, slot_set, has_in, adding, byte}
use Rattle.arrays.proofs.Slots.{part_ext, part_other, part_set, slot_long, has_slot, long_added, slot_added, slot_added_other}
use Rattle.delivery.specs.Delivery.{Laid, laid, delivered, delivered_all, delivered_entry}
use Rattle.views.specs.Views.{record_in, site_of, tally_of, row_of, table_of, log_of}
use Rattle.machine.specs.View.{Right}
use Rattle.machine.proofs.Local.{Local, local_of, Elsewhere, indexed_same, right_local, site_record}
use Rattle.machine.proofs.Stores.{local_site, Changes}

-- the arrays with those that a delivery changes; those that it changes
abbrev pub relaid : Arrays → Laid → Arrays
relaid a r = arrays r.sets r.counts r.bytes a.amounts a.masks a.good a.carried

abbrev pub laid_of : Arrays → Laid
laid_of a = laid a.sets a.counts a.bytes

-- ---- what a delivery leaves

-- the record of site p is then `after`; all else of the board is the same, and the arrays are right
pub record Redelivered (p : ℕ) (a : Arrays) (r : Laid) (after : Record) : Type 0 where
  pub own : record_in (relaid a r) p ≡ after
  pub others : (q : ℕ) → q < sites → q ≢ p → record_in (relaid a r) q ≡ record_in a q
  pub slots : (slot : ℕ) → slot ≢ have_of p → slot_set r.sets slot ≡ slot_set a.sets slot
  pub counts : (k : ℕ) → k ≢ delivered_at p → get_or r.counts k 0 ≡ get_or a.counts k 0
  pub bytes : (k : ℕ) → k < record_at 0 0 → byte r.bytes k ≡ byte a.bytes k
  pub right : Right (relaid a r)

tabulate_ext : {A : Type 0} (n : ℕ) (f g : ℕ → A) → ((k : ℕ) → k < n → f k ≡ g k) → tabulate n f ≡ tabulate n g
unfolding tabulate
tabulate_ext zero f g h = refl
tabulate_ext {A} (suc n) f g h =
    ap₂ (λ (l : List A) (x : A). l ++ (x ∷ [])) (tabulate_ext n f g (λ k b. h k (omega arith))) (h n (omega arith))

-- the table, from what it is read of
module _ (a d : Arrays) (amounts : d.amounts ≡ a.amounts) (counts : get_or d.counts count_at 0 ≡ get_or a.counts count_at 0)
    (bytes : (k : ℕ) → down_at < k → k < tallied_at 0 → byte d.bytes k ≡ byte a.bytes k) where
  row_same : (m : ℕ) → m < capacity → row_of d m ≡ row_of a m
  unfolding row_of
  row_same m h =
      rw (bytes (owner_at m) (omega arith) (omega arith), bytes (kind_at m) (omega arith) (omega arith), bytes (from_at m) (omega arith) (omega arith), bytes (into_at m) (omega arith) (omega arith), amounts)

  table_same : table_of d ≡ table_of a
  unfolding table_of
  table_same = rw (counts, tabulate_ext capacity (row_of d) (row_of a) row_same)

module _ (a : Arrays) (p : ℕ) (hp : p < sites) (r : Laid) (after : Record) (so : Redelivered p a r after) where
  abbrev d : Arrays
  d = relaid a r

  part : (i n : ℕ) → i + n ≤ record_at 0 0 → words_from r.bytes i n ≡ words_from a.bytes i n
  part i n h = part_ext r.bytes a.bytes i n (λ k u v. so.bytes k (omega arith))

  pub delivered_site : site_of d p ≡ site_delivered (site_of a p) after
  unfolding site_of
  delivered_site =
      rw (
        so.slots (seen_of p) (λ e. absurd (omega arith)),
        so.slots (held_of p) (λ e. absurd (omega arith)),
        so.slots (stepped_of p) (λ e. absurd (omega arith)),
        so.slots (finished_of p) (λ e. absurd (omega arith)),
        so.slots (got_of p) (λ e. absurd (omega arith)),
        part (heard_at p 0) capacity (omega arith),
        part (good_at p 0) capacity (omega arith),
        so.counts (place_at p) (λ e. absurd (omega arith)),
        so.own,
      )

  other_site : (q : ℕ) → q < sites → q ≢ p → site_of d q ≡ site_of a q
  unfolding site_of
  other_site q h n =
      rw (
        so.slots (seen_of q) (λ e. absurd (omega arith)),
        so.slots (held_of q) (λ e. absurd (omega arith)),
        so.slots (stepped_of q) (λ e. absurd (omega arith)),
        so.slots (finished_of q) (λ e. absurd (omega arith)),
        so.slots (got_of q) (λ e. absurd (omega arith)),
        part (heard_at q 0) capacity (omega arith),
        part (good_at q 0) capacity (omega arith),
        so.counts (place_at q) (λ e. absurd (omega arith)),
        so.others q h n,
      )

  pub delivered_tally : (m : ℕ) → m < capacity → tally_of d m ≡ tally_of a m
  unfolding tally_of
  delivered_tally m h =
      rw (so.bytes (tallied_at m) (omega arith), so.bytes (has_at m) (omega arith), so.slots (union_of m) (λ e. absurd (omega arith)))

  pub delivered_down : byte d.bytes down_at ≡ byte a.bytes down_at
  delivered_down = so.bytes down_at (omega arith)

  -- what is the site's and posting m's
  pub delivered_own : (m : ℕ) → m < capacity → local_of d p m ≡ local_site (local_of a p m) (site_delivered (site_of a p) after)
  delivered_own m h =
      rw (
        delivered_site,
        delivered_tally m h,
        so.slots (entry_of m) (λ e. absurd (omega arith)),
        so.slots pool_slot (λ e. absurd (omega arith)),
        delivered_down,
      )

  delivered_table : table_of d ≡ table_of a
  delivered_table = table_same a d refl (so.counts count_at (λ e. absurd (omega arith))) (λ k g h. so.bytes k (omega arith))

  delivered_log : log_of d ≡ log_of a
  unfolding log_of
  delivered_log = rw (so.counts logged_at (λ e. absurd (omega arith)), part (log_at 0) capacity (omega arith))

  pub delivered_elsewhere : (m : ℕ) → Elsewhere p m a d
  delivered_elsewhere m =
      record {
        other_sites = other_site;
        other_tallies = λ q h n. delivered_tally q h;
        other_entries = λ q h n. so.slots (entry_of q) (λ e. absurd (omega arith));
        same_table = delivered_table;
        same_log = delivered_log;
        same_index = λ line kind u v. so.slots (kind_of line kind) (λ e. absurd (omega arith));
        other_have = λ q h n. so.slots (have_of q) (λ e. n (omega arith));
      }

-- ---- one posting

module _ (a : Arrays) (ok : Right a) (p : ℕ) (hp : p < sites) where
  redelivered_refl : Redelivered p a (laid_of a) (record_in a p)
  redelivered_refl =
      record { own = refl; others = λ q h n. refl; slots = λ slot n. refl; counts = λ k n. refl; bytes = λ k h. refl; right = ok }

  module _ (m : ℕ) (hm : m < capacity) where
    abbrev count : ℕ
    count = get_or a.counts (delivered_at p) 0

    -- a number more
    abbrev next : Laid
    next = laid (adding a.sets (have_of p) m) (set a.counts (delivered_at p) (count + 1)) (set a.bytes (record_at p count) m)

    abbrev grown : Record
    grown = record { count = count + 1; numbers = set (words_from a.bytes (record_at p 0) capacity) count m }

    module _ (room : count < capacity) where
      next_slot : (slot : ℕ) → slot ≢ have_of p → slot_set next.sets slot ≡ slot_set a.sets slot
      next_slot slot n = slot_added_other a.sets (have_of p) m hm slot (λ e. n (sym e))

      next_count : (k : ℕ) → k ≢ delivered_at p → get_or next.counts k 0 ≡ get_or a.counts k 0
      next_count k n = get_or-set_other a.counts (delivered_at p) k (count + 1) 0 n

      next_byte : (k : ℕ) → k < record_at 0 0 → byte next.bytes k ≡ byte a.bytes k
      next_byte k h = get_or-set_other a.bytes (record_at p count) k m 0 (omega arith)

      next_own : record_in (relaid a next) p ≡ grown
      unfolding record_in
      next_own =
          rw (
            get_or-set_same a.counts (delivered_at p) (count + 1) 0 (omega (arith, ok.counts_have_length)),
            at,
            part_set a.bytes (record_at p 0) capacity count m room (omega (arith, ok.bytes_have_length)),
          )
        where
          at : record_at p count ≡ record_at p 0 + count
          at = omega arith

      apart : (q : ℕ) → q ≢ p → Dec (q < p) → (record_at p count < record_at q 0) ⊎ (record_at q 0 + capacity ≤ record_at p count)
      apart q n (yes h) = inr (omega arith)
      apart q n (no h) = inl (omega arith)

      next_other : (q : ℕ) → q < sites → q ≢ p → record_in (relaid a next) q ≡ record_in a q
      unfolding record_in
      next_other q h n =
          rw (
            next_count (delivered_at q) (λ e. n (omega arith)),
            part_other a.bytes (record_at q 0) capacity (record_at p count) m (apart q n (dec_lt q p)),
          )

      -- what each record has
      next_have_own : (x : ℕ) → x < capacity → has_in next.sets (have_of p) x ≡ contains (record_in (relaid a next) p) x
      unfolding record_in
      next_have_own x h =
          has_slot next.sets (have_of p) x h
          ∙ ap (λ (s : Set). has s x) (slot_added a.sets (have_of p) m hm (omega arith) ok.sets_have_length)
          ∙ member_insert (slot_set a.sets (have_of p)).words m x (omega (arith, slot_long a.sets (have_of p)))
          ∙ ap (λ (y : Bool). y || eqb x m) (sym (has_slot a.sets (have_of p) x h) ∙ ok.have p x hp h)
          ∙ sym (contains_append (record_in a p) m room hm (length_words_from a.bytes (record_at p 0) capacity) x)
          ∙ ap (λ (r : Record). contains r x) (append_room (record_in a p) m room hm ∙ sym next_own)

      next_have : (q x : ℕ) → q < sites → x < capacity → has_in next.sets (have_of q) x ≡ contains (record_in (relaid a next) q) x
      next_have q x hq h = elim (ℕ_discrete q p) [
        | yes e ↦ rw e (next_have_own x h)
        | no n ↦
            has_slot next.sets (have_of q) x h
            ∙ ap (λ (s : Set). has s x) (next_slot (have_of q) (λ e. n (omega arith)))
            ∙ sym (has_slot a.sets (have_of q) x h)
            ∙ ok.have q x hq h
            ∙ ap (λ (r : Record). contains r x) (sym (next_other q hq n))
      ]

      next_table : table_of (relaid a next) ≡ table_of a
      next_table =
          table_same a (relaid a next) refl (next_count count_at (λ e. absurd (omega arith))) (λ k g h. next_byte k (omega arith))

      next_right : Right (relaid a next)
      next_right =
          record {
            sets_have_length = long_added a.sets (have_of p) m ∙ ok.sets_have_length;
            counts_have_length = length-set a.counts _ _ ∙ ok.counts_have_length;
            bytes_have_length = length-set a.bytes _ _ ∙ ok.bytes_have_length;
            amounts_long = ok.amounts_long;
            masks_long = ok.masks_long;
            indexed =
                indexed_same ok.indexed (λ line kind u v. next_slot (kind_of line kind) (λ e. absurd (omega arith))) next_table;
            have = next_have;
          }

      next_delivered : Redelivered p a next grown
      next_delivered =
          record { own = next_own; others = next_other; slots = next_slot; counts = next_count; bytes = next_byte; right = next_right }

    -- the three cases of a delivery
    abbrev has_it : Bool
    has_it = has_in a.sets (have_of p) m

    stays : (r : Laid) (after : Record) → r ≡ laid_of a → after ≡ record_in a p → Redelivered p a r after
    stays r after e f = rw (e, f) redelivered_refl

    grows : (r : Laid) (after : Record) → count < capacity → r ≡ next → after ≡ grown → Redelivered p a r after
    grows r after room e f = rw (e, f) (next_delivered room)

    laid_has : has_it ≡ true → delivered (laid_of a) p m ≡ laid_of a
    unfolding delivered
    laid_has t = rw t

    laid_full : has_it ≡ false → ltb count capacity ≡ false → delivered (laid_of a) p m ≡ laid_of a
    unfolding delivered
    laid_full f g = rw (f, g)

    laid_next : has_it ≡ false → ltb count capacity ≡ true → delivered (laid_of a) p m ≡ next
    unfolding delivered
    laid_next f t = rw (f, t)

    record_has : has_it ≡ true → delivering (record_in a p) m ≡ record_in a p
    unfolding delivering
    record_has t = rw (sym (ok.have p m hp hm) ∙ t)

    record_full : has_it ≡ false → ltb count capacity ≡ false → delivering (record_in a p) m ≡ record_in a p
    unfolding delivering record_in
    record_full f g = rw (sym (ok.have p m hp hm) ∙ f, append_full (record_in a p) m (ltb-false count capacity g))

    record_next : has_it ≡ false → ltb count capacity ≡ true → delivering (record_in a p) m ≡ grown
    unfolding delivering record_in
    record_next f t = rw (sym (ok.have p m hp hm) ∙ f, append_room (record_in a p) m (ltb-true count capacity t) hm)

    pub one_delivered : Redelivered p a (delivered (laid_of a) p m) (delivering (record_in a p) m)
    one_delivered = elim (test has_it) [
      | inl t ↦ stays (delivered (laid_of a) p m) (delivering (record_in a p) m) (laid_has t) (record_has t)
      | inr f ↦ elim (test (ltb count capacity)) [
        | inl t ↦
            grows (delivered (laid_of a) p m) (delivering (record_in a p) m) (ltb-true count capacity t) (laid_next f t) (record_next f t)
        | inr g ↦ stays (delivered (laid_of a) p m) (delivering (record_in a p) m) (laid_full f g) (record_full f g)
      ]
    ]

-- ---- a list of postings

redelivered_then :
    (p : ℕ) (a : Arrays) (r s : Laid) (first last : Record) → Redelivered p a r first → Redelivered p (relaid a r) s last → Redelivered p a s last
redelivered_then p a r s first last x y =
    record {
      own = y.own;
      others = λ q h n. y.others q h n ∙ x.others q h n;
      slots = λ slot n. y.slots slot n ∙ x.slots slot n;
      counts = λ k n. y.counts k n ∙ x.counts k n;
      bytes = λ k h. y.bytes k h ∙ x.bytes k h;
      right = y.right;
    }

-- every number is below the capacity
unfoldable pub AllPostings : List ℕ → Type 0
AllPostings [] = Unit {0}
AllPostings (m ∷ l) = (m < capacity) × AllPostings l

pub all_delivered :
    (a : Arrays) → Right a → (p : ℕ) → p < sites → (l : List ℕ) → AllPostings l
    → Redelivered p a (delivered_all (laid_of a) p l) (delivering_all (record_in a p) l)
unfolding delivered_all delivering_all AllPostings
all_delivered a ok p hp [] h = redelivered_refl a ok p hp
all_delivered a ok p hp (m ∷ l) (hm, h) =
    let r = delivered (laid_of a) p m in
    let one = one_delivered a ok p hp m hm in
    redelivered_then p a r (delivered_all r p l) (delivering (record_in a p) m) (delivering_all (delivering (record_in a p) m) l) one
    (rest (relaid a r) (delivered_all r p l) one.own (all_delivered (relaid a r) one.right p hp l h))
  where
    rest : (d : Arrays) (s : Laid) → record_in d p ≡ delivering (record_in a p) m → Redelivered p d s (delivering_all (record_in d p) l)
        → Redelivered p d s (delivering_all (delivering (record_in a p) m) l)
    rest d s e x = rw e at x

-- ---- a log entry

postings_last : (l : List ℕ) (m : ℕ) → AllPostings l → m < capacity → AllPostings (l ++ (m ∷ []))
unfolding AllPostings
postings_last [] m h hm = (hm, tt)
postings_last (x ∷ l) m (hx, h) hm = (hx, postings_last l m h hm)

postings_if : (l : List ℕ) (n : ℕ) (so : Bool) → AllPostings l → n < capacity → AllPostings (l ++ cond so (n ∷ []) [])
postings_if l n true h hn = postings_last l n h hn
postings_if l n false h hn = rw (append-nil l) h

members_postings : (ws : List ℕ) (n : ℕ) → n ≤ capacity → AllPostings (members_below ws n)
unfolding members_below AllPostings
members_postings ws zero h = tt
members_postings ws (suc n) h = postings_if (members_below ws n) n (member ws n) (members_postings ws n (omega arith)) (omega arith)

module _ (a : Arrays) (ok : Right a) (p : ℕ) (hp : p < sites) (m : ℕ) (hm : m < capacity) where
  abbrev carried : Set
  carried = slot_set a.sets (entry_of m)

  entry_postings : AllPostings (members_of carried ++ (m ∷ []))
  unfolding members
  entry_postings =
      postings_last (members_of carried) m
      (members_postings carried.words (64 * length carried.words) (omega (arith, slot_long a.sets (entry_of m)))) hm

  pub entry_delivered : Redelivered p a (delivered_entry (laid_of a) p m) (delivering_entry (record_in a p) carried m)
  unfolding delivered_entry
  entry_delivered = all_delivered a ok p hp (members_of carried ++ (m ∷ [])) entry_postings

-- ---- before a delivery

-- changes that leave the record keep the arrays right
pub changes_right :
    {p m : ℕ} {a d : Arrays} {change : Local → Local} → Right a → Changes p m a d change
    → (change (local_of a p m)).site.delivered ≡ record_in a p → Right d
changes_right {p} {m} {a} {d} r x same =
    right_local r x.elsewhere x.long x.have (sym (site_record d p) ∙ ap (λ (l : Local). l.site.delivered) x.own ∙ same)
