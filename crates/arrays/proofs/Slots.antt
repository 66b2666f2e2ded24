-- Laws of parts of a list and of slots of sets: what a store changes and what it leaves, and one bit where it lies.
-- In order: part_ext, part_other, part_set, get_sets_other, part_sets, sets_self, sets_one; slot_long, slot_zero; insert_long,
-- remove_long; long_stored, slot_other, slot_same; has_slot, adding_is, dropping_is; long_added, slot_added, slot_added_other, has_added,
-- shape_added. Rests on Arrays and on flight's words_from. Assumes nothing.
use Prim.Native.Nat.{ℕ, zero, suc, ◌+◌, ◌*◌, ◌-◌, ◌/◌, ◌%◌, ◌^◌, ◌<◌, ◌≤◌}
use mathlib.Core.Path.{◌≡◌, refl, sym, ap, ap₂, ◌∙◌, subst}
use mathlib.Core.Logic.{◌⊎◌, inl, inr, ◌≢◌}
use mathlib.Core.Bool.{◌&&◌, ◌||◌, or-false}
use mathlib.Core.List.{List, [], ◌∷◌}
use native.Mathlib.Omega.{arith}
use native.Mathlib.Decide.{dec_lt, ℕ_discrete}
use lib.Dec.{eqb}
use lib.ListN.{length, get_or, set, replicate, length-set}
use lib.Seq.{sets, get_or-set_same, get_or-set_other, set-get_or, length-sets}
use lib.Bits.{bit_or, bit_and}
use borrow.Author.Tests.{eq-eqb, ne_eqb}
use Rattle.sets.specs.declared.Set.{Set}
use Rattle.sets.specs.Masks.{has_bit}
use Rattle.sets.specs.Words.{member, insert, remove}
use Rattle.sets.proofs.WordLaws.{member_insert, insert_shape}
use Rattle.sets.specs.Sets.{words, capacity, of_words, empty_set, has, with, without, Shape}
use Rattle.flight.specs.Flights.{words_from}
use Rattle.flight.proofs.ArrayLaws.{zero_at}
use Rattle.flight.proofs.CarriedLaws.{word_from, length_words_from}
use Rattle.arrays.specs.Layout.{slots, sets_long}
use Rattle.arrays.specs.Arrays.{slot_set, storing, word_at, has_in, adding, dropping}

-- ---- parts of a list of numbers

pub part_ext : (l r : List ℕ) (i n : ℕ) → ((k : ℕ) → i ≤ k → k < i + n → get_or l k 0 ≡ get_or r k 0) → words_from l i n ≡ words_from r i n
unfolding words_from
part_ext l r i zero h = refl
part_ext l r i (suc n) h =
    ap₂ (λ (w : ℕ) (ws : List ℕ). w ∷ ws) (h i (omega arith) (omega arith)) (part_ext l r (suc i) n (λ k u v. h k (omega arith) (omega arith)))

pub part_other : (l : List ℕ) (i n k v : ℕ) → (k < i) ⊎ (i + n ≤ k) → words_from (set l k v) i n ≡ words_from l i n
part_other l i n k v (inl h) = part_ext (set l k v) l i n (λ q a b. get_or-set_other l k q v 0 (omega arith))
part_other l i n k v (inr h) = part_ext (set l k v) l i n (λ q a b. get_or-set_other l k q v 0 (omega arith))

pub part_set : (l : List ℕ) (i n j v : ℕ) → j < n → i + j < length l → words_from (set l (i + j) v) i n ≡ set (words_from l i n) j v
unfolding words_from
part_set l i zero j v b h = absurd (omega arith)
part_set l i (suc n) zero v b h =
    let e : i + 0 ≡ i = omega arith in
    subst (λ (k : ℕ). words_from (set l k v) i (suc n) ≡ set (words_from l i (suc n)) 0 v) (sym e)
    (ap₂ (λ (w : ℕ) (ws : List ℕ). w ∷ ws) (get_or-set_same l i v 0 (omega arith)) (part_other l (suc i) n i v (inl (omega arith))))
part_set l i (suc n) (suc j) v b h =
    let e : i + suc j ≡ suc i + j = omega arith in
    subst (λ (k : ℕ). words_from (set l k v) i (suc n) ≡ set (words_from l i (suc n)) (suc j) v) (sym e)
    (ap₂ (λ (w : ℕ) (ws : List ℕ). w ∷ ws) (get_or-set_other l (suc i + j) i v 0 (omega arith))
    (part_set l (suc i) n j v (omega arith) (omega arith)))

-- ---- several stores from place i on

pub get_sets_other : (vs l : List ℕ) (i k : ℕ) → (k < i) ⊎ (i + length vs ≤ k) → get_or (sets l i vs) k 0 ≡ get_or l k 0
get_sets_other [] l i k h = refl
get_sets_other (v ∷ vs) l i k (inl h) =
    get_sets_other vs (set l i v) (suc i) k (inl (omega arith)) ∙ get_or-set_other l i k v 0 (omega arith)
get_sets_other (v ∷ vs) l i k (inr h) =
    get_sets_other vs (set l i v) (suc i) k (inr (omega arith)) ∙ get_or-set_other l i k v 0 (omega arith)

pub part_sets : (vs l : List ℕ) (i : ℕ) → i + length vs ≤ length l → words_from (sets l i vs) i (length vs) ≡ vs
unfolding words_from
part_sets [] l i h = refl
part_sets (v ∷ vs) l i h =
    ap₂ (λ (w : ℕ) (ws : List ℕ). w ∷ ws)
    (get_sets_other vs (set l i v) (suc i) i (inl (omega arith)) ∙ get_or-set_same l i v 0 (omega arith))
    (part_sets vs (set l i v) (suc i) (omega (arith, length-set l i v)))

-- what stands there, stored there
pub sets_self : (l : List ℕ) (i n : ℕ) → sets l i (words_from l i n) ≡ l
unfolding words_from
sets_self l i zero = refl
sets_self l i (suc n) = ap (λ (r : List ℕ). sets r (suc i) (words_from l (suc i) n)) (set-get_or l i 0) ∙ sets_self l (suc i) n

-- the same with one place changed
pub sets_one : (l : List ℕ) (i n j v : ℕ) → j < n → sets l i (set (words_from l i n) j v) ≡ set l (i + j) v
unfolding words_from
sets_one l i zero j v h = absurd (omega arith)
sets_one l i (suc n) zero v h =
    let e : i + 0 ≡ i = omega arith in
    ap (λ (w : List ℕ). sets (set l i v) (suc i) w) (sym (part_other l (suc i) n i v (inl (omega arith))))
    ∙ sets_self (set l i v) (suc i) n
    ∙ ap (λ (k : ℕ). set l k v) (sym e)
sets_one l i (suc n) (suc j) v h =
    let e : suc i + j ≡ i + suc j = omega arith in
    ap (λ (r : List ℕ). sets r (suc i) (set (words_from l (suc i) n) j v)) (set-get_or l i 0)
    ∙ sets_one l (suc i) n j v (omega arith)
    ∙ ap (λ (k : ℕ). set l k v) e

-- ---- the shape of what is read

pub slot_long : (ws : List ℕ) (slot : ℕ) → length (slot_set ws slot).words ≡ words
unfolding slot_set
slot_long ws slot = length_words_from ws (words * slot) words

-- where all words are 0
pub slot_zero : (n slot : ℕ) → slot_set (replicate n 0) slot ≡ empty_set
unfolding slot_set words_from
slot_zero n slot = ap of_words (zeros (words * slot) words)
  where
    zeros : (i k : ℕ) → words_from (replicate n 0) i k ≡ replicate k 0
    zeros i zero = refl
    zeros i (suc k) = ap₂ (λ (w : ℕ) (ws : List ℕ). w ∷ ws) (zero_at n i) (zeros (suc i) k)

pub insert_long : (ws : List ℕ) (m : ℕ) → length (insert ws m) ≡ length ws
unfolding insert
insert_long ws m = length-set ws (m / 64) _

pub remove_long : (ws : List ℕ) (m : ℕ) → length (remove ws m) ≡ length ws
unfolding remove
remove_long ws m = length-set ws (m / 64) _

-- ---- a set stored

module _ (ws : List ℕ) (slot : ℕ) (s : Set) where
  pub long_stored : length (storing ws slot s) ≡ length ws
  unfolding storing
  long_stored = length-sets ws (words * slot) s.words

  module _ (size : length s.words ≡ words) where
    apart : (other k : ℕ) → slot ≢ other → words * other ≤ k → k < words * other + words → Dec (k < words * slot)
        → (k < words * slot) ⊎ (words * slot + length s.words ≤ k)
    apart other k d a b (yes h) = inl h
    apart other k d a b (no h) = inr (omega arith)

    pub slot_other : (other : ℕ) → slot ≢ other → slot_set (storing ws slot s) other ≡ slot_set ws other
    unfolding slot_set storing
    slot_other other d =
        ap of_words
        (part_ext (sets ws (words * slot) s.words) ws (words * other) words
        (λ k a b. get_sets_other s.words ws (words * slot) k (apart other k d a b (dec_lt k (words * slot)))))

    pub slot_same : slot < slots → length ws ≡ sets_long → slot_set (storing ws slot s) slot ≡ s
    unfolding slot_set storing
    slot_same h l =
        ap (λ (n : ℕ). of_words (words_from (sets ws (words * slot) s.words) (words * slot) n)) (sym size)
        ∙ ap of_words (part_sets s.words ws (words * slot) (omega arith))

-- ---- one bit where it lies

pub has_slot : (ws : List ℕ) (slot x : ℕ) → x < capacity → has_in ws slot x ≡ has (slot_set ws slot) x
unfolding has_in member slot_set
has_slot ws slot x h = ap (λ (w : ℕ). has_bit w (x % 64)) (sym (word_from ws (words * slot) words (x / 64) (omega arith)))

module _ (ws : List ℕ) (slot m : ℕ) where
  pub adding_is : m < capacity → adding ws slot m ≡ storing ws slot (with (slot_set ws slot) m)
  unfolding adding storing slot_set insert
  adding_is h =
      ap (λ (w : ℕ). set ws (word_at slot m) (bit_or w (2 ^ (m % 64)))) (sym (word_from ws (words * slot) words (m / 64) (omega arith)))
      ∙ sym (sets_one ws (words * slot) words (m / 64) _ (omega arith))

  pub dropping_is : m < capacity → dropping ws slot m ≡ storing ws slot (without (slot_set ws slot) m)
  unfolding dropping storing slot_set remove
  dropping_is h =
      ap (λ (w : ℕ). set ws (word_at slot m) (bit_and w ((2 ^ 64 - 1) - 2 ^ (m % 64))))
      (sym (word_from ws (words * slot) words (m / 64) (omega arith)))
      ∙ sym (sets_one ws (words * slot) words (m / 64) _ (omega arith))

  pub long_added : length (adding ws slot m) ≡ length ws
  unfolding adding
  long_added = length-set ws (word_at slot m) _

  size_with : length (insert (slot_set ws slot).words m) ≡ words
  size_with = insert_long (slot_set ws slot).words m ∙ slot_long ws slot

  module _ (h : m < capacity) where
    pub slot_added : slot < slots → length ws ≡ sets_long → slot_set (adding ws slot m) slot ≡ with (slot_set ws slot) m
    slot_added b l =
        ap (λ (r : List ℕ). slot_set r slot) (adding_is h) ∙ slot_same ws slot (with (slot_set ws slot) m) size_with b l

    pub slot_added_other : (other : ℕ) → slot ≢ other → slot_set (adding ws slot m) other ≡ slot_set ws other
    slot_added_other other d =
        ap (λ (r : List ℕ). slot_set r other) (adding_is h) ∙ slot_other ws slot (with (slot_set ws slot) m) size_with other d

    -- what is in a slot, of any sort, once m joined one
    module _ (b : slot < slots) (l : length ws ≡ sets_long) (other : ℕ) where
      pub has_added : (x : ℕ) → has (slot_set (adding ws slot m) other) x ≡ (has (slot_set ws other) x || (eqb slot other && eqb x m))
      has_added x = elim (ℕ_discrete slot other) [
        | yes e ↦
            rw (eq-eqb slot other e, ← e, slot_added b l)
            (member_insert (slot_set ws slot).words m x (omega (arith, slot_long ws slot)))
        | no d ↦ rw (ne_eqb slot other d, slot_added_other other d) (sym (or-false (has (slot_set ws other) x)))
      ]

      pub shape_added : Shape (slot_set ws other) → Shape (slot_set (adding ws slot m) other)
      shape_added s = elim (ℕ_discrete slot other) [
        | yes e ↦ rw (← e, slot_added b l) (insert_shape (slot_set ws slot).words m (rw e s))
        | no d ↦ rw (slot_added_other other d) s
      ]
