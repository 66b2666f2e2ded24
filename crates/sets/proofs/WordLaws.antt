-- Laws of sets as lists of words: what is a member of each, what subset and empty say, the shape kept, and sets with the same members equal.
-- Rests on Words and MaskLaws; each law holds for any number of words. Assumes nothing.
use Prim.Native.Nat.{ℕ, zero, suc, ◌+◌, ◌*◌, ◌-◌, ◌/◌, ◌%◌, ◌^◌, ◌<◌, ◌≤◌, max}
use mathlib.Core.Path.{◌≡◌, refl, sym, ap, ap₂, ◌∙◌}
use mathlib.Core.Logic.{inl, inr, ◌≢◌}
use mathlib.Core.Bool.{Bool, true, false, cond, ◌&&◌, ◌||◌, not, or-false, and-false, and-true}
use mathlib.Core.List.{List, [], ◌∷◌, append-nil}
use native.Mathlib.Omega.{arith}
use native.Mathlib.Decide.{ℕ_discrete, dec_lt}
use lib.Dec.{eqb, ltb, lit<}
use lib.ListN.{length, set, replicate, length-set, length-replicate, get_or-replicate, get_or-eq_default}
use lib.Seq.{get_or-set_same, get_or-set_other, set_out, ext_get_or}
use lib.Bits.{bit_or, bit_and, or_lt, and_lt, and_le_l, and_zero_l, and_zero_r}
use lib.Pow.{pow-lt}
use borrow.Author.Tests.{eq-eqb, ne_eqb, eqb-true, lt-ltb, le-ltb, ltb-true}
use Rattle.sets.specs.Masks.{has_bit}
use Rattle.sets.proofs.MaskLaws.{has_bit_zero, has_bit_or, has_bit_and, has_bit_set, has_bit_clear, bits_ext}
use Rattle.sets.proofs.Truth.{test, never, both_ways, and_left, and_right, and_implied}
use Rattle.sets.specs.Numbers.{listed, rising}
use Rattle.sets.proofs.NumberLaws.{listed_append, rising_last}
use Rattle.sets.specs.Words.{word, member, insert, remove, insert_if, wordwise, union, intersect, is_empty, is_subset, collect, members_below, members, Words}

-- ---- words

module _ (f : ℕ → ℕ → ℕ) where
  pub word_wordwise : f 0 0 ≡ 0 → (ws vs : List ℕ) (i : ℕ) → word (wordwise f ws vs) i ≡ f (word ws i) (word vs i)
  unfolding wordwise
  word_wordwise z [] [] i = sym z
  word_wordwise z [] (v ∷ vs) zero = refl
  word_wordwise z [] (v ∷ vs) (suc i) = word_wordwise z [] vs i
  word_wordwise z (w ∷ ws) [] zero = refl
  word_wordwise z (w ∷ ws) [] (suc i) = word_wordwise z ws [] i
  word_wordwise z (w ∷ ws) (v ∷ vs) zero = refl
  word_wordwise z (w ∷ ws) (v ∷ vs) (suc i) = word_wordwise z ws vs i

  pub length_wordwise : (ws vs : List ℕ) → length (wordwise f ws vs) ≡ max (length ws) (length vs)
  unfolding wordwise
  length_wordwise [] [] = refl
  length_wordwise [] (v ∷ vs) = omega (arith, length_wordwise [] vs)
  length_wordwise (w ∷ ws) [] = omega (arith, length_wordwise ws [])
  length_wordwise (w ∷ ws) (v ∷ vs) = omega (arith, length_wordwise ws vs)

-- ---- members

-- number 64 i + k is bit k of word i
pub member_at : (ws : List ℕ) (i k : ℕ) → k < 64 → member ws (64 * i + k) ≡ has_bit (word ws i) k
unfolding member
member_at ws i k h =
    let q : (64 * i + k) / 64 ≡ i = omega arith in
    let r : (64 * i + k) % 64 ≡ k = omega arith in
    rw (q, r)

pub member_past : (ws : List ℕ) (x : ℕ) → 64 * length ws ≤ x → member ws x ≡ false
unfolding member
member_past ws x h =
    let l : length ws ≤ x / 64 = omega arith in
    ap (λ (w : ℕ). has_bit w (x % 64)) (get_or-eq_default ws 0 l) ∙ has_bit_zero (x % 64)

pub member_below : (ws : List ℕ) (x : ℕ) → member ws x ≡ true → x < 64 * length ws
member_below ws x t = elim (dec_lt x (64 * length ws)) [
  | yes h ↦ h
  | no h ↦ absurd (never t (member_past ws x (omega arith)))
]

pub member_empty : (k x : ℕ) → member (replicate k 0) x ≡ false
unfolding member
member_empty k x = ap (λ (w : ℕ). has_bit w (x % 64)) (zeros k (x / 64)) ∙ has_bit_zero (x % 64)
  where
    zeros : (n i : ℕ) → word (replicate n 0) i ≡ 0
    zeros zero i = refl
    zeros (suc n) zero = refl
    zeros (suc n) (suc i) = zeros n i

pub member_union : (ws vs : List ℕ) (x : ℕ) → member (union ws vs) x ≡ (member ws x || member vs x)
unfolding member union
member_union ws vs x =
    ap (λ (w : ℕ). has_bit w (x % 64)) (word_wordwise bit_or refl ws vs (x / 64))
    ∙ has_bit_or (word ws (x / 64)) (word vs (x / 64)) (x % 64)

pub member_intersect : (ws vs : List ℕ) (x : ℕ) → member (intersect ws vs) x ≡ (member ws x && member vs x)
unfolding member intersect
member_intersect ws vs x =
    ap (λ (w : ℕ). has_bit w (x % 64)) (word_wordwise bit_and refl ws vs (x / 64))
    ∙ has_bit_and (word ws (x / 64)) (word vs (x / 64)) (x % 64)

pub insert_past : (ws : List ℕ) (m : ℕ) → 64 * length ws ≤ m → insert ws m ≡ ws
unfolding insert
insert_past ws m h = let l : length ws ≤ m / 64 = omega arith in set_out ws (m / 64) _ l

-- numbers of one word are equal if their bits are
same_bit : (x m : ℕ) → x / 64 ≡ m / 64 → eqb (x % 64) (m % 64) ≡ eqb x m
same_bit x m q = elim (ℕ_discrete x m) [
  | yes e ↦ rw e (eq-eqb (m % 64) (m % 64) refl ∙ sym (eq-eqb m m refl))
  | no d ↦ ne_eqb (x % 64) (m % 64) (omega arith) ∙ sym (ne_eqb x m d)
]

pub member_insert : (ws : List ℕ) (m x : ℕ) → m < 64 * length ws → member (insert ws m) x ≡ (member ws x || eqb x m)
unfolding member insert
member_insert ws m x h = elim (ℕ_discrete (x / 64) (m / 64)) [
  | yes q ↦
      let i : m / 64 < length ws = omega arith in
      rw (q, get_or-set_same ws (m / 64) new 0 i)
      (has_bit_set (word ws (m / 64)) (m % 64) (x % 64)
      ∙ ap (λ (b : Bool). has_bit (word ws (m / 64)) (x % 64) || b) (same_bit x m q))
  | no d ↦
      let n : x ≡ m → ⊥ = omega arith in
      rw (get_or-set_other ws (m / 64) (x / 64) new 0 d, ne_eqb x m n) (sym (or-false (has_bit (word ws (x / 64)) (x % 64))))
]
  where
    new : ℕ
    new = bit_or (word ws (m / 64)) (2 ^ (m % 64))

pub remove_past : (ws : List ℕ) (m : ℕ) → 64 * length ws ≤ m → remove ws m ≡ ws
unfolding remove
remove_past ws m h = let l : length ws ≤ m / 64 = omega arith in set_out ws (m / 64) _ l

pub member_remove : (ws : List ℕ) (m x : ℕ) → member (remove ws m) x ≡ (member ws x && not (eqb x m))
member_remove ws m x = elim (dec_lt m (64 * length ws)) [
  | yes h ↦ at h
  | no h ↦ let l : 64 * length ws ≤ m = omega arith in ap (λ (vs : List ℕ). member vs x) (remove_past ws m l) ∙ sym (past l)
]
  where
    past : 64 * length ws ≤ m → (member ws x && not (eqb x m)) ≡ member ws x
    past l = and_implied (member ws x) (not (eqb x m)) (λ t. ap not (ne_eqb x m (λ e. never t (member_past ws x (omega arith)))))

    new : ℕ
    new = bit_and (word ws (m / 64)) ((2 ^ 64 - 1) - 2 ^ (m % 64))

    at : m < 64 * length ws → member (remove ws m) x ≡ (member ws x && not (eqb x m))
    at h = unfold member remove in elim (ℕ_discrete (x / 64) (m / 64)) [
      | yes q ↦
          let i : m / 64 < length ws = omega arith in
          rw (q, get_or-set_same ws (m / 64) new 0 i)
          (has_bit_clear 64 (word ws (m / 64)) (m % 64) (x % 64) (omega arith) (omega arith)
          ∙ ap (λ (b : Bool). has_bit (word ws (m / 64)) (x % 64) && not b) (same_bit x m q))
      | no d ↦
          let n : x ≡ m → ⊥ = omega arith in
          rw (get_or-set_other ws (m / 64) (x / 64) new 0 d, ne_eqb x m n) (sym (and-true (has_bit (word ws (x / 64)) (x % 64))))
    ]

-- ---- subset and empty

pub subset_words : (ws vs : List ℕ) → is_subset ws vs ≡ true → (i : ℕ) → bit_and (word ws i) (word vs i) ≡ word ws i
unfolding is_subset
subset_words [] vs t i = and_zero_l (word vs i)
subset_words (w ∷ ws) [] t zero = let e : w ≡ 0 = eqb-true w 0 (and_left (eqb w 0) (is_subset ws []) t) in rw e
subset_words (w ∷ ws) [] t (suc i) = subset_words ws [] (and_right (eqb w 0) (is_subset ws []) t) i
subset_words (w ∷ ws) (v ∷ vs) t zero = eqb-true (bit_and w v) w (and_left (eqb (bit_and w v) w) (is_subset ws vs) t)
subset_words (w ∷ ws) (v ∷ vs) t (suc i) = subset_words ws vs (and_right (eqb (bit_and w v) w) (is_subset ws vs) t) i

pub words_subset : (ws vs : List ℕ) → ((i : ℕ) → i < length ws → bit_and (word ws i) (word vs i) ≡ word ws i) → is_subset ws vs ≡ true
unfolding is_subset
words_subset [] vs h = refl
words_subset (w ∷ ws) [] h =
    rw (eq-eqb w 0 (sym (h 0 (omega arith)) ∙ and_zero_r w)) (words_subset ws [] (λ i l. h (suc i) (omega arith)))
words_subset (w ∷ ws) (v ∷ vs) h =
    rw (eq-eqb (bit_and w v) w (h 0 (omega arith))) (words_subset ws vs (λ i l. h (suc i) (omega arith)))

pub subset_member : (ws vs : List ℕ) → is_subset ws vs ≡ true → (x : ℕ) → member ws x ≡ true → member vs x ≡ true
unfolding member
subset_member ws vs t x b =
    and_right (has_bit (word ws (x / 64)) (x % 64)) (has_bit (word vs (x / 64)) (x % 64))
    (sym (has_bit_and (word ws (x / 64)) (word vs (x / 64)) (x % 64))
    ∙ ap (λ (w : ℕ). has_bit w (x % 64)) (subset_words ws vs t (x / 64))
    ∙ b)

pub member_subset : {k : ℕ} (ws vs : List ℕ) → Words k ws → ((x : ℕ) → member ws x ≡ true → member vs x ≡ true) → is_subset ws vs ≡ true
member_subset {k} ws vs s h = words_subset ws vs (λ i l. each i (omega (arith, s.long)))
  where
    each : (i : ℕ) → i < k → bit_and (word ws i) (word vs i) ≡ word ws i
    each i l =
        bits_ext 64 (bit_and (word ws i) (word vs i)) (word ws i) (omega (arith, and_le_l (word ws i) (word vs i), s.small i l)) (s.small i l)
        (λ j b. has_bit_and (word ws i) (word vs i) j
        ∙ and_implied (has_bit (word ws i) j) (has_bit (word vs i) j)
        (λ t. sym (member_at vs i j b) ∙ h (64 * i + j) (member_at ws i j b ∙ t)))

pub empty_words : (ws : List ℕ) → is_empty ws ≡ true → (i : ℕ) → word ws i ≡ 0
unfolding is_empty
empty_words [] t i = refl
empty_words (w ∷ ws) t zero = eqb-true w 0 (and_left (eqb w 0) (is_empty ws) t)
empty_words (w ∷ ws) t (suc i) = empty_words ws (and_right (eqb w 0) (is_empty ws) t) i

pub words_empty : (ws : List ℕ) → ((i : ℕ) → i < length ws → word ws i ≡ 0) → is_empty ws ≡ true
unfolding is_empty
words_empty [] h = refl
words_empty (w ∷ ws) h = rw (eq-eqb w 0 (h 0 (omega arith))) (words_empty ws (λ i l. h (suc i) (omega arith)))

pub empty_member : (ws : List ℕ) → is_empty ws ≡ true → (x : ℕ) → member ws x ≡ false
unfolding member
empty_member ws t x = ap (λ (w : ℕ). has_bit w (x % 64)) (empty_words ws t (x / 64)) ∙ has_bit_zero (x % 64)

pub member_none : {k : ℕ} (ws : List ℕ) → Words k ws → ((x : ℕ) → member ws x ≡ false) → is_empty ws ≡ true
member_none {k} ws s h = words_empty ws (λ i l. each i (omega (arith, s.long)))
  where
    each : (i : ℕ) → i < k → word ws i ≡ 0
    each i l =
        bits_ext 64 (word ws i) 0 (s.small i l) (lit< tt)
        (λ j b. sym (member_at ws i j b) ∙ h (64 * i + j) ∙ sym (has_bit_zero j))

-- ---- shape

pub empty_shape : (k : ℕ) → Words k (replicate k 0)
empty_shape k = record { long = length-replicate {A = ℕ} k 0; small = λ i h. rw (get_or-replicate {A = ℕ} k i 0 0 h) (lit< tt) }

-- one word anew
pub set_shape : {k : ℕ} (ws : List ℕ) (j new : ℕ) → Words k ws → new < 2 ^ 64 → Words k (set ws j new)
set_shape {k} ws j new s n = record { long = length-set ws j new ∙ s.long; small = λ i h. each i h (ℕ_discrete i j) }
  where
    each : (i : ℕ) → i < k → Dec (i ≡ j) → word (set ws j new) i < 2 ^ 64
    each i h (yes e) = let l : j < length ws = omega (arith, s.long) in rw (e, get_or-set_same ws j new 0 l) n
    each i h (no d) = rw (get_or-set_other ws j i new 0 d) (s.small i h)

-- a word of the set, or 0 past its end
pub word_small : {k : ℕ} (ws : List ℕ) (i : ℕ) → Words k ws → word ws i < 2 ^ 64
word_small {k} ws i s = elim (dec_lt i k) [
  | yes h ↦ s.small i h
  | no h ↦ let l : length ws ≤ i = omega (arith, s.long) in rw (get_or-eq_default ws 0 l) (lit< tt)
]

pub insert_shape : {k : ℕ} (ws : List ℕ) (m : ℕ) → Words k ws → Words k (insert ws m)
unfolding insert
insert_shape ws m s =
    set_shape ws (m / 64) _ s
    (or_lt 64 (word ws (m / 64)) (2 ^ (m % 64)) (word_small ws (m / 64) s) (pow-lt {j = 64} (omega arith)))

pub remove_shape : {k : ℕ} (ws : List ℕ) (m : ℕ) → Words k ws → Words k (remove ws m)
unfolding remove
remove_shape ws m s =
    let l : bit_and (word ws (m / 64)) ((2 ^ 64 - 1) - 2 ^ (m % 64)) < 2 ^ 64
    = omega (arith, and_le_l (word ws (m / 64)) ((2 ^ 64 - 1) - 2 ^ (m % 64)), word_small ws (m / 64) s) in
    set_shape ws (m / 64) _ s l

pub collect_shape : (k : ℕ) (p : ℕ → Bool) (n : ℕ) → Words k (collect k p n)
unfolding collect insert_if
collect_shape k p zero = empty_shape k
collect_shape k p (suc n) = elim (test (p n)) [
  | inl t ↦ rw t (insert_shape (collect k p n) n (collect_shape k p n))
  | inr f ↦ rw f (collect_shape k p n)
]

module _ (f : ℕ → ℕ → ℕ) (z : f 0 0 ≡ 0) (fits : (w v : ℕ) → w < 2 ^ 64 → v < 2 ^ 64 → f w v < 2 ^ 64) where
  pub wordwise_shape : {k : ℕ} (ws vs : List ℕ) → Words k ws → Words k vs → Words k (wordwise f ws vs)
  wordwise_shape ws vs s t =
      record {
        long = omega (arith, length_wordwise f ws vs, s.long, t.long);
        small = λ i h. rw (word_wordwise f z ws vs i) (fits (word ws i) (word vs i) (s.small i h) (t.small i h));
      }

pub union_shape : {k : ℕ} (ws vs : List ℕ) → Words k ws → Words k vs → Words k (union ws vs)
unfolding union
union_shape ws vs s t = wordwise_shape bit_or refl (or_lt 64) ws vs s t

pub intersect_shape : {k : ℕ} (ws vs : List ℕ) → Words k ws → Words k vs → Words k (intersect ws vs)
unfolding intersect
intersect_shape ws vs s t = wordwise_shape bit_and refl (and_lt 64) ws vs s t

-- ---- sets with the same members are equal

pub same_members : {k : ℕ} (ws vs : List ℕ) → Words k ws → Words k vs → ((x : ℕ) → x < 64 * k → member ws x ≡ member vs x) → ws ≡ vs
same_members {k} ws vs s t h = ext_get_or 0 ws vs (s.long ∙ sym t.long) (λ i l. each i (omega (arith, s.long)))
  where
    each : (i : ℕ) → i < k → word ws i ≡ word vs i
    each i l =
        bits_ext 64 (word ws i) (word vs i) (s.small i l) (t.small i l)
        (λ j b. sym (member_at ws i j b) ∙ h (64 * i + j) (omega arith) ∙ member_at vs i j b)

-- ---- the set of what passes a test, and the members as a list

-- the numbers below n + 1 with p are those below n with p, and n if it has p
below_more : (p : ℕ → Bool) (x n : ℕ) → (ltb x n && p x || p n && eqb x n) ≡ (ltb x (suc n) && p x)
below_more p x n = elim (ℕ_discrete x n) [
  | yes e ↦ rw (e, lt-ltb n (suc n) (omega arith), le-ltb n n (omega arith), eq-eqb n n refl) (and-true (p n))
  | no d ↦ rw (other d, ne_eqb x n d, and-false (p n)) (or-false (ltb x (suc n) && p x))
]
  where
    other : x ≢ n → ltb x n ≡ ltb x (suc n)
    other d = both_ways (ltb x n) (ltb x (suc n)) (λ t. lt-ltb x (suc n) (omega (arith, ltb-true x n t))) (λ t. lt-ltb x n (omega (arith, ltb-true x (suc n) t)))

pub member_insert_if : (ws : List ℕ) (m : ℕ) (so : Bool) (x : ℕ) → m < 64 * length ws → member (insert_if ws m so) x ≡ (member ws x || so && eqb x m)
unfolding insert_if
member_insert_if ws m true x h = member_insert ws m x h
member_insert_if ws m false x h = sym (or-false (member ws x))

pub member_collect : (k : ℕ) (p : ℕ → Bool) (n x : ℕ) → n ≤ 64 * k → member (collect k p n) x ≡ (ltb x n && p x)
unfolding collect
member_collect k p zero x h = member_empty k x ∙ rw (le-ltb x 0 (omega arith))
member_collect k p (suc n) x h =
    member_insert_if (collect k p n) n (p n) x (omega (arith, (collect_shape k p n).long))
    ∙ ap (λ (b : Bool). b || p n && eqb x n) (member_collect k p n x (omega arith))
    ∙ below_more p x n

pub listed_below : (ws : List ℕ) (x n : ℕ) → listed x (members_below ws n) ≡ (ltb x n && member ws x)
unfolding members_below listed
listed_below ws x zero = rw (le-ltb x 0 (omega arith))
listed_below ws x (suc n) =
    listed_append x (members_below ws n) (cond (member ws n) (n ∷ []) [])
    ∙ ap₂ (λ (a b : Bool). a || b) (listed_below ws x n) (last (member ws n))
    ∙ below_more (member ws) x n
  where
    last : (b : Bool) → listed x (cond b (n ∷ []) []) ≡ (b && eqb x n)
    last true = or-false (eqb x n)
    last false = refl

-- the members are exactly what is listed
pub listed_members : (ws : List ℕ) (x : ℕ) → listed x (members ws) ≡ member ws x
unfolding members
listed_members ws x = listed_below ws x (64 * length ws) ∙ elim (test (member ws x)) [
  | inl t ↦ rw (lt-ltb x (64 * length ws) (member_below ws x t))
  | inr f ↦ rw f (and-false (ltb x (64 * length ws)))
]

pub members_rise : (ws : List ℕ) → rising (members ws) ≡ true
unfolding members members_below rising
members_rise ws = below (64 * length ws)
  where
    below : (n : ℕ) → rising (members_below ws n) ≡ true
    below zero = refl
    below (suc n) = elim (test (member ws n)) [
      | inl t ↦ rw t (rising_last (members_below ws n) n (below n)
          (λ x b. ltb-true x n (and_left (ltb x n) (member ws x) (sym (listed_below ws x n) ∙ b))))
      | inr f ↦ rw (f, append-nil) (below n)
    ]
