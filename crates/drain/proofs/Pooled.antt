-- The lowest posting of a slot of sets, as a loop over its words finds it: the lowest bit of the first word that is not 0.
-- Rests on Firsts and Searches, on arrays for slots, on delivery for a word's lowest bit. Assumes nothing.
use Prim.Native.Nat.{ℕ, zero, suc, ◌+◌, ◌*◌, ◌-◌, ◌/◌, ◌%◌, ◌^◌, ◌<◌, ◌≤◌}
use mathlib.Core.Path.{◌≡◌, refl, sym, ap, ap₂, ◌∙◌, subst}
use mathlib.Core.Bool.{true, false}
use mathlib.Core.List.{List}
use native.Mathlib.Omega.{arith}
use native.Mathlib.Decide.{ℕ_discrete, dec_lt}
use lib.Dec.{eqb}
use lib.ListN.{get_or}
use lib.Count.{count_trailing_zeros, under, trailing_of_zero}
use Rattle.sets.specs.Masks.{has_bit}
use Rattle.sets.proofs.MaskLaws.{has_bit_half}
use Rattle.sets.specs.Sets.{words, capacity, has}
use Rattle.arrays.specs.Arrays.{slot_set, has_in}
use Rattle.arrays.proofs.Slots.{has_slot}
use Rattle.delivery.proofs.Walk.{low_below}
use Rattle.drain.specs.Firsts.{first_below}
use Rattle.drain.proofs.Searches.{IsFirst, is_first, first_is}

-- ---- the lowest bit of a word

bit_odd : (w : ℕ) → w % 2 ≡ 1 → has_bit w 0 ≡ true
unfolding has_bit
bit_odd w e = let h : w / 1 % 2 ≡ 1 = omega arith in ap (λ (x : ℕ). eqb x 1) h

bit_even : (w : ℕ) → w % 2 ≡ 0 → has_bit w 0 ≡ false
unfolding has_bit
bit_even w e = let h : w / 1 % 2 ≡ 0 = omega arith in ap (λ (x : ℕ). eqb x 1) h

low_set : (d w : ℕ) → 0 < w → w < 2 ^ d → has_bit w (count_trailing_zeros d w) ≡ true
unfolding count_trailing_zeros
low_set zero w a b = absurd (omega arith)
low_set (suc d) w a b = go (w % 2) refl (λ u. low_set d (w / 2) u (omega arith))
  where
    go : (q : ℕ) → w % 2 ≡ q → (0 < w / 2 → has_bit (w / 2) (count_trailing_zeros d (w / 2)) ≡ true) → has_bit w (under q (count_trailing_zeros d (w / 2))) ≡ true
    go zero e h = has_bit_half w (count_trailing_zeros d (w / 2)) ∙ h (omega arith)
    go (suc q) e h = bit_odd w (omega arith)

low_first : (d w j : ℕ) → j < count_trailing_zeros d w → has_bit w j ≡ false
unfolding count_trailing_zeros
low_first zero w j h = absurd (omega arith)
low_first (suc d) w j h = go (w % 2) refl j h (λ i. low_first d (w / 2) i)
  where
    go : (q : ℕ) → w % 2 ≡ q → (j : ℕ) → j < under q (count_trailing_zeros d (w / 2)) → ((i : ℕ) → i < count_trailing_zeros d (w / 2) → has_bit (w / 2) i ≡ false) → has_bit w j ≡ false
    go zero e zero l rest = bit_even w e
    go zero e (suc i) l rest = has_bit_half w i ∙ rest i (omega arith)
    go (suc q) e j l rest = absurd (omega arith)

pub trailing_first : (w : ℕ) → w < 2 ^ 64 → count_trailing_zeros 64 w ≡ first_below (has_bit w) 64
trailing_first w h = first_is (has_bit w) 64 (count_trailing_zeros 64 w) (elim (ℕ_discrete w 0) [
  | yes z ↦
      let e : count_trailing_zeros 64 w ≡ 64 = ap (count_trailing_zeros 64) z ∙ trailing_of_zero 64 in
      record { most = omega (arith, e); passes = λ l. absurd (omega (arith, e, l)); fails = low_first 64 w }
  | no d ↦
      let small : count_trailing_zeros 64 w < 64 = low_below 64 64 w (omega arith) h (omega arith) in
      record { most = omega (arith, small); passes = λ l. low_set 64 w (omega arith) h; fails = low_first 64 w }
])

-- ---- the lowest posting of a slot, word by word

module _ (ws : List ℕ) (slot : ℕ) where
  -- the numbers of word k
  at_word : (k j : ℕ) → k < words → j < 64 → has (slot_set ws slot) (64 * k + j) ≡ has_bit (get_or ws (words * slot + k) 0) j
  unfolding has_in
  at_word k j hk hj =
      let small : 64 * k + j < capacity = omega arith in
      let q : words * slot + (64 * k + j) / 64 ≡ words * slot + k = omega arith in
      let r : (64 * k + j) % 64 ≡ j = omega arith in
      sym (has_slot ws slot (64 * k + j) small) ∙ ap₂ (λ (x y : ℕ). has_bit (get_or ws x 0) y) q r

  -- no number below 64 * k is in the slot
  abbrev pub NoneBefore : ℕ → Type 0
  NoneBefore k = (i : ℕ) → i < 64 * k → has (slot_set ws slot) i ≡ false

  before_also : (k n : ℕ) → n ≤ 64 → k < words → NoneBefore k → ((j : ℕ) → j < n → has_bit (get_or ws (words * slot + k) 0) j ≡ false)
      → (i : ℕ) → i < 64 * k + n → has (slot_set ws slot) i ≡ false
  before_also k n hn hk none miss i h = elim (dec_lt i (64 * k)) [
    | yes l ↦ none i l
    | no l ↦
        let e : 64 * k + (i - 64 * k) ≡ i = omega arith in
        subst (λ (x : ℕ). has (slot_set ws slot) x ≡ false) e (at_word k (i - 64 * k) hk (omega arith) ∙ miss (i - 64 * k) (omega arith))
  ]

  -- the lowest bit of word k, as found
  module _ (k : ℕ) (hk : k < words) (none : NoneBefore k) (low : ℕ) (e : low ≡ first_below (has_bit (get_or ws (words * slot + k) 0)) 64) where
    lowest : IsFirst (has_bit (get_or ws (words * slot + k) 0)) 64 low
    lowest = rw e (is_first (has_bit (get_or ws (words * slot + k) 0)) 64)

    pub word_none : 64 ≤ low → NoneBefore (k + 1)
    word_none past i h = before_also k 64 (omega arith) hk none (λ j l. lowest.fails j (omega arith)) i (omega arith)

    pub word_some : low < 64 → 64 * k + low ≡ first_below (has (slot_set ws slot)) capacity
    word_some small = first_is (has (slot_set ws slot)) capacity (64 * k + low) (record {
      most = omega arith;
      passes = λ h. at_word k low hk small ∙ lowest.passes small;
      fails = before_also k low (omega arith) hk none lowest.fails;
    })

  pub words_none : (k : ℕ) → words ≤ k → NoneBefore k → capacity ≡ first_below (has (slot_set ws slot)) capacity
  words_none k h none = first_is (has (slot_set ws slot)) capacity capacity (record {
    most = omega arith;
    passes = λ l. absurd (omega arith);
    fails = λ i l. none i (omega arith);
  })
