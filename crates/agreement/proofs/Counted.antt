-- The theory's counts and tests, beside the ones of masks and the tests of sets.
-- Rests on site and broadcast. Assumes nothing.
use Prim.Native.Nat.{ℕ, zero, suc, ◌+◌, ◌-◌, ◌*◌, ◌^◌, ◌<◌, ◌≤◌}
use mathlib.Core.Path.{◌≡◌, refl, sym, ap, ◌∙◌}
use mathlib.Core.Logic.{◌⊎◌, inl, inr, ◌≢◌}
use mathlib.Core.Bool.{Bool, true, false, cond, not, ◌&&◌, ◌||◌}
use mathlib.Core.List.{List}
use native.Mathlib.Omega.{arith}
use native.Mathlib.Decide.{ℕ_discrete}
use lib.Dec.{eqb, ltb, leb}
use lib.Bits.{bit_and, and_lt}
use lib.Count.{ones}
use lib.ListN.{length}
use borrow.Author.Tests.{eqb-true, eq-eqb, ne_eqb}
use Rattle.sets.specs.declared.Set.{Set}
use Rattle.sets.specs.Below as below
use Rattle.sets.proofs.Truth.{test, never, not_so, both_ways, and_left, and_right, and_intro, or_cases, or_left, or_right}
use Rattle.sets.specs.Masks.{has_bit}
use Rattle.sets.proofs.MaskLaws.{ones_count, has_bit_and}
use Rattle.sets.specs.Words.{member}
use Rattle.sets.proofs.WordLaws.{member_intersect, member_insert, member_empty, member_below, subset_member, member_subset, intersect_shape, empty_shape}
use Rattle.sets.specs.Sets.{words, capacity, has, with, meet, subset, empty_set, Shape}
use Rattle.posting.specs.declared.Table.{Table}
use Rattle.posting.specs.Conflicts.{offered, conflict, conflict_set}
use Rattle.posting.proofs.ConflictLaws.{offered_below, conflict_set_shape, has_conflict_set, conflict_itself}
use Rattle.site.specs.Steps.{alone}
use Rattle.broadcast.specs.Counts.{bit, count, majority, nowhere}
use Rattle.broadcast.specs.Machine.{World, clear}
use Rattle.broadcast.proofs.Counts.{count_ext, nowhere_none, none_nowhere}

-- ---- counts

one_bit : (b : Bool) → below.one b ≡ bit b
one_bit true = refl
one_bit false = refl

same_count : (p : ℕ → Bool) (n : ℕ) → below.count p n ≡ count p n
unfolding below.count
same_count p zero = refl
same_count p (suc n) = omega (arith, one_bit (p n), same_count p n)

-- the sites that a test holds of, as a mask
pub count_mask : (p : ℕ → Bool) (mask n : ℕ) → mask < 2 ^ n → ((r : ℕ) → r < n → p r ≡ has_bit mask r) → count p n ≡ ones mask
count_mask p mask n lt h = count_ext p (has_bit mask) n h ∙ sym (same_count (has_bit mask) n) ∙ sym (ones_count n mask lt)

-- ---- a set that meets C(m) in m alone

module _ (matrix : ℕ) (t : Table) (seen : Set) (m : ℕ) (shape : Shape seen) (lt : m < capacity) (named : (x : ℕ) → has seen x ≡ true → offered t x ≡ true) where
  abbrev conflicts : Set
  conflicts = conflict_set matrix t m

  in_one : (x : ℕ) → has (with empty_set m) x ≡ eqb x m
  in_one x = member_insert empty_set.words m x (omega (arith, (empty_shape words).long)) ∙ ap (λ (b : Bool). b || eqb x m) (member_empty words x)

  in_both : (x : ℕ) → has (meet seen conflicts) x ≡ (has seen x && has conflicts x)
  in_both x = member_intersect seen.words conflicts.words x

  -- alone: no member of the set conflicts with m
  alone_says : alone seen conflicts m ≡ true → (x : ℕ) → has seen x ≡ true → conflict matrix t m x ≡ false
  unfolding alone
  alone_says h x k = not_so (conflict matrix t m x) (λ c.
      let o = named x k in
      let below = (offered_below t x o).1 in
      let there : has conflicts x ≡ true = has_conflict_set matrix t m x below ∙ or_left (offered t x && conflict matrix t m x) (eqb x m) (and_intro (offered t x) (conflict matrix t m x) o c) in
      let same = eqb-true x m (sym (in_one x) ∙ subset_member (meet seen conflicts).words (with empty_set m).words h x (in_both x ∙ and_intro (has seen x) (has conflicts x) k there)) in
      never (rw same at c) (conflict_itself matrix t m))

  says_alone : ((x : ℕ) → has seen x ≡ true → conflict matrix t m x ≡ false) → alone seen conflicts m ≡ true
  unfolding alone
  says_alone h =
      member_subset (meet seen conflicts).words (with empty_set m).words (intersect_shape seen.words conflicts.words shape (conflict_set_shape matrix t m)) (λ x k.
      let both = sym (in_both x) ∙ k in
      let s = and_left (has seen x) (has conflicts x) both in
      let c = and_right (has seen x) (has conflicts x) both in
      let below = (offered_below t x (named x s)).1 in
      in_one x ∙ elim (or_cases (offered t x && conflict matrix t m x) (eqb x m) (sym (has_conflict_set matrix t m x below) ∙ c)) [
        | inl g ↦ absurd (never (and_right (offered t x) (conflict matrix t m x) g) (h x s))
        | inr g ↦ g
      ])

  -- as the theory tests it
  pub clear_alone : (w : World) (q : ℕ → Bool) → w.bound ≡ capacity → ((x : ℕ) → q x ≡ has seen x) → ((x : ℕ) → offered t x ≡ true → w.conflict m x ≡ conflict matrix t m x)
      → clear w q m ≡ alone seen conflicts m
  clear_alone w q bound is same = both_ways (clear w q m) (alone seen conflicts m)
      (λ c. says_alone (λ x k.
      let none = nowhere_none (λ y. q y && w.conflict m y) w.bound (unfold clear in c) x (omega (arith, bound, (offered_below t x (named x k)).1)) in
      sym (same x (named x k)) ∙ not_so (w.conflict m x) (λ d. never (and_intro (q x) (w.conflict m x) (is x ∙ k) d) none)))
      (λ a. unfold clear in none_nowhere (λ y. q y && w.conflict m y) w.bound (λ x l.
      not_so (q x && w.conflict m x) (λ d.
      let k = sym (is x) ∙ and_left (q x) (w.conflict m x) d in
      never (sym (same x (named x k)) ∙ and_right (q x) (w.conflict m x) d) (alone_says a x k))))
