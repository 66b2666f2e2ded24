-- Tests of the members of a list, and of its first places.
-- Rests on sets' BelowLaws and audit_rule's Seeking. Assumes nothing.
use Rattle.std.proofs.Common.{◌≡◌, ℕ, zero, suc, ◌<◌, ◌≤◌, Bool, List, [], ◌∷◌, length, get_or, take, refl, sym, ap, ◌∙◌, arith}
use Rattle.std.specs.List.{list_all, count_by, position_or_len}
use Rattle.std.proofs.lemmas.List.{length-take-le, get_or-take}
use Rattle.std.proofs.lemmas.List.Recursion.{is_count_by, is_position_or_len}
use Rattle.sets.specs.Below.{all_below, count}
use Rattle.sets.proofs.BelowLaws.{all_ext, all_shift, count_ext, count_shift}
use Rattle.broadcast.proofs.Tests.{test}
use mathlib.Core.Logic.{inl, inr}
use Rattle.audit_rule.specs.Audit.{lowest_from, lowest}
use Rattle.audit_rule.proofs.Seeking.{lowest_alike}

lowest_shift : (q : ℕ → Bool) (k n : ℕ) → lowest_from q (suc k) n ≡ suc (lowest_from (λ i. q (suc i)) k n)
lowest_shift q k zero = refl
lowest_shift q k (suc n) = elim (test (q (suc k))) [ inl t ↦ rw t refl | inr f ↦ rw f (lowest_shift q (suc k) n) ]

module _ (q : ℕ → Bool) where
  -- the test of a place
  abbrev at : List ℕ → ℕ → Bool
  at l i = q (get_or l i 0)

  all_places : (l : List ℕ) → list_all q l ≡ all_below (at l) (length l)
  unfolding all_below
  all_places [] = refl
  all_places (x ∷ l) = rw (all_shift (at (x ∷ l)) (length l), sym (all_places l)) refl

  pub count_places : (l : List ℕ) → count_by q l ≡ count (at l) (length l)
  unfolding count
  count_places l = sym (is_count_by (λ l. count (at l) (length l)) q refl (λ x l. rw (count_shift (at (x ∷ l)) (length l)) (elim (test (q x)) [ inl t ↦ rw t refl | inr f ↦ rw f (omega arith) ])) l)

  lowest_places : (l : List ℕ) → position_or_len q l ≡ lowest (at l) (length l)
  lowest_places l = sym (is_position_or_len (λ l. lowest (at l) (length l)) q refl (λ x l. elim (test (q x)) [ inl t ↦ rw t refl | inr f ↦ rw (f, lowest_shift (at (x ∷ l)) 0 (length l)) (omega arith) ]) l)

  -- ---- of the first n places of a list that has so many

  module _ (l : List ℕ) (n : ℕ) (h : n ≤ length l) where
    long : length (take n l) ≡ n
    long = length-take-le n l h

    same : (i : ℕ) → i < n → at (take n l) i ≡ at l i
    same i b = ap q (get_or-take n l i 0 b)

    pub all_first : list_all q (take n l) ≡ all_below (at l) n
    all_first = all_places (take n l) ∙ ap (all_below (at (take n l))) long ∙ all_ext (at (take n l)) (at l) n same

    pub count_first : count_by q (take n l) ≡ count (at l) n
    count_first = count_places (take n l) ∙ ap (count (at (take n l))) long ∙ count_ext (at (take n l)) (at l) n same

    pub lowest_first : position_or_len q (take n l) ≡ lowest (at l) n
    lowest_first = lowest_places (take n l) ∙ ap (lowest (at (take n l))) long ∙ lowest_alike (at (take n l)) (at l) 0 n (λ i b. same i (omega (arith, b)))
