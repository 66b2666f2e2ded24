-- The marks by which a repeat is found: a number is marked if it stands above.
-- Rests on audit_rule's Seeking. Assumes nothing.
use Prim.Native.Nat.{ℕ, ◌+◌, ◌<◌, ◌≤◌}
use mathlib.Core.Path.{◌≡◌, refl, sym, ap, ◌∙◌}
use mathlib.Core.Logic.{inl, inr, ◌≢◌}
use mathlib.Core.Bool.{Bool, true, false, ◌||◌, or-false}
use mathlib.Core.List.{List, [], ◌∷◌, ◌++◌}
use native.Mathlib.Omega.{arith}
use native.Mathlib.Decide.{ℕ_discrete}
use native.Mathlib.Numerals.{add-one}
use lib.Dec.{eqb}
use lib.ListN.{length, get_or, set, take, length-set}
use lib.Seq.{take-suc, get_or-set_same, get_or-set_other}
use borrow.Author.Tests.{eq-eqb, ne_eqb}
use Rattle.sets.proofs.Truth.{test, or_right}
use Rattle.broadcast.specs.Lists.{mem}
use Rattle.broadcast.specs.Counts.{bit}
use Rattle.std.specs.Prelude.{Some, None}
use Rattle.audit_rule.specs.Needs.{Numbered}
use Rattle.audit_rule.specs.Searches.{if_below}
use Rattle.audit_rule.proofs.Seeking.{Seeking, seek_next, seek_some, seek_none}
use Rattle.audit_input.specs.Input.{repeated_line}

mem_snoc : (x y : ℕ) (l : List ℕ) → mem x (l ++ (y ∷ [])) ≡ (mem x l || eqb x y)
mem_snoc x y [] = or-false (eqb x y)
mem_snoc x y (z ∷ l) = elim (test (eqb x z)) [ inl t ↦ rw t | inr f ↦ rw f (mem_snoc x y l) ]

module _ (lines : List ℕ) (count : ℕ) where
  -- line i names what stands above it
  abbrev repeats : ℕ → Bool
  repeats i = mem (get_or lines i 0) (take i lines)

  -- after i lines
  pub record Marking (marks : List ℕ) (i : ℕ) : Type 0 where
    pub below : i ≤ length lines
    pub long : length marks ≡ count
    pub seeking : Seeking repeats (length lines) i
    pub are : (x : ℕ) → x < count → get_or marks x 0 ≡ bit (mem x (take i lines))

  module _ (numbered : Numbered lines count) (marks : List ℕ) (i : ℕ) (g : Marking marks i) (more : i < length lines) where
    abbrev here : ℕ
    here = get_or lines i 0

    pub number_in : here < length marks
    number_in = let h = numbered i more in omega (arith, h, g.long)

    marked_is : get_or marks here 0 ≡ bit (repeats i)
    marked_is = g.are here (numbered i more)

    repeat_cases : (b : Bool) → repeats i ≡ b → (get_or marks here 0 ≢ 0 → b ≡ true) × (get_or marks here 0 ≡ 0 → b ≡ false)
    repeat_cases true e = (λ d. refl, λ z. absurd (one_zero (sym (marked_is ∙ ap bit e) ∙ z)))
      where
        one_zero : bit true ≡ 0 → ⊥
        one_zero h = absurd (omega (arith, h))
    repeat_cases false e = (λ d. absurd (d (marked_is ∙ ap bit e)), λ z. refl)

    pub repeat_found : get_or marks here 0 ≢ 0 → Some i ≡ if_below (repeated_line lines) (length lines)
    unfolding repeated_line
    repeat_found d = seek_some g.seeking more ((repeat_cases (repeats i) refl).0 d)

    pub marking_next : get_or marks here 0 ≡ 0 → Marking (set marks here 1) (i + 1)
    marking_next z =
        let n = length-set marks here 1 in
        record {
          below = omega (arith, more);
          long = n ∙ g.long;
          seeking = seek_next g.seeking more ((repeat_cases (repeats i) refl).1 z);
          are = λ x h. rw (add-one i, take-suc lines i 0 more, mem_snoc x here (take i lines)) (at x h);
        }
      where
        at : (x : ℕ) → x < count → get_or (set marks here 1) x 0 ≡ bit (mem x (take i lines) || eqb x here)
        at x h = elim (ℕ_discrete x here) [
          | yes e ↦ rw (e, eq-eqb here here refl, or_right (mem here (take i lines)) true refl) (get_or-set_same marks here 1 0 number_in)
          | no d ↦ rw (ne_eqb x here d, or-false (mem x (take i lines))) (get_or-set_other marks here x 1 0 d ∙ g.are x h)
        ]

  pub repeat_none : (marks : List ℕ) (i : ℕ) → Marking marks i → length lines ≤ i → None ≡ if_below (repeated_line lines) (length lines)
  unfolding repeated_line
  repeat_none marks i g end = seek_none g.seeking end
