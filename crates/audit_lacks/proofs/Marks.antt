-- What the loops keep: the marks after i lines, and a count so far; and what the marks of a site say of what it lacks.
-- Rests on Lacks and Needs, and on audit_rule's Seeking. Assumes nothing.
use Prim.Native.Nat.{ℕ, ◌+◌, ◌<◌}
use mathlib.Core.Path.{◌≡◌, refl, ◌∙◌}
use mathlib.Core.Logic.{inl, inr}
use mathlib.Core.Bool.{Bool, true, false, cond, not, ◌&&◌, ◌||◌, or-false}
use mathlib.Core.List.{List, [], ◌∷◌, ◌++◌}
use native.Mathlib.Omega.{arith}
use native.Mathlib.Decide.{ℕ_discrete}
use native.Mathlib.Numerals.{add-one}
use lib.Dec.{eqb}
use lib.ListN.{length, get_or, set, take}
use lib.Seq.{take-suc, get_or-set_same, get_or-set_other}
use borrow.Author.Tests.{eq-eqb, ne_eqb}
use Rattle.sets.specs.Below.{count}
use Rattle.sets.proofs.Truth.{test, or_right}
use Rattle.sets.proofs.BelowLaws.{count_ext}
use Rattle.broadcast.specs.Lists.{mem}
use Rattle.audit_rule.specs.Audit.{lowest}
use Rattle.audit_rule.specs.Handed.{record_of}
use Rattle.audit_rule.proofs.Seeking.{lowest_alike}
use Rattle.audit_input.specs.Input.{unused}
use Rattle.audit_lacks.specs.Lacks.{lacked, lack_count, lack_lowest}
use Rattle.audit_lacks.specs.Needs.{Marked, Lacking}

-- the tests: a mark says that only others hold the posting; a number has a posting; a site lacks none
abbrev pub only : List ℕ → ℕ → Bool
only marks x = eqb (get_or marks x 0) 1

abbrev pub used : List ℕ → ℕ → Bool
used kinds x = not (unused kinds x)

abbrev pub holds : List ℕ → ℕ → Bool
holds counts p = eqb (get_or counts p 0) 0

-- ---- marks

mem_snoc : (x y : ℕ) (l : List ℕ) → mem x (l ++ (y ∷ [])) ≡ (mem x l || eqb x y)
mem_snoc x y [] = or-false (eqb x y)
mem_snoc x y (z ∷ l) = elim (test (eqb x z)) [ inl t ↦ rw t | inr f ↦ rw f (mem_snoc x y l) ]

module _ (lines : List ℕ) (value : ℕ) (marks₀ : List ℕ) where
  -- what stands in a list of lines has the value, and the rest its old mark
  abbrev pub Valued : List ℕ → List ℕ → Type 0
  Valued above marks = (x : ℕ) → get_or marks x 0 ≡ cond (mem x above) value (get_or marks₀ x 0)

  pub valued_next : (marks : List ℕ) (i : ℕ) → i < length lines → get_or lines i 0 < length marks → Valued (take i lines) marks
      → Valued (take (i + 1) lines) (set marks (get_or lines i 0) value)
  valued_next marks i more room g x =
      let here = get_or lines i 0 in
      rw (add-one i, take-suc lines i 0 more, mem_snoc x here (take i lines)) (elim (ℕ_discrete x here) [
        | yes e ↦ rw (e, eq-eqb here here refl, or_right (mem here (take i lines)) true refl) (get_or-set_same marks here value 0 room)
        | no d ↦ rw (ne_eqb x here d, or-false (mem x (take i lines))) (get_or-set_other marks here x value 0 d ∙ g x)
      ])

-- ---- what the marks of a site say

module _ (lines ends marks : List ℕ) (p : ℕ) (marked : Marked lines ends marks p) where
  mark_says : (x : ℕ) → only marks x ≡ lacked lines ends p x
  unfolding lacked
  mark_says x = rw (marked x) (cases (mem x (record_of lines ends p)) (mem x lines))
    where
      cases : (a b : Bool) → eqb (cond a 2 (cond b 1 0)) 1 ≡ (b && not a)
      cases true true = refl
      cases true false = refl
      cases false true = refl
      cases false false = refl

  pub count_says : (bound : ℕ) → count (only marks) bound ≡ lack_count lines ends bound p
  unfolding lack_count
  count_says bound = count_ext (only marks) (lacked lines ends p) bound (λ x h. mark_says x)

  pub lowest_says : (bound : ℕ) → lowest (only marks) bound ≡ lack_lowest lines ends bound p
  unfolding lack_lowest
  lowest_says bound = lowest_alike (only marks) (lacked lines ends p) 0 bound (λ x h. mark_says x)

-- ---- what the first p sites lack

module _ (lines ends : List ℕ) (bound : ℕ) where
  -- one more number written at p
  at_next : (f : ℕ → ℕ) (l : List ℕ) (p v : ℕ) → p < length l → v ≡ f p → ((q : ℕ) → q < p → get_or l q 0 ≡ f q) → (q : ℕ) → q < p + 1 → get_or (set l p v) q 0 ≡ f q
  at_next f l p v room e g q h = elim (ℕ_discrete q p) [
    | yes same ↦ rw same (get_or-set_same l p v 0 room ∙ e)
    | no d ↦ get_or-set_other l p q v 0 d ∙ g q (omega (arith, h, d))
  ]

  pub lacking_next : (marks counts lowests : List ℕ) (p many low : ℕ) → p < length counts → p < length lowests → Marked lines ends marks p
      → many ≡ count (only marks) bound → low ≡ lowest (only marks) bound
      → Lacking lines ends counts lowests bound p → Lacking lines ends (set counts p many) (set lowests p low) bound (p + 1)
  lacking_next marks counts lowests p many low room-c room-l marked many_is low-is g = record {
    counts_are = at_next (lack_count lines ends bound) counts p many room-c (many_is ∙ count_says lines ends marks p marked bound) g.counts_are;
    lowests_are = at_next (lack_lowest lines ends bound) lowests p low room-l (low-is ∙ lowest_says lines ends marks p marked bound) g.lowests_are;
  }
