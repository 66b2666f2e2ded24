-- Where no site lacks any posting that others hold, all sites hold the same postings.
-- Rests on Lacks, and on audit_rule's Order. Assumes nothing.
use Prim.Native.Nat.{ℕ, zero, suc, ◌+◌, ◌<◌}
use mathlib.Core.Path.{◌≡◌, refl, sym}
use mathlib.Core.Logic.{inl, inr}
use mathlib.Core.Bool.{Bool, true, false, not, ◌&&◌}
use mathlib.Core.List.{List}
use native.Mathlib.Omega.{arith}
use native.Mathlib.Decide.{ℕ_discrete}
use lib.Dec.{eqb}
use lib.ListN.{length}
use borrow.Author.Tests.{eqb-true}
use Rattle.sets.specs.Below.{count}
use Rattle.sets.proofs.Truth.{test}
use Rattle.sets.proofs.BelowLaws.{all_at}
use Rattle.broadcast.specs.Lists.{In, mem}
use Rattle.broadcast.proofs.Lists.{mem_in, in_mem}
use Rattle.audit_rule.specs.Audit.{joined}
use Rattle.audit_rule.specs.Handed.{record_of}
use Rattle.audit_rule.proofs.Order.{in_joined}
use Rattle.audit_lacks.specs.Lacks.{lacked, lack_count, all_hold}

-- where none is counted, none passes
count_none : (q : ℕ → Bool) (n x : ℕ) → count q n ≡ 0 → x < n → q x ≡ false
unfolding count
count_none q zero x e h = absurd (omega (arith, h))
count_none q (suc n) x e h = elim (test (q n)) [
  | inl t ↦ absurd (more t)
  | inr f ↦ elim (ℕ_discrete x n) [
    | yes same ↦ rw same f
    | no d ↦ count_none q n x (omega (arith, e)) (omega (arith, h, d))
  ]
]
  where
    more : q n ≡ true → ⊥
    more t = let k : 1 + count q n ≡ 0 = rw t at e in absurd (omega (arith, k))

module _ (lines ends : List ℕ) (bound : ℕ) where
  -- a site that lacks none holds every posting of the lines
  pub holds_all : (p x : ℕ) → x < bound → In x lines → lack_count lines ends bound p ≡ 0 → In x (record_of lines ends p)
  unfolding lack_count lacked
  holds_all p x h m e = mem_in x (record_of lines ends p) (cases (mem x lines) (mem x (record_of lines ends p)) (in_mem x lines m) (count_none (lacked lines ends p) bound x e h))
    where
      cases : (a b : Bool) → a ≡ true → (a && not b) ≡ false → b ≡ true
      cases a true t f = refl
      cases a false t f = sym (rw t at f)

pub all_hold_same : (lines ends : List ℕ) (bound : ℕ) → ((x : ℕ) → In x lines → x < bound) → (joined (record_of lines ends) (length ends) ≡ lines) → all_hold lines ends bound ≡ true
    → (p q : ℕ) → p < length ends → q < length ends → (x : ℕ) → In x (record_of lines ends p) → In x (record_of lines ends q)
unfolding all_hold
all_hold_same lines ends bound small all_lines held p q hp hq x m =
    let there : In x lines = rw all_lines at (in_joined (record_of lines ends) (length ends) p x hp m) in
    let none : lack_count lines ends bound q ≡ 0 = eqb-true (lack_count lines ends bound q) 0 (all_at (λ s. eqb (lack_count lines ends bound s) 0) (length ends) q held hq) in
    holds_all lines ends bound q x (small x there) there none
