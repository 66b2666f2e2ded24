-- Marks: what is left to mark of a list, and what the marks of both lists say.
-- Rests on Seeking. Assumes nothing.
use Prim.Native.Nat.{ℕ, suc, ◌+◌, ◌<◌, ◌≤◌}
use mathlib.Core.Path.{◌≡◌, refl, sym, ◌∙◌}
use mathlib.Core.Logic.{inl, inr, ◌≢◌}
use mathlib.Core.Bool.{Bool, true, false, not, ◌&&◌, beq}
use mathlib.Core.List.{List}
use native.Mathlib.Omega.{arith}
use native.Mathlib.Numerals.{add-one}
use lib.Dec.{ltb}
use lib.ListN.{length, get_or, set, drop, drop_of_length-le}
use lib.Seq.{drop-cons, get_or-set_same, get_or-set_other}
use borrow.Author.Tests.{le-ltb}
use Rattle.broadcast.proofs.Tests.{test, same_or, eqb_yes, eqb_no}
use Rattle.posting.specs.declared.Table.{Table}
use Rattle.posting.specs.Conflicts.{conflict, conflicting}
use Rattle.audit_rule.specs.Audit.{ahead_of, lowest}
use Rattle.audit_rule.specs.Handed.{posting_at, table_of}
use Rattle.audit_pair.specs.Pair.{differing, raised, mark_of, one_sided, mark_differs}
use Rattle.audit_rule.proofs.Handed.{row_at}
use Rattle.audit_rule.proofs.Seeking.{lowest_alike}

-- ---- one list

-- a mark that was raised stays
raised_once : (size : ℕ) (so : Bool) (m : ℕ) → raised size so (raised size true m) ≡ raised size true m
unfolding raised
raised_once size false m = refl
raised_once size true m = elim (test (ltb m size)) [
  | inl t ↦ rw (t, le-ltb (m + size) size (omega arith))
  | inr f ↦ rw (f, f)
]

module _ (lines : List ℕ) (y size : ℕ) (marks₀ : List ℕ) where
  -- after i lines, none of them y: the marks are what is left to mark
  abbrev pub Marking : List ℕ → ℕ → Type 0
  Marking marks i = (x : ℕ) → raised size (ahead_of x y (drop i lines)) (get_or marks x 0) ≡ raised size (ahead_of x y lines) (get_or marks₀ x 0)

  -- nothing is left behind the last line, nor from y on
  pub marking_ends : (marks : List ℕ) (i : ℕ) → length lines ≤ i → Marking marks i → (x : ℕ) → get_or marks x 0 ≡ raised size (ahead_of x y lines) (get_or marks₀ x 0)
  unfolding raised
  marking_ends marks i h g x = rw (drop_of_length-le lines h) at (g x)

  pub marking_stops : (marks : List ℕ) (i : ℕ) → i < length lines → get_or lines i 0 ≡ y → Marking marks i → (x : ℕ) → get_or marks x 0 ≡ raised size (ahead_of x y lines) (get_or marks₀ x 0)
  unfolding raised
  marking_stops marks i h e g x =
      let none : ahead_of x y (drop i lines) ≡ false = rw (drop-cons lines i 0 h, eqb_yes (get_or lines i 0) y e) in
      rw none at (g x)

  pub marking_next : (marks marks' : List ℕ) (i w : ℕ) → i < length lines → w ≡ get_or lines i 0 → w ≢ y → w < length marks
      → marks' ≡ set marks w (raised size true (get_or marks w 0)) → Marking marks i → Marking marks' (i + 1)
  marking_next marks marks' i w h e d l m g x = rw (add-one i, m) (elim (same_or x w) [
    | inl k ↦
        let ahead : ahead_of x y (drop i lines) ≡ true = rw (drop-cons lines i 0 h, sym e, eqb_no w y d, eqb_yes x w k) in
        let was : raised size true (get_or marks w 0) ≡ raised size (ahead_of x y lines) (get_or marks₀ x 0) = rw (sym k) (rw ahead at (g x)) in
        let is : get_or (set marks w (raised size true (get_or marks w 0))) x 0 ≡ raised size true (get_or marks w 0) = rw k (get_or-set_same marks w (raised size true (get_or marks w 0)) 0 l) in
        rw is (raised_once size (ahead_of x y (drop (suc i) lines)) (get_or marks w 0) ∙ was)
    | inr k ↦
        let same : ahead_of x y (drop i lines) ≡ ahead_of x y (drop (suc i) lines) = rw (drop-cons lines i 0 h, sym e, eqb_no w y d, eqb_no x w k) in
        rw (get_or-set_other marks w x (raised size true (get_or marks w 0)) 0 k, sym same) (g x)
  ])

-- ---- both lists

-- marks from zero: 1 of the first list, 2 of the second
pub marked_both : (l r : List ℕ) (y x : ℕ) {m₀ m₁ m₂ : ℕ} → m₀ ≡ 0 → m₁ ≡ raised 1 (ahead_of x y l) m₀ → m₂ ≡ raised 2 (ahead_of x y r) m₁ → m₂ ≡ mark_of l r y x
unfolding mark_of
marked_both l r y x zeros once twice = rw (twice, once, zeros)

one_sided_lem : (a b : Bool) → one_sided (raised 2 b (raised 1 a 0)) ≡ not (beq a b)
unfolding raised one_sided
one_sided_lem true true = refl
one_sided_lem true false = refl
one_sided_lem false true = refl
one_sided_lem false false = refl

swap_and : (a b : Bool) → a && b ≡ b && a
swap_and true true = refl
swap_and true false = refl
swap_and false true = refl
swap_and false false = refl

-- a mark of one sort only tells a difference; so the lowest one marked is the lowest that differs
module _ (matrix : ℕ) (table : Table) (l r : List ℕ) (y : ℕ) (marks : List ℕ) (marked : (x : ℕ) → get_or marks x 0 ≡ mark_of l r y x) where
  marks_say : (x : ℕ) → mark_differs matrix table marks y x ≡ differing matrix table l r y x
  unfolding mark_of mark_differs differing
  marks_say x =
      rw (marked x, one_sided_lem (ahead_of x y l) (ahead_of x y r)) (swap_and (not (beq (ahead_of x y l) (ahead_of x y r))) (conflict matrix table x y))

  pub lowest_says : (n : ℕ) → lowest (mark_differs matrix table marks y) n ≡ lowest (differing matrix table l r y) n
  lowest_says n = lowest_alike (mark_differs matrix table marks y) (differing matrix table l r y) 0 n (λ x h. marks_say x)

-- ---- conflicts by the fields

module _ (matrix : ℕ) (kinds firsts seconds amounts : List ℕ) where
  pub conflict_at : (x y : ℕ) → x < length kinds → y < length kinds
      → conflict matrix (table_of kinds firsts seconds amounts) x y ≡ conflicting matrix x (posting_at kinds firsts seconds amounts x) y (posting_at kinds firsts seconds amounts y)
  unfolding conflict
  conflict_at x y h k = rw (row_at kinds firsts seconds amounts x h, row_at kinds firsts seconds amounts y k)
