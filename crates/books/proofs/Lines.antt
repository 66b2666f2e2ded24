-- Laws of the books of posting numbers: one line more; two that don't conflict exchanged; an account depends on the postings that
-- touch it; the total and the bounds after every line. Rests on Effects, Commute, Balance and Bounds. Assumes nothing.
use mathlib.Core.Path.{◌≡◌, refl, sym, ap, ◌∙◌, subst}
use mathlib.Core.Bool.{true, false, ◌&&◌}
use mathlib.Core.List.{List, [], ◌∷◌, ◌++◌}
use Prim.Native.Nat.{ℕ, suc, ◌+◌, ◌<◌, ◌≤◌}
use native.Mathlib.Decide.{ℕ_discrete}
use native.Mathlib.Numerals.{add-one}
use native.Mathlib.Omega.{arith}
use lib.IntN.{pos}
use lib.ListN.{length, get_or, take}
use lib.Seq.{take-suc, length-take-le, get_or-take}
use borrow.Author.Tests.{ne_eqb}
use Rattle.sets.proofs.Truth.{never, not_so, and_left, and_right, and_intro}
use Rattle.posting.specs.declared.Posting.{Posting}
use Rattle.posting.specs.declared.Table.{Table}
use Rattle.posting.specs.Kinds.{kinds, fixed_pair, matrix_entry, has_fixed_pairs}
use Rattle.posting.proofs.KindLaws.{Fields, row_kind, has_fixed_pair}
use Rattle.posting.specs.Conflicts.{row, touches, shares, conflict, conflicting}
use Rattle.books.specs.Effect.{effect}
use Rattle.books.specs.Books.{Books, blank, post, books, total_to, total}
use Rattle.books.specs.Bounds.{After}
use Rattle.books.proofs.Effects.{effect_untouched}
use Rattle.books.proofs.Commute.{postings_commute}
use Rattle.books.proofs.Balance.{total_post}
use Rattle.books.proofs.Bounds.{effect_after}

-- ---- one line more

pub books_snoc : (s : Books) (table : Table) (l : List ℕ) (m : ℕ) → books s table (l ++ (m ∷ [])) ≡ post (row table m) (books s table l)
unfolding books
books_snoc s table [] m = refl
books_snoc s table (x ∷ l) m = books_snoc (post (row table x) s) table l m

-- the first i + 1 numbers: the first i, then number i
pub next_line : (s : Books) (table : Table) (l : List ℕ) (i : ℕ) → i < length l
    → post (row table (get_or l i 0)) (books s table (take i l)) ≡ books s table (take (i + 1) l)
next_line s table l i h =
    sym (books_snoc s table (take i l) (get_or l i 0)) ∙ ap (books s table) (rw (add-one i) (sym (take-suc l i 0 h)))

-- ---- two lines exchanged

-- x and y give the same books in either order
abbrev pub Exchange : Table → ℕ → ℕ → Type 0
Exchange table x y = (s : Books) → post (row table y) (post (row table x) s) ≡ post (row table x) (post (row table y) s)

kind_of : (p : Posting) → Fields p → p.kind < kinds
kind_of p f = row_kind p.kind p.a p.b p.amount f.within

-- postings that share an account and are of a fixed pair conflict: the matrix has the fixed pairs
pair_conflicts : (matrix : ℕ) → has_fixed_pairs matrix ≡ true → (x y : ℕ) → (x ≡ y → ⊥) → (p q : Posting) → Fields p → Fields q
    → shares p q && fixed_pair p.kind q.kind ≡ true → conflicting matrix x p y q ≡ true
unfolding conflicting
pair_conflicts matrix has x y ne p q fp fq t =
    let shared = and_left (shares p q) (fixed_pair p.kind q.kind) t in
    let pair = and_right (shares p q) (fixed_pair p.kind q.kind) t in
    let says = has_fixed_pair matrix has p.kind q.kind (kind_of p fp) (kind_of q fq) pair in
    rw (ne_eqb x y ne) (and_intro (shares p q) (matrix_entry matrix p.kind q.kind) shared says)

-- postings that don't conflict may be exchanged
pub no_conflict_exchange : (matrix : ℕ) → has_fixed_pairs matrix ≡ true → (table : Table) (x y : ℕ) → Fields (row table x) → Fields (row table y)
    → conflict matrix table x y ≡ false → Exchange table x y
unfolding conflict
no_conflict_exchange matrix has table x y fx fy c s = elim (ℕ_discrete x y) [
  | yes e ↦
      ap (λ (m : ℕ). post (row table m) (post (row table x) s)) (sym e)
      ∙ ap (λ (m : ℕ). post (row table x) (post (row table m) s)) e
  | no ne ↦
      let p = row table x in
      let q = row table y in
      let free = not_so (shares p q && fixed_pair p.kind q.kind) (λ t. never (pair_conflicts matrix has x y ne p q fx fy t) c) in
      sym (postings_commute p q free s)
]

-- ---- one account

-- an account's figures come from its own opening figures
pub books_account : (table : Table) (l : List ℕ) (s t : Books) (k : ℕ) → s k ≡ t k → books s table l k ≡ books t table l k
unfolding books
books_account table [] s t k e = e
books_account table (m ∷ l) s t k e =
    books_account table l (post (row table m) s) (post (row table m) t) k (ap (effect (row table m) k) e)

-- a posting that does not touch the account may be left out
pub books_skip : (table : Table) (m : ℕ) (l : List ℕ) (s : Books) (k : ℕ) → touches (row table m) k ≡ false
    → books s table (m ∷ l) k ≡ books s table l k
unfolding books
books_skip table m l s k t = books_account table l (post (row table m) s) s k (effect_untouched (row table m) k (s k) t)

-- ---- total and bounds, after every line

module _ (table : Table) where
  -- the fields of every line's posting are within the rule
  abbrev pub Lawful : List ℕ → Type 0
  Lawful l = (i : ℕ) → i < length l → Fields (row table (get_or l i 0))

  rest : (m : ℕ) (l : List ℕ) → Lawful (m ∷ l) → Lawful l
  rest m l ok i h = ok (suc i) (omega arith)

  -- the first n lines
  pub lawful_take : (l : List ℕ) (n : ℕ) → n ≤ length l → ((i : ℕ) → i < n → Fields (row table (get_or l i 0))) → Lawful (take n l)
  lawful_take l n h ok i b = let m : i < n = omega (arith, length-take-le n l h) in rw (get_or-take n l i 0 m) (ok i m)

  pub books_total : (l : List ℕ) → Lawful l → (s : Books) → total (books s table l) ≡ total s
  unfolding books
  books_total [] ok s = refl
  books_total (m ∷ l) ok s = books_total l (rest m l ok) (post (row table m) s) ∙ total_post (row table m) (ok 0 (omega arith)) s

  -- from zeros it is 0
  pub books_balance : (l : List ℕ) → Lawful l → total (books blank table l) ≡ pos 0
  unfolding total_to
  books_balance l ok = books_total l ok blank

  pub books_after : (l : List ℕ) → Lawful l → (n : ℕ) (s : Books) (k : ℕ) → After n (s k) → After (n + length l) (books s table l k)
  unfolding books
  books_after [] ok n s k h = subst (λ (m : ℕ). After m (s k)) (omega arith) h
  books_after (m ∷ l) ok n s k h =
      subst (λ (j : ℕ). After j (books (post (row table m) s) table l k)) (omega arith)
      (books_after l (rest m l ok) (suc n) (post (row table m) s) k (effect_after n (s k) h (row table m) k (ok 0 (omega arith))))
