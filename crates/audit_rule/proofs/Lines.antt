-- A line fits exactly if the audit's definition finds nothing at it.
-- Rests on Reading and posting. Assumes nothing.
use Prim.Native.Nat.{ℕ, zero, suc, ◌<◌}
use mathlib.Core.Path.{◌≡◌, refl, sym, ap, ◌∙◌}
use mathlib.Core.Logic.{◌⊎◌, inl, inr, ◌≢◌}
use mathlib.Core.Bool.{Bool, true, false, not, ◌&&◌, ◌||◌, beq}
use mathlib.Core.List.{List, [], ◌∷◌, ◌++◌, append_assoc, append-nil}
use native.Mathlib.Omega.{arith}
use lib.Dec.{eqb}
use Rattle.sets.proofs.BelowLaws.{all_at, all_from}
use Rattle.posting.specs.declared.Posting.{Posting}
use Rattle.posting.specs.declared.Table.{Table}
use Rattle.posting.specs.Kinds.{kinds, accounts, nets_all, matrix_entry, fields_ok}
use Rattle.posting.proofs.KindLaws.{fields, named_accounts, entry_kinds}
use Rattle.posting.specs.Conflicts.{row, touches, shares, conflict, conflicting}
use Rattle.posting.specs.Touched.{every_row, stands_in}
use Rattle.posting.proofs.ConflictLaws.{shares_account, shares_at, shares_all, shares_turned, touches_account, touches_cases, touches_first, touches_second}
use Rattle.broadcast.specs.Lists.{In, NoRepeat, mem}
use Rattle.broadcast.proofs.Tests.{test, nope, same_or, and_l, and_r, and_i, or_cases, or_i_r, not-true, not-false, eqb_yes, eqb_no, eqb-true}
use Rattle.broadcast.proofs.Lists.{not_mem, in_left, in_right}
use Rattle.audit_rule.specs.Audit.{joined, ahead_of, differs}
use Rattle.audit_rule.specs.Reading.{fits, of_class, row_in, row_of, fits_row, line_fits}
use Rattle.audit_rule.proofs.Findings.{ahead_of_lem}
use Rattle.audit_rule.proofs.Reading.{fits_same, same_fits, ahead_cut, ahead_line}
use Rattle.audit_rule.proofs.Audited.{ahead_self}

-- the joined records from site p's on
pub joined_split : (records : ℕ → List ℕ) (p n : ℕ) → p < n → (rest : List ℕ) × (joined records n ≡ joined records p ++ (records p ++ rest))
joined_split records p zero h = absurd (omega (arith, h))
joined_split records p (suc k) h = elim (same_or p k) [
  | inl e ↦ ([], rw (e, append-nil))
  | inr d ↦
      let (rest, e) = joined_split records p k (omega (arith, h, d)) in
      (rest ++ records k, ap (λ (l : List ℕ). l ++ records k) e ∙ rw (append_assoc, append_assoc))
]

norepeat_middle : (y : ℕ) (above below : List ℕ) → NoRepeat (above ++ y ∷ below) → ¬ In y above
norepeat_middle y [] below d x'' = elim x'' [ ]
norepeat_middle y (z ∷ l) below d (inl e) = d.0 (in_right z l (y ∷ below) (inl (sym e)))
norepeat_middle y (z ∷ l) below d (inr m) = norepeat_middle y l below d.1 m

-- a front part of a list without repeats has none
pub norepeat_front : (l r : List ℕ) → NoRepeat (l ++ r) → NoRepeat l
norepeat_front [] r d = tt
norepeat_front (x ∷ l) r d = (λ m. d.0 (in_left x l r m), norepeat_front l r d.1)

beq_self : (b : Bool) → beq b b ≡ true
beq_self true = refl
beq_self false = refl

and_no : (b : Bool) → (b && false) ≡ false
and_no true = refl
and_no false = refl

beq_equal : (a b : Bool) → not (beq a b) ≡ false → a ≡ b
beq_equal true true e = refl
beq_equal true false e = absurd (nope refl e)
beq_equal false true e = absurd (nope refl e)
beq_equal false false e = refl

-- ---- rows

-- what stands in the row shares an account with p
abbrev Looks : Posting → ℕ → Type 0
Looks p line = (q : Posting) → stands_in q line ≡ true → shares p q ≡ true

stands_account : (q : Posting) (k : ℕ) → k < accounts → stands_in q k ≡ touches q k
unfolding stands_in
stands_account q k h = rw (eqb_no k every_row (omega (arith, h)))

-- a lawful posting looks in the rows of its accounts
looks_first : (p : Posting) → fields_ok p ≡ true → Looks p (row_of p p.a)
unfolding row_in stands_in
looks_first p ok q u = elim (test (nets_all p)) [
  | inl all ↦ shares_all p q all ∙ (rw all at u)
  | inr named ↦
      let h = (named_accounts p.kind p.a p.b (fields p ok).accounts_are_ok named).0 in
      shares_at p q p.a (touches_first p h) (rw (named, eqb_no p.a every_row (omega (arith, h))) at u)
]

looks_second : (p : Posting) → fields_ok p ≡ true → Looks p (row_of p p.b)
unfolding row_in stands_in
looks_second p ok q u = elim (test (nets_all p)) [
  | inl all ↦ shares_all p q all ∙ (rw all at u)
  | inr named ↦
      let h = (named_accounts p.kind p.a p.b (fields p ok).accounts_are_ok named).1 in
      shares_at p q p.b (touches_second p h) (rw (named, eqb_no p.b every_row (omega (arith, h))) at u)
]

-- and what shares an account with it stands in one of them
stands_shared : (p q : Posting) → shares p q ≡ true → (stands_in q (row_of p p.a) ≡ true) ⊎ (stands_in q (row_of p p.b) ≡ true)
unfolding row_in stands_in
stands_shared p q t = elim (test (nets_all p)) [
  | inl all ↦ inl (rw all (sym (shares_all p q all) ∙ t))
  | inr named ↦
      let (k, u, v) = shares_account p q t in
      let h = touches_account p k u in
      elim (touches_cases p k named u) [
        | inl e ↦ inl (rw (named, ← e, eqb_no k every_row (omega (arith, h))) v)
        | inr e ↦ inr (rw (named, ← e, eqb_no k every_row (omega (arith, h))) v)
      ]
]

-- ---- what conflicts with y, class by class

module _ (matrix : ℕ) (table : Table) where
  abbrev rest : ℕ → ℕ → Bool
  rest x y = shares (row table x) (row table y) && matrix_entry matrix (row table x).kind (row table y).kind

  conflict_shares : (x y : ℕ) → conflict matrix table x y ≡ true → shares (row table x) (row table y) ≡ true
  unfolding conflict conflicting
  conflict_shares x y t =
      and_l (shares (row table x) (row table y)) (matrix_entry matrix (row table x).kind (row table y).kind) (and_r (not (eqb x y)) (rest x y) t)

  conflict_entry : (x y : ℕ) → conflict matrix table x y ≡ true → matrix_entry matrix (row table x).kind (row table y).kind ≡ true
  unfolding conflict conflicting
  conflict_entry x y t =
      and_r (shares (row table x) (row table y)) (matrix_entry matrix (row table x).kind (row table y).kind) (and_r (not (eqb x y)) (rest x y) t)

  -- what conflicts with y is of a class in the row of one of its accounts
  conflict_class : (x y : ℕ) → conflict matrix table x y ≡ true
      → (of_class table (row_of (row table y) (row table y).a) (row table x).kind x ≡ true) ⊎ (of_class table (row_of (row table y) (row table y).b) (row table x).kind x ≡ true)
  unfolding of_class
  conflict_class x y t =
      let p = row table y in
      let q = row table x in
      elim (stands_shared p q (shares_turned p q ∙ conflict_shares x y t)) [
        | inl u ↦ inl (and_i (stands_in q (row_of p p.a)) (eqb q.kind q.kind) u (eqb_yes q.kind q.kind refl))
        | inr u ↦ inr (and_i (stands_in q (row_of p p.b)) (eqb q.kind q.kind) u (eqb_yes q.kind q.kind refl))
      ]

  -- and what is of such a class conflicts, if it is another posting
  class_conflict : (x y line j : ℕ) → x ≢ y → Looks (row table y) line → of_class table line j x ≡ true → matrix_entry matrix j (row table y).kind ≡ true
      → conflict matrix table x y ≡ true
  unfolding of_class conflict conflicting
  class_conflict x y line j d looks t s =
      let p = row table y in
      let q = row table x in
      let shared : shares q p ≡ true = shares_turned q p ∙ looks q (and_l (stands_in q line) (eqb q.kind j) t) in
      let e = eqb-true q.kind j (and_r (stands_in q line) (eqb q.kind j) t) in
      let says : matrix_entry matrix q.kind p.kind ≡ true = rw e s in
      rw (eqb_no x y d, shared, says)

  module _ (read above : List ℕ) (y : ℕ) (single : NoRepeat above) (new : ¬ In y above) where
    -- nothing that conflicts with y is on one side only
    abbrev pub Alike : Type 0
    Alike = (x : ℕ) → conflict matrix table x y ≡ true → mem x above ≡ ahead_of x y read

    fits_at : (line : ℕ) → fits_row matrix table read above y line ≡ true → (j : ℕ) → matrix_entry matrix j (row table y).kind ≡ true
        → fits (of_class table line j) read above y ≡ true
    unfolding fits_row
    fits_at line t j s =
        elim (or_cases (not (matrix_entry matrix j (row table y).kind)) (fits (of_class table line j) read above y)
        (all_at (λ i. not (matrix_entry matrix i (row table y).kind) || fits (of_class table line i) read above y) kinds j t (entry_kinds matrix j (row table y).kind s).0)) [
          | inl u ↦ absurd (nope s (not-true (matrix_entry matrix j (row table y).kind) u))
          | inr u ↦ u
        ]

    pub line_alike : line_fits matrix table read above y ≡ true → Alike
    unfolding line_fits
    line_alike t x k =
        let p = row table y in
        let first = row_of p p.a in
        let second = row_of p p.b in
        let fa = fits_row matrix table read above y first in
        let fb = fits_row matrix table read above y second in
        let j = (row table x).kind in
        let says = conflict_entry x y k in
        elim (conflict_class x y k) [
          | inl cls ↦ fits_same (of_class table first j) read above y single (fits_at first (and_l fa fb t) j says) x cls
          | inr cls ↦ fits_same (of_class table second j) read above y single (fits_at second (and_r fa fb t) j says) x cls
        ]

    alike_row : (line : ℕ) → Looks (row table y) line → Alike → fits_row matrix table read above y line ≡ true
    unfolding fits_row
    alike_row line looks alike = all_from (λ i. not (matrix_entry matrix i (row table y).kind) || fits (of_class table line i) read above y) kinds at
      where
        at : (j : ℕ) → j < kinds → (not (matrix_entry matrix j (row table y).kind) || fits (of_class table line j) read above y) ≡ true
        at j h = elim (test (matrix_entry matrix j (row table y).kind)) [
          | inr f ↦ rw f
          | inl s ↦ or_i_r (not (matrix_entry matrix j (row table y).kind)) (fits (of_class table line j) read above y)
              (same_fits (of_class table line j) read above y single (λ x q. elim (same_or x y) [
                | inl e ↦ rw e (not_mem y above new ∙ sym (not-false (ahead_of y y read) (λ a. ahead_self y read (ahead_of_lem y y read a))))
                | inr d ↦ alike x (class_conflict x y line j d looks q s)
              ]))
        ]

    pub alike_line : fields_ok (row table y) ≡ true → Alike → line_fits matrix table read above y ≡ true
    unfolding line_fits
    alike_line ok alike =
        let p = row table y in
        and_i (fits_row matrix table read above y (row_of p p.a)) (fits_row matrix table read above y (row_of p p.b))
        (alike_row (row_of p p.a) (looks_first p ok) alike)
        (alike_row (row_of p p.b) (looks_second p ok) alike)

  -- ---- a line of a record

  module _ (n : ℕ) (records : ℕ → List ℕ) (p y : ℕ) (above below : List ℕ) (l : p < n) (here : records p ≡ above ++ y ∷ below) (single : NoRepeat (records p)) where
    -- all that was read before the line
    abbrev pub read_here : List ℕ
    read_here = joined records p ++ above

    record_side : (x : ℕ) → ahead_of x y (records p) ≡ mem x above
    record_side x = ap (ahead_of x y) here ∙ ahead_line x y above below (norepeat_middle y above below (rw here at single))

    joined_side : (x : ℕ) → ahead_of x y (joined records n) ≡ ahead_of x y read_here
    joined_side x =
        let (rest, e) = joined_split records p n l in
        ap (ahead_of x y) (e ∙ ap (λ (r : List ℕ). joined records p ++ (r ++ rest)) here ∙ regroup rest) ∙ ahead_cut x y read_here (below ++ rest)
      where
        regroup : (rest : List ℕ) → joined records p ++ ((above ++ y ∷ below) ++ rest) ≡ (joined records p ++ above) ++ y ∷ (below ++ rest)
        regroup rest = ap (λ (r : List ℕ). joined records p ++ r) (append_assoc above (y ∷ below) rest) ∙ sym (append_assoc (joined records p) above (y ∷ (below ++ rest)))

    differs_is : (x : ℕ) → differs n records (conflict matrix table) p y x ≡ (conflict matrix table x y && not (beq (mem x above) (ahead_of x y read_here)))
    unfolding differs
    differs_is x = rw (record_side x, joined_side x)

    -- The line fits exactly if nothing differs at it.
    pub fits_clean : line_fits matrix table read_here above y ≡ true → (x : ℕ) → differs n records (conflict matrix table) p y x ≡ false
    fits_clean t x = elim (test (conflict matrix table x y)) [
      | inr f ↦ differs_is x ∙ rw f
      | inl k ↦ differs_is x ∙ rw (line_alike read_here above y (norepeat_front above (y ∷ below) (rw here at single)) (norepeat_middle y above below (rw here at single)) t x k, beq_self (ahead_of x y read_here)) (and_no (conflict matrix table x y))
    ]

    pub clean_fits : fields_ok (row table y) ≡ true → ((x : ℕ) → differs n records (conflict matrix table) p y x ≡ false) → line_fits matrix table read_here above y ≡ true
    clean_fits ok clean =
        alike_line read_here above y (norepeat_front above (y ∷ below) (rw here at single)) (norepeat_middle y above below (rw here at single)) ok
        (λ x k. beq_equal (mem x above) (ahead_of x y read_here) (rw k at (sym (differs_is x) ∙ clean x)))
