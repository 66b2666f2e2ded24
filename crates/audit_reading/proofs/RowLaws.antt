-- The rows of a posting: their numbers, the rows that it stands in, and so its classes.
-- Rests on Kept and on posting's laws. Assumes nothing.
use Prim.Native.Nat.{ℕ, ◌/◌, ◌%◌, ◌<◌}
use mathlib.Core.Path.{◌≡◌, refl, ap, ap₂, ◌∙◌}
use mathlib.Core.Logic.{inl, inr}
use mathlib.Core.Bool.{Bool, true, false, ◌&&◌, ◌||◌}
use native.Mathlib.Omega.{arith}
use native.Mathlib.Decide.{ℕ_discrete, dec_lt}
use lib.Dec.{eqb, leb}
use borrow.Author.Tests.{eq-eqb, ne_eqb, lt-ltb, le-ltb, le-leb, lt-leb}
use Rattle.sets.proofs.Truth.{test}
use Rattle.posting.specs.declared.Posting.{Posting}
use Rattle.posting.specs.declared.Table.{Table}
use Rattle.posting.specs.Kinds.{accounts, net_of_all, nets_all, accounts_ok}
use Rattle.posting.specs.Conflicts.{row, touches}
use Rattle.posting.specs.Touched.{every_row, touches_some, stands_in}
use Rattle.posting.proofs.KindLaws.{named_accounts}
use Rattle.posting.proofs.ConflictLaws.{touches_all, touches_named}
use Rattle.audit_rule.specs.Reading.{of_class, row_in, row_of}
use Rattle.audit_reading.specs.Kept.{own_row, own_class, class_of}

-- ---- numbers of rows

module _ (kind a b : ℕ) where
  pub row_all : (account : ℕ) → net_of_all kind a b ≡ true → row_in kind a b account ≡ every_row
  unfolding row_in
  row_all account t = rw t

  pub row_named : (account : ℕ) → net_of_all kind a b ≡ false → row_in kind a b account ≡ account
  unfolding row_in
  row_named account f = rw f

  -- both are rows, and the second is that of all only with the first
  pub rows_below : accounts_ok kind a b ≡ true
      → (row_in kind a b a < 17) × (row_in kind a b b < 17) × (row_in kind a b b ≡ every_row → row_in kind a b a ≡ every_row)
  rows_below ok = elim (test (net_of_all kind a b)) [
    | inl t ↦ (omega (arith, row_all a t), omega (arith, row_all b t), λ e. row_all a t)
    | inr f ↦
        let h = named_accounts kind a b ok f in
        let second = row_named b f in
        (omega (arith, row_named a f, h.0), omega (arith, second, h.1), λ e. absurd (omega (arith, e, second, h.1)))
  ]

-- ---- the rows that a posting stands in

module _ (p : Posting) (ok : accounts_ok p.kind p.a p.b ≡ true) where
  stands_all : (line : ℕ) → nets_all p ≡ true → stands_in p line ≡ leb line every_row
  unfolding stands_in touches_some touches
  stands_all line t = elim (ℕ_discrete line every_row) [
    | yes e ↦ rw (e, eq-eqb every_row every_row refl, t)
    | no d ↦ elim (dec_lt line accounts) [
      | yes h ↦ rw (ne_eqb line every_row d, le-leb line every_row (omega (arith, h))) (touches_all p line t h)
      | no h ↦ rw (ne_eqb line every_row d, lt-leb line every_row (omega (arith, h, d)), le-ltb line accounts (omega (arith, h)))
    ]
  ]

  stands_named : (line : ℕ) → nets_all p ≡ false → stands_in p line ≡ (eqb line every_row || (eqb line p.a || eqb line p.b))
  unfolding stands_in touches_some
  stands_named line f =
      let h = named_accounts p.kind p.a p.b ok f in
      elim (ℕ_discrete line every_row) [
        | yes e ↦ rw (e, eq-eqb every_row every_row refl, f, lt-ltb p.a accounts h.0)
        | no d ↦ elim (dec_lt line accounts) [
          | yes l ↦ rw (ne_eqb line every_row d, touches_named p line f, lt-ltb line accounts l)
          | no l ↦ rw (
            ne_eqb line every_row d,
            touches_named p line f,
            le-ltb line accounts (omega (arith, l)),
            ne_eqb line p.a (λ e. absurd (omega (arith, e, l, h.0))),
            ne_eqb line p.b (λ e. absurd (omega (arith, e, l, h.1))),
          )
        ]
      ]

  pub stands_own : (line : ℕ) → stands_in p line ≡ own_row (row_of p p.a) (row_of p p.b) line
  unfolding own_row
  stands_own line = elim (test (nets_all p)) [
    | inl t ↦ stands_all line t ∙ rw (row_all p.kind p.a p.b p.a t)
    | inr f ↦
        let h = named_accounts p.kind p.a p.b ok f in
        stands_named line f
        ∙ rw (row_named p.kind p.a p.b p.a f, row_named p.kind p.a p.b p.b f, ne_eqb p.a every_row (λ e. absurd (omega (arith, e, h.0))))
  ]

-- ---- its classes

-- posting y is of a kind and looks in rows a and b, and these tell its classes
pub record Row (t : Table) (y kind a b : ℕ) : Type 0 where
  pub kind_is : (row t y).kind ≡ kind
  pub first_is : row_of (row t y) (row t y).a ≡ a
  pub second_is : row_of (row t y) (row t y).b ≡ b
  pub own : (c : ℕ) → class_of t c y ≡ own_class kind a b c

pub row_is : (t : Table) (y kind a b : ℕ) → (row t y).kind ≡ kind → (row t y).a ≡ a → (row t y).b ≡ b → accounts_ok kind a b ≡ true
    → Row t y kind (row_in kind a b a) (row_in kind a b b)
unfolding of_class own_class
row_is t y kind a b k first second ok = record { kind_is = k; first_is = f; second_is = s; own = λ c. ap₂ (λ (v w : Bool). v && w) (stands (c / 4)) (ap (λ n. eqb n (c % 4)) k) }
  where
    f : row_of (row t y) (row t y).a ≡ row_in kind a b a
    f = rw (k, first, second)

    s : row_of (row t y) (row t y).b ≡ row_in kind a b b
    s = rw (k, first, second)

    stands : (line : ℕ) → stands_in (row t y) line ≡ own_row (row_in kind a b a) (row_in kind a b b) line
    stands line = stands_own (row t y) (rw (k, first, second) ok) line ∙ ap₂ (λ (v w : ℕ). own_row v w line) f s
