-- Laws of conflicts: what is touched, a shared account by the fields, a NET of every account shares one with every posting, sharing both
-- ways round, conflicts symmetric and never of a posting with itself, and what is in C(m). Rests on Conflicts. Assumes nothing.
use Prim.Native.Nat.{ℕ, ◌*◌, ◌<◌, ◌≤◌}
use mathlib.Core.Path.{◌≡◌, refl, sym, ap, ◌∙◌}
use mathlib.Core.Logic.{◌⊎◌, inl, inr}
use mathlib.Core.Bool.{Bool, true, false, ◌&&◌, ◌||◌, or-false}
use mathlib.Core.List.{List}
use native.Mathlib.Omega.{arith}
use native.Mathlib.Decide.{ℕ_discrete, dec_lt}
use lib.Dec.{eqb, ltb}
use lib.ListN.{length}
use borrow.Author.Tests.{eq-eqb, ne_eqb, eqb-true, lt-ltb, ltb-true}
use Rattle.sets.proofs.Truth.{test, both_ways, and_left, and_right, and_intro, or_cases, or_left, or_right}
use Rattle.sets.proofs.BelowLaws.{any_at, any_from}
use Rattle.sets.proofs.WordLaws.{member_insert, insert_past, member_collect, insert_shape, collect_shape}
use Rattle.sets.specs.Words.{member, insert, collect}
use Rattle.sets.specs.Sets.{words, capacity, has, Shape}
use Rattle.posting.specs.declared.Posting.{Posting}
use Rattle.posting.specs.declared.Table.{Table}
use Rattle.posting.specs.Kinds.{accounts, nets_all, fields_ok, symmetric}
use Rattle.posting.proofs.KindLaws.{fields, accounts_cases, symmetric_at}
use Rattle.posting.specs.Conflicts.{row, offered, offered_by, touches, shares, conflicting, conflict, conflict_set}
use Rattle.posting.specs.Touched.{touches_some}

-- ---- the table

pub offered_below : (t : Table) (m : ℕ) → offered t m ≡ true → (m < t.count) × (m < capacity)
unfolding offered offered_by
offered_below t m e = (
  ltb-true m t.count (and_left (ltb m t.count) (ltb m capacity) e),
  ltb-true m capacity (and_right (ltb m t.count) (ltb m capacity) e),
)

pub below_offered : (t : Table) (m : ℕ) → m < t.count → m < capacity → offered t m ≡ true
unfolding offered offered_by
below_offered t m h l = rw (lt-ltb m t.count h, lt-ltb m capacity l)

-- ---- accounts

pub touches_account : (p : Posting) (k : ℕ) → touches p k ≡ true → k < accounts
unfolding touches
touches_account p k t = ltb-true k accounts (and_left (ltb k accounts) ((eqb k p.a || eqb k p.b) || nets_all p) t)

-- what nets every account touches each
pub touches_all : (p : Posting) (k : ℕ) → nets_all p ≡ true → k < accounts → touches p k ≡ true
unfolding touches
touches_all p k e h = rw (lt-ltb k accounts h) (or_right (eqb k p.a || eqb k p.b) (nets_all p) e)

pub touches_first : (p : Posting) → p.a < accounts → touches p p.a ≡ true
unfolding touches
touches_first p h =
    rw (lt-ltb p.a accounts h)
    (or_left (eqb p.a p.a || eqb p.a p.b) (nets_all p) (or_left (eqb p.a p.a) (eqb p.a p.b) (eq-eqb p.a p.a refl)))

pub touches_second : (p : Posting) → p.b < accounts → touches p p.b ≡ true
unfolding touches
touches_second p h =
    rw (lt-ltb p.b accounts h)
    (or_left (eqb p.b p.a || eqb p.b p.b) (nets_all p) (or_right (eqb p.b p.a) (eqb p.b p.b) (eq-eqb p.b p.b refl)))

-- of a posting that does not, its two fields tell
pub touches_named : (p : Posting) (k : ℕ) → nets_all p ≡ false → touches p k ≡ (ltb k accounts && (eqb k p.a || eqb k p.b))
unfolding touches
touches_named p k named = rw (named, or-false (eqb k p.a || eqb k p.b))

pub touches_cases : (p : Posting) (k : ℕ) → nets_all p ≡ false → touches p k ≡ true → (k ≡ p.a) ⊎ (k ≡ p.b)
touches_cases p k named t =
    elim (or_cases (eqb k p.a) (eqb k p.b) (and_right (ltb k accounts) (eqb k p.a || eqb k p.b) (sym (touches_named p k named) ∙ t))) [
      | inl e ↦ inl (eqb-true k p.a e)
      | inr e ↦ inr (eqb-true k p.b e)
    ]

-- a posting within the field rule touches some account
pub fields_touch : (p : Posting) → fields_ok p ≡ true → (k : ℕ) × (touches p k ≡ true)
fields_touch p t = elim (accounts_cases p.kind p.a p.b (fields p t).accounts_are_ok) [
  | inl e ↦ (0, touches_all p 0 e (omega arith))
  | inr h ↦ (p.a, touches_first p h.0)
]

pub shares_at : (p q : Posting) (k : ℕ) → touches p k ≡ true → touches q k ≡ true → shares p q ≡ true
unfolding shares
shares_at p q k t u =
    any_from (λ account. touches p account && touches q account) accounts k (touches_account p k t) (and_intro (touches p k) (touches q k) t u)

pub shares_account : (p q : Posting) → shares p q ≡ true → (k : ℕ) × (touches p k ≡ true) × (touches q k ≡ true)
unfolding shares
shares_account p q t =
    let (k, h, both) = any_at (λ account. touches p account && touches q account) accounts t in
    (k, and_left (touches p k) (touches q k) both, and_right (touches p k) (touches q k) both)

-- as the code tests it, of a posting that does not net every account
pub shares_fields : (p q : Posting) → nets_all p ≡ false → shares p q ≡ (touches q p.a || touches q p.b)
shares_fields p q named = both_ways (shares p q) (touches q p.a || touches q p.b) there back
  where
    there : shares p q ≡ true → (touches q p.a || touches q p.b) ≡ true
    there t =
        let (k, u, v) = shares_account p q t in
        elim (touches_cases p k named u) [
          | inl e ↦ or_left (touches q p.a) (touches q p.b) (ap (touches q) (sym e) ∙ v)
          | inr e ↦ or_right (touches q p.a) (touches q p.b) (ap (touches q) (sym e) ∙ v)
        ]

    back : (touches q p.a || touches q p.b) ≡ true → shares p q ≡ true
    back t = elim (or_cases (touches q p.a) (touches q p.b) t) [
      | inl u ↦ shares_at p q p.a (touches_first p (touches_account q p.a u)) u
      | inr u ↦ shares_at p q p.b (touches_second p (touches_account q p.b u)) u
    ]

-- and of one that does: whether the other touches any
touches_some_lem : (q : Posting) (k : ℕ) → touches q k ≡ true → touches_some q ≡ true
unfolding touches_some
touches_some_lem q k t = elim (test (nets_all q)) [
  | inl e ↦ rw e
  | inr e ↦ rw e (elim (touches_cases q k e t) [
    | inl a ↦ or_left (ltb q.a accounts) (ltb q.b accounts) (lt-ltb q.a accounts (omega (arith, touches_account q k t, a)))
    | inr b ↦ or_right (ltb q.a accounts) (ltb q.b accounts) (lt-ltb q.b accounts (omega (arith, touches_account q k t, b)))
  ])
]

some_touches : (q : Posting) → touches_some q ≡ true → (k : ℕ) × (touches q k ≡ true)
unfolding touches_some
some_touches q t = elim (or_cases (nets_all q) (ltb q.a accounts || ltb q.b accounts) t) [
  | inl e ↦ (0, touches_all q 0 e (omega arith))
  | inr h ↦ elim (or_cases (ltb q.a accounts) (ltb q.b accounts) h) [
    | inl a ↦ (q.a, touches_first q (ltb-true q.a accounts a))
    | inr b ↦ (q.b, touches_second q (ltb-true q.b accounts b))
  ]
]

pub shares_all : (p q : Posting) → nets_all p ≡ true → shares p q ≡ touches_some q
shares_all p q e =
    both_ways (shares p q) (touches_some q)
    (λ t. let (k, u, v) = shares_account p q t in touches_some_lem q k v)
    (λ t. let (k, v) = some_touches q t in shares_at p q k (touches_all p k e (touches_account q k v)) v)

-- a NET of every account shares an account with every posting
pub net_all_shares : (p q : Posting) → nets_all p ≡ true → fields_ok q ≡ true → shares p q ≡ true
net_all_shares p q e t = let (k, v) = fields_touch q t in shares_at p q k (touches_all p k e (touches_account q k v)) v

pub shares_turned : (p q : Posting) → shares p q ≡ shares q p
shares_turned p q = both_ways (shares p q) (shares q p) (turn p q) (turn q p)
  where
    turn : (p q : Posting) → shares p q ≡ true → shares q p ≡ true
    turn p q t = let (k, u, v) = shares_account p q t in shares_at q p k v u

-- ---- conflicts

eqb_turned : (m x : ℕ) → eqb m x ≡ eqb x m
eqb_turned m x = elim (ℕ_discrete m x) [
  | yes e ↦ eq-eqb m x e ∙ sym (eq-eqb x m (sym e))
  | no d ↦ ne_eqb m x d ∙ sym (ne_eqb x m (λ e. d (sym e)))
]

pub conflict_turned : (matrix : ℕ) → symmetric matrix ≡ true → (t : Table) (m x : ℕ) → conflict matrix t m x ≡ conflict matrix t x m
unfolding conflict conflicting
conflict_turned matrix s t m x =
    rw (eqb_turned m x, shares_turned (row t m) (row t x), symmetric_at matrix s (row t m).kind (row t x).kind)

pub conflict_itself : (matrix : ℕ) (t : Table) (m : ℕ) → conflict matrix t m m ≡ false
unfolding conflict conflicting
conflict_itself matrix t m = rw (eq-eqb m m refl)

-- ---- C(m)

module _ (matrix : ℕ) (t : Table) (m : ℕ) where
  -- what is collected besides m
  abbrev others : ℕ → Bool
  others x = offered t x && conflict matrix t m x

  pub conflict_set_shape : Shape (conflict_set matrix t m)
  unfolding conflict_set
  conflict_set_shape = insert_shape (collect words others capacity) m (collect_shape words others capacity)

  -- of numbers below the capacity: m, and what is offered and conflicts with m
  pub has_conflict_set : (x : ℕ) → x < capacity → has (conflict_set matrix t m) x ≡ (offered t x && conflict matrix t m x || eqb x m)
  unfolding conflict_set
  has_conflict_set x h = elim (dec_lt m capacity) [ yes l ↦ inside l | no l ↦ outside (omega arith) ]
    where
      long : 64 * length (collect words others capacity) ≡ capacity
      long = omega (arith, (collect_shape words others capacity).long)

      found : member (collect words others capacity) x ≡ others x
      found = member_collect words others capacity x (omega arith) ∙ ap (λ (b : Bool). b && others x) (lt-ltb x capacity h)

      inside : m < capacity → member (insert (collect words others capacity) m) x ≡ (others x || eqb x m)
      inside l = member_insert (collect words others capacity) m x (omega (arith, long)) ∙ ap (λ (b : Bool). b || eqb x m) found

      outside : capacity ≤ m → member (insert (collect words others capacity) m) x ≡ (others x || eqb x m)
      outside l =
          ap (λ (ws : List ℕ). member ws x) (insert_past (collect words others capacity) m (omega (arith, long)))
          ∙ found ∙ rw (ne_eqb x m (omega arith)) (sym (or-false (others x)))
