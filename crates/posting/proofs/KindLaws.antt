-- Laws of kinds, fields and matrix: what the field rule says of each field, a table of kind pairs read entry by entry,
-- and what a symmetric matrix and one with the fixed pairs say of each pair. Rests on Kinds. Assumes nothing.
use Prim.Native.Nat.{ℕ, ◌+◌, ◌*◌, ◌/◌, ◌%◌, ◌<◌, ◌≤◌}
use mathlib.Core.Path.{◌≡◌, refl, sym, ap₂, ◌∙◌}
use mathlib.Core.Logic.{◌⊎◌, inl, inr}
use mathlib.Core.Bool.{Bool, true, false, cond, not, ◌&&◌, beq}
use native.Mathlib.Omega.{arith}
use native.Mathlib.Decide.{dec_lt}
use lib.Dec.{eqb, ltb, leb}
use borrow.Author.Tests.{eq-eqb, ne_eqb, eqb-true, eqb-false, ltb-true, leb-true}
use Rattle.sets.proofs.Truth.{never, both_ways, and_left, and_right, or_cases, not_flips}
use Rattle.sets.specs.Below.{all_below}
use Rattle.sets.proofs.BelowLaws.{all_at, all_from}
use Rattle.sets.specs.Masks.{has_bit}
use Rattle.posting.specs.declared.Posting.{Posting}
use Rattle.posting.specs.Kinds.{trade, rate, call, net, kinds, accounts, every_account, net_of_all, nets_all, accounts_ok, in_row, fields_ok, matrix_entry, all_pairs, turned_alike, symmetric, fixed_pairs, fixed_pair, pair_ok, has_fixed_pairs}

-- ---- fields

-- two accounts are for TRADE alone
pub row_one_account : (kind a b amount : ℕ) → (kind ≡ trade → ⊥) → (b ≡ a → ⊥) → in_row kind a b amount ≡ false
unfolding in_row
row_one_account kind a b amount k d = rw (ne_eqb kind trade k, ne_eqb b a d) (go (eqb kind rate) (eqb kind call) (eqb kind net))
  where
    go : (x y z : Bool) → cond x false (cond y false (cond z false false)) ≡ false
    go true y z = refl
    go false true z = refl
    go false false true = refl
    go false false false = refl

-- what the field rule says of a posting
pub record Fields (p : Posting) : Type 0 where
  pub accounts_are_ok : accounts_ok p.kind p.a p.b ≡ true
  pub within : in_row p.kind p.a p.b p.amount ≡ true

pub fields : (p : Posting) → fields_ok p ≡ true → Fields p
unfolding fields_ok
fields p t =
    let first = accounts_ok p.kind p.a p.b in
    let row = in_row p.kind p.a p.b p.amount in
    record { accounts_are_ok = and_left first row t; within = and_right first row t }

-- the accounts that may stand: 255 of a NET, or two accounts
pub accounts_cases : (kind a b : ℕ) → accounts_ok kind a b ≡ true → (net_of_all kind a b ≡ true) ⊎ ((a < accounts) × (b < accounts))
unfolding accounts_ok
accounts_cases kind a b t = elim (or_cases (net_of_all kind a b) (ltb a accounts && ltb b accounts) t) [
  | inl e ↦ inl e
  | inr e ↦ inr (ltb-true a accounts (and_left (ltb a accounts) (ltb b accounts) e), ltb-true b accounts (and_right (ltb a accounts) (ltb b accounts) e))
]

-- two accounts, where not every account is netted
pub named_accounts : (kind a b : ℕ) → accounts_ok kind a b ≡ true → net_of_all kind a b ≡ false → (a < accounts) × (b < accounts)
named_accounts kind a b t e = elim (accounts_cases kind a b t) [ inl u ↦ absurd (never u e) | inr h ↦ h ]

-- what nets every account is a NET; a TRADE does not
pub nets_all_net : (p : Posting) → nets_all p ≡ true → p.kind ≡ net
unfolding net_of_all
nets_all_net p t = eqb-true p.kind net (and_left (eqb p.kind net) (eqb p.a every_account && eqb p.b every_account) t)

pub trade_names : (p : Posting) → p.kind ≡ trade → nets_all p ≡ false
unfolding net_of_all
trade_names p k = rw k

module _ (kind a b amount : ℕ) (t : in_row kind a b amount ≡ true) where
  pub row_trade : kind ≡ trade → (a ≡ b → ⊥) × (1 ≤ amount) × (amount ≤ 1_000_000_000)
  unfolding in_row
  row_trade k =
      let u : (not (eqb a b) && (leb 1 amount && leb amount 1_000_000_000)) ≡ true = rw (eq-eqb kind trade k) at t in
      let v : (leb 1 amount && leb amount 1_000_000_000) ≡ true = and_right (not (eqb a b)) (leb 1 amount && leb amount 1_000_000_000) u in (
        eqb-false a b (not_flips (eqb a b) (and_left (not (eqb a b)) (leb 1 amount && leb amount 1_000_000_000) u)),
        leb-true 1 amount (and_left (leb 1 amount) (leb amount 1_000_000_000) v),
        leb-true amount 1_000_000_000 (and_right (leb 1 amount) (leb amount 1_000_000_000) v),
      )

  pub row_rate : kind ≡ rate → amount ≤ 10_000
  unfolding in_row
  row_rate k =
      let u : (eqb b a && leb amount 10_000) ≡ true = rw k at t in
      leb-true amount 10_000 (and_right (eqb b a) (leb amount 10_000) u)

  -- CALL and NET
  pub row_rest : rate < kind → amount ≡ 0
  unfolding in_row
  row_rest k = eqb-true amount 0 (and_right (eqb b a) (eqb amount 0) (go (eqb kind call) (eqb kind net) (eqb b a && eqb amount 0) left))
    where
      left : cond (eqb kind call) (eqb b a && eqb amount 0) (cond (eqb kind net) (eqb b a && eqb amount 0) false) ≡ true
      left = rw (ne_eqb kind trade (omega arith), ne_eqb kind rate (omega arith)) at t

      go : (x y so : Bool) → cond x so (cond y so false) ≡ true → so ≡ true
      go true y so e = e
      go false true so e = e
      go false false so e = absurd (never e refl)

  pub row_kind : kind < kinds
  unfolding in_row
  row_kind = elim (dec_lt kind kinds) [
    | yes h ↦ h
    | no h ↦ absurd (never t (rw (
      ne_eqb kind trade (omega arith),
      ne_eqb kind rate (omega arith),
      ne_eqb kind call (omega arith),
      ne_eqb kind net (omega arith),
    )))
  ]

-- ---- pairs of kinds

-- the pairs read entry by entry: entry n of a 4 by 4 table stands in row n / 4, column n % 4
pub pairs_entries : (p : ℕ → ℕ → Bool) → all_pairs p ≡ all_below (λ n. p (n / 4) (n % 4)) 16
unfolding all_pairs
pairs_entries p =
    both_ways (all_pairs p) (all_below (λ n. p (n / 4) (n % 4)) 16)
    (λ t. all_from (λ n. p (n / 4) (n % 4)) 16
    (λ n h. all_at (p (n / 4)) 4 (n % 4) (all_at (λ i. all_below (p i) 4) 4 (n / 4) t (omega arith)) (omega arith)))
    (λ t. all_from (λ i. all_below (p i) 4) 4 (λ i h. all_from (p i) 4 (λ j l. entry t i j h l)))
  where
    entry : all_below (λ n. p (n / 4) (n % 4)) 16 ≡ true → (i j : ℕ) → i < 4 → j < 4 → p i j ≡ true
    entry t i j h l =
        let q : (4 * i + j) / 4 ≡ i = omega arith in
        let r : (4 * i + j) % 4 ≡ j = omega arith in
        sym (ap₂ p q r) ∙ all_at (λ n. p (n / 4) (n % 4)) 16 (4 * i + j) t (omega arith)

pub pairs_at : (p : ℕ → ℕ → Bool) → all_pairs p ≡ true → (i j : ℕ) → i < kinds → j < kinds → p i j ≡ true
unfolding all_pairs
pairs_at p t i j h l = all_at (p i) kinds j (all_at (λ k. all_below (p k) kinds) kinds i t h) l

-- ---- the matrix

-- what is no kind gets no
pub entry_kinds : (matrix i j : ℕ) → matrix_entry matrix i j ≡ true → (i < kinds) × (j < kinds)
unfolding matrix_entry
entry_kinds matrix i j t =
    let rest : (ltb j kinds && has_bit matrix (4 * i + j)) ≡ true = and_right (ltb i kinds) (ltb j kinds && has_bit matrix (4 * i + j)) t in (
      ltb-true i kinds (and_left (ltb i kinds) (ltb j kinds && has_bit matrix (4 * i + j)) t),
      ltb-true j kinds (and_left (ltb j kinds) (has_bit matrix (4 * i + j)) rest),
    )

same_bool : (a b : Bool) → beq a b ≡ true → a ≡ true → b ≡ true
same_bool true true e t = refl
same_bool true false e t = e
same_bool false b e t = absurd (never t refl)

pub symmetric_at : (matrix : ℕ) → symmetric matrix ≡ true → (i j : ℕ) → matrix_entry matrix i j ≡ matrix_entry matrix j i
unfolding symmetric turned_alike
symmetric_at matrix t i j = both_ways (matrix_entry matrix i j) (matrix_entry matrix j i) (turn i j) (turn j i)
  where
    turn : (i j : ℕ) → matrix_entry matrix i j ≡ true → matrix_entry matrix j i ≡ true
    turn i j e =
        let (h, l) = entry_kinds matrix i j e in
        same_bool (matrix_entry matrix i j) (matrix_entry matrix j i) (pairs_at (turned_alike matrix) t i j h l) e

pub has_fixed_pair : (matrix : ℕ) → has_fixed_pairs matrix ≡ true → (i j : ℕ) → i < kinds → j < kinds → fixed_pair i j ≡ true → matrix_entry matrix i j ≡ true
unfolding has_fixed_pairs pair_ok
has_fixed_pair matrix t i j h l f = elim (or_cases (not (fixed_pair i j)) (matrix_entry matrix i j) (pairs_at (pair_ok matrix) t i j h l)) [
  | inl n ↦ absurd (never f (not_flips (fixed_pair i j) n))
  | inr e ↦ e
]

-- the fixed pairs alone are 0x5B6C
pub fixed_alone : all_pairs (λ i j. beq (matrix_entry 0x5B6C i j) (fixed_pair i j)) ≡ true
unfolding all_pairs all_below matrix_entry has_bit fixed_pair fixed_pairs
fixed_alone = refl
