-- The commuting rule, over all entries of the table of kind pairs: where the table says no, two postings may be posted in either order
-- from any figures; where it says yes, there are figures for which the order matters. So the table is exactly the pairs that don't commute.
-- Rests on Effects. Assumes nothing.
use mathlib.Core.Path.{◌≡◌, refl, ap, fun_ext}
use mathlib.Core.Logic.{◌⊎◌, inl, inr}
use mathlib.Core.Bool.{Bool, true, false, cond, not, ◌&&◌, ◌||◌, beq}
use Prim.Native.Nat.{ℕ, zero, suc, ◌+◌, ◌<◌, ◌≤◌}
use native.Mathlib.Decide.{dec_lt}
use native.Mathlib.Omega.{arith}
use lib.Dec.{eqb}
use lib.IntN.{ℤ, pos, nat_abs, neg_ℤ, ◌+ℤ◌, ◌-ℤ◌}
use borrow.Author.Tests.{eq-eqb}
use Rattle.sets.proofs.Truth.{test, never, and_left, and_right, not_flips}
use Rattle.sets.specs.Below.{all_below}
use Rattle.sets.proofs.BelowLaws.{all_at}
use Rattle.posting.specs.declared.Posting.{Posting}
use Rattle.posting.specs.Kinds.{trade, rate, net, kinds, every_account, net_of_all, accounts_ok, fields_ok, in_row, fixed_pair, fixed_pairs, all_pairs}
use Rattle.posting.proofs.KindLaws.{pairs_at}
use Rattle.posting.specs.Conflicts.{touches, shares}
use Rattle.posting.proofs.ConflictLaws.{shares_at}
use Rattle.books.specs.declared.Figures.{Figures}
use Rattle.books.specs.Effect.{size_of_call, change, effect}
use Rattle.books.specs.Books.{Books, post}
use Rattle.books.proofs.Effects.{no_kind, effect_touched, effect_untouched}
use Rattle.books.proofs.Signed.{sum_swap}

-- ---- no: the kinds commute

abbrev Commute : ℕ → ℕ → Type 0
Commute i j = (p q : Posting) (k : ℕ) (s : Figures) → change i p k (change j q k s) ≡ change j q k (change i p k s)

-- what an entry asks here
abbrev Rule : Bool → ℕ → ℕ → Type 0
Rule true i j = Unit {0}
Rule false i j = Commute i j

-- P of each kind
abbrev Each : (ℕ → Type 0) → Type 0
Each P = P 0 × P 1 × P 2 × P 3

each_at : (P : ℕ → Type 0) → Each P → (i : ℕ) → i < kinds → P i
each_at P e zero h = e.0
each_at P e (suc zero) h = e.1
each_at P e (suc (suc zero)) h = e.2
each_at P e (suc (suc (suc zero))) h = e.3
each_at P e (suc (suc (suc (suc i)))) h = absurd (omega arith)

-- two trades: the account is a or b of each
moves : (c d : Bool) (x m n : ℤ)
    → cond c (cond d (x +ℤ n) (x -ℤ n) +ℤ m) (cond d (x +ℤ n) (x -ℤ n) -ℤ m)
    ≡ cond d (cond c (x +ℤ m) (x -ℤ m) +ℤ n) (cond c (x +ℤ m) (x -ℤ m) -ℤ n)
moves true true x m n = sum_swap x n m
moves true false x m n = sum_swap x (neg_ℤ n) m
moves false true x m n = sum_swap x n (neg_ℤ m)
moves false false x m n = sum_swap x (neg_ℤ n) (neg_ℤ m)

trades : Commute trade trade
unfolding change
trades p q k s = λ i. record {
  position = moves (eqb k p.a) (eqb k q.a) s.position (pos p.amount) (pos q.amount) i;
  rate = s.rate;
  called = s.called;
  settled = s.settled;
}

-- the table, with a proof at each no; all but that of two trades by computing
rules : Each (λ i. Each (λ j. Rule (fixed_pair i j) i j))
unfolding change fixed_pair fixed_pairs
rules = (
  (trades, λ p q k s. refl, tt, tt),
  (λ p q k s. refl, tt, tt, λ p q k s. refl),
  (tt, tt, λ p q k s. refl, tt),
  (tt, λ p q k s. refl, tt, λ p q k s. refl),
)

change_commutes : (i j : ℕ) → fixed_pair i j ≡ false → Commute i j
change_commutes i j e p q k s = elim (dec_lt i kinds) [
  | no n ↦ let h : kinds ≤ i = omega arith in rw (no_kind i h p k s, no_kind i h p k (change j q k s))
  | yes h ↦ elim (dec_lt j kinds) [
    | no n ↦ let l : kinds ≤ j = omega arith in rw (no_kind j l q k s, no_kind j l q k (change i p k s))
    | yes l ↦ (rw e at (each_at (λ j. Rule (fixed_pair i j) i j) (each_at (λ i. Each (λ j. Rule (fixed_pair i j) i j)) rules i h) j l)) p q k s
  ]
]

-- two postings at one account: one of them does not touch it, or their kinds are no fixed pair
pub effects_commute : (p q : Posting) (k : ℕ) → (touches p k ≡ true → touches q k ≡ true → fixed_pair p.kind q.kind ≡ false)
    → (s : Figures) → effect p k (effect q k s) ≡ effect q k (effect p k s)
effects_commute p q k h s = go (test (touches p k)) (test (touches q k))
  where
    go : (touches p k ≡ true) ⊎ (touches p k ≡ false) → (touches q k ≡ true) ⊎ (touches q k ≡ false)
        → effect p k (effect q k s) ≡ effect q k (effect p k s)
    go (inr t) u = rw (effect_untouched p k s t, effect_untouched p k (effect q k s) t)
    go (inl t) (inr u) = rw (effect_untouched q k s u, effect_untouched q k (effect p k s) u)
    go (inl t) (inl u) =
        rw (effect_touched p k s t, effect_touched q k s u, effect_touched p k (change q.kind q k s) t, effect_touched q k (change p.kind p k s) u)
        (change_commutes p.kind q.kind (h t u) p q k s)

-- two postings that share no account, or whose kinds' entry says no, may be posted in either order, from any figures
pub postings_commute : (p q : Posting) → shares p q && fixed_pair p.kind q.kind ≡ false
    → (s : Books) → post p (post q s) ≡ post q (post p s)
postings_commute p q e s = fun_ext (λ k. effects_commute p q k (λ t u. rw (shares_at p q k t u) at e) (s k))

-- ---- yes: the order matters

-- a posting of a kind on account 1, within the field rule
abbrev sample : ℕ → ℕ → Posting
sample amount kind = record {
  owner = 0;
  kind = kind;
  a = 1;
  b = cond (eqb kind trade) 2 1;
  amount = cond (eqb kind trade || eqb kind rate) amount 0;
}

abbrev first : ℕ → Posting
first kind = sample 100 kind

abbrev second : ℕ → Posting
second kind = sample 200 kind

abbrev figures : Figures
figures = record { position = pos 1000; rate = pos 50; called = pos 0; settled = pos 0 }

-- figures with another sum are other figures
abbrev sum : Figures → ℕ
sum s = nat_abs s.rate + nat_abs s.called + nat_abs s.settled

abbrev one_way : ℕ → ℕ → Figures
one_way i j = effect (first i) 1 (effect (second j) 1 figures)

abbrev other_way : ℕ → ℕ → Figures
other_way i j = effect (second j) 1 (effect (first i) 1 figures)

differs : ℕ → ℕ → Bool
differs i j = not (eqb (sum (one_way i j)) (sum (other_way i j)))

-- one test over all entries: on these figures the order of two kinds matters exactly where the table says yes
entries_right : all_pairs (λ i j. beq (fixed_pair i j) (differs i j)) ≡ true
unfolding all_pairs all_below fixed_pair fixed_pairs differs effect touches net_of_all change size_of_call
entries_right = refl

-- a NET of every account in place of one of account 1
abbrev widened : Posting → Posting
widened p = cond (eqb p.kind net) (record { owner = 0; kind = net; a = every_account; b = every_account; amount = 0 }) p

differs_widened : ℕ → ℕ → Bool
differs_widened i j =
    let p = widened (first i) in
    let q = widened (second j) in
    not (eqb (sum (effect p 1 (effect q 1 figures))) (sum (effect q 1 (effect p 1 figures))))

-- and so it does where every NET is of every account
widened_entries_right : all_pairs (λ i j. beq (fixed_pair i j) (differs_widened i j)) ≡ true
unfolding all_pairs all_below fixed_pair fixed_pairs differs_widened effect touches net_of_all change size_of_call
widened_entries_right = refl

as_said : (b : Bool) → beq true b ≡ true → b ≡ true
as_said true e = refl
as_said false e = e

samples_right : all_below (λ kind. fields_ok (first kind) && fields_ok (second kind)) kinds ≡ true
unfolding all_below fields_ok accounts_ok net_of_all in_row
samples_right = refl

-- two postings of kinds i and j within the field rule, an account that both touch, and figures of it for which their order matters
pub record OrderMatters (i j : ℕ) : Type 0 where
  pub p : Posting
  pub q : Posting
  pub account : ℕ
  pub from : Figures
  pub kind_p : p.kind ≡ i
  pub kind_q : q.kind ≡ j
  pub fields_p : fields_ok p ≡ true
  pub fields_q : fields_ok q ≡ true
  pub touches_p : touches p account ≡ true
  pub touches_q : touches q account ≡ true
  pub apart : effect p account (effect q account from) ≡ effect q account (effect p account from) → ⊥

pub order_matters : (i j : ℕ) → i < kinds → j < kinds → fixed_pair i j ≡ true → OrderMatters i j
unfolding touches differs
order_matters i j h l e = record {
  p = first i;
  q = second j;
  account = 1;
  from = figures;
  kind_p = refl;
  kind_q = refl;
  fields_p = and_left (fields_ok (first i)) (fields_ok (second i)) (all_at (λ kind. fields_ok (first kind) && fields_ok (second kind)) kinds i samples_right h);
  fields_q = and_right (fields_ok (first j)) (fields_ok (second j)) (all_at (λ kind. fields_ok (first kind) && fields_ok (second kind)) kinds j samples_right l);
  touches_p = refl;
  touches_q = refl;
  apart = apart;
}
  where
    says : differs i j ≡ true
    says = as_said (differs i j) (rw e at (pairs_at (λ i j. beq (fixed_pair i j) (differs i j)) entries_right i j h l))

    apart : one_way i j ≡ other_way i j → ⊥
    apart same = never (eq-eqb (sum (one_way i j)) (sum (other_way i j)) (ap sum same)) (not_flips (eqb (sum (one_way i j)) (sum (other_way i j))) says)
