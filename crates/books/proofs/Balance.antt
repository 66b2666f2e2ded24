-- Positions plus settled sums over all accounts: no posting within the field rule changes their total.
-- Rests on Effects. Assumes nothing.
use mathlib.Core.Path.{◌≡◌, refl, sym, ap, ap₂, ◌∙◌}
use mathlib.Core.Logic.{inl, inr}
use mathlib.Core.Bool.{true, cond}
use Prim.Native.Nat.{ℕ, zero, suc, ◌<◌, ◌≤◌}
use native.Mathlib.Decide.{ℕ_discrete}
use native.Mathlib.Omega.{arith}
use lib.Dec.{eqb}
use lib.IntN.{ℤ, pos, neg_ℤ, ◌+ℤ◌, ◌-ℤ◌, +ℤ_comm, +ℤ_idl, +ℤ_idr, +ℤ_invr}
use borrow.Author.Tests.{eq-eqb, ne_eqb}
use Rattle.sets.proofs.Truth.{test}
use Rattle.posting.specs.declared.Posting.{Posting}
use Rattle.posting.specs.Kinds.{trade, accounts}
use Rattle.posting.proofs.KindLaws.{Fields, row_trade, named_accounts, trade_names}
use Rattle.posting.specs.Conflicts.{touches}
use Rattle.posting.proofs.ConflictLaws.{touches_first, touches_second}
use Rattle.books.specs.declared.Figures.{Figures}
use Rattle.books.specs.Effect.{change, effect}
use Rattle.books.specs.Books.{Books, post, total_to, total}
use Rattle.books.proofs.Effects.{no_kind, effect_touched, effect_untouched, touches_neither}
use Rattle.books.proofs.Signed.{sum_swap, sum_regroup}

-- ---- sums

-- d 0 to d (n - 1), added up
sum : (ℕ → ℤ) → ℕ → ℤ
sum d zero = pos 0
sum d (suc n) = sum d n +ℤ d n

sum_both : (d e : ℕ → ℤ) (n : ℕ) → sum (λ k. d k +ℤ e k) n ≡ sum d n +ℤ sum e n
unfolding sum
sum_both d e zero = refl
sum_both d e (suc n) = ap (λ (z : ℤ). z +ℤ (d n +ℤ e n)) (sum_both d e n) ∙ sum_regroup (sum d n) (sum e n) (d n) (e n)

sum_zero : (n : ℕ) → sum (λ k. pos 0) n ≡ pos 0
unfolding sum
sum_zero zero = refl
sum_zero (suc n) = ap (λ (z : ℤ). z +ℤ pos 0) (sum_zero n)

-- z at a, 0 elsewhere
only : ℕ → ℤ → ℕ → ℤ
only a z k = cond (eqb k a) z (pos 0)

sum_before : (a : ℕ) (z : ℤ) (n : ℕ) → n ≤ a → sum (only a z) n ≡ pos 0
unfolding sum only
sum_before a z zero h = refl
sum_before a z (suc n) h = rw (sum_before a z n (omega arith), ne_eqb n a (omega arith))

sum_only : (a : ℕ) (z : ℤ) (n : ℕ) → a < n → sum (only a z) n ≡ z
unfolding sum only
sum_only a z zero h = absurd (omega arith)
sum_only a z (suc n) h = elim (ℕ_discrete n a) [
  | yes e ↦ rw (sum_before a z n (omega arith), eq-eqb n a e) (+ℤ_idl z)
  | no ne ↦ rw (sum_only a z n (omega arith), ne_eqb n a ne) (+ℤ_idr z)
]

-- ---- one posting

worth : Figures → ℤ
worth s = s.position +ℤ s.settled

-- what each account is worth is moved by d
total_moved : (s t : Books) (d : ℕ → ℤ) (n : ℕ) → ((k : ℕ) → k < n → worth (t k) ≡ worth (s k) +ℤ d k)
    → total_to n t ≡ total_to n s +ℤ sum d n
unfolding total_to sum worth
total_moved s t d zero h = refl
total_moved s t d (suc n) h =
    ap₂ ◌+ℤ◌ (total_moved s t d n (λ k l. h k (omega arith))) (h n (omega arith))
    ∙ sum_regroup (total_to n s) (sum d n) (worth (s n)) (d n)

-- RATE, CALL and NET move nothing
still : (kind : ℕ) → (kind ≡ trade → ⊥) → (p : Posting) (k : ℕ) (s : Figures) → worth (change kind p k s) ≡ worth s
unfolding worth change
still zero h p k s = absurd (h refl)
still (suc zero) h p k s = refl
still (suc (suc zero)) h p k s = refl
still (suc (suc (suc zero))) h p k s = +ℤ_idl (s.settled +ℤ s.position) ∙ +ℤ_comm s.settled s.position
still (suc (suc (suc (suc m)))) h p k s = ap worth (no_kind (suc (suc (suc (suc m)))) (omega arith) p k s)

effect_still : (p : Posting) (k : ℕ) (s : Figures) → (p.kind ≡ trade → ⊥) → worth (effect p k s) ≡ worth s
effect_still p k s h = elim (test (touches p k)) [
  | inl t ↦ ap worth (effect_touched p k s t) ∙ still p.kind h p k s
  | inr t ↦ ap worth (effect_untouched p k s t)
]

-- TRADE moves the amount to a, and from b
module _ (p : Posting) (f : Fields p) (is : p.kind ≡ trade) where
  abbrev amount : ℤ
  amount = pos p.amount

  named : (p.a < accounts) × (p.b < accounts)
  named = named_accounts p.kind p.a p.b f.accounts_are_ok (trade_names p is)

  gain : ℕ → ℤ
  gain k = only p.a amount k +ℤ only p.b (neg_ℤ amount) k

  apart : p.a ≡ p.b → ⊥
  apart = (row_trade p.kind p.a p.b p.amount f.within is).0

  traded : (k : ℕ) (s : Figures) → touches p k ≡ true
      → worth (effect p k s) ≡ cond (eqb k p.a) (s.position +ℤ amount) (s.position -ℤ amount) +ℤ s.settled
  unfolding worth change
  traded k s t = ap worth (effect_touched p k s t) ∙ rw is

  effect_gain : (k : ℕ) (s : Figures) → worth (effect p k s) ≡ worth s +ℤ gain k
  unfolding worth gain only
  effect_gain k s = elim (ℕ_discrete k p.a) [
    | yes e ↦
        let nb : k ≡ p.b → ⊥ = λ b. apart (sym e ∙ b) in
        traded k s (ap (touches p) e ∙ touches_first p named.0)
        ∙ rw (eq-eqb k p.a e, ne_eqb k p.b nb)
        (sum_swap s.position amount s.settled ∙ ap (λ (z : ℤ). worth s +ℤ z) (sym (+ℤ_idr amount)))
    | no na ↦ elim (ℕ_discrete k p.b) [
      | yes e ↦
          traded k s (ap (touches p) e ∙ touches_second p named.1)
          ∙ rw (ne_eqb k p.a na, eq-eqb k p.b e)
          (sum_swap s.position (neg_ℤ amount) s.settled ∙ ap (λ (z : ℤ). worth s +ℤ z) (sym (+ℤ_idl (neg_ℤ amount))))
      | no nb ↦
          ap worth (effect_untouched p k s (touches_neither p k (trade_names p is) na nb))
          ∙ rw (ne_eqb k p.a na, ne_eqb k p.b nb) (sym (+ℤ_idr (worth s)))
    ]
  ]

  gains_cancel : sum gain accounts ≡ pos 0
  unfolding gain
  gains_cancel =
      sum_both (only p.a amount) (only p.b (neg_ℤ amount)) accounts
      ∙ ap₂ ◌+ℤ◌ (sum_only p.a amount accounts named.0) (sum_only p.b (neg_ℤ amount) accounts named.1)
      ∙ +ℤ_invr amount

-- no posting within the field rule changes the total
pub total_post : (p : Posting) → Fields p → (s : Books) → total (post p s) ≡ total s
total_post p f s = elim (ℕ_discrete p.kind trade) [
  | yes e ↦ moved (gain p f e) (gains_cancel p f e) (λ k. effect_gain p f e k (s k))
  | no ne ↦ moved (λ k. pos 0) (sum_zero accounts) (λ k. effect_still p k (s k) ne ∙ sym (+ℤ_idr (worth (s k))))
]
  where
    moved : (d : ℕ → ℤ) → sum d accounts ≡ pos 0 → ((k : ℕ) → worth (effect p k (s k)) ≡ worth (s k) +ℤ d k)
        → total (post p s) ≡ total s
    moved d z h = total_moved s (post p s) d accounts (λ k l. h k) ∙ ap (λ (x : ℤ). total s +ℤ x) z ∙ +ℤ_idr (total s)
