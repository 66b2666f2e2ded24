-- Figures stay small: a bound after n postings, and room for one more while n is at most the capacity, for any capacity up to 10,000.
-- Rests on Effect, Bounds, Effects and Signed, on posting. Assumes nothing.
use mathlib.Core.Path.{◌≡◌, refl}
use mathlib.Core.Bool.{Bool, true, false, cond}
use Prim.Native.Nat.{ℕ, zero, suc, ◌+◌, ◌*◌, ◌≤◌}
use native.Mathlib.Nat.{mul-le-mul, mul-le-mul_left}
use native.Mathlib.Omega.{arith}
use lib.IntN.{ℤ, pos, negsuc, nat_abs, ◌+ℤ◌, ◌-ℤ◌}
use lib.Dec.{eqb}
use Rattle.posting.specs.declared.Posting.{Posting}
use Rattle.posting.specs.Kinds.{trade, rate}
use Rattle.posting.proofs.KindLaws.{Fields, row_trade, row_rate}
use Rattle.posting.specs.Conflicts.{touches}
use Rattle.books.specs.declared.Figures.{Figures}
use Rattle.books.specs.Effect.{size_of_call, on_trade, on_rate, on_call, on_net, change, effect}
use Rattle.books.specs.Bounds.{reach, After, Room}
use Rattle.books.proofs.Effects.{no_kind, call_below_zero, call_at_zero, call_above_zero}
use Rattle.books.proofs.Signed.{size_sum, size_difference}

-- ---- one posting

-- a call is at most the position's size
pub call_size : (p r : ℤ) → nat_abs r ≤ 10_000 → size_of_call p r ≤ nat_abs p
call_size (negsuc n) r h = omega (arith, call_below_zero n r)
call_size (pos zero) r h = omega (arith, call_at_zero r)
call_size (pos (suc n)) r h = omega (arith, call_above_zero n r, mul-le-mul_left (suc n) h)

grow : (n : ℕ) → suc n * reach n + reach n ≤ suc (suc n) * reach (suc n)
grow n = let h : reach n ≤ reach (suc n) = omega arith in omega (arith, mul-le-mul_left (suc (suc n)) h)

module _ (n : ℕ) (s : Figures) (h : After n s) where
  trade_after : (p : Posting) (k : ℕ) → p.amount ≤ 1_000_000_000 → After (suc n) (on_trade p k s)
  trade_after p k small = record { position = moved (eqb k p.a); rate = h.rate; called = omega (arith, grow n); settled = omega (arith, grow n) }
    where
      moved : (t : Bool) → nat_abs (cond t (s.position +ℤ pos p.amount) (s.position -ℤ pos p.amount)) ≤ reach (suc n)
      moved true = omega (arith, size_sum s.position (pos p.amount))
      moved false = omega (arith, size_difference s.position (pos p.amount))

  rate_after : (amount : ℕ) → amount ≤ 10_000 → After (suc n) (on_rate amount s)
  rate_after amount small = record { position = omega arith; rate = small; called = omega (arith, grow n); settled = omega (arith, grow n) }

  call_after : After (suc n) (on_call s)
  call_after = record {
    position = omega arith;
    rate = h.rate;
    called = omega (arith, grow n, size_sum s.called (pos (size_of_call s.position s.rate)), call_size s.position s.rate h.rate);
    settled = omega (arith, grow n);
  }

  net_after : After (suc n) (on_net s)
  net_after = record { position = omega arith; rate = h.rate; called = omega (arith, grow n); settled = omega (arith, grow n, size_sum s.settled s.position) }

  later : After (suc n) s
  later = record { position = omega arith; rate = h.rate; called = omega (arith, grow n); settled = omega (arith, grow n) }

  change_after : (kind : ℕ) (p : Posting) (k : ℕ) → (kind ≡ trade → p.amount ≤ 1_000_000_000) → (kind ≡ rate → p.amount ≤ 10_000)
      → After (suc n) (change kind p k s)
  unfolding change
  change_after zero p k small low = trade_after p k (small refl)
  change_after (suc zero) p k small low = rate_after p.amount (low refl)
  change_after (suc (suc zero)) p k small low = call_after
  change_after (suc (suc (suc zero))) p k small low = net_after
  change_after (suc (suc (suc (suc m)))) p k small low = rw (no_kind (suc (suc (suc (suc m)))) (omega arith) p k s) later

  pub effect_after : (p : Posting) (k : ℕ) → Fields p → After (suc n) (effect p k s)
  unfolding effect
  effect_after p k f = go (touches p k)
    where
      go : (t : Bool) → After (suc n) (cond t (change p.kind p k s) s)
      go true =
          let in_row = f.within in
          change_after p.kind p k
          (λ e. (row_trade p.kind p.a p.b p.amount in_row e).2)
          (row_rate p.kind p.a p.b p.amount in_row)
      go false = later

-- ---- room while the capacity lasts
pub room : (capacity n : ℕ) (s : Figures) → capacity ≤ 10_000 → n ≤ capacity → After n s → Room s
room capacity n s small within h =
    let up : suc n ≤ 10001 = omega arith in
    let far : reach n ≤ 110000000000000 = omega arith in
    record { position = omega arith; rate = h.rate; called = omega (arith, mul-le-mul up far); settled = omega (arith, mul-le-mul up far) }
