-- Figures stay small from zeros: a bound after n postings, and room for one more while n is at most 65,536.
-- Rests on Lines, on posting and books. Assumes nothing.
use mathlib.Core.Path.{◌≡◌, refl, subst}
use mathlib.Core.Bool.{Bool, true, false, cond}
use mathlib.Core.List.{List, [], ◌∷◌}
use Prim.Native.Nat.{ℕ, zero, suc, ◌+◌, ◌*◌, ◌≤◌}
use native.Mathlib.Nat.{mul-le-mul}
use native.Mathlib.Omega.{arith}
use lib.IntN.{pos, nat_abs, ◌+ℤ◌, ◌-ℤ◌}
use lib.Dec.{eqb}
use lib.ListN.{length}
use Rattle.posting.specs.declared.Posting.{Posting}
use Rattle.posting.specs.declared.Table.{Table}
use Rattle.posting.specs.Kinds.{trade, rate}
use Rattle.posting.proofs.KindLaws.{Fields, row_trade, row_rate}
use Rattle.posting.specs.Conflicts.{row, touches}
use Rattle.books.specs.declared.Figures.{Figures}
use Rattle.books.specs.Effect.{size_of_call, on_trade, on_rate, on_call, on_net, change, effect}
use Rattle.books.specs.Books.{Books, blank, post, books}
use Rattle.books.specs.Bounds.{Room}
use Rattle.books.proofs.Effects.{no_kind}
use Rattle.books.proofs.Bounds.{call_size}
use Rattle.books.proofs.Lines.{Lawful}
use Rattle.books.proofs.Signed.{size_sum, size_difference}
use Rattle.audit_books.specs.Lines.{Grown}
use Rattle.audit_books.specs.Figures.{most_lines}

-- ---- one posting

-- twice a position more than before
square : (n : ℕ) → n * n * 1_000_000_000 + 2 * (n * 1_000_000_000) ≤ suc n * suc n * 1_000_000_000
square n = omega arith

module _ (n : ℕ) (s : Figures) (h : Grown n s) where
  later : Grown (suc n) s
  later = record { position = omega arith; rate = h.rate; called = omega (arith, square n); settled = omega (arith, square n) }

  trade_grown : (p : Posting) (k : ℕ) → p.amount ≤ 1_000_000_000 → Grown (suc n) (on_trade p k s)
  trade_grown p k small = record { position = moved (eqb k p.a); rate = h.rate; called = later.called; settled = later.settled }
    where
      moved : (t : Bool) → nat_abs (cond t (s.position +ℤ pos p.amount) (s.position -ℤ pos p.amount)) ≤ suc n * 1_000_000_000
      moved true = omega (arith, size_sum s.position (pos p.amount))
      moved false = omega (arith, size_difference s.position (pos p.amount))

  rate_grown : (amount : ℕ) → amount ≤ 10_000 → Grown (suc n) (on_rate amount s)
  rate_grown amount small = record { position = later.position; rate = small; called = later.called; settled = later.settled }

  call_grown : Grown (suc n) (on_call s)
  call_grown = record {
    position = later.position;
    rate = h.rate;
    called = omega (arith, square n, size_sum s.called (pos (size_of_call s.position s.rate)), call_size s.position s.rate h.rate);
    settled = later.settled;
  }

  net_grown : Grown (suc n) (on_net s)
  net_grown = record {
    position = omega arith;
    rate = h.rate;
    called = later.called;
    settled = omega (arith, square n, size_sum s.settled s.position);
  }

  change_grown : (kind : ℕ) (p : Posting) (k : ℕ) → (kind ≡ trade → p.amount ≤ 1_000_000_000) → (kind ≡ rate → p.amount ≤ 10_000)
      → Grown (suc n) (change kind p k s)
  unfolding change
  change_grown zero p k small low = trade_grown p k (small refl)
  change_grown (suc zero) p k small low = rate_grown p.amount (low refl)
  change_grown (suc (suc zero)) p k small low = call_grown
  change_grown (suc (suc (suc zero))) p k small low = net_grown
  change_grown (suc (suc (suc (suc m)))) p k small low = rw (no_kind (suc (suc (suc (suc m)))) (omega arith) p k s) later

  effect_grown : (p : Posting) (k : ℕ) → Fields p → Grown (suc n) (effect p k s)
  unfolding effect
  effect_grown p k f = go (touches p k)
    where
      go : (t : Bool) → Grown (suc n) (cond t (change p.kind p k s) s)
      go true =
          let in_row = f.within in
          change_grown p.kind p k
          (λ e. (row_trade p.kind p.a p.b p.amount in_row e).2)
          (row_rate p.kind p.a p.b p.amount in_row)
      go false = later

-- ---- after every line

pub blank_grown : (k : ℕ) → Grown 0 (blank k)
blank_grown k = record { position = omega arith; rate = omega arith; called = omega arith; settled = omega arith }

pub books_grown : (table : Table) (l : List ℕ) → Lawful table l → (n : ℕ) (s : Books) (k : ℕ) → Grown n (s k)
    → Grown (n + length l) (books s table l k)
unfolding books
books_grown table [] ok n s k h = subst (λ (m : ℕ). Grown m (s k)) (omega arith) h
books_grown table (m ∷ l) ok n s k h =
    subst (λ (j : ℕ). Grown j (books (post (row table m) s) table l k)) (omega arith)
    (books_grown table l (λ i b. ok (suc i) (omega arith)) (suc n) (post (row table m) s) k
    (effect_grown n (s k) h (row table m) k (ok 0 (omega arith))))

-- ---- room while the lines last
pub room : (n : ℕ) (s : Figures) → n ≤ most_lines → Grown n s → Room s
room n s h g = record {
  position = omega arith;
  rate = g.rate;
  called = omega (arith, mul-le-mul h h);
  settled = omega (arith, mul-le-mul h h);
}
