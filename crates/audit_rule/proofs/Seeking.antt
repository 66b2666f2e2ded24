-- The search for the lowest number of a test, number by number, as a loop does it.
-- Rests on Audit. Assumes nothing.
use Prim.Native.Nat.{ℕ, zero, suc, ◌+◌, ◌-◌, ◌<◌, ◌≤◌}
use mathlib.Core.Path.{◌≡◌, refl, sym}
use mathlib.Core.Bool.{Bool, true, false}
use Rattle.std.specs.Prelude.{Some, None}
use borrow.Author.Tests.{lt-ltb, le-ltb}
use native.Mathlib.Omega.{arith}
use native.Mathlib.Numerals.{add-one}
use Rattle.audit_rule.specs.Audit.{lowest_from, lowest}
use Rattle.audit_rule.specs.Searches.{lowest_below}

-- tests that agree below n have the same lowest number
pub lowest_alike : (q r : ℕ → Bool) (k left : ℕ) → ((i : ℕ) → i < k + left → q i ≡ r i) → lowest_from q k left ≡ lowest_from r k left
lowest_alike q r k zero h = refl
lowest_alike q r k (suc left) h =
    let next = lowest_alike q r (suc k) left (λ i l. h i (omega (arith, l))) in
    let here = h k (omega arith) in
    rw (here, next)

-- no number below p passes: the answer is what is left to search
pub record Seeking (q : ℕ → Bool) (n p : ℕ) : Type 0 where
  pub left : lowest_from q p (n - p) ≡ lowest q n

pub seek_start : {q : ℕ → Bool} {n : ℕ} → Seeking q n 0
seek_start {q} {n} = record { left = let e : n - 0 ≡ n = omega arith in rw e }

module _ {q : ℕ → Bool} {n p : ℕ} (s : Seeking q n p) where
  one_more : p < n → n - p ≡ suc (n - suc p)
  one_more h = omega (arith, h)

  pub seek_here : p < n → q p ≡ true → p ≡ lowest q n
  seek_here h t = rw (one_more h, t) at s.left

  pub seek_next : p < n → q p ≡ false → Seeking q n (p + 1)
  seek_next h f = record { left = rw (add-one p) (rw (one_more h, f) at s.left) }

  pub seek_end : n ≤ p → p ≡ lowest q n
  seek_end h = let e : n - p ≡ 0 = omega (arith, h) in rw e at s.left

  -- the same, as a search answers it
  pub seek_some : p < n → q p ≡ true → Some p ≡ lowest_below q n
  seek_some h t = let e = seek_here h t in rw (sym e, lt-ltb p n h)

  pub seek_none : n ≤ p → None ≡ lowest_below q n
  seek_none h = let e = seek_end h in rw (sym e, le-ltb p n h)
