-- A number of ten-thousandths taken apart by 10,000 times powers of two, largest first.
-- Rests on Rounding and Parts. Assumes nothing.
use Rattle.std.proofs.Common.{◌≡◌, ℕ, suc, ◌+◌, ◌*◌, ◌^◌, ◌<◌, ◌≤◌, arith, le-ltb, lt-ltb}
use native.Mathlib.Decide.{dec_lt}
use Rattle.ten_thousandths.specs.declared.Part.{Part}
use Rattle.ten_thousandths.specs.Rounding.{ten_thousandths}
use Rattle.ten_thousandths.specs.Parts.{lessened}

-- 10,000 times every power from 2^k on has been tried: what is left is less than that of 2^k
pub record Tried (parts k : ℕ) (p : Part) : Type 0 where
  pub whole : 10000 * p.taken + p.rest ≡ parts
  pub small : p.rest < 10000 * 2 ^ k

pub tried_next : (parts k : ℕ) (p : Part) → Tried parts (suc k) p → Tried parts k (lessened p k)
unfolding lessened
tried_next parts k p t = elim (dec_lt p.rest (10000 * 2 ^ k)) [
  | yes h ↦ rw (lt-ltb p.rest (10000 * 2 ^ k) h) (record { whole = t.whole; small = h })
  | no h ↦
      let l : 10000 * 2 ^ k ≤ p.rest = omega arith in
      rw (le-ltb p.rest (10000 * 2 ^ k) l) (record { whole = omega (arith, t.whole); small = omega (arith, t.small) })
]

-- after the power 2^0 nothing is left, or something, which makes one more
pub tried_none : (parts : ℕ) (p : Part) → Tried parts 0 p → p.rest ≡ 0 → p.taken ≡ ten_thousandths parts
tried_none parts p t e = omega (arith, t.whole, t.small)

pub tried_more : (parts : ℕ) (p : Part) → Tried parts 0 p → (p.rest ≡ 0 → ⊥) → p.taken + 1 ≡ ten_thousandths parts
tried_more parts p t e = omega (arith, t.whole, t.small)
