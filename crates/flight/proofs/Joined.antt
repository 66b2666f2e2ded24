-- Masks joined: the join is 0 just if each is.
-- Rests on nothing of the repository. Assumes nothing.
use Prim.Native.Nat.{ℕ, zero, suc}
use mathlib.Core.Path.{◌≡◌, sym, ap, ◌∙◌}
use mathlib.Core.Bool.{Bool, ◌&&◌, and_assoc}
use native.Mathlib.Omega.{arith}
use lib.Dec.{eqb}
use lib.Bits.{bit_or, or_zero_l, or_add_and, and_le_r}
use borrow.Author.Tests.{ne_eqb}

pub none_joined : (a b : ℕ) → eqb (bit_or a b) 0 ≡ (eqb a 0 && eqb b 0)
none_joined zero b = ap (λ (x : ℕ). eqb x 0) (or_zero_l b)
none_joined (suc a) b = ne_eqb (bit_or (suc a) b) 0 (λ e. omega (arith, e, or_add_and (suc a) b, and_le_r (suc a) b)) ∙ sym (rw (ne_eqb (suc a) 0 (λ e. omega (arith, e))))

-- one mask more
pub none_more : (a b : ℕ) (rest : Bool) → (eqb a 0 && (eqb b 0 && rest)) ≡ (eqb (bit_or a b) 0 && rest)
none_more a b rest = sym (and_assoc (eqb a 0) (eqb b 0) rest) ∙ rw (none_joined a b)
