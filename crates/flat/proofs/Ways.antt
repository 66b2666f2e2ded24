-- The ways out of an event: refused with the arrays as they were, or done; and what follows an event that was not refused.
-- Rests on Flat. Assumes nothing.
use Prim.Native.Nat.{ℕ}
use mathlib.Core.Path.{◌≡◌, sym, ap, ◌∙◌}
use mathlib.Core.Logic.{◌≢◌}
use borrow.Author.Tests.{eq-eqb, ne_eqb}
use Rattle.arrays.specs.declared.Arrays.{Arrays}
use Rattle.flat.specs.Flat.{Flat, flat, refused_or, followed}

module _ (why cause : ℕ) (is : why ≡ cause) (a : Arrays) (rest : Flat) where
  pub is_refused : why ≢ 0 → flat why a ≡ refused_or cause a rest
  is_refused d = rw (sym is, ne_eqb why 0 d)

  pub goes_on : why ≡ 0 → rest ≡ refused_or cause a rest
  goes_on z = rw (sym is, eq-eqb why 0 z)

-- what follows an event with this answer and these arrays
module _ (why : ℕ) (a : Arrays) (d : Flat) (is : flat why a ≡ d) (next : Arrays → Arrays) where
  pub not_followed : why ≢ 0 → flat why a ≡ followed d next
  not_followed n =
      ap (λ (x : Flat). flat why x.arrays) is
      ∙ is_refused why d.answer (ap (λ (x : Flat). x.answer) is) d.arrays (flat 0 (next d.arrays)) n

  pub is_followed : why ≡ 0 → flat 0 (next a) ≡ followed d next
  is_followed z =
      ap (λ (x : Flat). flat 0 (next x.arrays)) is
      ∙ goes_on why d.answer (ap (λ (x : Flat). x.answer) is) d.arrays (flat 0 (next d.arrays)) z
