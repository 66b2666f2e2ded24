-- What is in flight, block by block.
-- Rests on Cells. Assumes nothing.
use Prim.Native.Nat.{ℕ, zero, suc, ◌+◌, ◌-◌, ◌<◌, ◌≤◌}
use mathlib.Core.Path.{◌≡◌, sym, ap, ◌∙◌}
use mathlib.Core.Bool.{Bool, true, false}
use mathlib.Core.List.{List}
use native.Mathlib.Omega.{arith}
use native.Mathlib.Numerals.{add-one}
use native.Mathlib.Decide.{ℕ_discrete, dec_lt}
use lib.ListN.{get_or}
use lib.Bits.{bit_or, or_add_and, and_le_l, and_le_r}
use borrow.Author.Tests.{eq-eqb}
use Rattle.sets.specs.declared.Set.{Set}
use Rattle.sets.proofs.Truth.{never, not_so}
use Rattle.sets.specs.Below.{all_below}
use Rattle.sets.proofs.BelowLaws.{all_at, all_from}
use Rattle.posting.specs.declared.Table.{Table}
use Rattle.site.specs.Steps.{owner_of}
use Rattle.flight.specs.Flights.{cells}
use Rattle.cells.specs.Cells.{cell_sound, cell_sound_at, posting_at, block, block_sound, cells_sound, joined}

-- ---- tests of all numbers below n, part by part

-- n numbers more, from a on
all_join : (p : ℕ → Bool) (a n : ℕ) → all_below p a ≡ true → all_below (λ i. p (a + i)) n ≡ true → all_below p (a + n) ≡ true
all_join p a n u v = all_from p (a + n) (λ i h. elim (dec_lt i a) [
  | yes l ↦ all_at p a i u l
  | no l ↦
      let e : a + (i - a) ≡ i = omega arith in
      ap p (sym e) ∙ all_at (λ j. p (a + j)) n (i - a) v (omega arith)
])

all_part : (p : ℕ → Bool) (a n m : ℕ) → a + n ≤ m → all_below (λ i. p (a + i)) n ≡ false → all_below p m ≡ false
all_part p a n m h f =
    not_so (all_below p m) (λ t. never (all_from (λ i. p (a + i)) n (λ i l. all_at p m (a + i) t (omega arith))) f)

-- ---- what is in flight, block by block

-- nothing to anyone
pub cell_empty : (n count owner : ℕ) (all : Set) (carried : List ℕ) (k mask : ℕ) → mask ≡ 0 → cell_sound n count owner all carried k mask ≡ true
unfolding cell_sound
cell_empty n count owner all carried k mask e = rw (eq-eqb mask 0 e)

or_zero : (a b : ℕ) → bit_or a b ≡ 0 → (a ≡ 0) × (b ≡ 0)
or_zero a b e = (omega (arith, or_add_and a b, and_le_r a b), omega (arith, or_add_and a b, and_le_l a b))

joined_zero : (masks : List ℕ) (k n : ℕ) → joined masks k n ≡ 0 → (i : ℕ) → i < n → get_or masks (k + i) 0 ≡ 0
unfolding joined
joined_zero masks k zero e i h = absurd (omega arith)
joined_zero masks k (suc n) e i h =
    let (old, last) = or_zero (joined masks k n) (get_or masks (k + n) 0) e in
    elim (ℕ_discrete i n) [ yes q ↦ rw q last | no d ↦ joined_zero masks k n old i (omega arith) ]

pub joined_more : (masks : List ℕ) (k i : ℕ) → bit_or (joined masks k i) (get_or masks (k + i) 0) ≡ joined masks k (i + 1)
unfolding joined
joined_more masks k i = rw add-one

module _ (n : ℕ) (t : Table) (all : Set) (carried masks : List ℕ) (k : ℕ) where
  pub block_empty : joined masks k block ≡ 0 → block_sound n t all carried masks k ≡ true
  unfolding block_sound cell_sound_at
  block_empty e =
      all_from (λ i. cell_sound_at n t all carried masks (k + i)) block
      (λ i h. cell_empty n t.count (owner_of t (posting_at (k + i))) all carried (k + i) (get_or masks (k + i) 0) (joined_zero masks k block e i h))

  pub block_more :
      all_below (cell_sound_at n t all carried masks) k ≡ true → block_sound n t all carried masks k ≡ true
      → all_below (cell_sound_at n t all carried masks) (k + block) ≡ true
  unfolding block_sound
  block_more u v = all_join (cell_sound_at n t all carried masks) k block u v

  pub block_fails : k + block ≤ cells → block_sound n t all carried masks k ≡ false → cells_sound n t all carried masks ≡ false
  unfolding block_sound cells_sound
  block_fails h f = all_part (cell_sound_at n t all carried masks) k block cells h f
