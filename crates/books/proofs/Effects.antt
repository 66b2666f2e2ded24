-- Laws of one effect: what is no kind does nothing, a posting changes the accounts that it touches, and no number of any other, what nets
-- every account nets each, and a call is of a position above zero. Rests on Effect and Signed. Assumes nothing.
use mathlib.Core.Path.{◌≡◌, refl, ◌∙◌}
use mathlib.Core.Bool.{true, false, cond}
use mathlib.Core.Logic.{inl, inr}
use Prim.Native.Nat.{ℕ, suc, ◌+◌, ◌*◌, ◌/◌, ◌<◌, ◌≤◌}
use native.Mathlib.Omega.{arith}
use lib.IntN.{ℤ, pos, negsuc, nat_abs, ◌*ℤ◌}
use lib.Signed.{lt_z}
use borrow.Author.Tests.{ne_eqb, lt-ltb}
use Rattle.sets.proofs.Truth.{not_so}
use Rattle.posting.specs.declared.Posting.{Posting}
use Rattle.posting.specs.Kinds.{trade, rate, call, net, kinds, accounts, nets_all}
use Rattle.posting.proofs.KindLaws.{nets_all_net}
use Rattle.posting.specs.Conflicts.{touches}
use Rattle.posting.proofs.ConflictLaws.{touches_cases, touches_all}
use Rattle.books.specs.declared.Figures.{Figures}
use Rattle.books.specs.Effect.{size_of_call, on_net, change, effect}
use Rattle.books.proofs.Signed.{size_product}

pub no_kind : (kind : ℕ) → kinds ≤ kind → (p : Posting) (k : ℕ) (s : Figures) → change kind p k s ≡ s
unfolding change
no_kind kind h p k s = rw (
  ne_eqb kind trade (omega arith),
  ne_eqb kind rate (omega arith),
  ne_eqb kind call (omega arith),
  ne_eqb kind net (omega arith),
)

pub effect_touched : (p : Posting) (k : ℕ) (s : Figures) → touches p k ≡ true → effect p k s ≡ change p.kind p k s
unfolding effect
effect_touched p k s t = rw t

-- a posting changes no number of an account that it does not touch
pub effect_untouched : (p : Posting) (k : ℕ) (s : Figures) → touches p k ≡ false → effect p k s ≡ s
unfolding effect
effect_untouched p k s t = rw t

-- what nets every account nets each
pub effect_net_all : (p : Posting) (k : ℕ) (s : Figures) → nets_all p ≡ true → k < accounts → effect p k s ≡ on_net s
unfolding change
effect_net_all p k s e h = effect_touched p k s (touches_all p k e h) ∙ rw (nets_all_net p e)

pub touches_neither : (p : Posting) (k : ℕ) → nets_all p ≡ false → (k ≡ p.a → ⊥) → (k ≡ p.b → ⊥) → touches p k ≡ false
touches_neither p k named a b = not_so (touches p k) (λ t. elim (touches_cases p k named t) [ inl e ↦ a e | inr e ↦ b e ])

-- a call is the same to the cent as before document 02's W4: the formula, with its division, as it stood
pub size_of_call_same : (position r : ℤ) → size_of_call position r ≡ cond (lt_z (pos 0) position) ((nat_abs (position *ℤ r) + 9999) / 10000) 0
unfolding size_of_call
size_of_call_same position r = refl

-- the size of a call at a position below zero, at zero, and above it
pub call_below_zero : (n : ℕ) (r : ℤ) → size_of_call (negsuc n) r ≡ 0
unfolding size_of_call
call_below_zero n r = refl

pub call_at_zero : (r : ℤ) → size_of_call (pos 0) r ≡ 0
unfolding size_of_call
call_at_zero r = refl

pub call_above_zero : (n : ℕ) (r : ℤ) → size_of_call (pos (suc n)) r ≡ (suc n * nat_abs r + 9999) / 10000
unfolding size_of_call
call_above_zero n r =
    let above : lt_z (pos 0) (pos (suc n)) ≡ true = lt-ltb 0 (suc n) (omega arith) in
    rw (above, size_product (pos (suc n)) r)
