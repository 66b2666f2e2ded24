-- Laws of the search for the lowest message: its steps, cell by cell and site by site, as a loop makes them; what it finds.
-- Rests on Flights and the laws of cells. Assumes nothing.
use Rattle.std.proofs.Common.{None}
use Prim.Native.Nat.{ℕ, zero, suc, ◌+◌, ◌-◌, ◌<◌, ◌≤◌}
use mathlib.Core.Path.{◌≡◌, refl, sym, ap, ◌∙◌}
use mathlib.Core.Logic.{◌⊎◌, inl, inr}
use mathlib.Core.Bool.{Bool, true, false, cond, ◌&&◌}
use mathlib.Core.List.{List, [], ◌∷◌}
use native.Mathlib.Omega.{arith}
use native.Mathlib.Numerals.{add-one}
use native.Mathlib.Decide.{ℕ_discrete, dec_lt}
use lib.Dec.{eqb}
use lib.ListN.{length, get_or, take, drop, length-take, drop_of_length-le, get_or-eq_default}
use lib.Seq.{take_all, drop-cons, get_or-take}
use lib.Bits.{bit_and}
use borrow.Author.Tests.{ne_eqb}
use Rattle.sets.specs.Masks.{has_bit}
use Rattle.sets.proofs.MaskLaws.{has_bit_zero, has_bit_and}
use Rattle.sets.proofs.Truth.{test}
use Rattle.site.specs.Sites.{sites}
use Rattle.flight.specs.Flights.{cells, message_at, lowest_to, lowest_from, nothing_comes, Found}

-- ---- the sites of a mask

module _ (n k mask : ℕ) (after : Found) (to : ℕ) where
  pub site_hit : to < n → has_bit mask to ≡ true → lowest_to k mask to (n - to) after ≡ message_at k to
  unfolding lowest_to
  site_hit h t = let e : n - to ≡ suc (n - (to + 1)) = omega arith in rw (e, t)

  pub site_miss : to < n → has_bit mask to ≡ false → lowest_to k mask to (n - to) after ≡ lowest_to k mask (to + 1) (n - (to + 1)) after
  unfolding lowest_to
  site_miss h f = let e : n - to ≡ suc (n - (to + 1)) = omega arith in rw (e, f, add-one)

  pub site_end : n ≤ to → lowest_to k mask to (n - to) after ≡ after
  unfolding lowest_to
  site_end h = let e : n - to ≡ 0 = omega arith in rw e

-- ---- the cells

-- the cells of an array are all that it has
pub all_cells : (masks : List ℕ) → length masks ≡ cells → take cells masks ≡ masks
all_cells masks e = take_all cells masks (omega arith)

-- cell k of the first n: there it is, or the list ends before it and it counts as empty
walk : (n : ℕ) (l : List ℕ) (k : ℕ) → k < n
    → (drop k (take n l) ≡ get_or l k 0 ∷ drop (k + 1) (take n l)) ⊎ ((drop k (take n l) ≡ []) × (drop (k + 1) (take n l) ≡ []) × (get_or l k 0 ≡ 0))
walk n l k h = elim (dec_lt k (length l)) [
  | yes b ↦
      let long : k < length (take n l) = omega (arith, length-take n l) in
      inl (drop-cons (take n l) k 0 long ∙ rw (add-one, get_or-take n l k 0 h))
  | no b ↦
      let past : length (take n l) ≤ k = omega (arith, length-take n l) in
      let after : length (take n l) ≤ k + 1 = omega arith in
      let gone : length l ≤ k = omega arith in
      inr (drop_of_length-le (take n l) past, drop_of_length-le (take n l) after, get_or-eq_default l 0 gone)
]

module _ (masks : List ℕ) (up k : ℕ) where
  -- cell k has a receiver of the mask, or none
  pub cell_step :
      k < cells
      → lowest_from k (drop k (take cells masks)) up
      ≡ cond (eqb (bit_and (get_or masks k 0) up) 0) (lowest_from (k + 1) (drop (k + 1) (take cells masks)) up)
      (lowest_to k (bit_and (get_or masks k 0) up) 0 sites (lowest_from (k + 1) (drop (k + 1) (take cells masks)) up))
  unfolding lowest_from
  cell_step h = elim (walk cells masks k h) [
    | inl e ↦ rw (e, add-one)
    | inr g ↦ rw (g.0, g.1, g.2)
  ]

  pub cell_end : cells ≤ k → lowest_from k (drop k (take cells masks)) up ≡ None
  unfolding lowest_from
  cell_end h = let past : length (take cells masks) ≤ k = omega (arith, length-take cells masks) in rw (drop_of_length-le (take cells masks) past)

  pub comes_step :
      k < cells
      → nothing_comes (drop k (take cells masks)) up
      ≡ (eqb (bit_and (get_or masks k 0) up) 0 && nothing_comes (drop (k + 1) (take cells masks)) up)
  unfolding nothing_comes
  comes_step h = elim (walk cells masks k h) [
    | inl e ↦ rw e
    | inr g ↦ rw (g.0, g.1, g.2)
  ]

  pub comes_end : cells ≤ k → nothing_comes (drop k (take cells masks)) up ≡ true
  unfolding nothing_comes
  comes_end h = let past : length (take cells masks) ≤ k = omega (arith, length-take cells masks) in rw (drop_of_length-le (take cells masks) past)

-- ---- what is found among the sites of a mask

-- none of n sites from `to` on is in the mask, and what comes after is found; or site b is the lowest of them
data SiteFound (k mask to n : ℕ) (after : Found) : Type 0 where
  none : lowest_to k mask to n after ≡ after → ((b : ℕ) → to ≤ b → b < to + n → has_bit mask b ≡ false) → SiteFound k mask to n after
  site :
      (b : ℕ) → to ≤ b → b < to + n → lowest_to k mask to n after ≡ message_at k b → has_bit mask b ≡ true
      → ((c : ℕ) → to ≤ c → c < b → has_bit mask c ≡ false)
      → SiteFound k mask to n after

site_found : (k mask to n : ℕ) (after : Found) → SiteFound k mask to n after
unfolding lowest_to
site_found k mask to zero after = none refl (λ b h i. absurd (omega arith))
site_found k mask to (suc n) after = go (test (has_bit mask to)) (site_found k mask (suc to) n after)
  where
    below : has_bit mask to ≡ false → (e : ℕ) → ((c : ℕ) → suc to ≤ c → c < e → has_bit mask c ≡ false) → (c : ℕ) → to ≤ c → c < e → has_bit mask c ≡ false
    below f e rest c h i = elim (ℕ_discrete c to) [ yes q ↦ rw q f | no d ↦ rest c (omega arith) i ]

    go : (has_bit mask to ≡ true) ⊎ (has_bit mask to ≡ false) → SiteFound k mask (suc to) n after → SiteFound k mask to (suc n) after
    go (inl t) r = site to (omega arith) (omega arith) (rw t) t (λ c h i. absurd (omega arith))
    go (inr f) (none e rest) = none (rw (f, e)) (λ b h i. below f (to + suc n) (λ c u v. rest c u (omega arith)) b h i)
    go (inr f) (site b h i e t rest) = site b (omega arith) (omega arith) (rw (f, e)) t (below f b rest)

-- ---- what is found among the cells

-- a site of the mask `up` is among the receivers of cell j
abbrev pub comes_at : List ℕ → ℕ → ℕ → ℕ → Bool
comes_at l up j b = has_bit (get_or l j 0) b && has_bit up b

-- nothing is for a site of the mask; or the message of cell k + j to site b is the lowest
pub data CellFound (k : ℕ) (l : List ℕ) (up : ℕ) : Type 0 where
  none : lowest_from k l up ≡ None → ((j b : ℕ) → b < sites → comes_at l up j b ≡ false) → CellFound k l up
  cell :
      (j b : ℕ) → j < length l → b < sites → lowest_from k l up ≡ message_at (k + j) b → comes_at l up j b ≡ true
      → ((i c : ℕ) → c < sites → (i < j) ⊎ ((i ≡ j) × (c < b)) → comes_at l up i c ≡ false)
      → CellFound k l up

pub cell_found : (k : ℕ) (l : List ℕ) (up : ℕ) → CellFound k l up
unfolding lowest_from
cell_found k [] up = none refl (λ j b h. rw (has_bit_zero b))
cell_found k (mask ∷ l) up = go (ℕ_discrete (bit_and mask up) 0) (site_found k (bit_and mask up) 0 sites (lowest_from (suc k) l up)) (cell_found (suc k) l up)
  where
    there : ℕ
    there = bit_and mask up

    after : Found
    after = lowest_from (suc k) l up

    -- no site of this cell is found, so it is as with the others
    later :
        lowest_from k (mask ∷ l) up ≡ after → ((c : ℕ) → c < sites → comes_at (mask ∷ l) up 0 c ≡ false) → CellFound (suc k) l up → CellFound k (mask ∷ l) up
    later e here (none f rest) = none (e ∙ f) (λ j b h. elim j as (λ i. comes_at (mask ∷ l) up i b ≡ false) [ zero ↦ here b h | suc i ↦ rest i b h ])
    later e here (cell j b h i f t rest) =
        cell (suc j) b (omega arith) i (e ∙ f ∙ ap (λ (q : ℕ). message_at q b) (omega arith)) t (each j b rest)
      where
        each : (j b : ℕ) → ((i c : ℕ) → c < sites → (i < j) ⊎ ((i ≡ j) × (c < b)) → comes_at l up i c ≡ false)
            → (i c : ℕ) → c < sites → (i < suc j) ⊎ ((i ≡ suc j) × (c < b)) → comes_at (mask ∷ l) up i c ≡ false
        each j b rest zero c h w = here c h
        each j b rest (suc i) c h (inl w) = rest i c h (inl (omega arith))
        each j b rest (suc i) c h (inr w) = rest i c h (inr (omega arith, w.1))

    go : Dec (there ≡ 0) → SiteFound k there 0 sites after → CellFound (suc k) l up → CellFound k (mask ∷ l) up
    go (yes e) r s = later (rw e) (λ c h. sym (has_bit_and mask up c) ∙ ap (λ (w : ℕ). has_bit w c) e ∙ has_bit_zero c) s
    go (no d) (none e rest) s = later (rw (ne_eqb there 0 d, e)) (λ c h. sym (has_bit_and mask up c) ∙ rest c (omega arith) (omega arith)) s
    go (no d) (site b h i e t rest) s =
        cell 0 b (omega arith) (omega arith) (rw (ne_eqb there 0 d, e) (ap (λ (q : ℕ). message_at q b) (omega arith)))
        (sym (has_bit_and mask up b) ∙ t)
        (λ i c v w. first i c v w)
      where
        first : (i c : ℕ) → c < sites → (i < 0) ⊎ ((i ≡ 0) × (c < b)) → comes_at (mask ∷ l) up i c ≡ false
        first zero c v (inl w) = absurd (omega arith)
        first zero c v (inr w) = sym (has_bit_and mask up c) ∙ rest c (omega arith) w.1
        first (suc i) c v (inl w) = absurd (omega arith)
        first (suc i) c v (inr w) = absurd (omega (arith, w.0))
