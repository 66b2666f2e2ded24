-- A block of 64 numbers put among figures: it stands there, blocks before it stay; the books of a site named, and what has been gathered after it.
-- Rests on Gathering, and on books for a part that was lent. Assumes nothing.
use Prim.Native.Nat.{ℕ, suc, ◌+◌, ◌*◌, ◌-◌, ◌<◌, ◌≤◌}
use mathlib.Core.Path.{◌≡◌, refl, sym, ap, ◌∙◌}
use mathlib.Core.Bool.{Bool, true, false, cond}
use mathlib.Core.List.{List, ◌++◌}
use native.Mathlib.Decide.{ℕ_discrete}
use native.Mathlib.Omega.{arith}
use lib.IntN.{ℤ}
use lib.ListN.{length, take, drop, length-append, length-take, length-drop}
use lib.Seq.{length-take-le, take-append-le, drop-append-le, drop_at, take_at, take-take, take-add, drop-drop}
use borrow.Rule.Slice.PartMut.{put_mid}
use Rattle.sets.specs.Masks.{has_bit}
use Rattle.posting.specs.Kinds.{accounts}
use Rattle.posting.specs.Records.{numbers_of}
use Rattle.books.specs.declared.Sheet.{Sheet}
use Rattle.books.specs.Books.{Books, blank, books, numbers, figures_on, sheet_of}
use Rattle.books.specs.Bounds.{Postable}
use Rattle.books.proofs.Blocks.{length_numbers, part_all, part_back, sheet_numbers}
use Rattle.site.specs.Sites.{sites}
use Rattle.arrays.specs.declared.Arrays.{Arrays}
use Rattle.views.specs.Views.{record_in, table_of}
use Rattle.lookup_pairs.specs.Pairs.{visited_to}
use Rattle.lookup_pairs.specs.Gathered.{block_of}
use Rattle.lookups.specs.Gathering.{places_at, numbers_at, with_block, Gathered}

module _ (figures : List ℤ) (long : length figures ≡ 64 * sites) (p : ℕ) (there : p < sites) (block : List ℤ) (whole : length block ≡ 64) where
  front : length (take (64 * p) figures) ≡ 64 * p
  front = length-take-le (64 * p) figures (omega arith)

  pub length_put : length (with_block figures p block) ≡ 64 * sites
  length_put =
      length-append (take (64 * p) figures) (block ++ drop (64 * p + 64) figures)
      ∙ omega (arith, front, length-append block (drop (64 * p + 64) figures), length-drop (64 * p + 64) figures)

  -- the block stands from 64p on
  pub block_put : block_of (with_block figures p block) p ≡ block
  block_put =
      ap (take 64) (drop_at (take (64 * p) figures) (block ++ drop (64 * p + 64) figures) (64 * p) front)
      ∙ take_at block (drop (64 * p + 64) figures) 64 whole

  -- the blocks of sites before p stay
  pub block_kept : (q : ℕ) → q < p → block_of (with_block figures p block) q ≡ block_of figures q
  block_kept q h =
      let rest = block ++ drop (64 * p + 64) figures in
      let before = take (64 * p) figures in
      let more = 64 * p - 64 * q in
      let split : 64 * p ≡ 64 * q + more = omega arith in
      let inside : 64 * q ≤ length before = omega (arith, front) in
      let size : 64 ≤ length (drop (64 * q) before) = omega (arith, front, length-drop (64 * q) before) in
      ap (take 64) (drop-append-le (64 * q) before rest inside)
      ∙ take-append-le 64 (drop (64 * q) before) rest size
      ∙ ap (λ (n : ℕ). take 64 (drop (64 * q) (take n figures))) split
      ∙ ap (λ (l : List ℤ). take 64 (drop (64 * q) l)) (take-add (64 * q) more figures)
      ∙ ap (take 64) (drop_at (take (64 * q) figures) (take more (drop (64 * q) figures)) (64 * q) (length-take-le (64 * q) figures (omega arith)))
      ∙ take-take 64 more (drop (64 * q) figures) (omega arith)

-- the sheet of books s, filled into the part from 64p on, that is back
pub sheet_filled : (s : Books) (sheet : Sheet) → sheet ≡ sheet_of s
    → (p : ℕ) (figures part : List ℤ) → part ≡ numbers (figures_on sheet) ++ drop 64 (take (length figures - 64 * p) (drop (64 * p) figures))
    → put_mid (64 * p) (length figures - 64 * p) figures part ≡ with_block figures p (numbers s)
sheet_filled s sheet es p figures part ep =
    part_back (64 * p) figures part
    ∙ ap (λ (l : List ℤ). take (64 * p) figures ++ l)
    (ep ∙ rw (es, sheet_numbers s, part_all (64 * p) figures, drop-drop 64 (64 * p) figures) refl)

-- ---- site after site

-- the figures after site p: its block is put there if it is named
module _ (numbers : ℕ → List ℤ) (whole : (p : ℕ) → length (numbers p) ≡ 64) (named : ℕ) where
  abbrev gathered_one : List ℤ → ℕ → List ℤ
  gathered_one figures p = cond (has_bit named p) (with_block figures p (numbers p)) figures

  module _ (figures : List ℤ) (long : length figures ≡ 64 * sites) (p : ℕ) (there : p < sites) where
    pub length_more : length (gathered_one figures p) ≡ 64 * sites
    length_more = go (has_bit named p)
      where
        go : (b : Bool) → length (cond b (with_block figures p (numbers p)) figures) ≡ 64 * sites
        go true = length_put figures long p there (numbers p) (whole p)
        go false = long

    pub gathered_more : Gathered numbers named p figures → Gathered numbers named (p + 1) (gathered_one figures p)
    gathered_more g q h b = elim (ℕ_discrete q p) [
      | yes e ↦
          let own : has_bit named p ≡ true = ap (has_bit named) (sym e) ∙ b in
          rw (own, e) (block_put figures long p there (numbers p) (whole p))
      | no ne ↦ let before : q < p = omega (arith, h, ne) in kept before (has_bit named p)
    ]
      where
        kept : q < p → (t : Bool) → block_of (cond t (with_block figures p (numbers p)) figures) q ≡ numbers q
        kept l true = block_kept figures long p there (numbers p) (whole p) q l ∙ g q l b
        kept l false = g q l b

pub length_at : (a : Arrays) (p : ℕ) → length (numbers_at a p) ≡ 64
length_at a p = length_numbers accounts (books blank (table_of a) (numbers_of (record_in a p)))

-- a record has at most 256 places
pub places_most : (a : Arrays) (named p : ℕ) → Postable (table_of a) (record_in a p) → cond (has_bit named p) (places_at a p) 0 ≤ 256
unfolding numbers_of
places_most a named p ok = go (has_bit named p)
  where
    few : places_at a p ≤ 256
    few = omega (arith, length-take (record_in a p).count (record_in a p).numbers, ok.within)

    go : (b : Bool) → cond b (places_at a p) 0 ≤ 256
    go true = few
    go false = omega arith

pub visited_more : (n : ℕ) (t : ℕ → Bool) (long : ℕ → ℕ) → visited_to (n + 1) t long ≡ visited_to n t long + cond (t n) (long n) 0
unfolding visited_to
visited_more n t long = let e : n + 1 ≡ suc n = omega arith in ap (λ (m : ℕ). visited_to m t long) e
