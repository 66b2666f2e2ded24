-- Laws of a search that passes over cells with nothing for a site of the mask, and of one from a floor on, a cell below which all are such: it finds
-- what the whole search finds, and where that stands is a floor again, also after others were sent. Rests on SearchLaws and LowestLaws. Assumes nothing.
use Rattle.std.proofs.Common.{None}
use Prim.Native.Nat.{ℕ, zero, suc, ◌+◌, ◌/◌, ◌%◌, ◌^◌, ◌<◌, ◌≤◌}
use mathlib.Core.Path.{◌≡◌, refl, sym, ap, ◌∙◌}
use mathlib.Core.Logic.{inl}
use mathlib.Core.Bool.{false}
use mathlib.Core.List.{List}
use native.Mathlib.Omega.{arith}
use native.Mathlib.Numerals.{add-one}
use native.Mathlib.Decide.{dec_lt}
use lib.ListN.{get_or, set, take, drop, length-take}
use lib.Seq.{get_or-take, get_or-set_other}
use lib.Bits.{bit_and, and_le_r}
use borrow.Author.Tests.{eq-eqb}
use Rattle.sets.proofs.MaskLaws.{has_bit_zero, has_bit_and, bits_ext}
use Rattle.sets.specs.Sets.{capacity}
use Rattle.site.specs.Sites.{sites}
use Rattle.flight.specs.Flights.{pairs, cells, cell_at, sending_to, taking_from, message_at, lowest_from, lowest_in, message}
use Rattle.flight.proofs.ArrayLaws.{write_keeps}
use Rattle.flight.proofs.SearchLaws.{cell_step, cell_end, comes_at, CellFound, none, cell, cell_found}
use Rattle.flight.proofs.LowestLaws.{message_parts, never_both, place_cell}

-- no cell below the floor has a receiver of the mask
abbrev pub NoneBelow : List ℕ → ℕ → ℕ → Type 0
NoneBelow masks up floor = (k : ℕ) → k < floor → bit_and (get_or masks k 0) up ≡ 0

module _ (masks : List ℕ) (up : ℕ) where
  -- ---- a search passes over cells that have no receiver of the mask; so one from a floor on is the whole search

  pass_cell : (k : ℕ) → bit_and (get_or masks k 0) up ≡ 0 → lowest_from k (drop k (take cells masks)) up ≡ lowest_from (suc k) (drop (suc k) (take cells masks)) up
  pass_cell k empty = elim (dec_lt k cells) [
    | yes h ↦ cell_step masks up k h ∙ rw (eq-eqb (bit_and (get_or masks k 0) up) 0 empty, add-one)
    | no h ↦
        let past : cells ≤ k = omega arith in
        let more : cells ≤ suc k = omega arith in
        cell_end masks up k past ∙ sym (cell_end masks up (suc k) more)
  ]

  pub pass_over :
      (first next : ℕ) → first ≤ next → ((k : ℕ) → first ≤ k → k < next → bit_and (get_or masks k 0) up ≡ 0)
      → lowest_from first (drop first (take cells masks)) up ≡ lowest_from next (drop next (take cells masks)) up
  pass_over first zero le empty = let e : first ≡ 0 = omega arith in rw e
  pass_over first (suc k) le empty = elim (dec_lt k first) [
    | yes h ↦ let e : first ≡ suc k = omega arith in rw e
    | no h ↦ pass_over first k (omega arith) (λ j u v. empty j u (omega arith)) ∙ pass_cell k (empty k (omega arith) (omega arith))
  ]

  pub floor_search : (first : ℕ) → NoneBelow masks up first → lowest_in masks up ≡ lowest_from first (drop first (take cells masks)) up
  floor_search first low = pass_over 0 first (omega arith) (λ k u v. low k v)

  -- ---- where a search ends is a floor

  -- a cell of which no site is found has no receiver of the mask
  cell_empty : up < 2 ^ sites → (k : ℕ) → k < cells → ((b : ℕ) → b < sites → comes_at (take cells masks) up k b ≡ false) → bit_and (get_or masks k 0) up ≡ 0
  cell_empty small k h rest =
      let here = get_or masks k 0 in
      let same : get_or (take cells masks) k 0 ≡ here = get_or-take cells masks k 0 h in
      bits_ext sites (bit_and here up) 0 (omega (arith, and_le_r here up)) (omega arith)
      (λ b v. has_bit_and here up b ∙ (rw (← same) (rest b v)) ∙ sym (has_bit_zero b))

  -- the message found stands in the lowest cell that has a receiver of the mask
  pub message_floor : up < 2 ^ sites → (form m from to : ℕ) → lowest_in masks up ≡ message form m from to → NoneBelow masks up (cell_at form m from)
  message_floor small form m from to e = go (cell_found 0 (take cells masks) up)
    where
      go : CellFound 0 (take cells masks) up → NoneBelow masks up (cell_at form m from)
      go (none n rest) = absurd (never_both (sym n ∙ e))
      go (cell j b hj hb n t rest) =
          let in_cells : j < cells = omega (arith, length-take cells masks) in
          let q : message_at j b ≡ message form m from to = ap (λ (k : ℕ). message_at k b) (omega arith) ∙ sym n ∙ e in
          let (q0, q1, q2, q3) = message_parts (j / pairs) (j / sites % capacity) (j % sites) b form m from to q in
          let at : cell_at form m from ≡ j = rw (← q0, ← q1, ← q2) (place_cell j in_cells) in
          λ k h. cell_empty small k (omega arith) (λ c v. rest k c v (inl (omega arith)))

  -- where nothing is found no cell has one
  pub nothing_floor : up < 2 ^ sites → lowest_in masks up ≡ None → NoneBelow masks up cells
  nothing_floor small e = go (cell_found 0 (take cells masks) up)
    where
      go : CellFound 0 (take cells masks) up → NoneBelow masks up cells
      go (none n rest) = λ k h. cell_empty small k h (λ b v. rest k b v)
      go (cell j b hj hb n t rest) = absurd (never_both (sym e ∙ n))

-- ---- below a cell that changes all stay

module _ (masks : List ℕ) (form m from k : ℕ) (h : k < cell_at form m from) where
  write_below : (v : ℕ) → get_or (set masks (cell_at form m from) v) k 0 ≡ get_or masks k 0
  write_below v = get_or-set_other masks (cell_at form m from) k v 0 (λ e. omega (arith, h, e))

  pub sending_below : (receivers : ℕ) → get_or (sending_to masks form m from receivers) k 0 ≡ get_or masks k 0
  unfolding sending_to
  sending_below receivers = write_keeps (λ (l : List ℕ). get_or l k 0 ≡ get_or masks k 0) cells masks (cell_at form m from) _ refl (write_below _)

  pub taking_below : (to : ℕ) → get_or (taking_from masks form m from to) k 0 ≡ get_or masks k 0
  unfolding taking_from
  taking_below to = write_keeps (λ (l : List ℕ). get_or l k 0 ≡ get_or masks k 0) cells masks (cell_at form m from) _ refl (write_below _)
