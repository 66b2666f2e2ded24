-- What the tests of the code say of places: a place is past the last just where a number is out of range, and nothing stands there.
-- Rests on Flights and CellLaws. Assumes nothing.
use Prim.Native.Nat.{ℕ, ◌+◌, ◌*◌, ◌<◌, ◌≤◌}
use mathlib.Core.Path.{◌≡◌, sym, ap, ◌∙◌}
use mathlib.Core.Logic.{inl, inr}
use mathlib.Core.Bool.{true, false, and-false}
use mathlib.Core.List.{List}
use native.Mathlib.Omega.{arith}
use lib.Dec.{ltb}
use lib.ListN.{get_or}
use borrow.Author.Tests.{lt-ltb, le-ltb}
use Rattle.sets.specs.Masks.{has_bit}
use Rattle.sets.proofs.Truth.{test, not_so}
use Rattle.sets.specs.Sets.{capacity}
use Rattle.site.specs.Sites.{sites}
use Rattle.site.specs.Sends.{forms}
use Rattle.flight.specs.Flights.{pairs, cells, is_pair, is_cell, pair_at, cell_at, message_in}
use Rattle.flight.proofs.CellLaws.{pair_range, cell_range, pair_in, pair_out, cell_in, cell_out, cell_below, pair_below}

-- ---- pairs

pub no_posting_lem : (m from : ℕ) → capacity ≤ m → pair_at m from ≡ pairs
no_posting_lem m from h = pair_out m from (rw (le-ltb m capacity h))

pub no_sender : (m from : ℕ) → sites ≤ from → pair_at m from ≡ pairs
no_sender m from h = pair_out m from (rw (le-ltb from sites h) (and-false (ltb m capacity)))

-- a place below the last is that of a posting and sender
pub pair_found : (m from : ℕ) → pair_at m from < pairs → (m < capacity) × (from < sites)
pair_found m from h = elim (test (is_pair m from)) [
  | inl t ↦ pair_range m from t
  | inr f ↦ absurd (omega (arith, pair_out m from f))
]

-- ---- cells, where i is what `pair` returned

pub no_form : (form m from : ℕ) → forms ≤ form → cell_at form m from ≡ cells
no_form form m from h = cell_out form m from (rw (le-ltb form forms h))

module _ (form m from i : ℕ) (e : i ≡ pair_at m from) where
  pub no_pair : pairs ≤ i → cell_at form m from ≡ cells
  no_pair h =
      cell_out form m from (not_so (is_cell form m from) (λ t.
      let (k, hm, hf) = cell_range form m from t in
      omega (arith, pair_below m from hm hf)))

  pub cell_of_pair : form < forms → i < pairs → cell_at form m from ≡ form * pairs + i
  cell_of_pair h k =
      let (hm, hf) = pair_found m from (omega arith) in
      cell_in form m from h hm hf ∙ ap (λ (j : ℕ). form * pairs + j) (sym (e ∙ pair_in m from hm hf))

-- ---- messages: one number out of range, and nothing is in flight

module _ (masks : List ℕ) (form m from to : ℕ) where
  pub form_unknown : forms ≤ form → message_in masks form m from to ≡ false
  unfolding message_in
  form_unknown h = rw (le-ltb form forms h)

  pub posting_unknown : capacity ≤ m → message_in masks form m from to ≡ false
  unfolding message_in
  posting_unknown h = rw (le-ltb m capacity h, and-false (ltb form forms))

  pub bit_found : form < forms → m < capacity → from < sites → to < sites
      → message_in masks form m from to ≡ has_bit (get_or masks (form * pairs + (m * sites + from)) 0) to
  unfolding message_in
  bit_found hf hm hs ht =
      rw (cell_in form m from hf hm hs, lt-ltb form forms hf, lt-ltb m capacity hm, lt-ltb from sites hs, lt-ltb to sites ht)
