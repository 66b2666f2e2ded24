-- Where the search stands: of each form it looks at the cells of the postings offered, as on a sound board those behind them are empty.
-- Rests on machine's facts of a sound board and on flight's laws of cells and of the search. Assumes nothing.
use Prim.Native.Nat.{ℕ, ◌+◌, ◌*◌, ◌/◌, ◌%◌, ◌<◌, ◌≤◌}
use mathlib.Core.Path.{◌≡◌, sym, ap, ◌∙◌}
use native.Mathlib.Omega.{arith}
use lib.ListN.{get_or, take, drop}
use Rattle.sets.specs.Masks.{has_bit}
use Rattle.sets.proofs.Truth.{not_so}
use Rattle.sets.specs.Sets.{capacity}
use Rattle.posting.proofs.ConflictLaws.{offered_below}
use Rattle.site.specs.Sites.{sites}
use Rattle.site.specs.Sends.{forms}
use Rattle.flight.specs.Flights.{pairs, cells, cell_at, receivers_in, message_at, lowest_from, message}
use Rattle.flight.proofs.LowestLaws.{place_cell}
use Rattle.flight.proofs.FloorLaws.{pass_over}
use Rattle.machine.specs.declared.Board.{Board}
use Rattle.machine.proofs.SoundFacts.{CellSound, Sound, no_bits}

-- ---- where the search stands

-- cell k is one of a form, or the next behind them; in that form the cells of the postings offered are those before `end`
pub record Stands (offered form k end : ℕ) : Type 0 where
  pub few : offered ≤ capacity
  pub most : form ≤ forms
  pub from_first : form * pairs ≤ k
  pub to_next : k ≤ (form + 1) * pairs
  pub to_end : end ≡ form * pairs + offered * sites

-- at the first cell of all
pub first_cell : (offered : ℕ) → offered ≤ capacity → Stands offered 0 0 (offered * sites)
first_cell offered h = record { few = h; most = omega arith; from_first = omega arith; to_next = omega arith; to_end = omega arith }

module _ (offered form k end : ℕ) (s : Stands offered form k end) where
  -- at another cell of the form
  pub in_form : (j : ℕ) → form * pairs ≤ j → j ≤ (form + 1) * pairs → Stands offered form j end
  in_form j u v = record { few = s.few; most = s.most; from_first = u; to_next = v; to_end = s.to_end }

  module _ (h : form < forms) where
    -- the search looks at cell k
    module _ (l : k < end) where
      pub in_cells : k < cells
      in_cells = omega (arith, s.to_end, s.few)

      form_at : k / pairs ≡ form
      form_at = omega (arith, s.from_first, s.to_end, s.few)

      pub place_at : k ≡ cell_at form (k / sites % capacity) (k % sites)
      place_at = sym (rw (← form_at) (place_cell k in_cells))

      pub message_at_lem : (to : ℕ) → message form (k / sites % capacity) (k % sites) to ≡ message_at k to
      message_at_lem to = rw form_at

      pub next_cell : Stands offered form (k + 1) end
      next_cell =
          let u : form * pairs ≤ k + 1 = omega (arith, s.from_first) in
          let v : k + 1 ≤ (form + 1) * pairs = omega (arith, s.to_end, s.few) in
          in_form (k + 1) u v

    pub next_form : Stands offered (form + 1) ((form + 1) * pairs) (end + pairs)
    next_form = record { few = s.few; most = omega arith; from_first = omega arith; to_next = omega arith; to_end = omega (arith, s.to_end) }

  -- it has looked at every form
  module _ (h : forms ≤ form) where
    pub past_cells : cells ≤ k
    past_cells = omega (arith, s.from_first)

    pub past_forms : Stands offered forms cells end
    past_forms = record { few = s.few; most = omega arith; from_first = omega arith; to_next = omega arith; to_end = omega (arith, s.most, s.to_end) }

-- ---- what it need not look at

module _ (b : Board) (sound : Sound b) where
  -- a cell of a posting not offered has no receiver
  cell_bare : (k : ℕ) → k < cells → b.table.count ≤ k / sites % capacity → get_or b.flight.masks k 0 ≡ 0
  cell_bare k h past =
      let m = k / sites % capacity in
      let to = receivers_in b.flight.masks (k / pairs) m (k % sites) in
      let cell : CellSound b (k / pairs) m (k % sites) = sound.each_cell (k / pairs) m (k % sites) (omega arith) (omega arith) (omega arith) in
      ap (λ (j : ℕ). get_or b.flight.masks j 0) (sym (place_cell k h))
      ∙ no_bits b.setup.n to cell.below (λ r l. not_so (has_bit to r) (λ t. omega (arith, past, (offered_below b.table m (cell.named r t)).0)))

  -- so from the end of a form's it goes on at the next form
  pub form_done :
      (up form k end : ℕ) → Stands b.table.count form k end → form < forms → end ≤ k → let next = (form + 1) * pairs in
      lowest_from k (drop k (take cells b.flight.masks)) up ≡ lowest_from next (drop next (take cells b.flight.masks)) up
  form_done up form k end s h past =
      pass_over b.flight.masks up k ((form + 1) * pairs) s.to_next (λ j u v. let bare = cell_bare j (omega arith) (omega (arith, s.from_first, s.to_end)) in rw bare)
