-- What the search finds in a flight: nothing, and then no message in flight is for a site of the mask; else a message that is in flight, to
-- a site of the mask, with none such lower by form, posting, from, to. Rests on Flights, SearchLaws and CellLaws. Assumes nothing.
use Rattle.std.proofs.Common.{Some, None}
use Prim.Native.Nat.{ℕ, ◌+◌, ◌*◌, ◌/◌, ◌%◌, ◌<◌}
use mathlib.Core.Path.{◌≡◌, sym, ap, ◌∙◌}
use mathlib.Core.Logic.{◌⊎◌, inl, inr}
use mathlib.Core.Bool.{Bool, true, false, ◌&&◌, ◌||◌}
use mathlib.Core.List.{List}
use native.Mathlib.Omega.{arith}
use lib.Dec.{eqb, ltb}
use lib.ListN.{length, get_or, take}
use borrow.Author.Tests.{eqb-true, lt-ltb, ltb-true}
use Rattle.sets.specs.Masks.{has_bit}
use Rattle.sets.proofs.Truth.{never, not_so, and_left, and_right, and_intro, or_cases}
use Rattle.sets.specs.Sets.{capacity}
use Rattle.site.specs.Sites.{sites}
use Rattle.site.specs.Sends.{forms}
use Rattle.flight.specs.declared.Flight.{Flight}
use Rattle.flight.specs.declared.Message.{Message}
use Rattle.flight.specs.Flights.{Found, pairs, cells, is_cell, cell_at, receivers_in, message_in, in_flight, message_at, lowest_from, lowest, message}
use Rattle.flight.specs.Shapes.{Shape}
use Rattle.flight.proofs.CellLaws.{range_cell, cell_in}
use Rattle.flight.proofs.FlightLaws.{in_flight_range}
use Rattle.flight.proofs.SearchLaws.{all_cells, comes_at, CellFound, none, cell, cell_found}

-- a message comes before another by form, posting, from, to
unfoldable pub is_lower : ℕ → ℕ → ℕ → ℕ → ℕ → ℕ → ℕ → ℕ → Bool
is_lower g y c d f x a b = ltb g f || eqb g f && (ltb y x || eqb y x && (ltb c a || eqb c a && ltb d b))

-- the message is in flight, to a site of the mask, and no such message is lower
pub record IsLowest (flight : Flight) (up f x a b : ℕ) : Type 0 where
  pub flies : in_flight flight f x a b ≡ true
  pub comes : has_bit up b ≡ true
  pub least : (g y c d : ℕ) → in_flight flight g y c d ≡ true → has_bit up d ≡ true → is_lower g y c d f x a b ≡ false

-- two messages that are the same have the same parts
found_or : Message → Found → Message
found_or m None = m
found_or m (Some n) = n

pub message_parts : (f x a b g y c d : ℕ) → message f x a b ≡ message g y c d → (f ≡ g) × (x ≡ y) × (a ≡ c) × (b ≡ d)
unfolding found_or
message_parts f x a b g y c d e =
    let m : Message = record { form = f; posting = x; from = a; to = b } in
    let n : Message = record { form = g; posting = y; from = c; to = d } in
    let same : m ≡ n = ap (found_or m) e in
    (ap (λ (r : Message). r.form) same, ap (λ (r : Message). r.posting) same, ap (λ (r : Message). r.from) same, ap (λ (r : Message). r.to) same)

pub never_both : {f x a b : ℕ} → None ≡ message f x a b → ⊥
never_both e = let z : ◌≡◌ {A = ℕ} 0 1 = cc in omega arith

-- ---- cells by their place

module _ (k : ℕ) (h : k < cells) where
  place_range : (k / pairs < forms) × (k / sites % capacity < capacity) × (k % sites < sites)
  place_range = (omega arith, omega arith, omega arith)

  pub place_cell : cell_at (k / pairs) (k / sites % capacity) (k % sites) ≡ k
  place_cell = cell_in (k / pairs) (k / sites % capacity) (k % sites) place_range.0 place_range.1 place_range.2 ∙ omega arith

-- a lower message stands in a lower cell, or in the same to a lower site
lower_place :
    (g y c d f x a b : ℕ) → y < capacity → c < sites → x < capacity → a < sites → is_lower g y c d f x a b ≡ true
    → (g * pairs + (y * sites + c) < f * pairs + (x * sites + a)) ⊎ ((g * pairs + (y * sites + c) ≡ f * pairs + (x * sites + a)) × (d < b))
unfolding is_lower
lower_place g y c d f x a b hy hc hx ha t = form (or_cases (ltb g f) (eqb g f && (ltb y x || eqb y x && (ltb c a || eqb c a && ltb d b))) t)
  where
    Lower : Type 0
    Lower = (g * pairs + (y * sites + c) < f * pairs + (x * sites + a)) ⊎ ((g * pairs + (y * sites + c) ≡ f * pairs + (x * sites + a)) × (d < b))

    sender : g ≡ f → y ≡ x → (ltb c a ≡ true) ⊎ (eqb c a && ltb d b ≡ true) → Lower
    sender e q (inl u) = inl (omega (arith, ltb-true c a u))
    sender e q (inr u) = inr (omega (arith, eqb-true c a (and_left (eqb c a) (ltb d b) u)), ltb-true d b (and_right (eqb c a) (ltb d b) u))

    posting : g ≡ f → (ltb y x ≡ true) ⊎ (eqb y x && (ltb c a || eqb c a && ltb d b) ≡ true) → Lower
    posting e (inl u) = inl (omega (arith, ltb-true y x u))
    posting e (inr u) =
        let r = ltb c a || eqb c a && ltb d b in
        sender e (eqb-true y x (and_left (eqb y x) r u)) (or_cases (ltb c a) (eqb c a && ltb d b) (and_right (eqb y x) r u))

    form : (ltb g f ≡ true) ⊎ (eqb g f && (ltb y x || eqb y x && (ltb c a || eqb c a && ltb d b)) ≡ true) → Lower
    form (inl u) = inl (omega (arith, ltb-true g f u))
    form (inr u) =
        let r = ltb y x || eqb y x && (ltb c a || eqb c a && ltb d b) in
        posting (eqb-true g f (and_left (eqb g f) r u)) (or_cases (ltb y x) (eqb y x && (ltb c a || eqb c a && ltb d b)) (and_right (eqb g f) r u))

module _ (flight : Flight) (s : Shape flight) (up : ℕ) where
  -- the arrays have no cell past the last
  pub whole_masks : take cells flight.masks ≡ flight.masks
  whole_masks = all_cells flight.masks s.masks.long

  -- what is in flight, by its cell
  bit_in_flight : (f x a b : ℕ) → in_flight flight f x a b ≡ true → has_bit up b ≡ true → comes_at flight.masks up (cell_at f x a) b ≡ true
  unfolding in_flight message_in
  bit_in_flight f x a b t u =
      let bit = has_bit (receivers_in flight.masks f x a) b in
      and_intro bit (has_bit up b) (and_right (ltb b sites) bit (and_right (is_cell f x a) (ltb b sites && bit) t)) u

  cell_in_flight : (k b : ℕ) → k < cells → b < sites → has_bit (get_or flight.masks k 0) b ≡ true → in_flight flight (k / pairs) (k / sites % capacity) (k % sites) b ≡ true
  unfolding in_flight message_in
  cell_in_flight k b h v t =
      let (hf, hx, ha) = place_range k h in
      rw (range_cell (k / pairs) (k / sites % capacity) (k % sites) hf hx ha, lt-ltb b sites v, place_cell k h) t

  -- the search of the masks
  abbrev Search : Type 0
  Search = CellFound 0 flight.masks up

  search_all : Search
  search_all = cell_found 0 flight.masks up

  all_masks : lowest flight up ≡ lowest_from 0 flight.masks up
  all_masks = ap (λ (l : List ℕ). lowest_from 0 l up) whole_masks

  -- ---- a message found

  module _ (j b : ℕ) (hj : j < length flight.masks) (hb : b < sites) (t : comes_at flight.masks up j b ≡ true)
      (rest : (i c : ℕ) → c < sites → (i < j) ⊎ ((i ≡ j) × (c < b)) → comes_at flight.masks up i c ≡ false) where
    in_cells : j < cells
    in_cells = omega (arith, s.masks.long)

    cell_lowest : IsLowest flight up (j / pairs) (j / sites % capacity) (j % sites) b
    cell_lowest =
        record {
          flies = cell_in_flight j b in_cells hb (and_left (has_bit (get_or flight.masks j 0) b) (has_bit up b) t);
          comes = and_right (has_bit (get_or flight.masks j 0) b) (has_bit up b) t;
          least = λ g y c d v u. not_so (is_lower g y c d (j / pairs) (j / sites % capacity) (j % sites) b) (λ w. lower g y c d v u w);
        }
      where
        lower : (g y c d : ℕ) → in_flight flight g y c d ≡ true → has_bit up d ≡ true → is_lower g y c d (j / pairs) (j / sites % capacity) (j % sites) b ≡ true → ⊥
        lower g y c d v u w =
            let (hg, hy, hc, hd) = in_flight_range flight g y c d v in
            let (hf, hx, ha) = place_range j in_cells in
            let e : cell_at g y c ≡ g * pairs + (y * sites + c) = cell_in g y c hg hy hc in
            never (bit_in_flight g y c d v u)
            (rest (cell_at g y c) d hd (before e (lower_place g y c d (j / pairs) (j / sites % capacity) (j % sites) b hy hc hx ha w)))
          where
            before :
                cell_at g y c ≡ g * pairs + (y * sites + c)
                → (g * pairs + (y * sites + c) < j / pairs * pairs + (j / sites % capacity * sites + j % sites))
                ⊎ ((g * pairs + (y * sites + c) ≡ j / pairs * pairs + (j / sites % capacity * sites + j % sites)) × (d < b))
                → (cell_at g y c < j) ⊎ ((cell_at g y c ≡ j) × (d < b))
            before e (inl l) = inl (omega (arith, in_cells))
            before e (inr l) = inr (omega (arith, in_cells), l.1)

  pub lowest_found : (f x a b : ℕ) → lowest flight up ≡ message f x a b → IsLowest flight up f x a b
  lowest_found f x a b e = go search_all
    where
      at : (k d : ℕ) → IsLowest flight up (k / pairs) (k / sites % capacity) (k % sites) d → message_at k d ≡ message f x a b → IsLowest flight up f x a b
      at k d l q =
          let (q0, q1, q2, q3) = message_parts (k / pairs) (k / sites % capacity) (k % sites) d f x a b q in
          rw (q0, q1, q2, q3) at l

      go : Search → IsLowest flight up f x a b
      go (none n rest) = absurd (never_both (sym (all_masks ∙ n) ∙ e))
      go (cell j d hj hb n t rest) =
          at j d (cell_lowest j d hj hb t rest)
          (ap (λ (k : ℕ). message_at k d) (omega arith) ∙ sym (all_masks ∙ n) ∙ e)

  -- ---- nothing found

  pub lowest_nothing : lowest flight up ≡ None → (f x a b : ℕ) → in_flight flight f x a b ≡ true → has_bit up b ≡ false
  lowest_nothing e f x a b t = go search_all
    where
      go : Search → has_bit up b ≡ false
      go (none n rest) =
          let (hf, hx, ha, hb) = in_flight_range flight f x a b t in
          not_so (has_bit up b) (λ u. never (bit_in_flight f x a b t u) (rest (cell_at f x a) b hb))
      go (cell j d hj hb n v rest) = absurd (never_both (sym e ∙ all_masks ∙ n))
