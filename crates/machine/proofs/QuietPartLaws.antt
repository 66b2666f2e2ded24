-- The parts of quiet make up is_quiet, the definition in Runs.
-- Rests on QuietParts and Runs, on flight and sets. Assumes nothing.
use Prim.Native.Nat.{ℕ, suc, ◌+◌, ◌-◌, ◌%◌, ◌^◌, ◌<◌, ◌≤◌}
use mathlib.Core.Path.{◌≡◌, refl, sym, ap, ap₂, ◌∙◌}
use mathlib.Core.Bool.{Bool, true, false, cond, ◌&&◌, ◌||◌}
use mathlib.Core.List.{List, [], ◌∷◌}
use native.Mathlib.Omega.{arith}
use lib.Dec.{eqb, ltb, leb}
use lib.ListN.{length, get_or, take}
use lib.Bits.{bit_and, and_mod, and_le_l}
use lib.Pow.{pow-lt, pow_mono, not_mod}
use native.Mathlib.Nat.{lt_of_lt_of_le, mod-eq_of_lt}
use borrow.Author.Tests.{le-leb, lt-leb}
use Rattle.sets.specs.Masks.{has_bit}
use Rattle.sets.proofs.Truth.{or_right}
use Rattle.sets.specs.Below.{all_below}
use Rattle.sets.proofs.BelowLaws.{all_from, all_ext}
use Rattle.sets.specs.declared.Set.{Set}
use Rattle.sets.specs.Sets.{is_empty_set}
use Rattle.site.specs.Sites.{sites}
use Rattle.arrays.specs.Layout.{place_at, logged_at}
use Rattle.flight.specs.Flights.{cells, nothing_comes}
use Rattle.flight.specs.Shapes.{Bytes}
use Rattle.flight.proofs.SearchLaws.{all_cells}
use Rattle.machine.specs.declared.Board.{Board}
use Rattle.machine.specs.Boards.{site_at, is_down}
use Rattle.machine.specs.Runs.{up_mask, is_quiet}
use Rattle.machine.specs.QuietParts.{up_byte, place_in, has_read, all_have_read, PlacesOf, quiet_by}

-- ---- the sites that are up, as a byte

-- from 8 sites on, of a byte of those down
pub up_many : (n down : ℕ) → 8 ≤ n → down < 2 ^ 8 → up_byte n down ≡ 255 - down
unfolding up_byte
up_many n down h small =
    let e : n ≡ (n - 8) + 8 = omega arith in
    let below : down < 2 ^ n = lt_of_lt_of_le small (pow_mono h) in
    ap (λ (d : ℕ). ((2 ^ n - 1) - d) % 2 ^ 8) (mod-eq_of_lt below)
    ∙ ap (λ (k : ℕ). ((2 ^ k - 1) - down) % 2 ^ 8) e ∙ not_mod (n - 8) 8 small

-- below 8 it is the mask itself
pub up_few : (n down : ℕ) → n < 8 → up_byte n down ≡ (2 ^ n - 1) - down % 2 ^ n
unfolding up_byte
up_few n down h = omega (arith, pow-lt h)

-- so it is on a board of at most 7 sites
pub up_byte_lem : (b : Board) → b.setup.n ≤ sites → up_byte b.setup.n b.down ≡ up_mask b
unfolding up_mask
up_byte_lem b h = up_few b.setup.n b.down (omega arith)

-- ---- a mask in flight names eight sites

and_low : (mask up : ℕ) → mask < 2 ^ 8 → bit_and mask (up % 2 ^ 8) ≡ bit_and mask up
and_low mask up h =
    let e : mask % 2 ^ 8 ≡ mask = omega arith in
    ap (λ (x : ℕ). bit_and x (up % 2 ^ 8)) (sym e) ∙ sym (and_mod mask up 8) ∙ omega (arith, and_le_l mask up)

comes_low : (l : List ℕ) (up : ℕ) → ((i : ℕ) → i < length l → get_or l i 0 < 2 ^ 8) → nothing_comes l (up % 2 ^ 8) ≡ nothing_comes l up
unfolding nothing_comes
comes_low [] up small = refl
comes_low (mask ∷ l) up small =
    ap₂ (λ (x : ℕ) (so : Bool). eqb x 0 && so) (and_low mask up (small 0 (omega arith))) (comes_low l up (λ i h. small (suc i) (omega arith)))

-- ---- quiet, by its parts

module _ (b : Board) (counts : List ℕ) (at : PlacesOf b counts) where
  read_parts : all_below (λ p. is_down b p || leb b.log.count (site_at b p).place) b.setup.n ≡ all_have_read b.setup.n b.down counts
  unfolding all_have_read
  read_parts =
      all_ext (λ p. is_down b p || leb b.log.count (site_at b p).place) (has_read b.down counts) b.setup.n
      (λ p h. ap₂ (λ (l q : ℕ). is_down b p || leb l q) at.logged (at.places p))

  pub quiet_parts : Bytes cells b.flight.masks → is_quiet b ≡ quiet_by b.flight.masks b.setup.n b.down b.pool counts
  unfolding is_quiet up_mask up_byte
  quiet_parts bytes =
      let masks = b.flight.masks in
      let small : (i : ℕ) → i < length masks → get_or masks i 0 < 2 ^ 8 = λ i h. bytes.small i (omega (arith, bytes.long)) in
      rw (all_cells masks bytes.long, comes_low masks (up_mask b) small, read_parts)

  -- of few sites, whatever the masks are
  pub quiet_few : b.setup.n ≤ sites → length b.flight.masks ≡ cells → is_quiet b ≡ quiet_by b.flight.masks b.setup.n b.down b.pool counts
  unfolding is_quiet
  quiet_few few long = rw (all_cells b.flight.masks long, up_byte_lem b few, read_parts)

-- ---- what was read

-- nothing was logged
pub read_none : (n down : ℕ) (counts : List ℕ) → get_or counts logged_at 0 ≡ 0 → all_have_read n down counts ≡ true
unfolding all_have_read
read_none n down counts e =
    all_from (has_read down counts) n (λ p h. or_right (has_bit down p) _ (le-leb (get_or counts logged_at 0) (place_in counts p) (omega arith)))

-- a site that is up and has not read it all
pub behind : (down : ℕ) (counts : List ℕ) (p : ℕ) → has_bit down p ≡ false → place_in counts p < get_or counts logged_at 0 → has_read down counts p ≡ false
behind down counts p f h = rw (f, lt-leb (get_or counts logged_at 0) (place_in counts p) h)
