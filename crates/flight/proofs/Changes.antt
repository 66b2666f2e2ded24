-- What the stores of the code make of the arrays: one place is set.
-- Rests on Flights and CarriedLaws, on site. Assumes nothing.
use Prim.Native.Nat.{ℕ, ◌*◌, ◌^◌, ◌<◌, ◌≤◌}
use mathlib.Core.Path.{◌≡◌, sym}
use mathlib.Core.Bool.{true, false}
use mathlib.Core.List.{List}
use native.Mathlib.Omega.{arith}
use lib.ListN.{get_or, set}
use lib.Seq.{sets}
use borrow.Author.Tests.{eq-eqb, lt-ltb}
use lib.Bits.{bit_or}
use Rattle.sets.specs.declared.Set.{Set}
use Rattle.sets.specs.Sets.{words, of_words, empty_set}
use Rattle.site.specs.Sends.{SECOND}
use Rattle.flight.specs.Flights.{pairs, cells, pair_at, cell_at, write_at, words_from, set_in, less, sending_to, taking_from, saying, carrying}
use Rattle.flight.specs.ByMask.{good_sent}
use Rattle.flight.proofs.CarriedLaws.{set_past}

-- below the last place one place is set
write_one : (n : ℕ) (l : List ℕ) (i v : ℕ) → i < n → set l i v ≡ write_at n l i v
write_one n l i v h = rw (lt-ltb i n h)

-- ---- receivers

module _ (masks : List ℕ) (form m from i : ℕ) (e : i ≡ cell_at form m from) where
  pub one_sent : (receivers : ℕ) → i < cells → set masks i (bit_or (get_or masks i 0) receivers) ≡ sending_to masks form m from receivers
  unfolding sending_to
  one_sent receivers h = rw (← e) (write_one cells masks i _ h)

  pub one_taken : (to : ℕ) → i < cells → set masks i (less (get_or masks i 0) (2 ^ to)) ≡ taking_from masks form m from to
  unfolding taking_from
  one_taken to h = rw (← e) (write_one cells masks i _ h)

-- ---- GOODs

module _ (good : List ℕ) (form m from i : ℕ) (e : i ≡ pair_at m from) where
  pub one_good : (receivers : ℕ) → form ≡ SECOND → i < pairs → set good i (bit_or (get_or good i 0) receivers) ≡ good_sent good form m from receivers true
  unfolding saying
  one_good receivers f h = rw (eq-eqb form SECOND f, ← e, lt-ltb i pairs h)

  pub one_bad : (receivers : ℕ) → form ≡ SECOND → i < pairs → set good i (less (get_or good i 0) receivers) ≡ good_sent good form m from receivers false
  unfolding saying
  one_bad receivers f h = rw (eq-eqb form SECOND f, ← e, lt-ltb i pairs h)

-- ---- carried sets

module _ (carried : List ℕ) (m from i : ℕ) (e : i ≡ pair_at m from) where
  pub one_carried : (load : Set) → i < pairs → sets carried (words * i) load.words ≡ carrying carried m from load
  unfolding carrying
  one_carried load h = rw (← e, lt-ltb i pairs h)

  pub no_set_lem : pairs ≤ i → empty_set ≡ set_in carried m from
  no_set_lem h = sym (set_past carried m from (omega arith))

  pub one_set : i < pairs → of_words (words_from carried (words * i) words) ≡ set_in carried m from
  unfolding set_in
  one_set h = rw (← e, lt-ltb i pairs h)
