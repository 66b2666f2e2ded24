-- Laws of records: the numbers of an empty record and of one with a number more, and what they contain.
-- Rests on Records. A record's place for each number of the capacity is a premise, `Places`. Assumes nothing.
use Prim.Native.Nat.{ℕ, ◌+◌, ◌<◌, ◌≤◌}
use mathlib.Core.Path.{◌≡◌, refl, ap, ◌∙◌}
use mathlib.Core.Bool.{true, false, cond, ◌&&◌, ◌||◌, and-false}
use mathlib.Core.List.{[], ◌∷◌, ◌++◌}
use native.Mathlib.Omega.{arith}
use native.Mathlib.Numerals.{add-one}
use lib.Dec.{eqb, ltb}
use lib.ListN.{length, set, length-take, length-set, length-replicate}
use lib.Seq.{take-suc-set}
use borrow.Author.Tests.{lt-ltb, le-ltb}
use Rattle.sets.specs.Numbers.{listed}
use Rattle.sets.proofs.NumberLaws.{listed_last}
use Rattle.sets.specs.Sets.{capacity}
use Rattle.posting.specs.declared.Record.{Record}
use Rattle.posting.specs.Records.{numbers_of, contains, empty_record, append}

-- what holds of every value of the type: a place for each number
abbrev pub Places : Record → Type 0
Places r = length r.numbers ≡ capacity

pub numbers_empty : numbers_of empty_record ≡ []
unfolding numbers_of
numbers_empty = refl

pub empty_places : Places empty_record
empty_places = length-replicate {A = ℕ} capacity 0

pub length_numbers : (r : Record) → Places r → r.count ≤ capacity → length (numbers_of r) ≡ r.count
unfolding numbers_of
length_numbers r l h = omega (arith, length-take r.count r.numbers)

pub append_full : (r : Record) (m : ℕ) → capacity ≤ r.count → append r m ≡ r
unfolding append
append_full r m h = rw (le-ltb r.count capacity h)

pub append_past : (r : Record) (m : ℕ) → capacity ≤ m → append r m ≡ r
unfolding append
append_past r m h = rw (le-ltb m capacity h, and-false (ltb r.count capacity))

module _ (r : Record) (m : ℕ) (room : r.count < capacity) (h : m < capacity) where
  pub append_room : append r m ≡ record { count = r.count + 1; numbers = set r.numbers r.count m }
  unfolding append
  append_room = rw (lt-ltb r.count capacity room, lt-ltb m capacity h)

  pub numbers_append : Places r → numbers_of (append r m) ≡ numbers_of r ++ m ∷ []
  unfolding numbers_of
  numbers_append l = ap numbers_of append_room ∙ rw (add-one, take-suc-set r.numbers r.count m (omega (arith, l)))

  pub contains_append : Places r → (x : ℕ) → contains (append r m) x ≡ (contains r x || eqb x m)
  unfolding contains
  contains_append l x = ap (listed x) (numbers_append l) ∙ listed_last x (numbers_of r) m

pub append_places : (r : Record) (m : ℕ) → Places r → Places (append r m)
unfolding append
append_places r m l = elim (ltb r.count capacity && ltb m capacity) as (λ so. length (cond so (record { count = r.count + 1; numbers = set r.numbers r.count m }) r).numbers ≡ capacity) [
  | true ↦ length-set r.numbers r.count m ∙ l
  | false ↦ l
]
