-- The flat arrays of a board at work, and what is read from a slot of sets and stored there.
-- Rests on Layout, on flight for the arrays of what is in flight, on steps for cuts.
use Rattle.std.specs.Prelude.{ℕ, ◌+◌, ◌*◌, ◌-◌, ◌/◌, ◌%◌, ◌^◌, Bool, List, get_or, set, replicate}
use Rattle.std.proofs.lemmas.List.Edits.{sets}
use Rattle.std.specs.Int.Bits.{bit_or, bit_and}
use Rattle.sets.specs.declared.Set.{Set}
use Rattle.sets.specs.Masks.{has_bit}
use Rattle.sets.specs.Sets.{words, capacity, of_words}
use Rattle.flight.specs.Flights.{cells, pairs, words_from}
use Rattle.steps.specs.declared.Cut.{Cut}
use Rattle.steps.specs.Cuts.{down_after}
use Rattle.arrays.specs.declared.Arrays.{Arrays}
use Rattle.arrays.specs.Layout.{sets_long, counts_long, bytes_long, down_at}

-- the arrays of a board at work
abbrev pub arrays : List ℕ → List ℕ → List ℕ → List ℕ → List ℕ → List ℕ → List ℕ → Arrays
arrays sets counts bytes amounts masks good carried =
    record { sets = sets; counts = counts; bytes = bytes; amounts = amounts; masks = masks; good = good; carried = carried }

-- nothing but zeros
abbrev pub zeros : Arrays
zeros = arrays (replicate sets_long 0) (replicate counts_long 0) (replicate bytes_long 0) (replicate capacity 0) (replicate cells 0) (replicate pairs 0) (replicate (words * pairs) 0)

-- the arrays with one of them changed
abbrev pub with_sets : Arrays → List ℕ → Arrays
with_sets a sets = arrays sets a.counts a.bytes a.amounts a.masks a.good a.carried

abbrev pub with_counts : Arrays → List ℕ → Arrays
with_counts a counts = arrays a.sets counts a.bytes a.amounts a.masks a.good a.carried

abbrev pub with_bytes : Arrays → List ℕ → Arrays
with_bytes a bytes = arrays a.sets a.counts bytes a.amounts a.masks a.good a.carried

abbrev pub with_masks : Arrays → List ℕ → Arrays
with_masks a masks = arrays a.sets a.counts a.bytes a.amounts masks a.good a.carried

abbrev pub with_good : Arrays → List ℕ → Arrays
with_good a good = arrays a.sets a.counts a.bytes a.amounts a.masks good a.carried

abbrev pub with_carried : Arrays → List ℕ → Arrays
with_carried a carried = arrays a.sets a.counts a.bytes a.amounts a.masks a.good carried

-- ---- a set in its slot

-- the set of a slot
unfoldable pub slot_set : List ℕ → ℕ → Set
slot_set ws slot = of_words (words_from ws (words * slot) words)

-- a set stored
unfoldable pub storing : List ℕ → ℕ → Set → List ℕ
storing ws slot s = sets ws (words * slot) s.words

-- the word that has posting m's bit
abbrev pub word_at : ℕ → ℕ → ℕ
word_at slot m = words * slot + m / 64

-- m is in the set
unfoldable pub has_in : List ℕ → ℕ → ℕ → Bool
has_in ws slot m = has_bit (get_or ws (word_at slot m) 0) (m % 64)

-- m joins the set, where it lies
unfoldable pub adding : List ℕ → ℕ → ℕ → List ℕ
adding ws slot m = set ws (word_at slot m) (bit_or (get_or ws (word_at slot m) 0) (2 ^ (m % 64)))

-- m leaves it
unfoldable pub dropping : List ℕ → ℕ → ℕ → List ℕ
dropping ws slot m = set ws (word_at slot m) (bit_and (get_or ws (word_at slot m) 0) ((2 ^ 64 - 1) - 2 ^ (m % 64)))

-- ---- bytes

abbrev pub byte : List ℕ → ℕ → ℕ
byte bs i = get_or bs i 0

-- site p goes down if its step is cut
unfoldable pub marked : List ℕ → ℕ → Cut → List ℕ
marked bs p cut = set bs down_at (down_after (byte bs down_at) p cut)
