-- What is in flight, tested cell by cell and block by block, where there are n sites, `all` the postings offered as a set.
-- Proof machinery: the contracts of src/ name these tests, and machine's cells_part ties them to its definition of soundness.
-- Rests on flight, site, posting and sets.
use Rattle.std.specs.Prelude.{ℕ, zero, suc, ◌+◌, ◌*◌, ◌/◌, ◌%◌, ◌^◌, Bool, not, ◌&&◌, ◌||◌, List, [], ◌∷◌, eqb, ltb, get_or}
use Rattle.std.specs.Int.Bits.{bit_or}
use Rattle.sets.specs.declared.Set.{Set}
use Rattle.sets.specs.Below.{all_below, all_of}
use Rattle.sets.specs.Sets.{capacity, subset}
use Rattle.posting.specs.declared.Table.{Table}
use Rattle.posting.specs.Conflicts.{offered_by}
use Rattle.site.specs.Sites.{sites}
use Rattle.site.specs.Sends.{THIRD}
use Rattle.site.specs.Steps.{owner_of}
use Rattle.flight.specs.Flights.{cells, set_in}

-- a THIRD about m from a site: it goes to the owner, and its set names postings offered
unfoldable pub third_sound : ℕ → Set → List ℕ → ℕ → ℕ → ℕ → Bool
third_sound owner all carried m from mask = eqb mask (2 ^ owner) && subset (set_in carried m from) all

-- the posting of cell k
abbrev pub posting_at : ℕ → ℕ
posting_at k = k / sites % capacity

-- cell k, whose posting has this owner
unfoldable pub cell_sound : ℕ → ℕ → ℕ → Set → List ℕ → ℕ → ℕ → Bool
cell_sound n count owner all carried k mask =
    eqb mask 0
    || all_of
    (offered_by count (posting_at k)
    ∷ ltb (k % sites) n
    ∷ ltb mask (2 ^ n)
    ∷ (not (eqb (k / (capacity * sites)) THIRD) || third_sound owner all carried (posting_at k) (k % sites) mask)
    ∷ [])

-- the cell at place k
unfoldable pub cell_sound_at : ℕ → Table → Set → List ℕ → List ℕ → ℕ → Bool
cell_sound_at n t all carried masks k = cell_sound n t.count (owner_of t (posting_at k)) all carried k (get_or masks k 0)

-- how many cells make a block
abbrev pub block : ℕ
block = 64

-- the block of cells from k on
unfoldable pub block_sound : ℕ → Table → Set → List ℕ → List ℕ → ℕ → Bool
block_sound n t all carried masks k = all_below (λ i. cell_sound_at n t all carried masks (k + i)) block

unfoldable pub cells_sound : ℕ → Table → Set → List ℕ → List ℕ → Bool
cells_sound n t all carried masks = all_below (cell_sound_at n t all carried masks) cells

-- i masks from place k on, joined
unfoldable pub joined : List ℕ → ℕ → ℕ → ℕ
joined masks k zero = 0
joined masks k (suc i) = bit_or (joined masks k i) (get_or masks (k + i) 0)
