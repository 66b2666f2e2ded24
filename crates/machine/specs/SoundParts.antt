-- The test for soundness, by the parts that soundness and cells test: what the contracts of src/sound.rt name.
-- Proof machinery: sound_parts in proofs/SoundPartLaws says that they make up is_sound. Rests on Soundness, on soundness and cells.
use Rattle.std.specs.Prelude.{ℕ, ◌^◌, Bool, List, [], ◌∷◌, ltb}
use Rattle.sets.specs.declared.Set.{Set}
use Rattle.sets.specs.Below.{all_of}
use Rattle.posting.specs.declared.Table.{Table}
use Rattle.site.specs.declared.Setup.{Setup}
use Rattle.soundness.specs.Parts.{table_sound, sites_sound, tallies_sound, pool_sound}
use Rattle.cells.specs.Cells.{cells_sound}
use Rattle.machine.specs.declared.Board.{Board}
use Rattle.machine.specs.Soundness.{setup_ok}

-- ---- the parts of a board

-- what the rest is tested by: setup and table, and those down
unfoldable pub basis_sound : Setup → ℕ → Table → Bool
basis_sound setup down t = all_of (setup_ok setup ∷ table_sound setup.n t ∷ ltb down (2 ^ setup.n) ∷ [])

-- all of a board, with the set of the postings offered
abbrev pub parts_of : Board → Set → List Bool
parts_of b all =
    basis_sound b.setup b.down b.table
    ∷ sites_sound b.setup.n b.table.count b.log.count all b.sites
    ∷ tallies_sound b.setup.n b.table.count all b.tallies
    ∷ cells_sound b.setup.n b.table all b.flight.carried b.flight.masks
    ∷ pool_sound b.table b.sites all b.pool b.entries b.log
    ∷ []
