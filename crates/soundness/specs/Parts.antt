-- The parts of the test for soundness, each over what it reads alone.
-- Proof machinery: the contracts of src/ name these parts, and machine's sound_parts says that they make up is_sound, the definition in its Soundness.
-- Rests on site, posting and sets.
use Rattle.std.specs.Prelude.{ℕ, ◌^◌, Bool, not, ◌&&◌, ◌||◌, List, [], ◌∷◌, eqb, ltb, leb, get_or}
use Rattle.sets.specs.declared.Set.{Set}
use Rattle.sets.specs.Below.{all_below, all_of}
use Rattle.sets.specs.Numbers.{distinct}
use Rattle.sets.specs.Sets.{capacity, has, subset, is_empty_set, set_of}
use Rattle.posting.specs.declared.Posting.{Posting}
use Rattle.posting.specs.declared.Table.{Table}
use Rattle.posting.specs.declared.Record.{Record}
use Rattle.posting.specs.Kinds.{fields_ok}
use Rattle.posting.specs.Conflicts.{row, offered_by}
use Rattle.posting.specs.Records.{numbers_of, contains}
use Rattle.site.specs.declared.Site.{Site}
use Rattle.site.specs.declared.Tally.{Tally}
use Rattle.site.specs.Sites.{no_set, no_site, no_tally}
use Rattle.site.specs.Steps.{owner_of}

-- ---- the parts, where there are n sites and `count` postings offered, `all` as a set

abbrev pub all_offered : ℕ → Set
all_offered count = set_of (offered_by count)

unfoldable pub row_sound : ℕ → Posting → Bool
row_sound n p = ltb p.owner n && fields_ok p

unfoldable pub table_sound : ℕ → Table → Bool
table_sound n t = leb t.count capacity && all_below (λ m. row_sound n (row t m)) t.count

unfoldable pub mask_sound : ℕ → ℕ → ℕ → ℕ → Bool
mask_sound n count m mask = eqb mask 0 || (offered_by count m && ltb mask (2 ^ n))

-- the masks of all postings, by number
unfoldable pub masks_sound : ℕ → ℕ → List ℕ → Bool
masks_sound n count masks = all_below (λ m. mask_sound n count m (get_or masks m 0)) capacity

unfoldable pub record_sound : ℕ → Record → Bool
record_sound count r =
    all_of (leb r.count capacity ∷ all_below (λ i. offered_by count (get_or r.numbers i 0)) r.count ∷ distinct (numbers_of r) ∷ [])

-- the sets of a site
unfoldable pub sets_sound : Set → Site → Bool
sets_sound all s =
    all_of
    (subset s.seen all
    ∷ subset s.held all
    ∷ subset s.stepped all
    ∷ subset s.finished all
    ∷ subset s.got all
    ∷ [])

-- a site, where the log has `logged` entries
unfoldable pub site_sound : ℕ → ℕ → ℕ → Set → Site → Bool
site_sound n count logged all s =
    all_of
    (sets_sound all s
    ∷ masks_sound n count s.heard
    ∷ masks_sound n count s.good
    ∷ record_sound count s.delivered
    ∷ leb s.place logged
    ∷ [])

unfoldable pub sites_sound : ℕ → ℕ → ℕ → Set → List Site → Bool
sites_sound n count logged all l = all_below (λ p. site_sound n count logged all (get_or l p no_site)) n

unfoldable pub tally_sound : ℕ → ℕ → Set → ℕ → Tally → Bool
tally_sound n count all m t =
    all_of
    (mask_sound n count m t.heard
    ∷ mask_sound n count m t.has
    ∷ (is_empty_set t.union || (offered_by count m && subset t.union all))
    ∷ [])

unfoldable pub tallies_sound : ℕ → ℕ → Set → List Tally → Bool
tallies_sound n count all l = all_below (λ m. tally_sound n count all m (get_or l m no_tally)) capacity

-- the postings that their owners have finished
unfoldable pub finished_set : Table → List Site → Set
finished_set t l = set_of (λ m. has (get_or l (owner_of t m) no_site).finished m)

-- a posting in pool or log or neither; `within`: its entry's set names postings offered
unfoldable pub entry_sound : Bool → Bool → Bool → Bool → Bool
entry_sound pooled logged finished within = not (pooled || logged) || all_of (not (pooled && logged) ∷ finished ∷ within ∷ [])

unfoldable pub entries_sound : Set → Set → Set → List Set → Set → Bool
entries_sound pool logged finished l all =
    all_below (λ m. entry_sound (has pool m) (has logged m) (has finished m) (subset (get_or l m no_set) all)) capacity

-- the pool, the log and their entries
unfoldable pub pool_sound : Table → List Site → Set → Set → List Set → Record → Bool
pool_sound t l all pool entries log =
    all_of (subset pool all ∷ record_sound t.count log ∷ entries_sound pool (set_of (contains log)) (finished_set t l) entries all ∷ [])
