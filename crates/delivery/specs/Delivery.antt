-- Delivery into the records of the flat arrays: a posting, a list of postings in turn, a log entry; each posting only if absent.
-- Rests on arrays, whose slots behind those of the board hold what each record has. proofs of machine tie it to site's delivering.
use Rattle.std.specs.Prelude.{ℕ, zero, suc, ◌+◌, ◌/◌, Bool, cond, List, [], ◌∷◌, ◌++◌, ltb, get_or, set}
use Rattle.sets.specs.Masks.{has_bit}
use Rattle.sets.specs.Sets.{capacity, members_of}
use Rattle.arrays.specs.Layout.{have_of, delivered_at, record_at, entry_of}
use Rattle.arrays.specs.declared.Arrays.{Arrays}
use Rattle.arrays.specs.Arrays.{arrays, slot_set, has_in, adding}

-- the arrays that a delivery changes
pub record Laid : Type 0 where
  pub sets : List ℕ
  pub counts : List ℕ
  pub bytes : List ℕ

abbrev pub laid : List ℕ → List ℕ → List ℕ → Laid
laid sets counts bytes = record { sets = sets; counts = counts; bytes = bytes }

-- those of a board at work, and the board with them
abbrev pub laid_of : Arrays → Laid
laid_of a = laid a.sets a.counts a.bytes

abbrev pub with_laid : Arrays → Laid → Arrays
with_laid a d = arrays d.sets d.counts d.bytes a.amounts a.masks a.good a.carried

-- how many postings the record of site p has
abbrev pub recorded : List ℕ → ℕ → ℕ
recorded counts p = get_or counts (delivered_at p) 0

-- site p delivers m, if its record lacks it; a full record stays
unfoldable pub delivered : Laid → ℕ → ℕ → Laid
delivered a p m =
    let count = recorded a.counts p in
    cond (has_in a.sets (have_of p) m) a
    (cond (ltb count capacity)
    (laid (adding a.sets (have_of p) m) (set a.counts (delivered_at p) (count + 1)) (set a.bytes (record_at p count) m))
    a)

-- the numbers of a list, in turn
unfoldable pub delivered_all : Laid → ℕ → List ℕ → Laid
delivered_all a p [] = a
delivered_all a p (m ∷ l) = delivered_all (delivered a p m) p l

-- the set bits among the d lowest of a word, numbered from x on
unfoldable pub bits_from : ℕ → ℕ → ℕ → List ℕ
bits_from zero w x = []
bits_from (suc d) w x = cond (has_bit w 0) (x ∷ []) [] ++ bits_from d (w / 2) (suc x)

-- m's entry: the carried set in rising number, then m
unfoldable pub delivered_entry : Laid → ℕ → ℕ → Laid
delivered_entry a p m = delivered_all a p (members_of (slot_set a.sets (entry_of m)) ++ (m ∷ []))
