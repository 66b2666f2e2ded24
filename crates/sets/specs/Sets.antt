-- The operations of sets, on the declared type Set.
-- Rests on Words, which says what each does to the words.
use Rattle.std.specs.Prelude.{ℕ, ◌*◌, Bool, List, replicate}
use Rattle.sets.specs.Words.{member, insert, remove, insert_if, collect, union, intersect, is_empty, is_subset, members, Words}
use Rattle.sets.specs.declared.Set.{Set}

-- how many words a set has, and so how many postings a board holds
abbrev pub words : ℕ
words = 4

abbrev pub capacity : ℕ
capacity = 64 * words

abbrev pub of_words : List ℕ → Set
of_words ws = record { words = ws }

abbrev pub empty_set : Set
empty_set = of_words (replicate words 0)

abbrev pub has : Set → ℕ → Bool
has s m = member s.words m

abbrev pub with : Set → ℕ → Set
with s m = of_words (insert s.words m)

abbrev pub without : Set → ℕ → Set
without s m = of_words (remove s.words m)

abbrev pub with_if : Set → ℕ → Bool → Set
with_if s m so = of_words (insert_if s.words m so)

abbrev pub join : Set → Set → Set
join s t = of_words (union s.words t.words)

abbrev pub meet : Set → Set → Set
meet s t = of_words (intersect s.words t.words)

abbrev pub subset : Set → Set → Bool
subset s t = is_subset s.words t.words

abbrev pub is_empty_set : Set → Bool
is_empty_set s = is_empty s.words

abbrev pub members_of : Set → List ℕ
members_of s = members s.words

-- the set of those numbers below the capacity that pass
abbrev pub set_of : (ℕ → Bool) → Set
set_of p = of_words (collect words p capacity)

-- what holds of every value of the type
abbrev pub Shape : Set → Type 0
Shape s = Words words s.words
