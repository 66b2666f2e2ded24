-- A text in a lent slice, whole or not at all: what the slice is then, and what is answered.
-- Rests on nothing of the repository.
use Rattle.std.specs.Prelude.{ℕ, Bool, cond, List, [], ◌∷◌, ◌++◌, Option, Some, None, leb, length, drop}

abbrev pub fits : List ℕ → List ℕ → Bool
fits text slice = leb (length text) (length slice)

-- the slice with the text at its beginning, if it fits; what lies beyond stays
unfoldable pub slice_printed : List ℕ → List ℕ → List ℕ
slice_printed text slice = cond (fits text slice) (text ++ drop (length text) slice) slice

-- document 01's number of the refusal, 16 of a lent slice that is too short, 0 of what is accepted, and the values that come with it: the count of bytes
abbrev pub written_of : Option ℕ → ℕ × List ℕ
written_of (Some count) = (0, count ∷ [])
written_of None = (16, [])

-- how many bytes were written; none if the slice is too short
unfoldable pub answer_printed : List ℕ → List ℕ → Option ℕ
answer_printed text slice = cond (fits text slice) (Some (length text)) None
