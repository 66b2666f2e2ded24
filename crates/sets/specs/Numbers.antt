-- Lists of numbers: whether a number is in one, whether none is in it twice, whether they rise.
-- Rests on nothing.
use Rattle.std.specs.Prelude.{ℕ, Bool, true, false, ◌&&◌, ◌||◌, not, List, [], ◌∷◌, eqb, ltb}

-- x is in the list
unfoldable pub listed : ℕ → List ℕ → Bool
listed x [] = false
listed x (y ∷ l) = eqb x y || listed x l

-- no number is in the list twice
unfoldable pub distinct : List ℕ → Bool
distinct [] = true
distinct (x ∷ l) = not (listed x l) && distinct l

-- every number of the list is above x
unfoldable pub above : ℕ → List ℕ → Bool
above x [] = true
above x (y ∷ l) = ltb x y && above x l

-- each number is above those before it
unfoldable pub rising : List ℕ → Bool
rising [] = true
rising (x ∷ l) = above x l && rising l
