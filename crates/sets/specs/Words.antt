-- A set of numbers as a list of 64-bit words: number m is bit m % 64 of word m / 64.
-- Rests on Masks. The definitions hold for lists of any length; a word that is not there counts as 0, so a number past the last word is in no set.
use Rattle.std.specs.Prelude.{ℕ, zero, suc, ◌*◌, ◌-◌, ◌/◌, ◌%◌, ◌^◌, ◌<◌, ◌≡◌, Bool, true, cond, ◌&&◌, List, [], ◌∷◌, ◌++◌, eqb, length, get_or, set, replicate}
use Rattle.std.specs.Int.Bits.{bit_or, bit_and}
use Rattle.sets.specs.Masks.{has_bit}

-- word i
abbrev pub word : List ℕ → ℕ → ℕ
word ws i = get_or ws i 0

-- whether m is in the set
unfoldable pub member : List ℕ → ℕ → Bool
member ws m = has_bit (word ws (m / 64)) (m % 64)

-- the set with m; without a word for m, the set as it is
unfoldable pub insert : List ℕ → ℕ → List ℕ
insert ws m = set ws (m / 64) (bit_or (word ws (m / 64)) (2 ^ (m % 64)))

-- the set without m; without a word for m, the set as it is
unfoldable pub remove : List ℕ → ℕ → List ℕ
remove ws m = set ws (m / 64) (bit_and (word ws (m / 64)) ((2 ^ 64 - 1) - 2 ^ (m % 64)))

-- the set with m if so
unfoldable pub insert_if : List ℕ → ℕ → Bool → List ℕ
insert_if ws m so = cond so (insert ws m) ws

-- two sets, word by word
unfoldable pub wordwise : (ℕ → ℕ → ℕ) → List ℕ → List ℕ → List ℕ
wordwise f [] [] = []
wordwise f [] (v ∷ vs) = f 0 v ∷ wordwise f [] vs
wordwise f (w ∷ ws) [] = f w 0 ∷ wordwise f ws []
wordwise f (w ∷ ws) (v ∷ vs) = f w v ∷ wordwise f ws vs

-- what is in either
unfoldable pub union : List ℕ → List ℕ → List ℕ
union ws vs = wordwise bit_or ws vs

-- what is in both
unfoldable pub intersect : List ℕ → List ℕ → List ℕ
intersect ws vs = wordwise bit_and ws vs

-- no number is in the set
unfoldable pub is_empty : List ℕ → Bool
is_empty [] = true
is_empty (w ∷ ws) = eqb w 0 && is_empty ws

-- every number in the first set is in the second
unfoldable pub is_subset : List ℕ → List ℕ → Bool
is_subset [] vs = true
is_subset (w ∷ ws) [] = eqb w 0 && is_subset ws []
is_subset (w ∷ ws) (v ∷ vs) = eqb (bit_and w v) w && is_subset ws vs

-- the members below n, in rising number
unfoldable pub members_below : List ℕ → ℕ → List ℕ
members_below ws zero = []
members_below ws (suc n) = members_below ws n ++ cond (member ws n) (n ∷ []) []

-- the members, in rising number
unfoldable pub members : List ℕ → List ℕ
members ws = members_below ws (64 * length ws)

-- in k words, the set of those numbers below n that pass
unfoldable pub collect : ℕ → (ℕ → Bool) → ℕ → List ℕ
collect k p zero = replicate k 0
collect k p (suc n) = insert_if (collect k p n) n (p n)

-- k words, each below 2 ^ 64
pub record Words (k : ℕ) (ws : List ℕ) : Type 0 where
  pub long : length ws ≡ k
  pub small : (i : ℕ) → i < k → word ws i < 2 ^ 64
