-- Look-ups, and what must come of each: the answer, how many places were visited, and the slice to its end.
-- Rests on lookups and machine. The board of the tables has records 0 1 at site 0, none at site 1, and 0 at site 2, which is down.
use Rattle.std.specs.Prelude.{ℕ, zero, suc, ◌≡◌, List, [], ◌∷◌, ◌++◌, map, ℤ, pos, neg_ℤ, replicate}
use Rattle.machine.specs.declared.Board.{Board}
use Rattle.machine.specs.declared.Answer.TheVariants.{Done, Refused}
use Rattle.lookups.specs.Lookups.{Looked, looking_up}

-- pairs and a lent slice
pub record Case : Type 0 where
  pub pairs : List ℕ
  pub lent : List ℤ
  pub gives : Looked

-- all cases of a table hold on a board
abbrev pub Hold : Board → List Case → Type 0
Hold b cases = map (λ c. looking_up b c.pairs c.lent) cases ≡ map (λ c. c.gives) cases

-- a lent slice of so many numbers, each 7
abbrev pub sevens : ℕ → List ℤ
sevens n = replicate n (pos 7)

-- accepted: so many places visited, and what the slice has then
abbrev pub shows : List ℕ → List ℤ → ℕ → List ℤ → Case
shows pairs lent visited slice = record { pairs = pairs; lent = lent; gives = record { answer = Done; visited = visited; slice = slice } }

-- refused by a number: no place visited, and the slice as it was
abbrev pub refuses : List ℕ → List ℤ → ℕ → Case
refuses pairs lent number = record { pairs = pairs; lent = lent; gives = record { answer = Refused number; visited = 0; slice = lent } }

-- the same again and again
unfoldable pub times : {A : Type 0} → ℕ → List A → List A
times zero l = []
times (suc n) l = l ++ times n l

-- TRADE 0 (1, 2, 1001) and RATE 1 (of 1, 250), of sites 0 and 2
unfoldable pub balances : List Case
balances =
    -- site 2, which is down; site 0; site 1, whose record is empty; site 0 again, another account; and the second pair once more.
    -- Records of 1, 2 and 0 places; what lies beyond the lines stays
    shows (2 ∷ 1 ∷ 0 ∷ 1 ∷ 1 ∷ 1 ∷ 0 ∷ 2 ∷ 0 ∷ 1 ∷ []) (sevens 22) 3
    (pos 1001 ∷ pos 0 ∷ pos 0 ∷ pos 0
    ∷ pos 1001 ∷ pos 250 ∷ pos 0 ∷ pos 0
    ∷ pos 0 ∷ pos 0 ∷ pos 0 ∷ pos 0
    ∷ neg_ℤ (pos 1001) ∷ pos 0 ∷ pos 0 ∷ pos 0
    ∷ pos 1001 ∷ pos 250 ∷ pos 0 ∷ pos 0
    ∷ pos 7 ∷ pos 7 ∷ [])
    -- no pair: nothing visited, nothing written; a single byte is none either
    ∷ shows [] [] 0 []
    ∷ shows (9 ∷ []) (sevens 1) 0 (sevens 1)
    -- an odd last byte is not looked at, whatever it is
    ∷ shows (2 ∷ 1 ∷ 9 ∷ []) (sevens 4) 1 (pos 1001 ∷ pos 0 ∷ pos 0 ∷ pos 0 ∷ [])
    -- a site named often is gone through once
    ∷ shows (0 ∷ 15 ∷ 0 ∷ 15 ∷ []) (sevens 8) 2 (replicate 8 (pos 0))
    -- 7: a site of n or more, in the last pair too, and where 18 applies by its account, its slice and its number of pairs
    ∷ refuses (0 ∷ 1 ∷ 3 ∷ 1 ∷ []) (sevens 8) 7
    ∷ refuses (255 ∷ 1 ∷ []) (sevens 4) 7
    ∷ refuses (3 ∷ 16 ∷ []) [] 7
    ∷ refuses (times 256 (0 ∷ 1 ∷ []) ++ (3 ∷ 1 ∷ [])) (sevens 1028) 7
    -- 18: an account above 15
    ∷ refuses (0 ∷ 16 ∷ []) (sevens 4) 18
    ∷ refuses (0 ∷ 1 ∷ 0 ∷ 255 ∷ []) (sevens 8) 18
    -- 18: a slice under four numbers a pair
    ∷ refuses (0 ∷ 1 ∷ 0 ∷ 1 ∷ []) (sevens 7) 18
    -- 18: more than 256 pairs
    ∷ refuses (times 257 (0 ∷ 1 ∷ [])) (sevens 1028) 18
    ∷ []

-- 256 pairs are accepted. A table of its own: the check of one theorem may take so many steps
unfoldable pub many : List Case
many = shows (times 256 (2 ∷ 2 ∷ [])) (sevens 1025) 1 (times 256 (neg_ℤ (pos 1001) ∷ pos 0 ∷ pos 0 ∷ pos 0 ∷ []) ++ (pos 7 ∷ [])) ∷ []
