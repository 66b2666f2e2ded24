-- Lists of posting numbers as the theory uses them: first occurrences, members of a test, delivery into a record, postings applied in turn.
-- Proof machinery, but for first occurrences, of which the audit's order is made. Rests on Lists.
use Rattle.std.specs.Prelude.{ℕ, zero, suc, ◌≡◌, ◌⊎◌, ◌≢◌, Bool, cond, not, List, [], ◌∷◌, ◌++◌, eqb}
use Rattle.broadcast.specs.Lists.{mem, keep}

-- the first occurrences alone
abbrev pub once : List ℕ → List ℕ
once [] = []
once (x ∷ l) = x ∷ keep (λ y. not (eqb y x)) (once l)

-- x stands ahead of the first y (or y is not there and x is)
abbrev pub Ahead : ℕ → ℕ → List ℕ → Type 0
Ahead x y [] = ⊥
Ahead x y (z ∷ l) = (z ≢ y) × ((x ≡ z) ⊎ Ahead x y l)

-- the numbers below n that a test holds of, rising
abbrev pub members : (ℕ → Bool) → ℕ → List ℕ
members q zero = []
members q (suc n) = members q n ++ cond (q n) (n ∷ []) []

-- x is delivered: it goes to the record's end, if the record lacks it
unfoldable pub deliver : List ℕ → ℕ → List ℕ
deliver r x = cond (mem x r) r (r ++ (x ∷ []))

-- the numbers of a list are delivered in turn
abbrev pub deliver_all : List ℕ → List ℕ → List ℕ
deliver_all r [] = r
deliver_all r (x ∷ l) = deliver_all (deliver r x) l

-- a list of postings applied to a state, one by one
abbrev pub fold {ℓ} : {S : Type ℓ} → (ℕ → S → S) → List ℕ → S → S
fold post [] s = s
fold post (x ∷ l) s = fold post l (post x s)
