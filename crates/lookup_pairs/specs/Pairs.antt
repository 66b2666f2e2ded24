-- Pairs of site and account as bytes: what refuses them, which sites they name, what is visited for them, and their lines in the order given (document 02, W3).
-- Rests on steps for causes, on posting for the number of accounts, on sets for tests below a bound.
use Rattle.std.specs.Prelude.{ℕ, zero, suc, ◌+◌, ◌*◌, ◌/◌, Bool, cond, ◌||◌, List, [], ◌∷◌, ◌++◌, eqb, ltb, leb, ℤ, length, get_or, take, drop}
use Rattle.sets.specs.Below.{any_below}
use Rattle.posting.specs.Kinds.{accounts}
use Rattle.steps.specs.Causes.{Cause, cause}

-- ---- pairs: site and account, a byte each; an odd last byte is no pair

abbrev pub pair_count : List ℕ → ℕ
pair_count pairs = length pairs / 2

abbrev pub site_in : List ℕ → ℕ → ℕ
site_in pairs i = get_or pairs (2 * i) 0

abbrev pub account_in : List ℕ → ℕ → ℕ
account_in pairs i = get_or pairs (2 * i + 1) 0

-- the most pairs
abbrev pub pair_limit : ℕ
pair_limit = 256

-- some pair passes
abbrev pub any_pair : (ℕ → ℕ → Bool) → List ℕ → Bool
any_pair test pairs = any_below (λ i. test (site_in pairs i) (account_in pairs i)) (pair_count pairs)

-- ---- refusals

-- what 18 refuses, for a lent slice of so many numbers: more than 256 pairs, an account over 15, a slice under four numbers a pair
abbrev pub beyond : ℕ → List ℕ → Bool
beyond room pairs =
    ltb pair_limit (pair_count pairs) || (any_pair (λ site account. leb accounts account) pairs || ltb room (4 * pair_count pairs))

-- 7 and 18, of n sites
abbrev pub pair_causes : ℕ → ℕ → List ℕ → List Cause
pair_causes n room pairs = cause 7 (any_pair (λ site account. leb n site) pairs) ∷ cause 18 (beyond room pairs) ∷ []

-- ---- places visited

-- some pair names site p
unfoldable pub is_named : List ℕ → ℕ → Bool
is_named pairs p = any_pair (λ site account. eqb p site) pairs

-- of the first n sites those that pass the test, the lengths of their records added up
unfoldable pub visited_to : ℕ → (ℕ → Bool) → (ℕ → ℕ) → ℕ
visited_to zero test long = 0
visited_to (suc p) test long = visited_to p test long + cond (test p) (long p) 0

-- ---- lines

-- of the 64 numbers of a site, the four of account k
abbrev pub line_of : List ℤ → ℕ → List ℤ
line_of numbers k = take 4 (drop (4 * k) numbers)

-- the lines of the first i pairs, from the 64 numbers of each site
unfoldable pub lines_to : ℕ → (ℕ → List ℤ) → List ℕ → List ℤ
lines_to zero numbers pairs = []
lines_to (suc i) numbers pairs = lines_to i numbers pairs ++ line_of (numbers (site_in pairs i)) (account_in pairs i)

-- the lines of all pairs, in the order given
abbrev pub lines_of : (ℕ → List ℤ) → List ℕ → List ℤ
lines_of numbers pairs = lines_to (pair_count pairs) numbers pairs
