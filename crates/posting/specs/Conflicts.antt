-- The table of postings offered, the accounts that a posting touches, which postings conflict, and C(m).
-- Rests on Kinds and sets.
use Rattle.std.specs.Prelude.{ℕ, ◌+◌, Bool, not, ◌&&◌, ◌||◌, eqb, ltb, get_or, set, replicate}
use Rattle.sets.specs.declared.Set.{Set}
use Rattle.sets.specs.Below.{any_below}
use Rattle.sets.specs.Sets.{capacity, with, set_of}
use Rattle.posting.specs.declared.Posting.{Posting}
use Rattle.posting.specs.declared.Table.{Table}
use Rattle.posting.specs.Kinds.{accounts, nets_all, matrix_entry}

-- ---- the table

-- what stands where there is no row
abbrev pub no_posting : Posting
no_posting = record { owner = 0; kind = 0; a = 0; b = 0; amount = 0 }

-- the row of number m
unfoldable pub row : Table → ℕ → Posting
row t m = get_or t.rows m no_posting

-- number m is below the count and the capacity
unfoldable pub offered_by : ℕ → ℕ → Bool
offered_by count m = ltb m count && ltb m capacity

-- posting m has been offered
unfoldable pub offered : Table → ℕ → Bool
offered t m = offered_by t.count m

-- nothing offered
abbrev pub empty_table : Table
empty_table = record { count = 0; rows = replicate capacity no_posting }

-- a posting more in the table
abbrev pub table_with : Table → Posting → Table
table_with t p = record { count = t.count + 1; rows = set t.rows t.count p }

-- ---- accounts

-- a posting touches its accounts a and b, or every account if it nets them all; what is no account is touched by none
unfoldable pub touches : Posting → ℕ → Bool
touches p account = ltb account accounts && ((eqb account p.a || eqb account p.b) || nets_all p)

-- some account is touched by both
unfoldable pub shares : Posting → Posting → Bool
shares p q = any_below (λ account. touches p account && touches q account) accounts

-- ---- conflicts

-- two postings conflict if their numbers differ, they share an account, and the matrix says yes for their kinds
unfoldable pub conflicting : ℕ → ℕ → Posting → ℕ → Posting → Bool
conflicting matrix m p x q = not (eqb m x) && (shares p q && matrix_entry matrix p.kind q.kind)

-- the postings with numbers m and x conflict
unfoldable pub conflict : ℕ → Table → ℕ → ℕ → Bool
conflict matrix t m x = conflicting matrix m (row t m) x (row t x)

-- C(m): m with all that conflict with it. Where m is not offered, with all that conflict with what stands in its row;
-- a number past the capacity does not join.
unfoldable pub conflict_set : ℕ → Table → ℕ → Set
conflict_set matrix t m = with (set_of (λ x. offered t x && conflict matrix t m x)) m
