-- The audit in one reading: what a line is tested by, class by class, with counts instead of sets.
-- Rests on Audit and posting. A class is a test of postings: one kind in one row, which stands for an account or for all.
use Rattle.std.specs.Prelude.{ℕ, suc, Bool, true, cond, not, ◌&&◌, ◌||◌, List, [], ◌∷◌, eqb}
use Rattle.sets.specs.Below.{all_below}
use Rattle.posting.specs.declared.Posting.{Posting}
use Rattle.posting.specs.declared.Table.{Table}
use Rattle.posting.specs.Kinds.{kinds, net_of_all, matrix_entry}
use Rattle.posting.specs.Conflicts.{row}
use Rattle.posting.specs.Touched.{every_row, stands_in}
use Rattle.broadcast.specs.Deliveries.{once}
use Rattle.audit_rule.specs.Audit.{ahead_of, up_to}

-- how many of a list a test holds of
abbrev pub count_of : (ℕ → Bool) → List ℕ → ℕ
count_of q [] = 0
count_of q (x ∷ l) = cond (q x) (suc (count_of q l)) (count_of q l)

-- a test holds of every member
abbrev pub every : (ℕ → Bool) → List ℕ → Bool
every q [] = true
every q (x ∷ l) = q x && every q l

-- A line with posting y: `read` is all that was read before it, `above` the lines above it in its own record. For a class q:
-- as many of the class stand above it as stood ahead of it where it was first read (all read so far, if this is the first), and these are among those.
unfoldable pub fits : (ℕ → Bool) → List ℕ → List ℕ → ℕ → Bool
fits q read above y = eqb (count_of q above) (count_of q (up_to y (once read))) && every (λ x. not (q x) || ahead_of x y read) above

-- ---- classes of postings

-- postings of a kind that stand in a row: that touch an account, or, in the row of all, any
unfoldable pub of_class : Table → ℕ → ℕ → ℕ → Bool
of_class table line kind x = stands_in (row table x) line && eqb (row table x).kind kind

-- the row in which what conflicts on an account of a posting stands: that of the account, or of all if it nets every account
unfoldable pub row_in : (kind a b account : ℕ) → ℕ
row_in kind a b account = cond (net_of_all kind a b) every_row account

abbrev pub row_of : Posting → ℕ → ℕ
row_of p account = row_in p.kind p.a p.b account

-- the line with posting y fits every class of a row that y conflicts with
unfoldable pub fits_row : ℕ → Table → List ℕ → List ℕ → ℕ → ℕ → Bool
fits_row matrix table read above y line =
    all_below (λ j. not (matrix_entry matrix j (row table y).kind) || fits (of_class table line j) read above y) kinds

-- the line fits: in the rows of both its accounts
unfoldable pub line_fits : ℕ → Table → List ℕ → List ℕ → ℕ → Bool
line_fits matrix table read above y =
    let p = row table y in
    fits_row matrix table read above y (row_of p p.a) && fits_row matrix table read above y (row_of p p.b)
