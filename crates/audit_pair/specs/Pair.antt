-- What the code for a pair keeps: places in a record, how two postings stand in it, the lowest site of each sort, and what differs at a line.
-- Rests on audit_rule's Audit and Handed.
use Rattle.std.specs.Prelude.{ℕ, ◌+◌, ◌<◌, ◌≤◌, ◌≡◌, Bool, cond, not, ◌&&◌, List, eqb, ltb, length, get_or}
use Rattle.std.specs.Bool.{beq}
use Rattle.posting.specs.Conflicts.{conflict}
use Rattle.posting.specs.declared.Table.{Table}
use Rattle.audit_rule.specs.Audit.{ahead_of, lowest, leads_at, lacks_at}
use Rattle.audit_rule.specs.Handed.{place_of}
use Rattle.audit_rule.specs.Needs.{Numbered}
use Rattle.audit_pair.specs.declared.Sites.{Sites}

-- ---- two postings in the records

-- how x and y stand in a list: 0 neither is there (or x is y), 1 x ahead of y, 2 y ahead of x, 3 y alone, 4 x alone
unfoldable pub stands : ℕ → ℕ → List ℕ → ℕ
stands x y l =
    let i = place_of x l in
    let j = place_of y l in
    cond (eqb i j) 0 (cond (eqb i (length l)) 3 (cond (eqb j (length l)) 4 (cond (ltb i j) 1 2)))

-- the lowest site of a sort, once it is known whether site p is of it; n stands for none
unfoldable pub taken : (n p : ℕ) → Bool → ℕ → ℕ
taken n p so low = cond so (cond (eqb low n) p low) low

-- the lowest sites, once the code of site p is known
unfoldable pub with_site : (n p code : ℕ) → Sites → Sites
with_site n p code s = record {
  forth = taken n p (eqb code 1) s.forth;
  back = taken n p (eqb code 2) s.back;
  first = taken n p (eqb code 4) s.first;
  second = taken n p (eqb code 3) s.second;
}

-- the lowest site of each sort
unfoldable pub sites_of : ℕ → (ℕ → List ℕ) → ℕ → ℕ → Sites
sites_of n records x y = record {
  forth = lowest (leads_at n records x y) n;
  back = lowest (leads_at n records y x) n;
  first = lowest (lacks_at n records y x) n;
  second = lowest (lacks_at n records x y) n;
}

-- ---- the lowest posting that differs at a line

-- whether x, which conflicts with y, stands ahead of it in one of two lists only
unfoldable pub differing : ℕ → Table → List ℕ → List ℕ → ℕ → ℕ → Bool
differing matrix table l r y x = conflict matrix table x y && not (beq (ahead_of x y l) (ahead_of x y r))

-- a mark, raised by a size once where a test holds
unfoldable pub raised : ℕ → Bool → ℕ → ℕ
raised size so mark = cond (so && ltb mark size) (mark + size) mark

-- the mark of x for y and two lists: 1 where it is ahead in the first, and 2 more where it is ahead in the second
unfoldable pub mark_of : List ℕ → List ℕ → ℕ → ℕ → ℕ
mark_of l r y x = raised 2 (ahead_of x y r) (raised 1 (ahead_of x y l) 0)

-- ahead in one of the two only
unfoldable pub one_sided : ℕ → Bool
one_sided mark = not (eqb mark 0) && not (eqb mark 3)

-- x, which conflicts with y, has such a mark
unfoldable pub mark_differs : ℕ → Table → List ℕ → ℕ → ℕ → Bool
mark_differs matrix table marks y x = one_sided (get_or marks x 0) && conflict matrix table x y

-- ---- what the code needs of its slices

-- every posting has all its fields
pub record Fields (kinds firsts seconds amounts : List ℕ) : Type 0 where
  pub firsts_all : length firsts ≡ length kinds
  pub seconds_all : length seconds ≡ length kinds
  pub amounts_all : length amounts ≡ length kinds

-- what the search for the lowest posting that differs at a line needs of its slices
pub record Markable (kinds firsts seconds amounts lines : List ℕ) (from to y : ℕ) (marks : List ℕ) : Type 0 where
  pub fields : Fields kinds firsts seconds amounts
  pub ordered : from ≤ to
  pub within : to ≤ length lines
  pub known : y < length kinds
  pub numbered : Numbered lines (length kinds)
  pub room : length kinds ≤ length marks
