-- Postings and records as they are handed over: a posting's fields in four slices, by its number, and the lines of all sites in one slice.
-- Rests on posting, books and Audit.
use Rattle.std.specs.Prelude.{ℕ, zero, suc, ◌-◌, List, length, get_or, take, drop}
use Rattle.posting.specs.declared.Posting.{Posting}
use Rattle.posting.specs.declared.Table.{Table}
use Rattle.books.specs.Books.{tabulate}
use Rattle.audit_rule.specs.Audit.{up_to}

-- ---- postings

-- what stands in place of a kind where a number has no posting
abbrev pub no_kind : ℕ
no_kind = 255

module _ (kinds firsts seconds amounts : List ℕ) where
  -- the posting with number x; who offered it is not handed over
  abbrev pub posting_at : ℕ → Posting
  posting_at x = record { owner = 0; kind = get_or kinds x 0; a = get_or firsts x 0; b = get_or seconds x 0; amount = get_or amounts x 0 }

  -- all of them
  abbrev pub table_of : Table
  table_of = record { count = length kinds; rows = tabulate (length kinds) posting_at }

-- ---- records

module _ (ends : List ℕ) where
  -- where site p's lines begin: where those of the site before it end
  abbrev pub start_of : ℕ → ℕ
  start_of zero = 0
  start_of (suc p) = get_or ends p 0

-- the lines from one place up to another
abbrev pub part : ℕ → ℕ → List ℕ → List ℕ
part from to lines = take (to - from) (drop from lines)

-- site p's record
abbrev pub record_of : List ℕ → List ℕ → ℕ → List ℕ
record_of lines ends p = part (start_of ends p) (get_or ends p 0) lines

-- the first place of x in a list, its length if x is not there
unfoldable pub place_of : ℕ → List ℕ → ℕ
place_of x l = length (up_to x l)
