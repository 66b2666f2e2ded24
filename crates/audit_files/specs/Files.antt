-- What is made of the files of an audit: postings by their numbers, the lines of records, and the first refusal with its file and line.
-- Rests on the declared Entry, Refused and Store, audit_input for numbers without a posting, and posting. File 0 holds the postings, file p + 1 is site p's.
use Rattle.std.specs.Prelude.{ℕ, suc, ◌+◌, ◌*◌, Bool, cond, not, ◌&&◌, ◌||◌, List, [], ◌∷◌, ◌++◌, eqb, ltb, length, get_or, set, take, drop}
use Rattle.posting.specs.Kinds.{fields_ok}
use Rattle.posting.specs.declared.Posting.{Posting}
use Rattle.audit_input.specs.Input.{unused}
use Rattle.audit_files.specs.declared.Entry.{Entry}
use Rattle.audit_files.specs.Entries.{is_malformed, is_whole, number_in, kind_in, a_in, b_in, amount_in}
use Rattle.audit_files.specs.declared.Refused.{Refused}
use Rattle.audit_files.specs.declared.files.Store.{Store}

-- ---- refusals

-- at a file's line, of a posting's number, and where that posting was read, 0 if nowhere
abbrev pub refusing : (code file line number other : ℕ) → Refused
refusing code file line number other = record { code = code; file = file; line = line; number = number; other = other }

-- nothing is refused
abbrev pub nothing : Refused
nothing = refusing 0 0 0 0 0

-- the one with the lower code; the first of two with the same
unfoldable pub lower : Refused → Refused → Refused
lower r s = cond (not (eqb s.code 0) && (eqb r.code 0 || ltb s.code r.code)) s r

-- ---- postings

-- a line of a file as one number
unfoldable pub where_is : (file line : ℕ) → ℕ
where_is file line = 8 * line + file

abbrev pub posting_of : Entry → Posting
posting_of e = record { owner = 0; kind = kind_in e; a = a_in e; b = b_in e; amount = amount_in e }

-- a line with all fields is kept, unless its number has a posting already
unfoldable pub keeps : Entry → List ℕ → Bool
keeps e kinds = is_whole e && unused kinds (number_in e)

unfoldable pub kept : (file line : ℕ) → Entry → Store → Store
kept file line e s =
    cond (keeps e s.kinds)
    (record {
      kinds = set s.kinds (number_in e) (kind_in e);
      firsts = set s.firsts (number_in e) (a_in e);
      seconds = set s.seconds (number_in e) (b_in e);
      amounts = set s.amounts (number_in e) (amount_in e);
      wheres = set s.wheres (number_in e) (where_is file line);
    })
    s

-- 4 malformed, or not all fields; 5 fields outside their row; 6 a number twice, unless the records bring their own postings
unfoldable pub posting_code : (own : Bool) → List ℕ → Entry → ℕ
posting_code own kinds e = cond (is_whole e) (cond (fields_ok (posting_of e)) (cond (own || unused kinds (number_in e)) 0 6) 5) 4

unfoldable pub kept_all : (file line : ℕ) → List Entry → Store → Store
kept_all file line [] s = s
kept_all file line (e ∷ l) s = kept_all file (suc line) l (kept file line e s)

unfoldable pub postings_refused : (own : Bool) (file line : ℕ) → List Entry → Store → Refused → Refused
postings_refused own file line [] s r = r
postings_refused own file line (e ∷ l) s r =
    let code = posting_code own s.kinds e in
    postings_refused own file (suc line) l (kept file line e s) (lower r (refusing code file line (number_in e) (get_or s.wheres (number_in e) 0)))

-- ---- records

-- the posting's fields are those that were read
unfoldable pub agrees : Store → Entry → Bool
agrees s e =
    eqb (get_or s.kinds (number_in e) 0) (kind_in e)
    && (eqb (get_or s.firsts (number_in e) 0) (a_in e) && (eqb (get_or s.seconds (number_in e) 0) (b_in e) && eqb (get_or s.amounts (number_in e) 0) (amount_in e)))

-- 4 malformed; 7 a number without a posting; 8 other fields than the posting's
unfoldable pub line_code : Store → Entry → ℕ
line_code s e =
    cond (is_malformed e) 4
    (cond (unused s.kinds (number_in e)) 7
    (cond (is_whole e && not (agrees s e)) 8 0))

unfoldable pub lines_refused : Store → (file line : ℕ) → List Entry → Refused → Refused
lines_refused s file line [] r = r
lines_refused s file line (e ∷ l) r = lines_refused s file (suc line) l (lower r (refusing (line_code s e) file line (number_in e) (get_or s.wheres (number_in e) 0)))

unfoldable pub numbers_of : List Entry → List ℕ
numbers_of [] = []
numbers_of (e ∷ l) = number_in e ∷ numbers_of l

-- a record's lines are handed on, of a longer one so many: it has a number twice within them
abbrev pub most_lines : ℕ
most_lines = 65_537

unfoldable pub record_lines : List Entry → List ℕ
record_lines l = numbers_of (take most_lines l)

-- the lines of all sites, with those of one more from a place on
unfoldable pub with_lines : List ℕ → ℕ → List ℕ → List ℕ
with_lines lines from l = take from lines ++ (l ++ drop (from + length l) lines)
