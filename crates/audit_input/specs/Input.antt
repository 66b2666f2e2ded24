-- What the audit refuses, and the answer that it gives: the first of its refusals that applies, with its place.
-- Rests on audit_rule's Handed, and on posting. The numbers of the refusals are the audit's own.
use Rattle.std.specs.Prelude.{ℕ, ◌*◌, Bool, cond, not, ◌&&◌, ◌||◌, List, eqb, ltb, leb, length, get_or, take}
use Rattle.sets.specs.Below.{all_below}
use Rattle.posting.specs.Kinds.{fields_ok, symmetric, has_fixed_pairs}
use Rattle.broadcast.specs.Lists.{mem}
use Rattle.audit_rule.specs.Audit.{lowest}
use Rattle.audit_rule.specs.Handed.{no_kind, posting_at, start_of, record_of, place_of}
use Rattle.audit_input.specs.declared.Answer.{Answer}
use Rattle.audit_input.specs.declared.Spot.{Spot}

-- ---- the answer

-- a refusal: its site and line, the posting's number, and the line above that names the same
abbrev pub refusal : (code site line posting above : ℕ) → Answer
refusal code site line posting above =
    record { code = code; site = site; line = line; posting = posting; above = above; first = 0; second = 0; here = 0; there = 0 }

-- the records agree, or no refusal applies: no place is named
abbrev pub agreement : Answer
agreement = refusal 0 0 0 0 0

-- ---- 1 to 3: sites, matrix and sizes

-- one to seven records
unfoldable pub sites_ok : List ℕ → Bool
sites_ok ends = leb 1 (length ends) && leb (length ends) 7

-- under a matrix without a fixed pair, agreement would not say that the books agree
unfoldable pub matrix_ok : ℕ → Bool
matrix_ok matrix = symmetric matrix && has_fixed_pairs matrix

-- the sites' lines follow one another, to the last
unfoldable pub ends_ok : ℕ → List ℕ → Bool
ends_ok count ends = all_below (λ p. leb (start_of ends p) (get_or ends p 0)) (length ends) && eqb (start_of ends (length ends)) count

-- at most 65,536 numbers, and each field in its slice for each
unfoldable pub fields_long : (kinds firsts seconds amounts : ℕ) → Bool
fields_long kinds firsts seconds amounts = leb kinds 65536 && (eqb firsts kinds && (eqb seconds kinds && eqb amounts kinds))

-- the slices lent have room
unfoldable pub lent_long : (kinds marks places ahead : ℕ) → Bool
lent_long kinds marks places ahead = leb kinds marks && (leb kinds places && leb (8 * kinds) ahead)

-- ---- 5 to 9: postings and lines

-- a number that has no posting, past the slices too
unfoldable pub unused : List ℕ → ℕ → Bool
unused kinds x = leb (length kinds) x || eqb (get_or kinds x 0) no_kind

-- a posting whose fields are outside their row of the table of kinds
unfoldable pub unlawful : (kinds firsts seconds amounts : List ℕ) → ℕ → Bool
unlawful kinds firsts seconds amounts x = not (unused kinds x) && not (fields_ok (posting_at kinds firsts seconds amounts x))

-- the first line of a record with a number that has no posting, and the first with one that stands above it; the record's length if there is none
unfoldable pub unknown_line : List ℕ → List ℕ → ℕ
unknown_line kinds l = lowest (λ i. unused kinds (get_or l i 0)) (length l)

unfoldable pub repeated_line : List ℕ → ℕ
repeated_line l = lowest (λ i. mem (get_or l i 0) (take i l)) (length l)

-- the first record of n that has such a line, and the line; n if none has
unfoldable pub first_spot : (List ℕ → ℕ) → ℕ → (ℕ → List ℕ) → Spot
first_spot line n records =
    let p = lowest (λ q. ltb (line (records q)) (length (records q))) n in
    record { site = p; line = cond (ltb p n) (line (records p)) 0 }

-- the number at a spot, and the line above that has the same
abbrev pub number_at : List ℕ → List ℕ → Spot → ℕ
number_at lines ends s = get_or (record_of lines ends s.site) s.line 0

abbrev pub above_at : List ℕ → List ℕ → Spot → ℕ
above_at lines ends s = place_of (number_at lines ends s) (record_of lines ends s.site)

-- ---- the first refusal

-- of 7 and 9
module _ (kinds lines ends : List ℕ) where
  abbrev unknown : Spot
  unknown = first_spot (unknown_line kinds) (length ends) (record_of lines ends)

  abbrev twice : Spot
  twice = first_spot repeated_line (length ends) (record_of lines ends)

  unfoldable pub lines_judged : Answer
  lines_judged =
      cond (ltb unknown.site (length ends)) (refusal 7 unknown.site unknown.line (number_at lines ends unknown) 0)
      (cond (ltb twice.site (length ends)) (refusal 9 twice.site twice.line (number_at lines ends twice) (above_at lines ends twice))
      agreement)

module _ (matrix : ℕ) (kinds firsts seconds amounts lines ends : List ℕ) where
  -- of 1 to 3, with the lengths of the slices lent; 0 if none applies
  unfoldable pub sizes_code : (marks places ahead : ℕ) → ℕ
  sizes_code marks places ahead =
      cond (sites_ok ends)
      (cond (matrix_ok matrix)
      (cond (fields_long (length kinds) (length firsts) (length seconds) (length amounts) && (ends_ok (length lines) ends && lent_long (length kinds) marks places ahead)) 0
      3) 2) 1

  abbrev unlawful_number : ℕ
  unlawful_number = lowest (unlawful kinds firsts seconds amounts) (length kinds)

  -- of all
  unfoldable pub judged : (marks places ahead : ℕ) → Answer
  judged marks places ahead =
      let code = sizes_code marks places ahead in
      cond (eqb code 0)
      (cond (ltb unlawful_number (length kinds)) (refusal 5 0 0 unlawful_number 0) (lines_judged kinds lines ends))
      (refusal code 0 0 0 0)
