-- What a reading keeps in its slices, and how it tests a line by them.
-- Rests on audit_rule's Reading and Notes.
use Rattle.std.specs.Prelude.{ℕ, ◌+◌, ◌*◌, ◌/◌, ◌%◌, ◌<◌, ◌≤◌, max, ◌≡◌, Bool, true, false, cond, not, ◌&&◌, ◌||◌, List, ◌++◌, eqb, ltb, leb, length, get_or, set, take}
use Rattle.sets.specs.Below.{all_below}
use Rattle.posting.specs.declared.Table.{Table}
use Rattle.posting.specs.Kinds.{kinds, accounts_ok, matrix_entry}
use Rattle.posting.specs.Conflicts.{row}
use Rattle.posting.specs.Touched.{every_row}
use Rattle.books.specs.Books.{tabulate}
use Rattle.audit_rule.specs.Reading.{of_class, row_of, line_fits}
use Rattle.audit_rule.specs.Notes.{Noted, Tallied}

-- rows by kinds
abbrev pub classes : ℕ
classes = 68

-- a class in numbers: as many above as ahead, and the highest below the place
unfoldable pub fits_class : ℕ → ℕ → ℕ → ℕ → ℕ → ℕ → ℕ → Bool
fits_class matrix kind j place count highest ahead = not (matrix_entry matrix j kind) || (eqb count ahead && ltb highest place)

-- class j of a row, in the slices
abbrev pub class_fits : ℕ → ℕ → ℕ → ℕ → ℕ → List ℕ → List ℕ → List ℕ → ℕ → Bool
class_fits matrix kind line place at counts highest ahead j =
    fits_class matrix kind j place (get_or counts (4 * line + j) 0) (get_or highest (4 * line + j) 0) (get_or ahead (at + j) 0)

-- the four classes of a row
unfoldable pub fits_classes : ℕ → ℕ → ℕ → ℕ → ℕ → List ℕ → List ℕ → List ℕ → Bool
fits_classes matrix kind line place at counts highest ahead =
    all_below (class_fits matrix kind line place at counts highest ahead) kinds

-- the rows of both accounts of posting y: the numbers of the first begin at 8 y, of the second at 8 y + 4
unfoldable pub fits_line : ℕ → ℕ → ℕ → ℕ → ℕ → ℕ → List ℕ → List ℕ → List ℕ → Bool
fits_line matrix kind a b place y counts highest ahead =
    fits_classes matrix kind a place (8 * y) counts highest ahead && cond (eqb a b) true (fits_classes matrix kind b place (8 * y + 4) counts highest ahead)

-- a posting that looks in rows a and b stands in a row: in these and in that of all; in every row if it nets every account
unfoldable pub own_row : ℕ → ℕ → ℕ → Bool
own_row a b line = cond (eqb a every_row) (leb line every_row) (eqb line every_row || (eqb line a || eqb line b))

-- class c is one of its classes: its kind, in such a row
unfoldable pub own_class : ℕ → ℕ → ℕ → ℕ → Bool
own_class kind a b c = own_row a b (c / 4) && eqb kind (c % 4)

-- the number of class c changed; those of every class that a test holds of
abbrev pub changed_at : List ℕ → (ℕ → ℕ) → ℕ → List ℕ
changed_at l f c = set l c (f (get_or l c 0))

unfoldable pub changed : List ℕ → (ℕ → ℕ) → (ℕ → Bool) → List ℕ
changed l f own = tabulate (length l) (λ c. cond (own c) (f (get_or l c 0)) (get_or l c 0))

-- one more of class c; the highest place of class c, with one place more
abbrev pub bump : List ℕ → ℕ → List ℕ
bump l c = changed_at l (λ v. v + 1) c

abbrev pub lifted : List ℕ → ℕ → ℕ → List ℕ
lifted l c place = changed_at l (λ v. max v place) c

-- a posting counted in its classes; its place among their highest
abbrev pub counted : List ℕ → ℕ → ℕ → ℕ → List ℕ
counted l kind a b = changed l (λ v. v + 1) (own_class kind a b)

abbrev pub reached : List ℕ → ℕ → ℕ → ℕ → ℕ → List ℕ
reached l kind a b place = changed l (λ v. max v place) (own_class kind a b)

-- four numbers from c on stand from `at` on
unfoldable pub four_put : ℕ → ℕ → List ℕ → List ℕ → List ℕ
four_put c at totals ahead =
    set (set (set (set ahead at (get_or totals c 0)) (at + 1) (get_or totals (c + 1) 0)) (at + 2) (get_or totals (c + 2) 0)) (at + 3) (get_or totals (c + 3) 0)

-- every number is at most m
abbrev pub AtMost : List ℕ → ℕ → Type 0
AtMost l m = (c : ℕ) → get_or l c 0 ≤ m

-- the numbers ahead of a posting that is read for the first time
abbrev pub entered : ℕ → ℕ → ℕ → List ℕ → List ℕ → List ℕ
entered y a b totals ahead = four_put (4 * b) (8 * y + 4) totals (four_put (4 * a) (8 * y) totals ahead)

-- the slices after a posting was read
abbrev pub places_after : List ℕ → ℕ → ℕ → List ℕ
places_after places y seen = cond (eqb (get_or places y 0) 0) (set places y (seen + 1)) places

abbrev pub seen_after : List ℕ → ℕ → ℕ → ℕ
seen_after places y seen = cond (eqb (get_or places y 0) 0) (seen + 1) seen

abbrev pub totals_after : List ℕ → ℕ → ℕ → ℕ → ℕ → List ℕ → List ℕ
totals_after places y kind a b totals = cond (eqb (get_or places y 0) 0) (counted totals kind a b) totals

abbrev pub ahead_after : List ℕ → ℕ → ℕ → ℕ → List ℕ → List ℕ → List ℕ
ahead_after places y a b totals ahead = cond (eqb (get_or places y 0) 0) (entered y a b totals ahead) ahead

-- posting x is of class c; y looks in the row of class c; where the number of class c ahead of y stands
abbrev pub class_of : Table → ℕ → ℕ → Bool
class_of t c x = of_class t (c / 4) (c % 4) x

abbrev pub looks_in : Table → ℕ → ℕ → Bool
looks_in t y c = eqb (c / 4) (row_of (row t y) (row t y).a) || eqb (c / 4) (row_of (row t y) (row t y).b)

abbrev pub ahead_at : Table → ℕ → ℕ → ℕ
ahead_at t y c = 8 * y + (cond (eqb (c / 4) (row_of (row t y) (row t y).a)) 0 4 + c % 4)

abbrev pub NotedIn : Table → List ℕ → List ℕ → ℕ → List ℕ → List ℕ → Type 0
NotedIn t read places seen totals ahead =
    Noted (class_of t) (looks_in t) read (λ x. get_or places x 0) seen (λ c. get_or totals c 0) (λ y c. get_or ahead (ahead_at t y c) 0)

abbrev pub TalliedIn : Table → List ℕ → List ℕ → List ℕ → List ℕ → Type 0
TalliedIn t above places counts highest =
    Tallied (class_of t) above (λ x. get_or places x 0) (λ c. get_or counts c 0) (λ c. get_or highest c 0)

-- ---- a record read

-- the table has the fields that the slices show, for the first n postings
abbrev pub Rows : Table → List ℕ → List ℕ → List ℕ → ℕ → Type 0
Rows t kinds firsts seconds n =
    (y : ℕ) → y < n → ((row t y).kind ≡ get_or kinds y 0) × ((row t y).a ≡ get_or firsts y 0) × ((row t y).b ≡ get_or seconds y 0)

-- what a reading needs of the posting at a line
pub record Known (kinds firsts seconds places ahead : List ℕ) (y : ℕ) : Type 0 where
  pub in_kinds : y < length kinds
  pub in_firsts : y < length firsts
  pub in_seconds : y < length seconds
  pub in_places : y < length places
  pub in_ahead : 8 * y + 8 ≤ length ahead
  pub kind_below : get_or kinds y 0 < 4
  pub accounts_are_ok : accounts_ok (get_or kinds y 0) (get_or firsts y 0) (get_or seconds y 0) ≡ true

-- what a reading needs of its slices
pub record Readable (kinds firsts seconds lines places ahead totals : List ℕ) (seen : ℕ) : Type 0 where
  pub known : (i : ℕ) → i < length lines → Known kinds firsts seconds places ahead (get_or lines i 0)
  pub few : seen + length lines < 4294967294
  pub most : AtMost totals seen
  pub full : length totals ≡ classes

-- line i of a record fits, with `read` read before the record
abbrev pub line_ok : ℕ → Table → List ℕ → List ℕ → ℕ → Bool
line_ok matrix t read lines i = line_fits matrix t (read ++ take i lines) (take i lines) (get_or lines i 0)

-- what a record read whole leaves; and what one leaves that was read to a line that does not fit
pub record Whole (matrix : ℕ) (t : Table) (read lines places : List ℕ) (seen : ℕ) (totals ahead : List ℕ) : Type 0 where
  pub notes : NotedIn t (read ++ lines) places seen totals ahead
  pub fit : (j : ℕ) → j < length lines → line_ok matrix t read lines j ≡ true

pub record Broken (matrix : ℕ) (t : Table) (read lines : List ℕ) (line : ℕ) : Type 0 where
  pub within : line < length lines
  pub fit : (j : ℕ) → j < line → line_ok matrix t read lines j ≡ true
  pub breaks : line_ok matrix t read lines line ≡ false

abbrev pub ReadSays : (matrix : ℕ) (kinds firsts seconds lines places : List ℕ) (seen : ℕ) (totals ahead : List ℕ) (fits : Bool) (line : ℕ) (places' : List ℕ) (seen' : ℕ) (totals' ahead' : List ℕ) → Type 0
ReadSays matrix kinds firsts seconds lines places seen totals ahead fits line places' seen' totals' ahead' =
    (t : Table) (read : List ℕ) → Rows t kinds firsts seconds (length kinds) → NotedIn t read places seen totals ahead
    → (fits ≡ true → Whole matrix t read lines places' seen' totals' ahead') × (fits ≡ false → Broken matrix t read lines line)

-- the line with posting y fits, once y is read
abbrev pub fits_now : (matrix y kind a b seen : ℕ) (counts highest totals places ahead : List ℕ) → Bool
fits_now matrix y kind a b seen counts highest totals places ahead =
    fits_line matrix kind a b (get_or (places_after places y seen) y 0) y counts highest (ahead_after places y a b totals ahead)
