-- What the lines of a file say: each a posting's number, or all five fields, `number,kind,a,b,amount`.
-- Rests on Words, the declared Entry, and audit_rule's Audit and Handed for places in a list.
use Rattle.std.specs.Prelude.{ℕ, zero, suc, ◌+◌, ◌*◌, ◌-◌, Bool, true, false, cond, not, ◌&&◌, ◌||◌, List, [], ◌∷◌, eqb, leb, length, get_or, take, drop}
use Rattle.broadcast.specs.Lists.{mem}
use Rattle.audit_rule.specs.Audit.{up_to}
use Rattle.audit_rule.specs.Handed.{place_of}
use Rattle.audit_files.specs.declared.Entry.{Entry}
use Rattle.audit_files.specs.declared.Entry.TheVariants.{Malformed, Number, Whole}
use Rattle.amounts.specs.Amounts.{text}
use Rattle.audit_files.specs.Words.{same}

-- ---- bytes

abbrev pub line_feed : ℕ
line_feed = 10

abbrev pub carriage_return : ℕ
carriage_return = 13

abbrev pub comma : ℕ
comma = 44

abbrev pub digit_zero : ℕ
digit_zero = 48

unfoldable pub is_digit : ℕ → Bool
is_digit byte = leb digit_zero byte && leb byte 57

-- A to Z, a to z
unfoldable pub is_letter : ℕ → Bool
is_letter byte = (leb 65 byte && leb byte 90) || (leb 97 byte && leb byte 122)

-- what follows the first such byte; nothing if there is none
unfoldable pub past : ℕ → List ℕ → List ℕ
past byte l = drop (suc (place_of byte l)) l

-- ---- fields

-- what no field has: it stands for bytes that are no number, or for a number that is too large
abbrev pub no_number : ℕ
no_number = 4_294_967_296

-- a number's further digits, after those that make `so_far`
unfoldable pub scanned : (most so_far : ℕ) → List ℕ → ℕ
scanned most so_far [] = so_far
scanned most so_far (d ∷ l) =
    let next = 10 * so_far + (d - digit_zero) in
    let rest = scanned most next l in
    cond (is_digit d && leb next most) rest no_number

-- no digit at all, or a zero ahead of others
unfoldable pub badly_begun : List ℕ → Bool
badly_begun field = eqb (length field) 0 || (eqb (get_or field 0 0) digit_zero && not (eqb (length field) 1))

-- a number of at most `most`, in decimal digits
unfoldable pub number_of : (most : ℕ) → List ℕ → ℕ
number_of most field = cond (badly_begun field) no_number (scanned most 0 field)

-- a kind by its word, or by its number
unfoldable pub kind_of : List ℕ → ℕ
kind_of field =
    cond (same field (text "TRADE")) 0
    (cond (same field (text "RATE")) 1 (cond (same field (text "CALL")) 2 (cond (same field (text "NET")) 3 (number_of 3 field))))

abbrev pub most_number : ℕ
most_number = 65_535

abbrev pub most_account : ℕ
most_account = 255

abbrev pub most_amount : ℕ
most_amount = 4_294_967_295

-- ---- lines

-- a number alone, or all five fields; malformed where a number is none
abbrev pub malformed : Entry
malformed = Malformed

unfoldable pub alone : ℕ → Entry
alone number = cond (eqb number no_number) malformed (Number number)

unfoldable pub whole : (number kind a b amount : ℕ) → Entry
whole number kind a b amount =
    cond (eqb number no_number || (eqb kind no_number || (eqb a no_number || (eqb b no_number || eqb amount no_number))))
    malformed
    (Whole number kind a b amount)

-- what is said of a posting: its number and its fields, 0 where the line says nothing of them
abbrev pub is_malformed : Entry → Bool
is_malformed Malformed = true
is_malformed (Number number) = false
is_malformed (Whole number kind a b amount) = false

abbrev pub is_whole : Entry → Bool
is_whole Malformed = false
is_whole (Number number) = false
is_whole (Whole number kind a b amount) = true

abbrev pub number_in : Entry → ℕ
number_in Malformed = 0
number_in (Number number) = number
number_in (Whole number kind a b amount) = number

abbrev pub kind_in : Entry → ℕ
kind_in Malformed = 0
kind_in (Number number) = 0
kind_in (Whole number kind a b amount) = kind

abbrev pub a_in : Entry → ℕ
a_in Malformed = 0
a_in (Number number) = 0
a_in (Whole number kind a b amount) = a

abbrev pub b_in : Entry → ℕ
b_in Malformed = 0
b_in (Number number) = 0
b_in (Whole number kind a b amount) = b

abbrev pub amount_in : Entry → ℕ
amount_in Malformed = 0
amount_in (Number number) = 0
amount_in (Whole number kind a b amount) = amount

-- the fields behind the number, parted by commas
unfoldable pub fields_after : ℕ → List ℕ → Entry
fields_after number l =
    let second = past comma l in
    let third = past comma second in
    whole number (kind_of (up_to comma l)) (number_of most_account (up_to comma second)) (number_of most_account (up_to comma third)) (number_of most_amount (past comma third))

unfoldable pub entry_of : List ℕ → Entry
entry_of line =
    let number = number_of most_number (up_to comma line) in
    cond (mem comma line) (fields_after number (past comma line)) (alone number)

-- ---- files

-- a line without the carriage return that may stand ahead of its line feed
unfoldable pub bare : List ℕ → List ℕ
bare line = cond (eqb (get_or line (length line - 1) 0) carriage_return) (take (length line - 1) line) line

-- the first line of a text, without its end, which the last line may lack
unfoldable pub first_line : List ℕ → List ℕ
first_line l = cond (mem line_feed l) (bare (up_to line_feed l)) (up_to line_feed l)

-- what a text's lines say, of which there are at most `most`
unfoldable pub entries_of : (most : ℕ) → List ℕ → List Entry
entries_of zero l = []
entries_of (suc more) [] = []
entries_of (suc more) (byte ∷ l) = entry_of (first_line (byte ∷ l)) ∷ entries_of more (past line_feed (byte ∷ l))

-- a first line that begins with a letter is a heading
unfoldable pub headed : List ℕ → Bool
headed file = is_letter (get_or file 0 0)

-- the number of the first line that is none
unfoldable pub top_line : List ℕ → ℕ
top_line file = cond (headed file) 2 1

-- what is read of a file
unfoldable pub entries : List ℕ → List Entry
entries file = entries_of (length file) (cond (headed file) (past line_feed file) file)
