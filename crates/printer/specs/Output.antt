-- What `board` prints, as bytes: decimal numbers, and the lines of a finished run or of a refusal (document 01, "Program `board`").
-- Rests on the declared Ended, on books, posting and sets. Items on a line are parted by one space; a line ends with a newline.
use Rattle.std.specs.Prelude.{ℕ, zero, suc, ◌+◌, ◌/◌, ◌%◌, Bool, cond, List, [], ◌∷◌, ◌++◌, eqb, ltb}
use Rattle.sets.specs.Masks.{has_bit}
use Rattle.posting.specs.Records.{numbers_of}
use Rattle.books.specs.declared.Records.{Records}
use Rattle.books.specs.Books.{record_no}
use Rattle.printer.specs.declared.Ended.{Ended}

-- ---- numbers

-- the byte of a number's last digit
abbrev pub last_digit : ℕ → ℕ
last_digit n = 48 + n % 10

-- a number's digits, of which there are at most one more than the first argument says
unfoldable pub digits : ℕ → ℕ → List ℕ
digits zero n = last_digit n ∷ []
digits (suc more) n = let before = digits more (n / 10) in cond (ltb n 10) (last_digit n ∷ []) (before ++ (last_digit n ∷ []))

-- a number in base ten, with no leading zero
unfoldable pub decimal : ℕ → List ℕ
decimal n = digits n n

-- ---- words, as the bytes of the text that the comment shows, with its spaces; a line ends with the byte 10

-- "E ", " ok" and the end of the line, " no "
abbrev pub event_word : List ℕ
event_word = 69 ∷ 32 ∷ []

abbrev pub ok_word : List ℕ
ok_word = 32 ∷ 111 ∷ 107 ∷ 10 ∷ []

abbrev pub no_word : List ℕ
no_word = 32 ∷ 110 ∷ 111 ∷ 32 ∷ []

-- "S ", " up", " down"
abbrev pub site_word : List ℕ
site_word = 83 ∷ 32 ∷ []

abbrev pub up_word : List ℕ
up_word = 32 ∷ 117 ∷ 112 ∷ []

abbrev pub down_word : List ℕ
down_word = 32 ∷ 100 ∷ 111 ∷ 119 ∷ 110 ∷ []

-- "L", "F "
abbrev pub log_word : List ℕ
log_word = 76 ∷ []

abbrev pub refused_word : List ℕ
refused_word = 70 ∷ 32 ∷ []

-- "Q yes" and "Q no", each with the end of the line
abbrev pub quiet_word : List ℕ
quiet_word = 81 ∷ 32 ∷ 121 ∷ 101 ∷ 115 ∷ 10 ∷ []

abbrev pub busy_word : List ℕ
busy_word = 81 ∷ 32 ∷ 110 ∷ 111 ∷ 10 ∷ []

abbrev pub space : List ℕ
space = 32 ∷ []

abbrev pub newline : List ℕ
newline = 10 ∷ []

-- ---- lines

-- E: event number from 1 and answer, which is given as the number of its refusal, 0 if it was accepted
unfoldable pub event_line : ℕ → ℕ → List ℕ
event_line k refusal = event_word ++ (decimal k ++ cond (eqb refusal 0) ok_word (no_word ++ (decimal refusal ++ newline)))

-- the lines of events, the first of which comes after k others
unfoldable pub event_lines : ℕ → List ℕ → List ℕ
event_lines k [] = []
event_lines k (refusal ∷ l) = event_line (k + 1) refusal ++ event_lines (k + 1) l

-- numbers, a space before each
unfoldable pub items : List ℕ → List ℕ
items [] = []
items (m ∷ l) = space ++ (decimal m ++ items l)

-- S: site, up or down, then its record's numbers
unfoldable pub site_line : ℕ → Bool → List ℕ → List ℕ
site_line p down delivered = site_word ++ (decimal p ++ (cond down down_word up_word ++ (items delivered ++ newline)))

-- the lines of the first n sites, of which some are down, with their records
unfoldable pub site_lines : ℕ → Records → ℕ → List ℕ
site_lines down records zero = []
site_lines down records (suc p) = site_lines down records p ++ site_line p (has_bit down p) (numbers_of (record_no records p))

-- L: the log's postings
unfoldable pub log_line : List ℕ → List ℕ
log_line log = log_word ++ (items log ++ newline)

-- Q: quiet, yes or no
abbrev pub quiet_line : Bool → List ℕ
quiet_line quiet = cond quiet quiet_word busy_word

-- F and the number of the refusal, of a malformed file or a refused start
unfoldable pub refused_line : ℕ → List ℕ
refused_line refusal = refused_word ++ (decimal refusal ++ newline)

-- ---- a finished run: the refusal numbers of its answers, and what is shown of the board that it ended on

unfoldable pub board_lines : Ended → List ℕ
board_lines e = site_lines e.down e.records e.n ++ (log_line (numbers_of e.log) ++ quiet_line e.quiet)

unfoldable pub printed_of : List ℕ → Ended → List ℕ
printed_of refusals e = event_lines 0 refusals ++ board_lines e
