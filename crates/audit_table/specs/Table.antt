-- The figures of n sites side by side: a row for each figure that is not the same at all of them.
-- Rests on amounts and printer for texts. Figures are 64 numbers a site, four for each account: position, rate, called, settled.
use Rattle.std.specs.Prelude.{ℕ, zero, suc, ◌+◌, ◌*◌, ◌-◌, ◌/◌, ◌%◌, Bool, cond, not, List, [], ◌++◌, eqb, ltb, ℤ, pos, length, get_or, replicate}
use Rattle.sets.specs.Below.{any_below}
use Rattle.printer.specs.Output.{decimal, newline}
use Rattle.amounts.specs.Amounts.{text, signed, cents, same_number}

-- ---- columns

abbrev pub spaces : ℕ → List ℕ
spaces n = replicate n 32

-- as many spaces as a text of n bytes leaves of a width, and one at least
unfoldable pub gap : (width n : ℕ) → ℕ
gap width n = cond (ltb n width) (width - n) 1

-- a text at the right end of its column
unfoldable pub column : List ℕ → List ℕ
column t = spaces (gap 16 (length t)) ++ t

-- a text at the left end of a row
unfoldable pub label : List ℕ → List ℕ
label t = t ++ spaces (gap 20 (length t))

-- ---- rows: row 4 k + i is figure i of account k

unfoldable pub figure_name : ℕ → List ℕ
figure_name i = cond (eqb i 0) (text " position") (cond (eqb i 1) (text " rate") (cond (eqb i 2) (text " called") (text " settled")))

unfoldable pub row_name : ℕ → List ℕ
row_name row = text "account " ++ (decimal (row / 4) ++ figure_name (row % 4))

-- a rate is per 10,000; the others are cents
unfoldable pub figure_text : ℕ → ℤ → List ℕ
figure_text row x = cond (eqb (row % 4) 1) (signed x) (cents x)

abbrev pub figure_in : List ℤ → ℕ → ℕ → ℤ
figure_in figures row p = get_or figures (64 * p + row) (pos 0)

-- the columns of the first n sites
unfoldable pub columns : List ℤ → ℕ → ℕ → List ℕ
columns figures row zero = []
columns figures row (suc p) = columns figures row p ++ column (figure_text row (figure_in figures row p))

unfoldable pub row_line : List ℤ → ℕ → ℕ → List ℕ
row_line figures n row = label (row_name row) ++ (columns figures row n ++ newline)

-- some site shows another figure than site 0
unfoldable pub row_differs : List ℤ → ℕ → ℕ → Bool
row_differs figures n row = any_below (λ p. not (same_number (figure_in figures row p) (figure_in figures row 0))) n

-- a row in which all are the same is not shown
unfoldable pub row_part : List ℤ → ℕ → ℕ → List ℕ
row_part figures n row = cond (row_differs figures n row) (row_line figures n row) []

-- the first rows
unfoldable pub row_parts : List ℤ → ℕ → ℕ → List ℕ
row_parts figures n zero = []
row_parts figures n (suc row) = row_parts figures n row ++ row_part figures n row

-- ---- the table

unfoldable pub site_columns : ℕ → List ℕ
site_columns zero = []
site_columns (suc p) = site_columns p ++ column (text "site " ++ decimal p)

abbrev pub equal_words : List ℕ
equal_words = text "All 64 figures of these records, posted from zeros, are equal at all sites.\n"

abbrev pub differ_words : List ℕ
differ_words = text "Figures of these records, posted from zeros, that differ (rates per 10,000):\n"

unfoldable pub table_text : List ℤ → ℕ → List ℕ
table_text figures n =
    cond (any_below (row_differs figures n) 64)
    (differ_words ++ (label [] ++ (site_columns n ++ (newline ++ row_parts figures n 64))))
    equal_words
