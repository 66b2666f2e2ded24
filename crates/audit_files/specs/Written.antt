-- How entries are written to a file: what is read of it gives them back.
-- Rests on Entries, and on printer for numbers.
use Rattle.std.specs.Prelude.{ℕ, ◌≤◌, ◌<◌, ◌≡◌, true, false, cond, List, [], ◌∷◌, ◌++◌, eqb, get_or}
use Rattle.broadcast.specs.Lists.{mem}
use Rattle.printer.specs.Output.{decimal}
use Rattle.audit_files.specs.declared.Entry.{Entry}
use Rattle.audit_files.specs.declared.Entry.TheVariants.{Malformed, Number, Whole}
use Rattle.amounts.specs.Amounts.{text}
use Rattle.audit_files.specs.Entries.{comma, line_feed, carriage_return, is_letter, most_number, most_account, most_amount, alone, whole}

abbrev pub kind_word : ℕ → List ℕ
kind_word kind = cond (eqb kind 0) (text "TRADE") (cond (eqb kind 1) (text "RATE") (cond (eqb kind 2) (text "CALL") (text "NET")))

-- five fields parted by commas
abbrev pub fields_of : (number kind a b amount : ℕ) → List ℕ
fields_of number kind a b amount = decimal number ++ (comma ∷ (kind_word kind ++ (comma ∷ (decimal a ++ (comma ∷ (decimal b ++ (comma ∷ decimal amount)))))))

-- a number alone, or five fields
unfoldable pub line_of : Entry → List ℕ
line_of Malformed = fields_of 0 0 0 0 0
line_of (Number number) = decimal number
line_of (Whole number kind a b amount) = fields_of number kind a b amount

-- a line's end: LF, or CR LF
pub data Ending : Type 0 where
  unix : Ending
  dos : Ending

abbrev pub end_of : Ending → List ℕ
end_of unix = line_feed ∷ []
end_of dos = carriage_return ∷ line_feed ∷ []

-- lines, each with its end
unfoldable pub lines_of : Ending → List Entry → List ℕ
lines_of end [] = []
lines_of end (e ∷ l) = (line_of e ++ end_of end) ++ lines_of end l

-- the same, but the last line lacks its end
unfoldable pub lines_open : Ending → List Entry → List ℕ
lines_open end [] = []
lines_open end (e ∷ []) = line_of e
lines_open end (e ∷ f ∷ l) = (line_of e ++ end_of end) ++ lines_open end (f ∷ l)

-- an entry whose fields a file can hold
pub data Sayable : Entry → Type 0 where
  of_number : (number : ℕ) → number ≤ most_number → Sayable (alone number)
  of_fields : (number kind a b amount : ℕ) → number ≤ most_number → kind < 4 → a ≤ most_account → b ≤ most_account → amount ≤ most_amount → Sayable (whole number kind a b amount)

abbrev pub AllSayable : List Entry → Type 0
AllSayable [] = Unit {0}
AllSayable (e ∷ l) = Sayable e × AllSayable l

-- a heading begins with a letter and has no line feed
pub record Heading (heading : List ℕ) : Type 0 where
  pub letter : is_letter (get_or heading 0 0) ≡ true
  pub one_line : mem line_feed heading ≡ false
