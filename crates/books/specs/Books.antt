-- The books: posting numbers posted line by line from opening figures, and the numbers that show them.
-- Rests on Effect.
use Rattle.std.specs.Prelude.{List, [], ◌∷◌, ◌++◌, ℕ, zero, suc, ℤ, pos, ◌+ℤ◌, get_or}
use Rattle.posting.specs.declared.Posting.{Posting}
use Rattle.posting.specs.declared.Table.{Table}
use Rattle.posting.specs.declared.Record.{Record}
use Rattle.posting.specs.Kinds.{accounts}
use Rattle.posting.specs.Conflicts.{row}
use Rattle.posting.specs.Records.{numbers_of}
use Rattle.books.specs.Effect.{effect}
use Rattle.books.specs.declared.Figures.{Figures}
use Rattle.books.specs.declared.Sheet.{Sheet}
use Rattle.books.specs.declared.Records.{Records}

-- the figures of every account
abbrev pub Books : Type 0
Books = ℕ → Figures

abbrev pub zeros : Figures
zeros = record { position = pos 0; rate = pos 0; called = pos 0; settled = pos 0 }

-- the opening figures of a start
abbrev pub blank : Books
blank k = zeros

-- a posting has its effect on every account
abbrev pub post : Posting → Books → Books
post p s k = effect p k (s k)

-- posting numbers posted line by line, from opening figures
unfoldable pub books : Books → Table → List ℕ → Books
books opening table [] = opening
books opening table (m ∷ l) = books (post (row table m) opening) table l

-- the positions and settled sums of the first n accounts
unfoldable pub total_to : ℕ → Books → ℤ
total_to zero s = pos 0
total_to (suc k) s = total_to k s +ℤ ((s k).position +ℤ (s k).settled)

-- positions plus settled sums, over all accounts
abbrev pub total : Books → ℤ
total s = total_to accounts s

-- ---- books as numbers

-- an account's position, rate, called and settled
abbrev pub four : Figures → List ℤ
four s = s.position ∷ s.rate ∷ s.called ∷ s.settled ∷ []

-- the numbers of the first n accounts: those of account k from 4k on
unfoldable pub numbers_to : ℕ → Books → List ℤ
numbers_to zero s = []
numbers_to (suc k) s = numbers_to k s ++ four (s k)

-- the 64 numbers
abbrev pub numbers : Books → List ℤ
numbers s = numbers_to accounts s

-- what stands where there is no record
abbrev pub no_record : Record
no_record = record { count = 0; numbers = [] }

-- the record of site s
abbrev pub record_no : Records → ℕ → Record
record_no records s = get_or records.sites s no_record

-- the numbers of the first n sites: those of site s from 64s on
unfoldable pub numbers_of_sites : ℕ → Books → Table → Records → List ℤ
numbers_of_sites zero opening table records = []
numbers_of_sites (suc s) opening table records =
    numbers_of_sites s opening table records ++ numbers (books opening table (numbers_of (record_no records s)))

-- ---- books as a sheet

-- the figures on a sheet
abbrev pub figures_on : Sheet → Books
figures_on sheet k = get_or sheet.accounts k zeros

-- f 0 to f (n - 1)
unfoldable pub tabulate : {A : Type 0} → ℕ → (ℕ → A) → List A
tabulate zero f = []
tabulate (suc n) f = tabulate n f ++ (f n ∷ [])

-- the sheet with the figures of each account
abbrev pub sheet_of : Books → Sheet
sheet_of s = record { accounts = tabulate accounts s }
