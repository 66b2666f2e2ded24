-- One account: what two records hold of it, and its numbers among those of the books.
-- Rests on broadcast's Lists and on posting, which says what a posting touches.
use Rattle.std.specs.Prelude.{ℕ, ◌+◌, ◌*◌, ◌≡◌, true, List, ℤ, pos, get_or}
use Rattle.posting.specs.declared.Table.{Table}
use Rattle.posting.specs.Conflicts.{row, touches}
use Rattle.broadcast.specs.Lists.{In}

-- The postings that touch account k are the same in both, in whatever order.
abbrev pub SameTouching : Table → ℕ → List ℕ → List ℕ → Type 0
SameTouching table k l r = (x : ℕ) → touches (row table x) k ≡ true → (In x l → In x r) × (In x r → In x l)

-- Of the 64 numbers of a site's books, number i of account k: its position, rate, called and settled.
abbrev pub number_of : List ℤ → (k i : ℕ) → ℤ
number_of numbers k i = get_or numbers (4 * k + i) (pos 0)
