-- The index of the postings offered, by row and kind; C(m) read from it; and when it is right. A row stands for an account, the last for all.
-- Rests on arrays, whose slots behind those of the board hold it; on posting and sets. That C(m) is conflict_set where the index is right is proved in proofs/Indexed.
use Rattle.std.specs.Prelude.{ℕ, zero, suc, ◌<◌, ◌≡◌, Bool, cond, ◌&&◌, List, eqb, ltb, leb}
use Rattle.sets.specs.declared.Set.{Set}
use Rattle.sets.specs.Sets.{capacity, empty_set, has, with, join, Shape}
use Rattle.posting.specs.declared.Posting.{Posting}
use Rattle.posting.specs.declared.Table.{Table}
use Rattle.posting.specs.Kinds.{kinds, accounts, net_of_all, matrix_entry}
use Rattle.posting.specs.Conflicts.{row, offered}
use Rattle.posting.specs.Touched.{every_row, stands_in}
use Rattle.arrays.specs.Layout.{index_rows, kind_of, kind_at, from_at, into_at}
use Rattle.arrays.specs.Arrays.{slot_set, adding, byte}

-- the row to look in for an account of a posting, which nets every account or not; what is no account has no row
unfoldable pub row_for : Bool → ℕ → ℕ
row_for all account = cond all every_row (cond (ltb account accounts) account index_rows)

-- a set with the postings of a row and kind, if so
unfoldable pub joined_if : Set → List ℕ → ℕ → ℕ → Bool → Set
joined_if s ws line kind so = cond so (cond (leb index_rows line) s (join s (slot_set ws (kind_of line kind)))) s

-- the postings of rows a and b, of those kinds below n for which the matrix says yes beside kind
unfoldable pub kinds_to : List ℕ → ℕ → ℕ → ℕ → ℕ → ℕ → Set
kinds_to ws matrix kind a b zero = empty_set
kinds_to ws matrix kind a b (suc k) =
    let so = matrix_entry matrix kind k in
    joined_if (joined_if (kinds_to ws matrix kind a b k) ws a k so) ws b k so

-- C(m)
unfoldable pub conflicts_in : List ℕ → List ℕ → ℕ → ℕ → Set
conflicts_in ws bs matrix m =
    let kind = byte bs (kind_at m) in
    let a = byte bs (from_at m) in
    let b = byte bs (into_at m) in
    let all = net_of_all kind a b in
    with (kinds_to ws matrix kind (row_for all a) (row_for all b) kinds) m

-- posting m of a kind joins the rows below n
unfoldable pub entered_to : List ℕ → ℕ → ℕ → ℕ → List ℕ
entered_to ws m kind zero = ws
entered_to ws m kind (suc line) = adding (entered_to ws m kind line) (kind_of line kind) m

-- posting m, of a kind and accounts a and b, joins the index: every row if it nets every account, else those of its accounts and that of all
unfoldable pub indexing : List ℕ → ℕ → ℕ → ℕ → ℕ → List ℕ
indexing ws m kind a b =
    cond (net_of_all kind a b) (entered_to ws m kind index_rows)
    (adding (adding (adding ws (kind_of a kind) m) (kind_of b kind) m) (kind_of every_row kind) m)

-- The index is right: the slot of a row and kind holds the postings offered that stand in the row and have the kind
pub record Indexed (ws : List ℕ) (t : Table) : Type 0 where
  pub shape : (line k : ℕ) → line < index_rows → k < kinds → Shape (slot_set ws (kind_of line k))
  pub lists :
      (line k x : ℕ) → line < index_rows → k < kinds → x < capacity
      → has (slot_set ws (kind_of line k)) x ≡ (offered t x && (stands_in (row t x) line && eqb (row t x).kind k))
