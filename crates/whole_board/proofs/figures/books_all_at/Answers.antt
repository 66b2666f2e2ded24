-- `books_all_at` meets its contract.
-- Assumes nothing.
use Prim.Native.Nat.{◌<◌}
use mathlib.Core.Path.{ap}
use native.Mathlib.Omega.{arith}
use Rattle.site.specs.Sites.{sites}
use Rattle.books.proofs.Sheets.{blank_opening}
use Rattle.arrays.specs.Arrays.{arrays}
use Rattle.views.specs.Views.{record_in, row_of, table_of}
use Rattle.machine.specs.Calls.{answer_of}
use Rattle.whole_board.proofs.Showing.{no_room_at, all_shown_at, post_at}
use Rattle.whole_board.proofs.figures.books_all_at.Goals as goal

pub returns-then-out-n : goal.returns-then-out-n
returns-then-out-n c =
    let g = c.args in
    let b = g.board.now in
    λ sets masks good carried sound.
    let books = no_room_at g.setup (arrays sets b.counts b.bytes b.amounts masks good carried) sound g.out.now (omega arith) in
    rw c.number.ensures (books.0, books.1, ap answer_of books.0)

pub books_all-requires : goal.books_all-requires
books_all-requires c =
    let few = c.requires.0 in
    rw (c.blank.ensures, c.from-n.ensures) (
      λ p h.
          let there : p < sites = omega (arith, h, few) in
          post_at c.args.board.now c.table_of-table.result c.records_of-records.result c.table_of-table.ensures c.records_of-records.ensures p there
          (c.requires.1 p h),
      blank_opening,
      few,
      omega arith,
    )

-- the table and the records are the same whatever stands in the arrays that they are not read from
pub returns : goal.returns
unfolding table_of row_of record_in
returns c =
    let g = c.args in
    let b = g.board.now in
    λ sets masks good carried sound.
    let books =
    all_shown_at g.setup (arrays sets b.counts b.bytes b.amounts masks good carried) sound c.table_of-table.result c.records_of-records.result c.table_of-table.ensures
    c.records_of-records.ensures g.out.now (omega arith) _ c.blank.ensures _ (rw c.from-n.ensures at c.books_all.ensures) in
    (books.0, books.1, ap answer_of books.0)
