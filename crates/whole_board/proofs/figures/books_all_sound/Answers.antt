-- `books_all_sound` meets its contract.
-- Assumes nothing.
use native.Mathlib.Omega.{arith}
use Rattle.books.proofs.Sheets.{blank_opening}
use Rattle.machine.proofs.Typed.{is_board}
use Rattle.machine.proofs.Facts.{few}
use Rattle.whole_board.proofs.Showing.{with_answer, sites_may_post, no_room_all, all_shown}
use Rattle.whole_board.proofs.figures.books_all_sound.Goals as goal

pub returns-then-out-n : goal.returns-then-out-n
returns-then-out-n c =
    let shown = with_answer (no_room_all c.args.board c.requires c.args.out.now (omega arith)) in
    rw c.number.ensures (record { value = shown.0; out_after = shown.1.0; result_value = shown.1.1 })

pub books_all-requires : goal.books_all-requires
books_all-requires c =
    let b = c.args.board in
    let long = (is_board b _ c.well_formed.0).flight.masks.long in
    rw (c.blank.ensures, c.from-n.ensures) (
      sites_may_post b c.records-records.result c.records-records.ensures long c.requires,
      blank_opening,
      few b long c.requires,
      omega arith,
    )

pub returns : goal.returns
returns c =
    let shown = with_answer
    (all_shown c.args.board c.requires c.args.out.now (omega arith) _ c.blank.ensures c.records-records.result c.records-records.ensures _
    (rw c.from-n.ensures at c.books_all.ensures)) in
    record { value = shown.0; out_after = shown.1.0; result_value = shown.1.1 }
