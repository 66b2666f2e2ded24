-- `books_sound` meets its contract.
-- Assumes nothing.
use Prim.Native.Nat.{◌<◌}
use mathlib.Core.Path.{◌≡◌, refl}
use native.Mathlib.Omega.{arith}
use lib.ListN.{length}
use Rattle.site.specs.Sites.{sites}
use Rattle.flight.specs.Flights.{cells}
use Rattle.steps.proofs.Numbers.{is_refusal}
use Rattle.books.proofs.Sheets.{blank_opening}
use Rattle.machine.specs.declared.Board.{Board}
use Rattle.machine.proofs.Typed.{is_board}
use Rattle.machine.proofs.Facts.{few, site_there}
use Rattle.whole_board.proofs.Showing.{with_answer, site_may_post, no_site_lem, no_room, site_shown}
use Rattle.whole_board.proofs.figures.books_sound.Goals as goal
use Rattle.whole_board.proofs.figures.books_sound.Goals.{In_default}

-- where the test of the site passed
module _ (c : In_default) where
  abbrev board : Board
  board = c.args.board

  there : c.args.site < board.setup.n
  there = site_there board.setup.n _ c.args.site _ c.in_default.ensures refl

  long : length board.flight.masks ≡ cells
  long = (is_board board _ c.well_formed.0).flight.masks.long

  below : c.args.site < sites
  below = omega (arith, there, few board long c.requires)

pub returns-in-Err : goal.returns-in-Err
returns-in-Err c =
    let shown = with_answer (no_site_lem c.args.board c.requires c.args.site c.args.out.now _ c.in-Err.ensures (is_refusal c.in-Err.refusal)) in
    rw c.number.ensures (record { value = shown.0; out_after = shown.1.0; result_value = shown.1.1 })

pub returns-then-out-lt-FIGURES : goal.returns-then-out-lt-FIGURES
returns-then-out-lt-FIGURES c =
    let at = (goal.at.returns-then-out-lt-FIGURES c).In_default in
    let shown = with_answer (no_room c.args.board c.requires c.args.site c.args.out.now (there at) c.if-out-lt-FIGURES.true) in
    rw c.number-then-out-lt-FIGURES.ensures (record { value = shown.0; out_after = shown.1.0; result_value = shown.1.1 })

pub offset_bounds-board-site : goal.offset_bounds-board-site
offset_bounds-board-site c = omega (arith, below (goal.at.offset_bounds-board-site c).In_default)

pub bounds-board-site : goal.bounds-board-site
bounds-board-site c = below (goal.at.bounds-board-site c).In_default

pub books-requires : goal.books-requires
books-requires c =
    let at = (goal.at.books-requires c).In_default in
    rw c.blank.ensures
    (site_may_post c.args.board (long at) c.requires c.args.site (there at), blank_opening, c.if-out-lt-FIGURES.false)

pub returns : goal.returns
returns c =
    let at = (goal.at.returns c).In_default in
    let shown = with_answer
    (site_shown c.args.board c.requires c.args.site c.args.out.now (there at) c.if-out-lt-FIGURES.false _ c.blank.ensures _
    c.books.ensures) in
    record { value = shown.0; out_after = shown.1.0; result_value = shown.1.1 }
