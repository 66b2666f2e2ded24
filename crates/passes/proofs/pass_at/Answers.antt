-- `pass_at` meets its contract: after i lines the sheet is that of the first i posting numbers, and i places were visited.
-- Assumes nothing.
use mathlib.Core.Path.{◌≡◌, refl, sym, ap, ◌∙◌}
use mathlib.Core.Bool.{false}
use mathlib.Core.List.{[]}
use Prim.Native.Nat.{ℕ, ◌+◌, ◌<◌, ◌-◌}
use native.Mathlib.Omega.{arith}
use borrow.Author.Rules.{rules}
use Rattle.posting.specs.declared.Posting.{Posting}
use Rattle.posting.specs.Kinds.{accounts, nets_all}
use Rattle.posting.specs.Records.{numbers_of}
use Rattle.books.specs.Books.{books, sheet_of}
use Rattle.books.specs.declared.Sheet.{Sheet}
use Rattle.books.specs.Bounds.{Postable}
use Rattle.books.proofs.Sheets.{Line, line_roomy, line_nets_all}
use Rattle.arrays.specs.declared.Arrays.{Arrays}
use Rattle.views.specs.Views.{record_in, table_of}
use Rattle.passes.proofs.RecordLines.{books_to, count_few, places_are, below, line_here, trade_accounts, trade_room_a, trade_room_b, trade_line, one_account, one_room, one_line}
use Rattle.passes.proofs.pass_at.Goals as goal
use Rattle.passes.proofs.pass_at.Goals.{After-row_of-p, Start, then-p-eq-TRADE, else-p-eq-TRADE+then-net_of_all, else-p-eq-TRADE+else-net_of_all}

-- the board at work, and that its record may be posted
module _ (c : Start) where
  abbrev a : Arrays
  a = c.args.board.now

  abbrev site : ℕ
  site = c.args.site

  abbrev postable : Postable (table_of a) (record_in a site)
  postable = c.requires.1

-- a line, once its row is read
module _ (c : After-row_of-p) where
  abbrev line_a : Arrays
  line_a = c.args.board.now

  abbrev line_site : ℕ
  line_site = c.args.site

  abbrev line_postable : Postable (table_of line_a) (record_in line_a line_site)
  line_postable = c.requires.1

  abbrev i : ℕ
  i = c.loop-i.i

  abbrev sheet : Sheet
  sheet = c.loop-i.sheet

  abbrev posting : Posting
  posting = c.row_of-p.result

  here : i < (record_in line_a line_site).count
  unfolding record_in
  here = c.loop-i-test.true

  on_line : Line (books_to line_a line_site line_postable i) posting (books_to line_a line_site line_postable (i + 1)) sheet
  on_line = line_here line_a line_site line_postable i here c.wide-m.result c.wide-m.ensures posting c.row_of-p.ensures sheet c.loop-i.invariant.1

pub loop-i-init : goal.loop-i-init
unfolding books
loop-i-init c = (search rules, c.blank-sheet.ensures, refl)

pub overflow_add-from-in-loop-i : goal.overflow_add-from-in-loop-i
overflow_add-from-in-loop-i c =
    let at = (goal.at.overflow_add-from-in-loop-i c).Start in
    record { fits = omega (arith, count_few (a at) (site at) (postable at), c.loop-i-test.true, c.requires.0) }

pub bounds-board-from : goal.bounds-board-from
bounds-board-from c =
    let at = (goal.at.bounds-board-from c).Start in
    omega (arith, count_few (a at) (site at) (postable at), c.loop-i-test.true, c.requires.0)

pub row_of-p-requires : goal.row_of-p-requires
row_of-p-requires c =
    let at = (goal.at.row_of-p-requires c).Start in
    below (a at) (site at) (postable at) c.loop-i.i (unfold record_in in c.loop-i-test.true) c.wide-m.result c.wide-m.ensures

pub offset_bounds-sheet-a : goal.offset_bounds-sheet-a
offset_bounds-sheet-a c = record { fits = omega (arith, (trade_accounts (on_line (goal.at.offset_bounds-sheet-a c).After-row_of-p) c.wide-a.result c.wide-a.ensures c.if-p-eq-TRADE.true).0, c.wide-a.ensures) }

pub bounds-sheet-a : goal.bounds-sheet-a
bounds-sheet-a c = omega (arith, (trade_accounts (on_line (goal.at.bounds-sheet-a c).After-row_of-p) c.wide-a.result c.wide-a.ensures c.if-p-eq-TRADE.true).0, c.wide-a.ensures)

pub trade-t-requires : goal.trade-t-requires
trade-t-requires c =
    trade_room_a (on_line (goal.at.trade-t-requires c).After-row_of-p) c.wide-a.result c.wide-a.ensures c.if-p-eq-TRADE.true

pub offset_bounds-sheet-a-then-p-eq-TRADE : goal.offset_bounds-sheet-a-then-p-eq-TRADE
offset_bounds-sheet-a-then-p-eq-TRADE c = record { fits = omega (arith, (trade_accounts (on_line (goal.at.offset_bounds-sheet-a-then-p-eq-TRADE c).After-row_of-p) c.wide-a.result c.wide-a.ensures c.if-p-eq-TRADE.true).0, c.wide-a.ensures) }

pub bounds-sheet-a-then-p-eq-TRADE : goal.bounds-sheet-a-then-p-eq-TRADE
bounds-sheet-a-then-p-eq-TRADE c = omega (arith, (trade_accounts (on_line (goal.at.bounds-sheet-a-then-p-eq-TRADE c).After-row_of-p) c.wide-a.result c.wide-a.ensures c.if-p-eq-TRADE.true).0, c.wide-a.ensures)

pub offset_bounds-sheet-b : goal.offset_bounds-sheet-b
offset_bounds-sheet-b c = record { fits = omega (arith, (trade_accounts (on_line (goal.at.offset_bounds-sheet-b c).After-row_of-p) c.wide-a.result c.wide-a.ensures c.if-p-eq-TRADE.true).1, c.wide-b.ensures) }

pub bounds-sheet-b : goal.bounds-sheet-b
bounds-sheet-b c = omega (arith, (trade_accounts (on_line (goal.at.bounds-sheet-b c).After-row_of-p) c.wide-a.result c.wide-a.ensures c.if-p-eq-TRADE.true).1, c.wide-b.ensures)

pub trade-v-requires : goal.trade-v-requires
trade-v-requires c =
    let t = c.trade-t in
    let b = c.wide-b in
    trade_room_b (on_line (goal.at.trade-v-requires c).After-row_of-p) c.wide-a.result c.wide-a.ensures c.if-p-eq-TRADE.true t.result b.result t.ensures b.ensures

pub offset_bounds-sheet-b-then-p-eq-TRADE : goal.offset_bounds-sheet-b-then-p-eq-TRADE
offset_bounds-sheet-b-then-p-eq-TRADE c = record { fits = omega (arith, (trade_accounts (on_line (goal.at.offset_bounds-sheet-b-then-p-eq-TRADE c).After-row_of-p) c.wide-a.result c.wide-a.ensures c.if-p-eq-TRADE.true).1, c.wide-b.ensures) }

pub bounds-sheet-b-then-p-eq-TRADE : goal.bounds-sheet-b-then-p-eq-TRADE
bounds-sheet-b-then-p-eq-TRADE c = omega (arith, (trade_accounts (on_line (goal.at.bounds-sheet-b-then-p-eq-TRADE c).After-row_of-p) c.wide-a.result c.wide-a.ensures c.if-p-eq-TRADE.true).1, c.wide-b.ensures)

pub net_all-sheet-requires : goal.net_all-sheet-requires
net_all-sheet-requires c = line_roomy (on_line (goal.at.net_all-sheet-requires c).After-row_of-p)

pub offset_bounds-sheet-k : goal.offset_bounds-sheet-k
offset_bounds-sheet-k c = record { fits = omega (arith, one_account (on_line (goal.at.offset_bounds-sheet-k c).After-row_of-p) c.wide-k.result c.wide-k.ensures c.if-p-eq-TRADE.false (sym c.net_of_all.ensures ∙ c.if-net_of_all.false), c.wide-k.ensures) }

pub bounds-sheet-k : goal.bounds-sheet-k
bounds-sheet-k c = omega (arith, one_account (on_line (goal.at.bounds-sheet-k c).After-row_of-p) c.wide-k.result c.wide-k.ensures c.if-p-eq-TRADE.false (sym c.net_of_all.ensures ∙ c.if-net_of_all.false), c.wide-k.ensures)

pub change-t-requires : goal.change-t-requires
change-t-requires c =
    one_room (on_line (goal.at.change-t-requires c).After-row_of-p) c.wide-k.result c.wide-k.ensures c.if-p-eq-TRADE.false (sym c.net_of_all.ensures ∙ c.if-net_of_all.false)

pub offset_bounds-sheet-k-else-net_of_all : goal.offset_bounds-sheet-k-else-net_of_all
offset_bounds-sheet-k-else-net_of_all c = record { fits = omega (arith, one_account (on_line (goal.at.offset_bounds-sheet-k-else-net_of_all c).After-row_of-p) c.wide-k.result c.wide-k.ensures c.if-p-eq-TRADE.false (sym c.net_of_all.ensures ∙ c.if-net_of_all.false), c.wide-k.ensures) }

pub bounds-sheet-k-else-net_of_all : goal.bounds-sheet-k-else-net_of_all
bounds-sheet-k-else-net_of_all c = omega (arith, one_account (on_line (goal.at.bounds-sheet-k-else-net_of_all c).After-row_of-p) c.wide-k.result c.wide-k.ensures c.if-p-eq-TRADE.false (sym c.net_of_all.ensures ∙ c.if-net_of_all.false), c.wide-k.ensures)

pub overflow_add-places : goal.overflow_add-places
overflow_add-places c =
    let from = (goal.at.overflow_add-places c).Start in
    let at = c.loop-i in
    record { fits = omega (arith, count_few (a from) (site from) (postable from), c.loop-i-test.true, at.invariant.2) }

pub overflow_step-i : goal.overflow_step-i
overflow_step-i c =
    let from = (goal.at.overflow_step-i c).Start in
    record { fits = omega (arith, count_few (a from) (site from) (postable from), c.loop-i-test.true) }

pub loop-i-preserved : goal.loop-i-preserved
loop-i-preserved c =
    let at = c.loop-i in
    let line = on_line (goal.at.loop-i-preserved c).After-row_of-p in (
      omega (arith, c.loop-i-test.true),
      elim c.if-p-eq-TRADE.branch [
        | then-p-eq-TRADE w ↦
            w.sheet-is
            ∙ trade_line line w.wide-a.result w.wide-a.ensures w.if-p-eq-TRADE.true w.trade-t.result w.wide-b.result w.trade-t.ensures w.wide-b.ensures w.trade-v.result w.trade-v.ensures
        | else-p-eq-TRADE+then-net_of_all w ↦ w.sheet-is ∙ w.net_all-sheet.ensures ∙ line_nets_all line (sym w.net_of_all.ensures ∙ w.if-net_of_all.true)
        | else-p-eq-TRADE+else-net_of_all w ↦
            w.sheet-is
            ∙ one_line line w.wide-k.result w.wide-k.ensures w.if-p-eq-TRADE.false (sym w.net_of_all.ensures ∙ w.if-net_of_all.false) w.change-t.result w.change-t.ensures
      ],
      ap (λ (n : ℕ). n + 1) at.invariant.2,
    )

pub returns : goal.returns
unfolding numbers_of
returns c =
    let at = c.loop-i in
    let e : at.i ≡ (record_in (a (goal.at.returns c).Start) (site (goal.at.returns c).Start)).count = unfold record_in in omega arith in record { sheet_value = at.invariant.1 ∙ ap (λ (n : ℕ). sheet_of (books_to (a (goal.at.returns c).Start) (site (goal.at.returns c).Start) (postable (goal.at.returns c).Start) n)) e; places_value = at.invariant.2 ∙ e ∙ sym (places_are (a (goal.at.returns c).Start) (site (goal.at.returns c).Start) (postable (goal.at.returns c).Start)) }
