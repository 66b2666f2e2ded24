-- `books::posted` meets its contract: after i lines the sheet is that of the first i posting numbers.
-- Assumes nothing.
use mathlib.Core.Path.{◌≡◌, sym, ap, ◌∙◌}
use mathlib.Core.Bool.{false}
use Prim.Native.Nat.{ℕ, ◌+◌, ◌<◌}
use native.Mathlib.Omega.{arith}
use lib.ListN.{length, get_or, take}
use borrow.Author.Rules.{rules}
use Rattle.sets.specs.Sets.{capacity}
use Rattle.posting.specs.declared.Posting.{Posting}
use Rattle.posting.specs.declared.Table.{Table}
use Rattle.posting.specs.declared.Record.{Record}
use Rattle.posting.specs.Kinds.{accounts, nets_all}
use Rattle.posting.specs.Records.{numbers_of}
use Rattle.posting.specs.Conflicts.{no_posting}
use Rattle.books.specs.Books.{Books, books, figures_on, sheet_of}
use Rattle.books.specs.declared.Sheet.{Sheet}
use Rattle.books.specs.Bounds.{Opening, Postable}
use Rattle.books.proofs.Sheets.{Line, Named, line, line_accounts, line_roomy, line_nets_all, room_a, room_b, sheet_is, number_within, line_of}
use Rattle.books.proofs.posted.Goals as goal
use Rattle.books.proofs.posted.Goals.{After-wide-a, After-wide-b, After-wide-m, then-net_of_all, else-net_of_all}

module _ (c : After-wide-m) where
  abbrev table : Table
  table = c.args.table

  abbrev delivered : Record
  delivered = c.args.delivered

  abbrev opening : Books
  opening = figures_on c.args.opening

  abbrev postable : Postable table delivered
  postable = c.requires.0

  abbrev opens : Opening opening
  opens = c.requires.1

  abbrev i : ℕ
  i = c.loop-i.i

  abbrev sheet : Sheet
  sheet = c.loop-i.sheet

  abbrev posting : Posting
  posting = get_or table.rows c.wide-m.result no_posting

  -- the books of the first n lines
  abbrev books_to : ℕ → Books
  books_to n = books opening table (take n delivered.numbers)

  here : i < delivered.count
  here = c.loop-i-test.true

  long : length delivered.numbers ≡ capacity
  long = search rules

  within : c.wide-m.result < capacity
  within = number_within table delivered postable i here _ c.wide-m.ensures

  on_line : Line (books_to i) posting (books_to (i + 1)) sheet
  on_line = line_of table delivered postable opening opens long i here _ c.wide-m.ensures sheet c.loop-i.invariant.1

-- a line that names its accounts, of which the first is a
named_line : (c : After-wide-m) → nets_all (posting c) ≡ false → (a : ℕ) → a ≡ (posting c).a
    → Named (books_to c (i c)) (posting c) (books_to c (i c + 1)) (sheet c) a
named_line c n a e = record { on = on_line c; named = n; first = e }

module _ (c : After-wide-a) where
  abbrev at_wide : After-wide-m
  at_wide = c.before.before.before.before

  start : Named (books_to at_wide (i at_wide)) (posting at_wide) (books_to at_wide (i at_wide + 1)) (sheet at_wide) c.wide-a.result
  start = named_line at_wide (sym c.net_of_all.ensures ∙ c.if-net_of_all.false) _ c.wide-a.ensures

  a-within : c.wide-a.result < accounts
  a-within = omega (arith, (line_accounts start).0, c.wide-a.ensures)

b-within : (c : After-wide-b) → c.wide-b.result < accounts
b-within c = omega (arith, (line_accounts (start c.before.before.before)).1, c.wide-b.ensures)

pub loop-i-init : goal.loop-i-init
unfolding books
loop-i-init c =
    let accounts-of = c.args.opening.accounts in
    let e : length accounts-of ≡ accounts = c.well_formed.1.1.0.1.1.0.1.0.1 in
    (search rules, sheet_is c.args.opening e)

pub offset_bounds-table-m : goal.offset_bounds-table-m
offset_bounds-table-m c = record { fits = omega (arith, within (goal.at.offset_bounds-table-m c).After-wide-m) }

pub bounds-table-m : goal.bounds-table-m
bounds-table-m c = within (goal.at.bounds-table-m c).After-wide-m

pub net_all-sheet-requires : goal.net_all-sheet-requires
net_all-sheet-requires c = line_roomy (on_line (goal.at.net_all-sheet-requires c).After-wide-m)

pub offset_bounds-sheet-a : goal.offset_bounds-sheet-a
offset_bounds-sheet-a c = record { fits = omega (arith, a-within (goal.at.offset_bounds-sheet-a c).After-wide-a) }

pub bounds-sheet-a : goal.bounds-sheet-a
bounds-sheet-a c = a-within (goal.at.bounds-sheet-a c).After-wide-a

pub change-t-requires : goal.change-t-requires
change-t-requires c = room_a (start (goal.at.change-t-requires c).After-wide-a)

pub offset_bounds-sheet-a-else-net_of_all : goal.offset_bounds-sheet-a-else-net_of_all
offset_bounds-sheet-a-else-net_of_all c = record { fits = omega (arith, a-within (goal.at.offset_bounds-sheet-a-else-net_of_all c).After-wide-a) }

pub bounds-sheet-a-else-net_of_all : goal.bounds-sheet-a-else-net_of_all
bounds-sheet-a-else-net_of_all c = a-within (goal.at.bounds-sheet-a-else-net_of_all c).After-wide-a

pub offset_bounds-sheet-b : goal.offset_bounds-sheet-b
offset_bounds-sheet-b c = record { fits = omega (arith, b-within (goal.at.offset_bounds-sheet-b c).After-wide-b) }

pub bounds-sheet-b : goal.bounds-sheet-b
bounds-sheet-b c = b-within (goal.at.bounds-sheet-b c).After-wide-b

pub change_b-v-requires : goal.change_b-v-requires
change_b-v-requires c =
    let a = c.change-t in
    let b = c.wide-b in
    room_b (start (goal.at.change_b-v-requires c).After-wide-a) a.result b.result a.ensures b.ensures

pub offset_bounds-sheet-b-else-net_of_all : goal.offset_bounds-sheet-b-else-net_of_all
offset_bounds-sheet-b-else-net_of_all c = record { fits = omega (arith, b-within (goal.at.offset_bounds-sheet-b-else-net_of_all c).After-wide-b) }

pub bounds-sheet-b-else-net_of_all : goal.bounds-sheet-b-else-net_of_all
bounds-sheet-b-else-net_of_all c = b-within (goal.at.bounds-sheet-b-else-net_of_all c).After-wide-b

pub loop-i-preserved : goal.loop-i-preserved
loop-i-preserved c =
    let at = (goal.at.loop-i-preserved c).After-wide-m in (
      omega (arith, here at),
      elim c.if-net_of_all.branch [
        | then-net_of_all w ↦ w.sheet-is ∙ w.net_all-sheet.ensures ∙ line_nets_all (on_line at) (sym c.net_of_all.ensures ∙ w.if-net_of_all.true)
        | else-net_of_all w ↦
            w.sheet-is
            ∙ line (named_line at (sym c.net_of_all.ensures ∙ w.if-net_of_all.false) _ w.wide-a.ensures)
            w.change-t.result w.wide-b.result w.change-t.ensures w.wide-b.ensures w.change_b-v.result w.change_b-v.ensures
      ],
    )

pub returns : goal.returns
unfolding numbers_of
returns c =
    let e : c.loop-i.i ≡ c.args.delivered.count = omega arith in
    c.loop-i.invariant.1 ∙ ap (λ (n : ℕ). sheet_of (books (figures_on c.args.opening) c.args.table (take n c.args.delivered.numbers))) e
