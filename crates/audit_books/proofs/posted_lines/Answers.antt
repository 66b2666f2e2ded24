-- `posted_lines` meets its contract.
-- Rests on Sheets. Assumes nothing.
use Rattle.std.proofs.Common.{◌≡◌, ℕ, ◌<◌, ◌+◌, false, take, sym, ◌∙◌, arith}
use Rattle.posting.specs.Kinds.{accounts, nets_all}
use Rattle.books.specs.Books.{Books, blank, books}
use Rattle.books.proofs.Sheets.{Line, Named, line, line_accounts, line_roomy, line_nets_all, room_a, room_b}
use Rattle.audit_rule.specs.Handed.{table_of}
use Rattle.audit_books.proofs.Sheets.{line_of}
use Rattle.audit_books.proofs.posted_lines.Goals as goal
use Rattle.audit_books.proofs.posted_lines.Goals.{After-posting_at-p, then-net_of_all, else-net_of_all}

-- the posting of a line, posted
on_line : (c : After-posting_at-p) →
    let v = c.args.postings in
    let table = table_of v.kinds.now v.firsts.now v.seconds.now v.amounts.now in
    let i = c.loop-m.m-index in
    Line (books blank table (take i c.args.lines.now)) c.posting_at-p.result (books blank table (take (i + 1) c.args.lines.now)) c.loop-m.sheet
on_line c =
    let v = c.args.postings in
    rw (c.posting_at-p.ensures, c.from.ensures)
    (line_of v.kinds.now v.firsts.now v.seconds.now v.amounts.now c.args.lines.now c.requires c.loop-m.m-index c.loop-m-test.true c.loop-m.sheet c.loop-m.invariant)

-- one that names its accounts
module _ (c : After-posting_at-p) (named : nets_all c.posting_at-p.result ≡ false) {a : ℕ} (first : a ≡ c.posting_at-p.result.a) where
  abbrev books_to : ℕ → Books
  books_to n = let v = c.args.postings in books blank (table_of v.kinds.now v.firsts.now v.seconds.now v.amounts.now) (take n c.args.lines.now)

  named_line : Named (books_to c.loop-m.m-index) c.posting_at-p.result (books_to (c.loop-m.m-index + 1)) c.loop-m.sheet a
  named_line = record { on = on_line c; named = named; first = first }

  a_within : a < accounts
  a_within = omega (arith, (line_accounts named_line).0, first)

  b_within : {b : ℕ} → b ≡ c.posting_at-p.result.b → b < accounts
  b_within e = let both = line_accounts named_line in omega (arith, both.0, both.1, e)

pub loop-m-init : goal.loop-m-init
unfolding books
loop-m-init c = c.blank-sheet.ensures

pub net_all-sheet-requires : goal.net_all-sheet-requires
net_all-sheet-requires c = line_roomy (on_line (goal.at.net_all-sheet-requires c).After-posting_at-p)

pub bounds-sheet-a : goal.bounds-sheet-a
bounds-sheet-a c = a_within (goal.at.bounds-sheet-a c).After-posting_at-p (sym c.net_of_all.ensures ∙ c.if-net_of_all.false) c.from-a.ensures

pub change-requires : goal.change-requires
change-requires c = room_a (named_line (goal.at.change-requires c).After-posting_at-p (sym c.net_of_all.ensures ∙ c.if-net_of_all.false) c.from-a.ensures)

pub bounds-sheet-a-else-net_of_all : goal.bounds-sheet-a-else-net_of_all
bounds-sheet-a-else-net_of_all c = a_within (goal.at.bounds-sheet-a-else-net_of_all c).After-posting_at-p (sym c.net_of_all.ensures ∙ c.if-net_of_all.false) c.from-a.ensures

pub bounds-sheet-b : goal.bounds-sheet-b
bounds-sheet-b c = b_within (goal.at.bounds-sheet-b c).After-posting_at-p (sym c.net_of_all.ensures ∙ c.if-net_of_all.false) c.from-a.ensures c.from-b.ensures

pub change_b-requires : goal.change_b-requires
change_b-requires c =
    room_b (named_line (goal.at.change_b-requires c).After-posting_at-p (sym c.net_of_all.ensures ∙ c.if-net_of_all.false) c.from-a.ensures) c.change.result c.from-b.result c.change.ensures c.from-b.ensures

pub bounds-sheet-b-else-net_of_all : goal.bounds-sheet-b-else-net_of_all
bounds-sheet-b-else-net_of_all c = b_within (goal.at.bounds-sheet-b-else-net_of_all c).After-posting_at-p (sym c.net_of_all.ensures ∙ c.if-net_of_all.false) c.from-a.ensures c.from-b.ensures

pub loop-m-preserved : goal.loop-m-preserved
loop-m-preserved c =
    let at = (goal.at.loop-m-preserved c).After-posting_at-p in
    elim c.if-net_of_all.branch [
      | then-net_of_all w ↦ w.sheet-is ∙ w.net_all-sheet.ensures ∙ line_nets_all (on_line at) (sym c.net_of_all.ensures ∙ w.if-net_of_all.true)
      | else-net_of_all w ↦
          w.sheet-is
          ∙ line (named_line at (sym c.net_of_all.ensures ∙ w.if-net_of_all.false) w.from-a.ensures)
          w.change.result w.from-b.result w.change.ensures w.from-b.ensures w.change_b.result w.change_b.ensures
    ]
