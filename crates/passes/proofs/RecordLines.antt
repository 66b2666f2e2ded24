-- A line of a record where it lies: its posting, and what is made of the sheet, for a TRADE and for a posting of one account.
-- Rests on the laws of a line in books, on views for rows, on flight for a part of an array. Assumes nothing.
use Prim.Native.Nat.{ℕ, ◌+◌, ◌*◌, ◌<◌, ◌≤◌}
use mathlib.Core.Path.{◌≡◌, refl, sym, ap, ◌∙◌, subst, subst⁻¹}
use mathlib.Core.Logic.{◌≢◌}
use mathlib.Core.Bool.{false}
use mathlib.Core.List.{List}
use native.Mathlib.Decide.{ℕ_discrete}
use native.Mathlib.Omega.{arith}
use lib.ListN.{length, get_or, set, take}
use lib.Seq.{set-get_or}
use borrow.Author.Tests.{eq-eqb, ne_eqb}
use Rattle.sets.specs.Sets.{capacity}
use Rattle.sets.proofs.Truth.{never}
use Rattle.posting.specs.declared.Posting.{Posting}
use Rattle.posting.specs.declared.Record.{Record}
use Rattle.posting.specs.Kinds.{trade, accounts, nets_all}
use Rattle.posting.specs.Conflicts.{no_posting}
use Rattle.posting.specs.Records.{numbers_of}
use Rattle.posting.proofs.KindLaws.{row_one_account, row_trade, trade_names}
use Rattle.posting.proofs.RecordLaws.{length_numbers}
use Rattle.books.specs.declared.Figures.{Figures}
use Rattle.books.specs.declared.Sheet.{Sheet}
use Rattle.books.specs.Effect.{on_trade, change}
use Rattle.books.specs.Books.{Books, blank, books, zeros, figures_on, sheet_of}
use Rattle.books.specs.Bounds.{Room, Opening, Postable}
use Rattle.books.proofs.Lists.{get_d_tabulate}
use Rattle.books.proofs.Sheets.{Line, Named, line, line_accounts, room_a, room_b, number_within, line_of, blank_opening, blank_figures}
use Rattle.site.specs.Sites.{sites}
use Rattle.flight.proofs.CarriedLaws.{word_from, length_words_from}
use Rattle.arrays.specs.Layout.{delivered_at, record_at}
use Rattle.arrays.specs.declared.Arrays.{Arrays}
use Rattle.views.specs.Views.{record_in, row_of, table_of}

-- ---- a record that lies on arrays

-- where the records begin
abbrev records_from : ℕ
records_from = 1 + 7 * capacity + 2 * (sites * capacity)

blank_opens : Opening blank
blank_opens = subst Opening blank_figures blank_opening

module _ (a : Arrays) (site : ℕ) (ok : Postable (table_of a) (record_in a site)) where
  abbrev delivered : Record
  delivered = record_in a site

  -- the books of its first n lines
  abbrev pub books_to : ℕ → Books
  books_to n = books blank (table_of a) (take n delivered.numbers)

  places_long : length delivered.numbers ≡ capacity
  unfolding record_in
  places_long = length_words_from a.bytes (record_at site 0) capacity

  -- how many they are, as the code reads it
  pub count_few : get_or a.counts (delivered_at site) 0 ≤ capacity
  unfolding record_in
  count_few = ok.within

  pub places_are : length (numbers_of delivered) ≡ delivered.count
  places_are = length_numbers delivered places_long ok.within

  -- line i has the number m
  module _ (i : ℕ) (here : i < delivered.count) (m : ℕ) (em : m ≡ get_or a.bytes (records_from + site * capacity + i) 0) where
    number_is : m ≡ get_or delivered.numbers i 0
    unfolding record_in
    number_is =
        let at : records_from + site * capacity + i ≡ record_at site 0 + i = omega arith in
        em ∙ ap (λ (k : ℕ). get_or a.bytes k 0) at ∙ sym (word_from a.bytes (record_at site 0) capacity i (omega (arith, here, ok.within)))

    pub below : m < capacity
    below = number_within (table_of a) delivered ok i here m number_is

    pub line_here : (p : Posting) → p ≡ row_of a m → (sheet : Sheet) → sheet ≡ sheet_of (books_to i) → Line (books_to i) p (books_to (i + 1)) sheet
    unfolding table_of
    line_here p ep sheet is =
        let row_is : p ≡ get_or (table_of a).rows m no_posting = ep ∙ sym (get_d_tabulate capacity (row_of a) no_posting m below) in
        subst⁻¹ (λ (q : Posting). Line (books_to i) q (books_to (i + 1)) sheet) row_is
        (line_of (table_of a) delivered ok blank blank_opens places_long i here m number_is sheet is)

-- ---- a line by the kind of its posting; at is the place of account a

module _ {s : Books} {p : Posting} {next : Books} {sheet : Sheet} (c : Line s p next sheet) (at : ℕ) (first : at ≡ p.a) where
  module _ (kind : p.kind ≡ trade) where
    start : Named s p next sheet at
    start = record { on = c; named = trade_names p kind; first = first }

    as_change : (k : ℕ) (f : Figures) → on_trade p k f ≡ change p.kind p k f
    unfolding change
    as_change k f = rw kind refl

    pub trade_accounts : (p.a < accounts) × (p.b < accounts)
    trade_accounts = line_accounts start

    pub trade_room_a : Room (figures_on sheet at)
    trade_room_a = room_a start

    module _ (t : Figures) (b : ℕ) (et : t ≡ on_trade p p.a (figures_on sheet at)) (eb : b ≡ p.b) where
      changed : t ≡ change p.kind p p.a (figures_on sheet at)
      changed = et ∙ as_change p.a (figures_on sheet at)

      pub trade_room_b : Room (get_or (set sheet.accounts at t) b zeros)
      trade_room_b = room_b start t b changed eb

      pub trade_line : (v : Figures) → v ≡ on_trade p p.b (get_or (set sheet.accounts at t) b zeros)
          → record { accounts = set (set sheet.accounts at t) b v } ≡ sheet_of next
      trade_line v ev =
          let u = get_or (set sheet.accounts at t) b zeros in
          let apart = (row_trade p.kind p.a p.b p.amount c.ok.within kind).0 in
          line start t b changed eb v (rw (ne_eqb p.a p.b apart) (ev ∙ as_change p.b u))

  -- a posting of one account
  module _ (kind : p.kind ≢ trade) (named : nets_all p ≡ false) where
    one : Named s p next sheet at
    one = record { on = c; named = named; first = first }

    same_account : p.b ≡ p.a
    same_account = elim (ℕ_discrete p.b p.a) [
      | yes e ↦ e
      | no d ↦ absurd (never c.ok.within (row_one_account p.kind p.a p.b p.amount kind d))
    ]

    pub one_account : p.a < accounts
    one_account = (line_accounts one).0

    pub one_room : Room (figures_on sheet at)
    one_room = room_a one

    pub one_line : (t : Figures) → t ≡ change p.kind p p.a (figures_on sheet at) → record { accounts = set sheet.accounts at t } ≡ sheet_of next
    one_line t et =
        let changed = set sheet.accounts at t in
        let u = get_or changed at zeros in
        ap (λ (x : List Figures). record { accounts = x }) (sym (set-get_or changed at zeros))
        ∙ line one t at et (first ∙ sym same_account) u (rw (eq-eqb p.a p.b (sym same_account)) refl)
