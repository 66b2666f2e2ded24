-- Posting on a sheet: every account netted, what the code does with a line of a record, and what a record that may be posted says of each line.
-- Rests on Lines. Assumes nothing.
use mathlib.Core.Path.{◌≡◌, refl, sym, ap, ◌∙◌, subst⁻¹, fun_ext}
use mathlib.Core.Bool.{Bool, true, false, cond}
use mathlib.Core.List.{List}
use Prim.Native.Nat.{ℕ, zero, suc, ◌+◌, ◌<◌, ◌≤◌}
use native.Mathlib.Decide.{ℕ_discrete, dec_lt}
use native.Mathlib.Omega.{arith}
use lib.Dec.{eqb, ltb, lit≤}
use lib.ListN.{length, get_or, set, take, replicate, length-set}
use lib.Seq.{length-take-le}
use borrow.Author.Tests.{eq-eqb, ne_eqb, lt-ltb, le-ltb}
use Rattle.sets.specs.Sets.{capacity}
use Rattle.posting.specs.declared.Posting.{Posting}
use Rattle.posting.specs.declared.Table.{Table}
use Rattle.posting.specs.declared.Record.{Record}
use Rattle.posting.specs.Kinds.{accounts, nets_all}
use Rattle.posting.proofs.KindLaws.{Fields, fields, named_accounts}
use Rattle.posting.specs.Conflicts.{no_posting, row}
use Rattle.posting.proofs.ConflictLaws.{offered_below, touches_first, touches_second}
use Rattle.books.specs.declared.Figures.{Figures}
use Rattle.books.specs.declared.Sheet.{Sheet}
use Rattle.books.specs.Effect.{on_net, change, effect}
use Rattle.books.specs.Books.{Books, blank, post, books, zeros, tabulate, figures_on, sheet_of}
use Rattle.books.specs.Bounds.{Room, Roomy, Opening, Postable}
use Rattle.books.proofs.Effects.{effect_touched, effect_untouched, effect_net_all, touches_neither}
use Rattle.books.proofs.Bounds.{room}
use Rattle.books.proofs.Lines.{books_after, lawful_take, next_line}
use Rattle.books.proofs.Lists.{length_tabulate, get_d_tabulate, is_tabulate, get_d_changed, changed_both}

-- ---- sheets

-- a list with the figures of each account makes their sheet
is_sheet : (s : Books) (l : List Figures) → length l ≡ accounts → ((k : ℕ) → k < accounts → get_or l k zeros ≡ s k) → record { accounts = l } ≡ sheet_of s
is_sheet s l e h = ap (λ (x : List Figures). record { accounts = x }) (is_tabulate accounts s zeros l e h)

same_sheet : (s t : Books) → ((k : ℕ) → k < accounts → s k ≡ t k) → sheet_of s ≡ sheet_of t
same_sheet s t h = is_sheet t (tabulate accounts s) (length_tabulate accounts s) (λ k l. get_d_tabulate accounts s zeros k l ∙ h k l)

-- ---- every account netted, account by account

-- the first i accounts are netted
abbrev pub netted : ℕ → Books → Books
netted i s k = cond (ltb k i) (on_net (s k)) (s k)

pub netted_none : (s : Books) → sheet_of s ≡ sheet_of (netted 0 s)
netted_none s = same_sheet s (netted 0 s) (λ k h. rw (le-ltb k 0 (omega arith)))

-- account i, whose turn it is, is as it was
pub netted_at : (i : ℕ) (s : Books) → i < accounts → figures_on (sheet_of (netted i s)) i ≡ s i
netted_at i s h = get_d_tabulate accounts (netted i s) zeros i h ∙ rw (le-ltb i i (omega arith))

-- v is stored there
pub netted_next : (i : ℕ) (s : Books) → i < accounts → (sheet : Sheet) (v : Figures) → sheet ≡ sheet_of (netted i s) → v ≡ on_net (s i)
    → record { accounts = set sheet.accounts i v } ≡ sheet_of (netted (i + 1) s)
netted_next i s h sheet v is ev = rw (is, ev) (is_sheet (netted (i + 1) s) (set (tabulate accounts (netted i s)) i (on_net (s i))) size at)
  where
    size : length (set (tabulate accounts (netted i s)) i (on_net (s i))) ≡ accounts
    size = length-set (tabulate accounts (netted i s)) i (on_net (s i)) ∙ length_tabulate accounts (netted i s)

    one : (k : ℕ) → Dec (k ≡ i) → cond (eqb k i) (on_net (s i)) (netted i s k) ≡ netted (i + 1) s k
    one k (yes e) = rw (eq-eqb k i e, lt-ltb k (i + 1) (omega (arith, e))) (ap (λ (j : ℕ). on_net (s j)) (sym e))
    one k (no d) = rw (ne_eqb k i d) (elim (dec_lt k i) [
      | yes b ↦ rw (lt-ltb k i b, lt-ltb k (i + 1) (omega arith))
      | no b ↦ rw (le-ltb k i (omega arith), le-ltb k (i + 1) (omega arith))
    ])

    at : (k : ℕ) → k < accounts → get_or (set (tabulate accounts (netted i s)) i (on_net (s i))) k zeros ≡ netted (i + 1) s k
    at k l = get_d_changed accounts (netted i s) zeros i (on_net (s i)) k l ∙ one k (ℕ_discrete k i)

pub netted_all : (s : Books) → sheet_of (netted accounts s) ≡ sheet_of (λ k. on_net (s k))
netted_all s = same_sheet (netted accounts s) (λ k. on_net (s k)) (λ k h. rw (lt-ltb k accounts h))

-- ---- a posting at account a, then at account b if that is another one

module _ (s : Books) (p : Posting) (both : (p.a < accounts) × (p.b < accounts)) where
  first_is : change p.kind p p.a (s p.a) ≡ effect p p.a (s p.a)
  first_is = sym (effect_touched p p.a (s p.a) (touches_first p both.0))

  second_is : (u : Figures) → u ≡ cond (eqb p.b p.a) (effect p p.a (s p.a)) (s p.b)
      → cond (eqb p.a p.b) u (change p.kind p p.b u) ≡ effect p p.b (s p.b)
  second_is u h = elim (ℕ_discrete p.a p.b) [
    | yes e ↦ rw (eq-eqb p.a p.b e) (h ∙ rw (eq-eqb p.b p.a (sym e)) (ap (λ k. effect p k (s k)) e))
    | no ne ↦
        let v : u ≡ s p.b = h ∙ rw (ne_eqb p.b p.a (λ e. ne (sym e))) in
        rw (ne_eqb p.a p.b ne, v) (sym (effect_touched p p.b (s p.b) (touches_second p both.1)))
  ]

-- ---- a line: posting p on the books s gives the books next, with room before and after; sheet is that of s

pub record Line (s : Books) (p : Posting) (next : Books) (sheet : Sheet) : Type 0 where
  pub ok : Fields p
  pub before : Roomy s
  pub after : Roomy next
  pub gives : post p s ≡ next
  pub is : sheet ≡ sheet_of s

module _ {s : Books} {p : Posting} {next : Books} {sheet : Sheet} (c : Line s p next sheet) where
  figures_before : (k : ℕ) → k < accounts → figures_on sheet k ≡ s k
  figures_before k h = rw c.is (get_d_tabulate accounts s zeros k h)

  pub line_roomy : Roomy (figures_on sheet)
  line_roomy k h = rw (figures_before k h) (c.before k h)

  -- a line that nets every account
  pub line_nets_all : nets_all p ≡ true → sheet_of (λ k. on_net (figures_on sheet k)) ≡ sheet_of next
  line_nets_all e =
      same_sheet (λ k. on_net (figures_on sheet k)) (post p s) (λ k h. ap on_net (figures_before k h) ∙ sym (effect_net_all p k (s k) e h))
      ∙ ap sheet_of c.gives

-- a line whose posting names its accounts; a is the place of account a
pub record Named (s : Books) (p : Posting) (next : Books) (sheet : Sheet) (a : ℕ) : Type 0 where
  pub on : Line s p next sheet
  pub named : nets_all p ≡ false
  pub first : a ≡ p.a

module _ {s : Books} {p : Posting} {next : Books} {sheet : Sheet} {a : ℕ} (c : Named s p next sheet a) where
  -- both are accounts
  pub line_accounts : (p.a < accounts) × (p.b < accounts)
  line_accounts = named_accounts p.kind p.a p.b c.on.ok.accounts_are_ok c.named

  at_a : figures_on sheet a ≡ s p.a
  at_a = rw c.first (figures_before c.on p.a line_accounts.0)

  pub room_a : Room (figures_on sheet a)
  room_a = rw at_a (c.on.before p.a line_accounts.0)

  -- t is stored at a; b is the place of account b
  module _ (t : Figures) (b : ℕ) (et : t ≡ change p.kind p p.a (figures_on sheet a)) (eb : b ≡ p.b) where
    abbrev u : Figures
    u = get_or (set sheet.accounts a t) b zeros

    stored : t ≡ effect p p.a (s p.a)
    stored = et ∙ rw at_a (first_is s p line_accounts)

    at_b : u ≡ cond (eqb p.b p.a) (effect p p.a (s p.a)) (s p.b)
    at_b = rw (stored, c.on.is, c.first, eb) (get_d_changed accounts s zeros p.a (effect p p.a (s p.a)) p.b line_accounts.1)

    pub room_b : Room u
    room_b = rw at_b (go (eqb p.b p.a))
      where
        go : (t : Bool) → Room (cond t (effect p p.a (s p.a)) (s p.b))
        go true = subst⁻¹ Roomy c.on.gives c.on.after p.a line_accounts.0
        go false = c.on.before p.b line_accounts.1

    pub line : (v : Figures) → v ≡ cond (eqb p.a p.b) u (change p.kind p p.b u)
        → record { accounts = set (set sheet.accounts a t) b v } ≡ sheet_of next
    line v ev =
        let w : v ≡ effect p p.b (s p.b) = ev ∙ second_is s p line_accounts u at_b in
        rw (w, stored, c.on.is, c.first, eb)
        (ap (λ (x : List Figures). record { accounts = x })
        (changed_both accounts s (post p s) zeros p.a p.b line_accounts.1
        (λ k h na nb. sym (effect_untouched p k (s k) (touches_neither p k c.named na nb))))
        ∙ ap sheet_of c.on.gives)

-- a sheet is that of its figures
pub sheet_is : (sheet : Sheet) → length sheet.accounts ≡ accounts → sheet ≡ sheet_of (figures_on sheet)
sheet_is sheet e = is_sheet (figures_on sheet) sheet.accounts e (λ k h. refl)

-- a sheet of zeros may be posted from
pub blank_opening : Opening (figures_on (sheet_of blank))
blank_opening k h = rw (get_d_tabulate accounts blank zeros k h) (record { position = omega arith; rate = omega arith; called = omega arith; settled = omega arith })

-- ---- a record that may be posted

module _ (table : Table) (delivered : Record) (ok : Postable table delivered) where
  line_fields : (i : ℕ) → i < delivered.count → Fields (row table (get_or delivered.numbers i 0))
  line_fields i h = fields (row table (get_or delivered.numbers i 0)) (ok.rows (get_or delivered.numbers i 0) (ok.lines i h))

  -- the posting number m of line i, as the code has it
  pub number_within : (i : ℕ) → i < delivered.count → (m : ℕ) → m ≡ get_or delivered.numbers i 0 → m < capacity
  number_within i h m em = rw em (offered_below table (get_or delivered.numbers i 0) (ok.lines i h)).1

  -- from opening figures s
  module _ (s : Books) (opens : Opening s) (long : length delivered.numbers ≡ capacity) where
    -- the books of the first n lines
    abbrev books_to : ℕ → Books
    books_to n = books s table (take n delivered.numbers)

    roomy_to : (n : ℕ) → n ≤ delivered.count → Roomy (books_to n)
    roomy_to n h k b =
        let here : n ≤ length delivered.numbers = omega (arith, ok.within, long) in
        let size : length (take n delivered.numbers) ≡ n = length-take-le n delivered.numbers here in
        let each = lawful_take table delivered.numbers n here (λ j l. line_fields j (omega arith)) in
        room capacity (0 + length (take n delivered.numbers)) (books_to n k) (lit≤ tt) (omega (arith, ok.within))
        (books_after table (take n delivered.numbers) each 0 s k (opens k b))

    pub line_of : (i : ℕ) → i < delivered.count → (m : ℕ) → m ≡ get_or delivered.numbers i 0 → (sheet : Sheet) → sheet ≡ sheet_of (books_to i)
        → Line (books_to i) (get_or table.rows m no_posting) (books_to (i + 1)) sheet
    unfolding row
    line_of i h m em sheet is = record {
      ok = subst⁻¹ (λ (p : Posting). Fields p) posting_is (line_fields i h);
      before = roomy_to i (omega arith);
      after = roomy_to (i + 1) (omega arith);
      gives = ap (λ (p : Posting). post p (books_to i)) posting_is ∙ next_line s table delivered.numbers i (omega (arith, ok.within, long));
      is = is;
    }
      where
        posting_is : get_or table.rows m no_posting ≡ row table (get_or delivered.numbers i 0)
        posting_is = ap (λ (k : ℕ). get_or table.rows k no_posting) em

-- past the sixteen accounts zeros are read, too
pub blank_figures : figures_on (sheet_of blank) ≡ blank
unfolding tabulate
blank_figures = fun_ext (λ k. at accounts k)
  where
    at : (n k : ℕ) → get_or (replicate n zeros) k zeros ≡ zeros
    at zero k = refl
    at (suc n) zero = refl
    at (suc n) (suc k) = at n k
