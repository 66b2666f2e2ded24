-- No statement is longer than the buffer that its program prints into, so every statement is written.
-- Rests on Same, on agreement and statements. Assumes nothing.
use Prim.Native.Nat.{ℕ, zero, suc, ◌+◌, ◌*◌, ◌<◌, ◌≤◌}
use mathlib.Core.Path.{◌≡◌}
use mathlib.Core.Logic.{inl, inr}
use mathlib.Core.Bool.{Bool, true, false, cond}
use mathlib.Core.List.{List, [], ◌∷◌, ◌++◌}
use native.Mathlib.Omega.{arith}
use lib.Dec.{eqb}
use lib.IntN.{ℤ, pos, negsuc, nat_abs}
use lib.ListN.{length, get_or, drop, length-append}
use borrow.Author.Tests.{eqb-true}
use Rattle.sets.proofs.Truth.{test}
use Rattle.sets.specs.Masks.{has_bit}
use Rattle.posting.specs.Kinds.{accounts}
use Rattle.books.specs.declared.Figures.{Figures}
use Rattle.books.specs.Books.{Books, blank, books, four, numbers_to}
use Rattle.books.specs.Bounds.{Room}
use Rattle.steps.specs.declared.Call.{Call}
use Rattle.machine.specs.declared.Board.{Board}
use Rattle.machine.specs.Calls.{refusal_of, starting}
use Rattle.machine.specs.Figures.{record_of, figures_of, figures_of_all}
use Rattle.invariants.proofs.Reached.{Good, good_sites}
use Rattle.agreement.proofs.Posted.{books_room}
use Rattle.decoder.specs.RunFile.{setup_of, well_formed, calls_of}
use Rattle.std.proofs.Common.{Some}
use Rattle.printer.specs.Writing.{slice_printed, answer_printed}
use Rattle.printer.specs.Output.{decimal, up_word, down_word, newline}
use Rattle.printer.proofs.Lengths.{decimal_length, three_digits, state_length}
use Rattle.printer.proofs.Writing.{fits_written}
use Rattle.runfile.proofs.Programs.{start_accepted}
use Rattle.runfile.proofs.Fits.{buffer_length, start_small, refused_length}
use Rattle.amounts.specs.Amounts.{signed}
use Rattle.statements.specs.Table.{position_word, rate_word, called_word, settled_word, account_at, is_blank, account_line, account_part, account_lines, has_none, site_heading, accounts_part, site_part, site_parts, all_agree, closing_line, statement_text}
use Rattle.statements.specs.Statement.{statement_of, stated_run, stated_from, stated}
use Rattle.statement_laws.proofs.Same.{last_good}

-- ---- figures

-- at most 19 digits
abbrev Short : ℤ → Type 0
Short x = nat_abs x < 10_000_000_000_000_000_000

-- every number of a list, and what is read past its end
abbrev AllShort : List ℤ → Type 0
AllShort l = (i : ℕ) → Short (get_or l i (pos 0))

append_short : (l r : List ℤ) → AllShort l → AllShort r → AllShort (l ++ r)
append_short [] r hl hr i = hr i
append_short (x ∷ l) r hl hr zero = hl 0
append_short (x ∷ l) r hl hr (suc i) = append_short l r (λ j. hl (suc j)) hr i

four_short : (s : Figures) → Room s → AllShort (four s)
four_short s h zero = omega (arith, h.position)
four_short s h (suc zero) = omega (arith, h.rate)
four_short s h (suc (suc zero)) = omega (arith, h.called)
four_short s h (suc (suc (suc zero))) = omega (arith, h.settled)
four_short s h (suc (suc (suc (suc i)))) = omega arith

numbers_short : (n : ℕ) (s : Books) → ((k : ℕ) → Room (s k)) → AllShort (numbers_to n s)
unfolding numbers_to
numbers_short zero s h i = omega arith
numbers_short (suc n) s h i = append_short (numbers_to n s) (four (s n)) (numbers_short n s h) (four_short (s n) (h n)) i

figures_short : (b : Board) → Good b → (n : ℕ) → n ≤ b.setup.n → AllShort (figures_of_all b n)
unfolding figures_of_all figures_of
figures_short b g zero h i = omega arith
figures_short b g (suc p) h i =
    append_short (figures_of_all b p) (figures_of b p) (figures_short b g p (omega arith))
    (numbers_short accounts (books blank b.table (record_of b p)) (books_room b g p (omega arith))) i

-- ---- lines

signed_length : (x : ℤ) → Short x → length (signed x) ≤ 20
unfolding signed
signed_length (pos n) h = omega (arith, decimal_length 18 n h)
signed_length (negsuc n) h = omega (arith, decimal_length 18 (suc n) h)

line_length : (k : ℕ) (a : Figures) → k < accounts → Short a.position → Short a.rate → Short a.called → Short a.settled → length (account_line k a) ≤ 124
unfolding account_line
line_length k a lt hp hr hc hs =
    let settled = (settled_word ++ signed a.settled) ++ newline in
    let called = (called_word ++ signed a.called) ++ settled in
    let rate = (rate_word ++ signed a.rate) ++ called in
    let position = (position_word ++ signed a.position) ++ rate in
    omega (
      arith,
      length-append (decimal k) position,
      length-append (signed a.position) rate,
      length-append (signed a.rate) called,
      length-append (signed a.called) settled,
      length-append (signed a.settled) newline,
      decimal_length 1 k (omega arith),
      signed_length a.position hp,
      signed_length a.rate hr,
      signed_length a.called hc,
      signed_length a.settled hs,
    )

module _ (l : List ℤ) (short : AllShort l) where
  account_length : (p k : ℕ) → k < accounts → length (account_part k (account_at l p k)) ≤ 124
  unfolding account_part account_at
  account_length p k lt = elim (test (is_blank (account_at l p k))) [
    | inl t ↦ rw t (omega arith)
    | inr t ↦ rw t (line_length k (account_at l p k) lt (short _) (short _) (short _) (short _))
  ]

  lines_length : (p n : ℕ) → n ≤ accounts → length (account_lines l p n) ≤ 124 * n
  unfolding account_lines
  lines_length p zero h = omega arith
  lines_length p (suc k) h =
      omega (arith, length-append (account_lines l p k) (account_part k (account_at l p k)), lines_length p k (omega arith), account_length p k (omega arith))

  accounts_length : (p : ℕ) → length (accounts_part l p) ≤ 1984
  unfolding accounts_part
  accounts_length p = elim (test (has_none l p)) [
    | inl t ↦ rw t (omega arith)
    | inr t ↦ rw t (omega (arith, lines_length p accounts (omega arith)))
  ]

  site_length : (p : ℕ) (down : Bool) → p < 1_000 → length (site_part l p down) ≤ 1998
  unfolding site_part site_heading
  site_length p down h =
      let state = cond down down_word up_word in
      omega (
        arith,
        length-append (decimal p ++ (state ++ newline)) (accounts_part l p),
        length-append (decimal p) (state ++ newline),
        length-append state newline,
        three_digits p h,
        state_length down,
        accounts_length p,
      )

  sites_length : (down n : ℕ) → n < 1_000 → length (site_parts l down n) ≤ 1998 * n
  unfolding site_parts
  sites_length down zero h = omega arith
  sites_length down (suc p) h =
      omega (arith, length-append (site_parts l down p) (site_part l p (has_bit down p)), sites_length down p (omega arith), site_length p (has_bit down p) (omega arith))

  text_length : (n down : ℕ) → n < 1_000 → length (statement_text l n down) ≤ 1998 * n + 46
  unfolding statement_text
  text_length n down h =
      let same = all_agree l n down in
      omega (arith, length-append (site_parts l down n) (closing_line same), sites_length down n h, closing_length same)
    where
      closing_length : (same : Bool) → length (closing_line same) ≤ 46
      closing_length true = omega arith
      closing_length false = omega arith

-- ---- statements

good_length : (b : Board) → Good b → length (statement_of b) ≤ buffer_length
unfolding statement_of
good_length b g =
    let n = b.setup.n in
    let few = good_sites b g in
    omega (arith, few, text_length (figures_of_all b n) (figures_short b g n (omega arith)) n b.down (omega (arith, few)))

from_length : (n f matrix : ℕ) (calls : List Call) → length (stated_from (starting n f matrix) calls) ≤ buffer_length
unfolding stated_from stated_run
from_length n f matrix calls =
    let refusal = refusal_of (starting n f matrix).answer in
    elim (test (eqb refusal 0)) [
      | inl t ↦
          let ok = start_accepted n f matrix (eqb-true refusal 0 t) in
          rw t (good_length _ (last_good n f matrix ok calls))
      | inr u ↦ rw u (refused_length refusal (start_small n f matrix))
    ]

-- Every statement fits into the buffer, whatever the input.
pub statement_fits : (input : List ℕ) → length (stated input) ≤ 65_536
unfolding stated
statement_fits input =
    let setup = setup_of input in
    elim (test (well_formed input)) [
      | inl t ↦ rw t (from_length setup.n setup.f setup.matrix (calls_of input))
      | inr u ↦ rw u (refused_length 1 (omega arith))
    ]

-- So into the buffer every statement is written, and whole.
pub statement_written : (input buffer : List ℕ) → length buffer ≡ 65_536
    → (answer_printed (stated input) buffer ≡ Some (length (stated input))) × (slice_printed (stated input) buffer ≡ stated input ++ drop (length (stated input)) buffer)
statement_written input buffer e = fits_written (stated input) buffer (omega (arith, statement_fits input, e))
