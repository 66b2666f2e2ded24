-- The table needs the first 64 numbers of each site, and no others.
-- Rests on audit_table's Table and on audit_books' Blocks. Assumes nothing.
use Prim.Native.Nat.{ℕ, zero, suc, ◌+◌, ◌*◌, ◌<◌, ◌≤◌}
use mathlib.Core.Path.{◌≡◌, refl, ap, ap₂, ◌∙◌}
use mathlib.Core.Bool.{Bool, cond, not, ◌||◌}
use mathlib.Core.List.{List, [], ◌++◌}
use native.Mathlib.Omega.{arith}
use lib.IntN.{ℤ, pos}
use lib.ListN.{length, get_or-append}
use Rattle.sets.specs.Below.{any_below}
use Rattle.printer.specs.Output.{newline}
use Rattle.amounts.specs.Amounts.{same_number}
use Rattle.audit_table.specs.Table.{label, row_name, figure_in, figure_text, column, columns, row_line, row_differs, row_part, row_parts, site_columns, equal_words, differ_words, table_text}
use Rattle.audit_books.specs.All.{numbers_of_all}
use Rattle.audit_books.proofs.Blocks.{length_all}
use Rattle.audit_report.specs.Needs.{Filled}

any_ext : (p q : ℕ → Bool) (n : ℕ) → ((i : ℕ) → i < n → p i ≡ q i) → any_below p n ≡ any_below q n
unfolding any_below
any_ext p q zero h = refl
any_ext p q (suc n) h = ap₂ (λ (a b : Bool). a || b) (any_ext p q n (λ i l. h i (omega (arith, l)))) (h n (omega arith))

-- ---- figures that are the same at n sites

module _ (a b : List ℤ) (n : ℕ) (same : (row p : ℕ) → row < 64 → p < n → figure_in a row p ≡ figure_in b row p) where
  columns_same : (row : ℕ) → row < 64 → (k : ℕ) → k ≤ n → columns a row k ≡ columns b row k
  unfolding columns
  columns_same row h zero l = refl
  columns_same row h (suc k) l =
      ap₂ (λ (t : List ℕ) (x : ℤ). t ++ column (figure_text row x)) (columns_same row h k (omega (arith, l))) (same row k h (omega (arith, l)))

  differs_same : (row : ℕ) → row < 64 → row_differs a n row ≡ row_differs b n row
  unfolding row_differs
  differs_same row h =
      any_ext (λ p. not (same_number (figure_in a row p) (figure_in a row 0))) (λ p. not (same_number (figure_in b row p) (figure_in b row 0))) n
      (λ p l. ap₂ (λ (x y : ℤ). not (same_number x y)) (same row p h l) (same row 0 h (omega (arith, l))))

  part_same : (row : ℕ) → row < 64 → row_part a n row ≡ row_part b n row
  unfolding row_part row_line
  part_same row h =
      ap₂ (λ (so : Bool) (t : List ℕ). cond so (label (row_name row) ++ (t ++ newline)) []) (differs_same row h) (columns_same row h n (omega arith))

  parts_same : (k : ℕ) → k ≤ 64 → row_parts a n k ≡ row_parts b n k
  unfolding row_parts
  parts_same zero l = refl
  parts_same (suc k) l = ap₂ (λ (t u : List ℕ). t ++ u) (parts_same k (omega (arith, l))) (part_same k (omega (arith, l)))

  table_same : table_text a n ≡ table_text b n
  unfolding table_text
  table_same =
      ap₂ (λ (so : Bool) (t : List ℕ). cond so (differ_words ++ (label [] ++ (site_columns n ++ (newline ++ t)))) equal_words)
      (any_ext (row_differs a n) (row_differs b n) 64 differs_same) (parts_same 64 (omega arith))

-- ---- what stands behind them

table_first : (l rest : List ℤ) (n : ℕ) → length l ≡ 64 * n → table_text (l ++ rest) n ≡ table_text l n
table_first l rest n e = table_same (l ++ rest) l n (λ row p h k. get_or-append l rest (pos 0) (64 * p + row) (omega (arith, h, k, e)))

pub filled_table : (kinds firsts seconds amounts lines ends : List ℕ) (figures : List ℤ) → Filled kinds firsts seconds amounts lines ends figures
    → table_text figures (length ends) ≡ table_text (numbers_of_all kinds firsts seconds amounts lines ends (length ends)) (length ends)
filled_table kinds firsts seconds amounts lines ends figures (rest, e) =
    ap (λ (f : List ℤ). table_text f (length ends)) e
    ∙ table_first (numbers_of_all kinds firsts seconds amounts lines ends (length ends)) rest (length ends) (length_all kinds firsts seconds amounts lines ends (length ends))
