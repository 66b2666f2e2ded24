-- `row_differs` meets its contract.
-- Assumes nothing.
use Prim.Native.Nat.{ℕ}
use mathlib.Core.Path.{◌≡◌}
use mathlib.Core.Bool.{Bool, true, false, not}
use native.Mathlib.Nat.{sub-zero}
use borrow.Author.Rules.{rules}
use Rattle.std.proofs.Common.{tests}
use Rattle.std.proofs.lemmas.Iterator.{cases_from_any, YieldsList-from_range}
use Rattle.amounts.specs.Amounts.{same_number}
use Rattle.audit_table.specs.Table.{figure_in, row_differs}
use Rattle.audit_table.proofs.Columns.{any_range}
use Rattle.audit_table.proofs.row_differs.Goals as goal

pub returns : goal.returns
unfolding row_differs
returns c =
    let figures = c.args.figures.now in
    let row = c.args.row in
    let p : ℕ → Bool = λ p. not (same_number (figure_in figures row p) (figure_in figures row 0)) in
    any_range p c.args.n _ (cases_from_any _ _ _ (λ x. p x ≡ true) (λ x. p x ≡ false) c.any.ensures.ran (YieldsList-from_range 0 c.args.n c.args.n (cc) (sub-zero c.args.n)) (λ x q k. search (rules, tests)) (λ x q k. search (rules, tests)))
