-- `any_differs` meets its contract.
-- Assumes nothing.
use mathlib.Core.Path.{◌≡◌}
use mathlib.Core.Bool.{true, false}
use borrow.Author.Rules.{rules}
use Rattle.std.proofs.Common.{tests}
use Rattle.std.proofs.lemmas.Iterator.{cases_from_any, YieldsList-from_range}
use Rattle.audit_table.specs.Table.{row_differs}
use Rattle.audit_table.proofs.Columns.{any_range}
use Rattle.audit_table.proofs.any_differs.Goals as goal

pub returns : goal.returns
returns c =
    let p = row_differs c.args.figures.now c.args.n in
    any_range p 64 _ (cases_from_any _ _ _ (λ x. p x ≡ true) (λ x. p x ≡ false) c.any.ensures.ran (YieldsList-from_range 0 64 64 (cc) (cc)) (λ x q k. search (rules, tests)) (λ x q k. search (rules, tests)))
