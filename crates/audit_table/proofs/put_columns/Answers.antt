-- `put_columns` meets its contract. The loop's invariant: the columns of the first p sites are put.
-- Assumes nothing.
use native.Mathlib.Numerals.{add-one}
use mathlib.Core.Path.{◌≡◌, ap, ◌∙◌}
use lib.IntN.{ℤ}
use Rattle.books.proofs.Signed.{read_back}
use Rattle.printer.proofs.Writing.{nothing_put, then_put, put_as}
use Rattle.audit_table.specs.Table.{column, figure_text, columns}
use borrow.Author.Rules.{rules}
use Rattle.audit_table.proofs.put_columns.Goals as goal

pub loop-p-init : goal.loop-p-init
unfolding columns
loop-p-init c = nothing_put c.args.at c.args.out.now

pub loop-p-preserved : goal.loop-p-preserved
unfolding columns
loop-p-preserved c =
    let x : read_back c.figure_in.result ≡ c.figure_in.result = search rules in
    let t = ap (λ (z : ℤ). column (figure_text c.args.row z)) (x ∙ c.figure_in.ensures) in
    put_as (rw add-one) (then_put c.loop-p.invariant (put_as t c.put_column-place.ensures))
