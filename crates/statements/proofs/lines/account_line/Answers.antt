-- `account_line` meets its contract.
-- Assumes nothing.
use mathlib.Core.Path.{ap, ◌∙◌}
use mathlib.Core.List.{◌++◌}
use lib.IntN.{ℤ}
use Rattle.amounts.specs.Amounts.{signed}
use Rattle.amounts.proofs.Figures.{read_is}
use Rattle.statements.specs.Table.{position_word, rate_word, called_word, settled_word, account_line}
use Rattle.printer.proofs.Writing.{then_put, put_as, put_length}
use Rattle.statements.proofs.lines.account_line.Goals as goal

pub shape_of-out : goal.shape_of-out
shape_of-out c =
    put_length c.put.ensures
    ∙ put_length c.put_figure-u.ensures
    ∙ put_length c.put_figure-t.ensures
    ∙ put_length c.put_figure-s.ensures
    ∙ put_length c.put_figure-r.ensures
    ∙ put_length c.put_number-q.ensures
    ∙ put_length c.put_text-p.ensures

pub returns : goal.returns
unfolding account_line
returns c =
    rw (← c.wide.ensures)
    (then_put c.put_text-p.ensures
    (then_put c.put_number-q.ensures
    (then_put (put_as (ap (λ (x : ℤ). position_word ++ signed x) (read_is c.args.a.position c.struct_told-1.given.0.1)) c.put_figure-r.ensures)
    (then_put (put_as (ap (λ (x : ℤ). rate_word ++ signed x) (read_is c.args.a.rate c.struct_told-2-1.given.1.0.1)) c.put_figure-s.ensures)
    (then_put (put_as (ap (λ (x : ℤ). called_word ++ signed x) (read_is c.args.a.called c.struct_told-3-1.given.1.1.0.1)) c.put_figure-t.ensures)
    (then_put (put_as (ap (λ (x : ℤ). settled_word ++ signed x) (read_is c.args.a.settled c.struct_told-4-1.given.1.1.1.0.1)) c.put_figure-u.ensures) c.put.ensures))))))
