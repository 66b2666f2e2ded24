-- `line_of` meets its contract.
-- Rests on RowLaws. Assumes nothing.
use Rattle.std.proofs.Common.{refl, sym, ◌∙◌}
use Rattle.audit_reading.proofs.RowLaws.{row_all}
use Rattle.audit_reading.proofs.line_of.Goals as goal

pub returns-then-net_of_all : goal.returns-then-net_of_all
returns-then-net_of_all c =
    let v = c.args in
    let every = sym c.net_of_all.ensures ∙ c.if-net_of_all.true in
    rw (row_all v.kind v.a v.b v.a every, row_all v.kind v.a v.b v.b every) refl
