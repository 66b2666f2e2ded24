-- `mark_lacked` meets its contract.
-- Assumes nothing.
use Rattle.std.proofs.Common.{◌≡◌, get_or, arith}
use Rattle.std.proofs.lemmas.Grind.{common_steps}
use mathlib.Core.Path.{refl}
use Rattle.audit_lacks.proofs.mark_lacked.Goals as goal

pub returns : goal.returns
returns c = λ x.
    let none : get_or c.fill.new.self x 0 ≡ 0 = grind (arith, common_steps) in
    rw (c.mark_all-2.ensures x, c.record_of.ensures, c.mark_all.ensures x, none) refl
