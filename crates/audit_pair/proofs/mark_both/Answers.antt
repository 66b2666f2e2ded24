-- `mark_both` meets its contract.
-- Rests on Marks. Assumes nothing.
use Rattle.std.proofs.Common.{arith}
use Rattle.std.proofs.lemmas.Grind.{common_steps}
use Rattle.audit_pair.proofs.Marks.{marked_both}
use Rattle.audit_pair.proofs.mark_both.Goals as goal

pub returns : goal.returns
returns c = λ x. marked_both c.args.own.now c.args.lines.now c.args.y x (grind (arith, common_steps)) (c.mark_ahead.ensures x) (c.mark_ahead-2.ensures x)
