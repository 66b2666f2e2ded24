-- `put_sign` meets its contract.
-- Assumes nothing.
use Rattle.printer.proofs.Writing.{nothing_put, put_as}
use Rattle.amounts.proofs.Figures.{sign_negative, sign_other}
use Rattle.amounts.proofs.put_sign.Goals as goal

pub returns-then-x-lt0 : goal.returns-then-x-lt0
returns-then-x-lt0 c = put_as (sign_negative c.args.x c.ranges.x c.if-x-lt0.true) c.put.ensures

pub returns-else-x-lt0 : goal.returns-else-x-lt0
returns-else-x-lt0 c = put_as (sign_other c.args.x c.ranges.x c.if-x-lt0.false) (nothing_put c.args.at c.args.out.now)
