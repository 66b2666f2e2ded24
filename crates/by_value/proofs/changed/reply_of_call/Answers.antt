-- `reply_of_call` meets its contract.
-- Assumes nothing.
use Rattle.by_value.proofs.CallLaws.{reply_call}
use Rattle.by_value.proofs.changed.reply_of_call.Goals as goal

pub returns-in-Done : goal.returns-in-Done
returns-in-Done c = reply_call c.take_call-outcome.ensures _ c.in-Done.is

pub returns-in-Offered : goal.returns-in-Offered
returns-in-Offered c = reply_call c.take_call-outcome.ensures _ c.in-Offered.is

pub returns-in-Refused : goal.returns-in-Refused
returns-in-Refused c = reply_call c.take_call-outcome.ensures _ c.in-Refused.is
