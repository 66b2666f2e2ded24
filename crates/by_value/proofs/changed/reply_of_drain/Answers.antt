-- `reply_of_drain` meets its contract.
-- Assumes nothing.
use Rattle.by_value.proofs.CallLaws.{reply_drain}
use Rattle.by_value.proofs.changed.reply_of_drain.Goals as goal

pub returns-in-Quiet : goal.returns-in-Quiet
returns-in-Quiet c = reply_drain c.drain-done.ensures.value _ c.in-Quiet.is

pub returns-in-Spent : goal.returns-in-Spent
returns-in-Spent c = reply_drain c.drain-done.ensures.value _ c.in-Spent.is

pub returns-in-Refused : goal.returns-in-Refused
returns-in-Refused c = reply_drain c.drain-done.ensures.value _ c.in-Refused.is
