-- `deliver_entry_to` meets its contract.
-- Assumes nothing.
use Rattle.calls.proofs.deliver_entry_to.Goals as goal

pub returns-in-Whole : goal.returns-in-Whole
returns-in-Whole c = rw c.in-Whole.is c.deliver_entry.ensures

pub returns-in-After : goal.returns-in-After
returns-in-After c = rw c.in-After.is
