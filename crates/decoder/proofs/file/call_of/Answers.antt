-- `call_of` meets its contract.
-- Assumes nothing.
use Rattle.std.proofs.Common.{rules, tests, arith}
use Rattle.decoder.specs.RunFile.{call_of}
use Rattle.decoder.proofs.file.call_of.Goals as goal

pub returns-in-1 : goal.returns-in-1
unfolding call_of
returns-in-1 c = search (tests, rules)

pub returns-in-2 : goal.returns-in-2
unfolding call_of
returns-in-2 c = search (tests, rules)

pub returns-in-3 : goal.returns-in-3
unfolding call_of
returns-in-3 c = search (tests, rules)

pub returns-in-4 : goal.returns-in-4
unfolding call_of
returns-in-4 c = search (tests, rules)

pub returns-in_default : goal.returns-in_default
unfolding call_of
returns-in_default c = search (tests, rules)
