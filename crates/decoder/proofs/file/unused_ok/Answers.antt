-- `unused_ok` meets its contract: by the code, so many bytes are used.
-- Assumes nothing.
use mathlib.Core.Path.{sym, ◌∙◌}
use Rattle.decoder.proofs.Events.{all_used, four_used, one_used, one_wrong}
use Rattle.std.proofs.Common.{rules, tests, arith}
use Rattle.decoder.proofs.file.unused_ok.Goals as goal

pub returns-in-1 : goal.returns-in-1
returns-in-1 c = all_used c.args.event.now c.in-1.is

pub returns-in-2 : goal.returns-in-2
returns-in-2 c = c.end_blank.ensures ∙ four_used c.args.event.now c.in-2.is

pub returns-then-middle_blank : goal.returns-then-middle_blank
returns-then-middle_blank c = c.end_blank-then-middle_blank.ensures ∙ one_used c.args.event.now (omega arith) (omega arith) (sym c.middle_blank.ensures ∙ c.if-middle_blank.true)

pub returns-else-middle_blank : goal.returns-else-middle_blank
returns-else-middle_blank c = c.if-middle_blank.false ∙ one_wrong c.args.event.now (omega arith) (omega arith) (sym c.middle_blank.ensures ∙ c.if-middle_blank.false)
