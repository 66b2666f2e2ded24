-- `line_code` meets its contract.
-- Rests on audit_input's Judged. Assumes nothing.
use Rattle.std.proofs.Common.{sym, ◌∙◌, rules, tests, arith}
use Rattle.audit_input.proofs.Judged.{used_below}
use Rattle.audit_files.specs.Files.{line_code, agrees}
use Rattle.audit_files.proofs.files.line_code.Goals as goal

pub returns-in-Malformed : goal.returns-in-Malformed
unfolding line_code agrees
returns-in-Malformed c = search (rules, tests)

pub returns-then-unused : goal.returns-then-unused
unfolding line_code agrees
returns-then-unused c = search (rules, tests)

pub bounds-postings-x : goal.bounds-postings-x
bounds-postings-x c = used_below c.args.postings.kinds.now c.from-x.result (sym c.unused.ensures ∙ c.if-unused.false)

pub bounds-postings-x-then-postings-x : goal.bounds-postings-x-then-postings-x
bounds-postings-x-then-postings-x c = omega (arith, used_below c.args.postings.kinds.now c.from-x.result (sym c.unused.ensures ∙ c.if-unused.false), c.requires.firsts_all)

pub bounds-postings-x-then-postings-x-2 : goal.bounds-postings-x-then-postings-x-2
bounds-postings-x-then-postings-x-2 c = omega (arith, used_below c.args.postings.kinds.now c.from-x.result (sym c.unused.ensures ∙ c.if-unused.false), c.requires.seconds_all)

pub bounds-postings-x-then-postings-x-3 : goal.bounds-postings-x-then-postings-x-3
bounds-postings-x-then-postings-x-3 c = omega (arith, used_below c.args.postings.kinds.now c.from-x.result (sym c.unused.ensures ∙ c.if-unused.false), c.requires.amounts_all)

pub returns-in_default-e : goal.returns-in_default-e
unfolding line_code agrees
returns-in_default-e c = search (rules, tests)

pub returns-then-postings-x-4 : goal.returns-then-postings-x-4
unfolding line_code agrees
returns-then-postings-x-4 c = search (rules, tests)

pub returns-else-postings-x : goal.returns-else-postings-x
unfolding line_code agrees
returns-else-postings-x c = search (rules, tests)
