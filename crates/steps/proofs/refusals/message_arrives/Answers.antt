-- `message_arrives` meets its contract.
-- Assumes nothing.
use native.Mathlib.Omega.{arith}
use borrow.Author.Tests.{eq-eqb, ne_eqb, le-leb, lt-leb}
use Rattle.sets.specs.Masks.{has_bit}
use Rattle.steps.specs.CauseLists.{first_cause}
use Rattle.steps.proofs.refusals.message_arrives.Goals.{then-limit-from-via-then-limit-from, then-limit-from-via-else-limit-from+then-limit-to}
use Rattle.steps.proofs.refusals.message_arrives.Goals as goal

pub returns-then-limit-from : goal.returns-then-limit-from
unfolding first_cause
returns-then-limit-from c =
    elim c.then-limit-from.branch [
      | then-limit-from-via-then-limit-from w ↦ rw (le-leb c.args.n c.args.from (omega arith))
      | then-limit-from-via-else-limit-from+then-limit-to w ↦ rw (lt-leb c.args.n c.args.from (omega arith), le-leb c.args.n c.args.to (omega arith))
    ]

pub returns-then-down-to-eq1 : goal.returns-then-down-to-eq1
unfolding first_cause has_bit
returns-then-down-to-eq1 c =
    rw (lt-leb c.args.n c.args.from (omega arith), lt-leb c.args.n c.args.to (omega arith), eq-eqb _ _ c.if-down-to-eq1.true)

pub returns : goal.returns
unfolding first_cause has_bit
returns c =
    rw (lt-leb c.args.n c.args.from (omega arith), lt-leb c.args.n c.args.to (omega arith), ne_eqb _ _ c.if-down-to-eq1.false)
