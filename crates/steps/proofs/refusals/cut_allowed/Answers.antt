-- `cut_allowed` meets its contract.
-- Assumes nothing.
use mathlib.Core.Path.{sym}
use native.Mathlib.Omega.{arith}
use lib.Count.{ones}
use borrow.Author.Tests.{le-leb, lt-leb, le-ltb, lt-ltb}
use Rattle.steps.specs.CauseLists.{first_cause}
use Rattle.steps.proofs.ByCase.{whole_cut}
use Rattle.steps.proofs.refusals.cut_allowed.Goals as goal

pub returns-in_default : goal.returns-in_default
returns-in_default c = sym (whole_cut _ _ _ _ c.in_default.is)

pub returns-then-from-down : goal.returns-then-from-down
unfolding first_cause
returns-then-from-down c = rw (c.in-After.is, le-leb c.args.f (ones c.args.down) (omega arith))

pub returns-then-to-j : goal.returns-then-to-j
unfolding first_cause
returns-then-to-j c = rw (c.in-After.is, lt-leb c.args.f (ones c.args.down) (omega arith), lt-ltb _ _ c.if-to-j.true)

pub returns : goal.returns
unfolding first_cause
returns c = rw (c.in-After.is, lt-leb c.args.f (ones c.args.down) (omega arith), le-ltb _ _ c.if-to-j.false)
