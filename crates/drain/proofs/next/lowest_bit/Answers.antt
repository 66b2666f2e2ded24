-- `lowest_bit` meets its contract.
-- Assumes nothing.
use native.Mathlib.Omega.{arith}
use lib.Count.{trailing_le}
use Rattle.drain.proofs.Pooled.{trailing_first}
use borrow.Author.Rules.{rules}
use Rattle.drain.proofs.next.lowest_bit.Goals as goal

pub overflow_cast-result : goal.overflow_cast-result
overflow_cast-result c = omega (arith, trailing_le 64 c.args.word)

pub returns : goal.returns
returns c = trailing_first c.args.word (search rules)
