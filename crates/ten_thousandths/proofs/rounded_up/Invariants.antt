-- `rounded_up` meets its contract: 10,000 times the powers from 2^k on have been tried.
-- Assumes nothing.
use Rattle.ten_thousandths.proofs.Powers.{Tried}
use Rattle.ten_thousandths.proofs.rounded_up.Given as goal

abbrev pub invariant-loop-k : goal.invariant-loop-k
invariant-loop-k l = Tried l.parts l.k l.part
