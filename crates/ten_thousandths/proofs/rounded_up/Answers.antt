-- `rounded_up` meets its contract: 10,000 times the powers from 2^k on have been tried.
-- Assumes nothing.
use Rattle.std.proofs.Common.{◌≡◌, ℕ, suc, ◌-◌, subst, sym, arith}
use Rattle.ten_thousandths.specs.declared.Part.{Part}
use Rattle.ten_thousandths.proofs.Powers.{Tried, tried_next, tried_none, tried_more}
use Rattle.ten_thousandths.proofs.rounded_up.Goals as goal
use Rattle.ten_thousandths.proofs.rounded_up.Goals.{After-loop-k}

pub loop-k-init : goal.loop-k-init
loop-k-init c = record { whole = omega arith; small = omega (arith, c.requires) }

pub loop-k-preserved : goal.loop-k-preserved
loop-k-preserved c =
    let at = c.loop-k in
    let parts = c.args.parts in
    let up : at.k ≡ suc (at.k - 1) = omega (arith, c.loop-k-test.true) in
    subst (λ (p : Part). Tried parts (at.k - 1) p) (sym c.less-part.ensures)
    (tried_next parts (at.k - 1) at.part (subst (λ (k : ℕ). Tried parts k at.part) up at.invariant))

-- the loop has ended: every power has been tried
ended : (c : After-loop-k) → Tried c.args.parts 0 c.loop-k.part
ended c =
    let e : c.loop-k.k ≡ 0 = omega (arith, c.loop-k-test.false) in
    subst (λ (k : ℕ). Tried c.args.parts k c.loop-k.part) e c.loop-k.invariant

pub returns-then-part-eq0 : goal.returns-then-part-eq0
returns-then-part-eq0 c =
    tried_none c.args.parts c.loop-k.part (ended (goal.at.returns-then-part-eq0 c).After-loop-k) c.if-part-eq0.true

pub returns-else-part-eq0 : goal.returns-else-part-eq0
returns-else-part-eq0 c =
    tried_more c.args.parts c.loop-k.part (ended (goal.at.returns-else-part-eq0 c).After-loop-k) c.if-part-eq0.false
