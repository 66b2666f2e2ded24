-- `put_bytes` meets its contract.
-- Assumes nothing.
use Prim.Native.Nat.{◌-◌}
use mathlib.Core.Path.{refl, ◌∙◌}
use native.Mathlib.Omega.{arith}
use Rattle.flight.proofs.Loads.{store_step, store_end}
use borrow.Author.Rules.{rules}
use Rattle.image.proofs.writing.put_bytes.Goals as goal

pub loop-k-init : goal.loop-k-init
loop-k-init c = (search rules, refl)

pub overflow_cast-out : goal.overflow_cast-out
overflow_cast-out c = omega (arith, c.shared_slice_known-1.given c.loop-k.k)

pub loop-k-preserved : goal.loop-k-preserved
loop-k-preserved c =
    let at = c.loop-k in
    let values = c.args.values.now in
    (search rules, store_step _ values _ at.k _ c.loop-k-test.true at.invariant.1)

pub returns : goal.returns
returns c =
    let at = c.loop-k in
    let values = c.args.values.now in
    at.invariant.1 ∙ store_end _ values _ at.k c.loop-k-test.false
