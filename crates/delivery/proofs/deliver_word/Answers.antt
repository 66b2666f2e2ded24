-- `deliver_word` meets its contract.
-- Assumes nothing.
use Prim.Native.Nat.{◌+◌, ◌-◌, ◌^◌, ◌<◌}
use mathlib.Core.Path.{◌≡◌, refl, sym, ap, ◌∙◌}
use native.Mathlib.Omega.{arith}
use Rattle.delivery.specs.Delivery.{laid_of}
use Rattle.delivery.proofs.Walk.{step_in, step_left, step_delivered, word_end, rest_kept, whole}
use borrow.Author.Rules.{rules}
use Rattle.delivery.proofs.deliver_word.Goals as goal

pub loop-w-init : goal.loop-w-init
loop-w-init c =
    let a = c.args in
    let e : a.base + 64 - a.base ≡ 64 = omega arith in
    let h : a.word < 2 ^ 64 = search rules in
    record { left = (omega arith, omega arith, rw e h); delivered = refl; rest = refl }

pub overflow_cast-x : goal.overflow_cast-x
overflow_cast-x c =
    let at = c.loop-w in
    let some : 0 < at.w = omega arith in
    let inside = step_in c.args.base at.x at.w at.invariant.left some in
    omega (arith, inside)

pub overflow_add-x : goal.overflow_add-x
overflow_add-x c =
    let at = c.loop-w in
    let some : 0 < at.w = omega arith in
    let inside = step_in c.args.base at.x at.w at.invariant.left some in
    omega (arith, inside)

pub deliver-requires : goal.deliver-requires
deliver-requires c =
    let at = c.loop-w in
    let some : 0 < at.w = omega arith in
    let inside = step_in c.args.base at.x at.w at.invariant.left some in
    (search rules, omega (arith, inside))

pub overflow_cast-w : goal.overflow_cast-w
overflow_cast-w c =
    let at = c.loop-w in
    let some : 0 < at.w = omega arith in
    let inside = step_in c.args.base at.x at.w at.invariant.left some in
    omega (arith, inside)

pub overflow_shr-w : goal.overflow_shr-w
overflow_shr-w c =
    let at = c.loop-w in
    let some : 0 < at.w = omega arith in
    let inside = step_in c.args.base at.x at.w at.invariant.left some in
    omega (arith, inside)

pub overflow_add-x-in-loop-w : goal.overflow_add-x-in-loop-w
overflow_add-x-in-loop-w c =
    let at = c.loop-w in
    let some : 0 < at.w = omega arith in
    let inside = step_in c.args.base at.x at.w at.invariant.left some in
    omega (arith, inside)

pub loop-w-smaller : goal.loop-w-smaller
loop-w-smaller c =
    let at = c.loop-w in
    let some : 0 < at.w = omega arith in
    let inside = step_in c.args.base at.x at.w at.invariant.left some in
    omega (arith, inside)

pub loop-w-preserved : goal.loop-w-preserved
loop-w-preserved c =
    let at = c.loop-w in
    let args = c.args in
    let some : 0 < at.w = omega arith in
    record {
      left = step_left args.base at.x at.w at.invariant.left some;
      delivered = at.invariant.delivered ∙ step_delivered args.base at.x at.w at.invariant.left some (laid_of at.board) _ args.p (ap laid_of c.deliver.ensures);
      rest = rest_kept args.board.now at.board at.invariant.rest _ _ c.deliver.ensures;
    }

pub returns : goal.returns
returns c =
    let at = c.loop-w in
    let none : at.w ≡ 0 = omega arith in
    whole c.args.board.now at.board at.invariant.rest _ (word_end _ (laid_of at.board) c.args.p at.w at.x at.invariant.delivered none)
