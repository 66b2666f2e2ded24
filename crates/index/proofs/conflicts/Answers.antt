-- `conflicts` meets its contract.
-- Assumes nothing.
use Prim.Native.Nat.{◌-◌}
use mathlib.Core.Path.{◌≡◌, ◌∙◌}
use native.Mathlib.Omega.{arith}
use native.Mathlib.Numerals.{add-one}
use Rattle.posting.specs.Kinds.{kinds}
use Rattle.index.specs.Index.{kinds_to, conflicts_in}
use borrow.Author.Rules.{rules}
use Rattle.index.proofs.conflicts.Goals as goal

pub loop-k-init : goal.loop-k-init
unfolding kinds_to
loop-k-init c = (search rules, c.empty-s.ensures)

pub loop-k-preserved : goal.loop-k-preserved
unfolding kinds_to
loop-k-preserved c =
    let at = c.loop-k in
    (search rules, rw (add-one, c.join_kind-s-in-loop-k.ensures, c.join_kind-s.ensures, c.matrix_entry-so.ensures, at.invariant.1))

pub returns : goal.returns
unfolding conflicts_in
returns c =
    let at = c.loop-k in
    let last : at.k ≡ kinds = omega arith in
    c.with.ensures
    ∙ rw (at.invariant.1, last, c.row_for-second.ensures, c.row_for-first.ensures, c.net_of_all-all.ensures)
