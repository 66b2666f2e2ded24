-- `enter` meets its contract.
-- Assumes nothing.
use Prim.Native.Nat.{◌<◌}
use mathlib.Core.Path.{sym, ◌∙◌}
use native.Mathlib.Omega.{arith}
use Rattle.posting.specs.Kinds.{accounts}
use Rattle.posting.proofs.KindLaws.{named_accounts}
use Rattle.index.specs.Index.{indexing}
use Rattle.index.proofs.enter.Goals as goal
use Rattle.index.proofs.enter.Goals.{Else-net_of_all}

-- what does not net every account has two
named : (c : Else-net_of_all) → (c.args.a < accounts) × (c.args.b < accounts)
named c = named_accounts _ _ _ c.requires.2 (sym c.net_of_all.ensures ∙ c.if-net_of_all.false)

pub returns-then-net_of_all : goal.returns-then-net_of_all
unfolding indexing
returns-then-net_of_all c =
    rw (c.enter_all.ensures, sym c.net_of_all.ensures ∙ c.if-net_of_all.true)

pub slot_of-first-requires : goal.slot_of-first-requires
slot_of-first-requires c = (omega (arith, (named (goal.at.slot_of-first-requires c).Else-net_of_all).0), c.requires.1)

pub slot_of-second-requires : goal.slot_of-second-requires
slot_of-second-requires c = (omega (arith, (named (goal.at.slot_of-second-requires c).Else-net_of_all).1), c.requires.1)

pub add_to-requires : goal.add_to-requires
add_to-requires c =
    let pre = c.requires in
    (omega (arith, c.slot_of-first.ensures, (named (goal.at.add_to-requires c).Else-net_of_all).0, pre.1), pre.0)

pub add_to-requires-2 : goal.add_to-requires-2
add_to-requires-2 c =
    let pre = c.requires in
    (omega (arith, c.slot_of-second.ensures, (named (goal.at.add_to-requires-2 c).Else-net_of_all).1, pre.1), pre.0)

pub add_to-requires-3 : goal.add_to-requires-3
add_to-requires-3 c =
    let pre = c.requires in
    (omega (arith, c.slot_of-every.ensures, pre.1), pre.0)

pub returns : goal.returns
unfolding indexing
returns c =
    rw (
      sym c.net_of_all.ensures ∙ c.if-net_of_all.false,
      c.add_to-3.ensures,
      c.add_to-2.ensures,
      c.add_to.ensures,
      c.slot_of-every.ensures,
      c.slot_of-second.ensures,
      c.slot_of-first.ensures,
    )
