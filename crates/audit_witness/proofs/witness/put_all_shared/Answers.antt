-- `put_all_shared` meets its contract. The loop's invariant: those of the first k accounts that both postings touch are put.
-- Assumes nothing.
use native.Mathlib.Numerals.{add-one}
use native.Mathlib.Omega.{arith}
use mathlib.Core.Path.{◌≡◌, ap}
use Rattle.printer.proofs.Writing.{nothing_put, then_put, put_as, put_length}
use Rattle.posting.specs.Kinds.{accounts}
use Rattle.audit_witness.specs.Witness.{shared_accounts}
use borrow.Author.Rules.{rules}
use Rattle.audit_witness.proofs.witness.put_all_shared.Goals as goal

pub loop-k-init : goal.loop-k-init
unfolding shared_accounts
loop-k-init c = (search rules, nothing_put c.args.at c.args.out.now)

pub loop-k-preserved : goal.loop-k-preserved
unfolding shared_accounts
loop-k-preserved c = (search rules, put_as (rw add-one) (then_put c.loop-k.invariant.1 c.put_shared-place.ensures))

pub shape_of-out : goal.shape_of-out
shape_of-out c = put_length c.loop-k.invariant.1

pub returns : goal.returns
returns c =
    let args = c.args in
    let e : c.loop-k.k ≡ accounts = omega arith in
    put_as (ap (shared_accounts args.p args.q) e) c.loop-k.invariant.1
