-- `put_all_shared` meets its contract. The loop's invariant: those of the first k accounts that both postings touch are put.
-- Assumes nothing.
use Prim.Native.Nat.{◌≤◌}
use Rattle.printer.specs.Puts.{Put}
use Rattle.posting.specs.Kinds.{accounts}
use Rattle.audit_witness.specs.Witness.{shared_accounts}
use Rattle.audit_witness.proofs.witness.put_all_shared.Given as goal

abbrev pub invariant-loop-k : goal.invariant-loop-k
invariant-loop-k l = (l.k ≤ accounts) × Put (shared_accounts l.p l.q l.k) l.at l.initial.out l.out l.place
