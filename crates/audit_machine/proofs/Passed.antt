-- After every list of calls from an accepted start, with drains among them, the machine's records pass the audit.
-- Rests on agreement's one order, and on audit_rule: records that agree are never accused. Assumes nothing.
use Prim.Native.Nat.{ℕ}
use mathlib.Core.Path.{◌≡◌}
use mathlib.Core.Bool.{true}
use mathlib.Core.List.{List}
use lib.ListN.{length}
use Rattle.posting.specs.Kinds.{symmetric}
use Rattle.posting.specs.Conflicts.{conflict}
use Rattle.posting.proofs.ConflictLaws.{conflict_turned}
use Rattle.machine.specs.declared.Board.{Board}
use Rattle.machine.specs.Calls.{starting}
use Rattle.machine.specs.Runs.{accepted}
use Rattle.machine.specs.Soundness.{setup_ok}
use Rattle.machine.proofs.SoundFacts.{of_all}
use Rattle.machine.specs.History.{accepted_calls, offers}
use Rattle.machine.specs.Figures.{record_of}
use Rattle.invariants.proofs.Start.{start_taken}
use Rattle.agreement.specs.Drains.{Item, running_all, expanded}
use Rattle.agreement.proofs.Drained.{books_agree_drains}
use Rattle.audit_rule.proofs.Order.{order_norepeats}
use Rattle.audit_rule.proofs.Audited.{agree_audit}
use Rattle.audit_machine.specs.Passes.{Passes}

-- an accepted start has a symmetric matrix
start_symmetric : (n f matrix : ℕ) → accepted (starting n f matrix).answer ≡ true → symmetric matrix ≡ true
unfolding setup_ok
start_symmetric n f matrix ok = (of_all _ (start_taken n f matrix ok).1).1.1.0

module _ (n f matrix : ℕ) (ok : accepted (starting n f matrix).answer ≡ true) (items : List Item) where
  abbrev start : Board
  start = (starting n f matrix).board

  abbrev last : Board
  last = running_all start items

  -- how many postings were offered
  abbrev pub offered : ℕ
  offered = length (offers (accepted_calls start (expanded start items)))

  pub machine_passes : Passes n matrix offered last
  machine_passes =
      let a = books_agree_drains n f matrix ok items in
      agree_audit (conflict matrix last.table) (conflict_turned matrix (start_symmetric n f matrix ok) last.table) n (record_of last)
      (order_norepeats a.one_order) offered a.only_offered (a.order, a.one_order)
