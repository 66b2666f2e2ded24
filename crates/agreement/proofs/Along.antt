-- Along a run the setup stays and the table grows: every board of a list is an earlier one of its last.
-- Rests on World and invariants. Assumes nothing.
use Prim.Native.Nat.{ℕ}
use mathlib.Core.Path.{◌≡◌, refl, sym, ap, ◌∙◌}
use mathlib.Core.Logic.{◌⊎◌, inl, inr}
use mathlib.Core.Bool.{Bool, true, false}
use mathlib.Core.List.{List, [], ◌∷◌, ◌++◌}
use Rattle.sets.proofs.Truth.{test}
use Rattle.posting.specs.declared.Table.{Table}
use Rattle.posting.specs.Conflicts.{offered, row, table_with}
use Rattle.machine.specs.declared.Board.{Board}
use Rattle.steps.specs.declared.Cut.{Cut}
use Rattle.steps.specs.declared.Call.{Call}
use Rattle.steps.specs.declared.Call.TheVariants.{Offer, Receive, Order, Read, Crash}
use Rattle.machine.specs.Boards.{board_table, board_flight}
use Rattle.flight.specs.Flights.{taking_out}
use Rattle.machine.specs.Calls.{carried_out, receipt_of}
use Rattle.machine.specs.Runs.{taking, accepted, running}
use Rattle.invariants.proofs.Judged.{OfferTaken, ReceiptTaken, OrderTaken, ReadTaken, CrashTaken, offer_taken, receipt_taken, order_taken, read_taken, crash_taken, refused_same, offer_step, read_step, next_logged, posting_of}
use Rattle.invariants.proofs.CarriedOut.{out_setup, out_table}
use Rattle.invariants.proofs.Grow.{Grows, grows_same, table_grows}
use Rattle.agreement.proofs.World.{Earlier}

pub earlier_same : (b : Board) → Earlier b b
earlier_same b = record { same_setup = refl; grows = grows_same b.table }

pub earlier_then : (a b c : Board) → Earlier a b → Earlier b c → Earlier a c
earlier_then a b c h k = record {
  same_setup = h.same_setup ∙ k.same_setup;
  grows = record {
    more = λ m o. k.grows.more m (h.grows.more m o);
    same = λ m o. k.grows.same m (h.grows.more m o) ∙ h.grows.same m o;
  };
}

unchanged : (b c : Board) → c.setup ≡ b.setup → c.table ≡ b.table → Earlier b c
unchanged b c s t = record { same_setup = sym s; grows = rw t (grows_same b.table) }

pub call_earlier : (b : Board) (c : Call) → Earlier b (taking b c).board
unfolding taking
call_earlier b c = elim (test (accepted (taking b c).answer)) [
  | inl h ↦ taken c h
  | inr h ↦ rw (refused_same b c h) (earlier_same b)
]
  where
    taken : (c : Call) → accepted (taking b c).answer ≡ true → Earlier b (taking b c).board
    taken (Offer site kind account other amount cut) h =
        let t = offer_taken b site kind account other amount cut h in
        let table = table_with b.table (posting_of site kind account other amount) in
        rw t.board (record {
          same_setup = sym (out_setup (board_table b table) site b.table.count (offer_step b site) cut);
          grows = rw (out_table (board_table b table) site b.table.count (offer_step b site) cut) (table_grows b.table (posting_of site kind account other amount));
        })
    taken (Receive form m from to cut) h =
        let t = receipt_taken b form m from to cut h in
        let on = board_flight b (taking_out b.flight form m from to) in
        rw t.board (unchanged b (carried_out on to m (receipt_of b form m from to) cut) (out_setup on to m (receipt_of b form m from to) cut) (out_table on to m (receipt_of b form m from to) cut))
    taken (Order m) h = rw (order_taken b m h).board (record { same_setup = refl; grows = grows_same b.table })
    taken (Read site cut) h =
        let t = read_taken b site cut h in
        rw t.board (unchanged b (carried_out b site (next_logged b site) (read_step b site) cut) (out_setup b site (next_logged b site) (read_step b site) cut) (out_table b site (next_logged b site) (read_step b site) cut))
    taken (Crash site) h = rw (crash_taken b site h).board (record { same_setup = refl; grows = grows_same b.table })

pub run_earlier : (b : Board) (l : List Call) → Earlier b (running b l)
unfolding running
run_earlier b [] = earlier_same b
run_earlier b (c ∷ l) = earlier_then b (taking b c).board (running (taking b c).board l) (call_earlier b c) (run_earlier (taking b c).board l)
