-- `print_run` meets its contract. Lines that surely fit are written at once; others are counted on no bytes, then written.
-- Assumes nothing.
use Prim.Native.Nat.{◌≤◌}
use mathlib.Core.Path.{sym, ◌∙◌}
use lib.Dec.{ltb, leb}
use lib.ListN.{length}
use borrow.Author.Tests.{ltb-true, leb-true}
use native.Mathlib.Omega.{arith}
use Rattle.sets.proofs.Truth.{and_left, and_right}
use Rattle.printer.specs.Output.{printed_of}
use Rattle.printer.specs.Puts.{most_events, longest_run}
use Rattle.printer.proofs.Writing.{at_once, too_short, written}
use Rattle.printer.proofs.Lengths.{printed_length}
use Rattle.printer.proofs.Typed.{is_shown}
use Rattle.printer.proofs.print.print_run.Goals as goal

pub returns-then-surely_fits : goal.returns-then-surely_fits
returns-then-surely_fits c =
    let args = c.args in
    let refusals = args.refusals.now in
    let ended = args.ended in
    let out = args.out.now in
    let few = ltb (length refusals) most_events in
    let fits = leb (longest_run (length refusals) ended.n) (length out) in
    let sure = sym c.surely_fits.ensures ∙ c.if-surely_fits.true in
    let events = ltb-true (length refusals) most_events (and_left few fits sure) in
    let room = leb-true (longest_run (length refusals) ended.n) (length out) (and_right few fits sure) in
    let shown = is_shown refusals ended _ events (λ i. (c.shared_slice_known-1.given i).fits) c.well_formed.1.0 in
    let long : length (printed_of refusals ended) ≤ length out = omega (arith, printed_length refusals ended shown, room) in let shown = at_once (printed_of refusals ended) out _ _ (omega arith) long c.run_lines-end.ensures in record { value = shown.0; out_after = shown.1.0; result_value = shown.1.1 }

pub returns-then-out-needed : goal.returns-then-out-needed
returns-then-out-needed c =
    let args = c.args in let shown = too_short (printed_of args.refusals.now args.ended) args.out.now _ _ c.run_lines-needed.ensures c.if-out-needed.true in record { value = shown.0; out_after = shown.1.0; result_value = shown.1.1 }

pub returns : goal.returns
returns c =
    let args = c.args in let shown = written (printed_of args.refusals.now args.ended) args.out.now _ _ c.run_lines-needed.ensures _ _ (omega arith) c.if-out-needed.false c.run_lines-end-2.ensures in record { value = shown.0; out_after = shown.1.0; result_value = shown.1.1 }
