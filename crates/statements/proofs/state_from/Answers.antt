-- `state_from` meets its contract.
-- Assumes nothing.
use Prim.Native.Nat.{ℕ, ◌*◌, ◌≤◌}
use mathlib.Core.Path.{sym, ap}
use native.Mathlib.Omega.{arith}
use lib.ListN.{length}
use lib.Seq.{length-take-le}
use Rattle.machine.specs.Boards.{fresh_board}
use Rattle.invariants.proofs.Reached.{good_sites}
use Rattle.decoder.specs.RunFile.{calls_of}
use Rattle.runfile.proofs.Programs.{printed_as}
use Rattle.statements.proofs.Stated.{settled_text}
use Rattle.statements.proofs.state_from.Goals as goal
use Rattle.statements.proofs.state_from.Goals.{After-wide-count}

-- there is room for the books of all sites
room : (c : After-wide-count) → 64 * c.wide-count.result ≤ 448
room c =
    omega (arith, c.wide-count.ensures, good_sites (fresh_board c.args.setup) c.requires.1)

pub slice_bounds-figures-end : goal.slice_bounds-figures-end
slice_bounds-figures-end c = omega (arith, room (goal.at.slice_bounds-figures-end c).After-wide-count)

pub slice_bounds-print_statement-end : goal.slice_bounds-print_statement-end
slice_bounds-print_statement-end c =
    let figures = c.run_and_drain-left.new.out in
    let h : 64 * c.wide-count.result ≤ length figures = omega (arith, room (goal.at.slice_bounds-print_statement-end c).After-wide-count) in
    sym (length-take-le (64 * c.wide-count.result) figures h)

pub returns : goal.returns
returns c =
    let g = c.args in
    let done = c.run_and_drain-left in
    let n = c.wide-count in let shown = printed_as g.out.now (settled_text g.setup (calls_of g.input.now) c.requires.0 _ done.new.out (64 * n.result) done.result.down done.ensures.limit_value done.ensures.out_after done.ensures.down_value (ap (λ (k : ℕ). 64 * k) n.ensures) (room (goal.at.returns c).After-wide-count)) (c.print_statement.ensures.value, (c.print_statement.ensures.out_after, c.print_statement.ensures.result_value)) in record { value = shown.0; out_after = shown.1.0; result_value = shown.1.1 }
