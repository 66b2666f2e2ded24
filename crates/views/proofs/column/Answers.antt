-- `column` meets its contract.
-- Assumes nothing.
use Prim.Native.Nat.{ℕ, ◌≤◌, ◌<◌, ◌-◌}
use mathlib.Core.Path.{◌≡◌, refl, ap, ◌∙◌}
use native.Mathlib.Omega.{arith}
use lib.ListN.{length, replicate, length-replicate}
use Rattle.sets.specs.Sets.{capacity}
use Rattle.flight.specs.Flights.{words_from}
use Rattle.flight.proofs.Loads.{read_step, read_end}
use borrow.Author.Rules.{rules}
use Rattle.views.proofs.column.Goals as goal

pub loop-k-init : goal.loop-k-init
unfolding words_from
loop-k-init c = (search rules, refl)

pub loop-k-preserved : goal.loop-k-preserved
loop-k-preserved c =
    let at = c.loop-k in
    let args = c.args in
    let long : length (replicate {A = ℕ} capacity 0) ≡ capacity = length-replicate {A = ℕ} capacity 0 in
    let more : at.k < length (replicate {A = ℕ} capacity 0) = omega arith in
    (search rules, read_step args.bytes.now (replicate capacity 0) args.at at.k _ more at.invariant.1)

pub returns : goal.returns
returns c =
    let at = c.loop-k in
    let args = c.args in
    let long : length (replicate {A = ℕ} capacity 0) ≡ capacity = length-replicate {A = ℕ} capacity 0 in
    let all : length (replicate {A = ℕ} capacity 0) ≤ at.k = omega arith in
    let last : at.k ≡ capacity = omega arith in
    at.invariant.1 ∙ read_end args.bytes.now (replicate capacity 0) args.at at.k all ∙ ap (words_from args.bytes.now args.at) last
