-- `load` meets its contract.
-- Assumes nothing.
use Prim.Native.Nat.{◌≤◌, ◌<◌, ◌*◌, ◌-◌}
use mathlib.Core.Path.{◌≡◌, ap, ◌∙◌}
use native.Mathlib.Omega.{arith}
use lib.ListN.{length}
use borrow.Author.Rules.{rules}
use Rattle.sets.specs.declared.Set.{Set}
use Rattle.sets.specs.Sets.{words, of_words, empty_set}
use Rattle.flight.specs.Flights.{words_from}
use Rattle.arrays.specs.Arrays.{slot_set}
use Rattle.flight.proofs.Loads.{read_step, read_end}
use Rattle.arrays.proofs.load.Goals as goal

pub loop-k-init : goal.loop-k-init
unfolding words_from
loop-k-init c = (search rules, ap (λ (s : Set). s.words) c.empty-s.ensures)

pub loop-k-preserved : goal.loop-k-preserved
loop-k-preserved c =
    let at = c.loop-k in
    let args = c.args in
    let more : at.k < length empty_set.words = omega arith in
    (search rules, read_step args.words.now empty_set.words (words * args.slot) at.k _ more at.invariant.1)

pub returns : goal.returns
unfolding slot_set
returns c =
    let at = c.loop-k in
    let args = c.args in
    let all : length empty_set.words ≤ at.k = omega arith in
    let last : at.k ≡ words = omega arith in
    ap of_words (at.invariant.1 ∙ read_end args.words.now empty_set.words (words * args.slot) at.k all ∙ ap (words_from args.words.now (words * args.slot)) last)
