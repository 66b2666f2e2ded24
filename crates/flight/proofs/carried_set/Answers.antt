-- `carried_set` meets its contract. The loop's invariant: the first k words are read, the others are 0.
-- Assumes nothing.
use Prim.Native.Nat.{◌≤◌, ◌<◌, ◌*◌, ◌-◌}
use mathlib.Core.Path.{◌≡◌, ap, ◌∙◌}
use native.Mathlib.Omega.{arith}
use lib.ListN.{length}
use borrow.Author.Rules.{rules}
use Rattle.sets.specs.declared.Set.{Set}
use Rattle.sets.specs.Sets.{words, of_words, empty_set}
use Rattle.flight.specs.Flights.{words_from}
use Rattle.flight.proofs.Changes.{no_set_lem, one_set}
use Rattle.flight.proofs.Loads.{read_step, read_end}
use Rattle.flight.proofs.carried_set.Goals as goal

pub returns-then-i-ge-PAIRS : goal.returns-then-i-ge-PAIRS
returns-then-i-ge-PAIRS c = c.empty-load.ensures ∙ no_set_lem _ _ _ _ c.pair-i.ensures c.if-i-ge-PAIRS.true

pub loop-k-init : goal.loop-k-init
unfolding words_from
loop-k-init c = (search rules, ap (λ (s : Set). s.words) c.empty-load.ensures)

pub loop-k-preserved : goal.loop-k-preserved
loop-k-preserved c =
    let at = c.loop-k in
    let args = c.args in
    let i = c.pair-i.result in
    let more : at.k < length empty_set.words = omega arith in
    (search rules, read_step args.carried.now empty_set.words (words * i) at.k _ more at.invariant.1)

pub returns : goal.returns
returns c =
    let at = c.loop-k in
    let args = c.args in
    let i = c.pair-i.result in
    let all : length empty_set.words ≤ at.k = omega arith in
    let last : at.k ≡ words = omega arith in
    ap of_words (at.invariant.1 ∙ read_end args.carried.now empty_set.words (words * i) at.k all ∙ ap (words_from args.carried.now (words * i)) last)
    ∙ one_set args.carried.now args.m args.from i c.pair-i.ensures c.if-i-ge-PAIRS.false
