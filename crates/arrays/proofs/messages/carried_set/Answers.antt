-- `carried_set` meets its contract. The loop's invariant: the first k words are read, the others are 0.
-- Assumes nothing.
use Prim.Native.Nat.{◌≤◌, ◌<◌, ◌*◌, ◌-◌, ◌+◌}
use mathlib.Core.Path.{◌≡◌, ap, sym, ◌∙◌}
use native.Mathlib.Omega.{arith}
use lib.ListN.{length}
use Rattle.sets.specs.declared.Set.{Set}
use Rattle.sets.specs.Sets.{words, of_words, empty_set}
use Rattle.site.specs.Sites.{sites}
use Rattle.flight.proofs.CellLaws.{pair_in}
use Rattle.flight.specs.Flights.{words_from}
use Rattle.flight.proofs.Changes.{one_set}
use Rattle.flight.proofs.Loads.{read_step, read_end}
use borrow.Author.Rules.{rules}
use Rattle.arrays.proofs.messages.carried_set.Goals as goal

pub loop-k-init : goal.loop-k-init
unfolding words_from
loop-k-init c = (search rules, ap (λ (s : Set). s.words) c.empty-load.ensures)

pub loop-k-preserved : goal.loop-k-preserved
loop-k-preserved c =
    let at = c.loop-k in
    let a = c.args in
    let more : at.k < length empty_set.words = omega arith in
    (search rules, read_step a.carried.now empty_set.words (words * (a.m * sites + a.from)) at.k _ more at.invariant.1)

pub returns : goal.returns
returns c =
    let at = c.loop-k in
    let a = c.args in
    let p = c.requires in
    let i = a.m * sites + a.from in
    let all : length empty_set.words ≤ at.k = omega arith in
    let last : at.k ≡ words = omega arith in
    ap of_words (at.invariant.1 ∙ read_end a.carried.now empty_set.words (words * i) at.k all ∙ ap (words_from a.carried.now (words * i)) last)
    ∙ one_set a.carried.now a.m a.from i (sym (pair_in a.m a.from p.0 p.1)) (omega arith)
