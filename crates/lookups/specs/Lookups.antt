-- Many balances looked up at once: four numbers for each pair of site and account, and the count of record places visited (document 02, W3).
-- Rests on lookup_pairs for pairs, and on machine's books. Showing figures from a site's record is no act.
use Rattle.std.specs.Prelude.{ℕ, cond, not, List, ◌∷◌, eqb, ℤ, length}
use Rattle.steps.specs.Causes.{cause}
use Rattle.machine.specs.declared.Board.{Board}
use Rattle.machine.specs.declared.Answer.{Answer}
use Rattle.machine.specs.Soundness.{is_sound}
use Rattle.machine.specs.Calls.{refusal_of}
use Rattle.machine.specs.Figures.{record_of, figures_of, shown}
use Rattle.lookup_pairs.specs.Pairs.{pair_causes, is_named, visited_to, lines_of}

-- the lengths of the records of the sites named, added up
unfoldable pub visited_of : Board → List ℕ → ℕ
visited_of b pairs = visited_to b.setup.n (is_named pairs) (λ p. length (record_of b p))

-- an answer, the count of places visited, and the lent slice
pub record Looked : Type 0 where
  pub answer : Answer
  pub visited : ℕ
  pub slice : List ℤ

-- Look-up: the lines of the pairs, in the order given, fill the slice. Of what is refused no place is visited.
unfoldable pub looking_up : Board → List ℕ → List ℤ → Looked
looking_up b pairs slice =
    let s = shown (cause 6 (not (is_sound b)) ∷ pair_causes b.setup.n (length slice) pairs) slice (lines_of (figures_of b) pairs) in
    record { answer = s.answer; visited = cond (eqb (refusal_of s.answer) 0) (visited_of b pairs) 0; slice = s.slice }
