-- `answer_of` meets its contract.
-- Assumes nothing.
use Prim.Native.Nat.{ℕ}
use mathlib.Core.Path.{ap, ◌∙◌}
use Rattle.run_lookups.specs.Looked.{count_or}
use Rattle.run_lookups.proofs.answer_of.Goals as goal

pub returns : goal.returns
returns c = c.count_or.ensures ∙ ap (λ (why : ℕ). count_or why c.args.looked.visited) c.refusal_of.ensures
