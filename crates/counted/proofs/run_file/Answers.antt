-- `run_file` meets its contract.
-- Assumes nothing.
use mathlib.Core.Path.{sym, ap, ◌∙◌}
use Rattle.counted.specs.Answers.{count_of}
use Rattle.counted.proofs.run_file.Goals as goal

pub returns-in-Some : goal.returns-in-Some
returns-in-Some c =
    record { value = ap count_of (sym c.in-Some.is ∙ c.run_file.ensures.value); out_after = c.run_file.ensures.out_after }

pub returns-in-None : goal.returns-in-None
returns-in-None c =
    record { value = ap count_of (sym c.in-None.is ∙ c.run_file.ensures.value); out_after = c.run_file.ensures.out_after }
