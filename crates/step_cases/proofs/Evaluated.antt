-- A NET of every account, a SECOND that overtakes FIRST, and cuts: the definitions compute to what the table says.
-- Rests on Steps, on cases. Assumes nothing.
use mathlib.Core.Path.{◌≡◌, refl}
use Rattle.cases.specs.Trials.{results, Hold}
use Rattle.cases.proofs.Computes.{computes}
use Rattle.cases.proofs.Known.{known}
use Rattle.cases.proofs.Ways.{Ways, over, ◌then◌, ends, ways_hold, plain, looking, ways}
use Rattle.cases.proofs.KnownBoards.{began_known, pool_known, deliver_known, rate_known, busy_known, boards}
use Rattle.step_cases.specs.Steps.{steps}

unfoldable pub steps_ways : Ways steps
unfolding steps
steps_ways =
    plain then plain then plain then plain then plain then plain then plain then plain then plain
    then looking began_known then looking began_known
    then looking began_known then looking began_known then looking began_known
    then looking pool_known then looking pool_known
    then looking deliver_known
    then looking rate_known
    then looking busy_known
    then over

-- `refl` is given the results: where it is left to find them, the cases are evaluated twice.
steps_ends : ends steps_ways ≡ results steps
unfolding computes known ways boards steps steps_ways
steps_ends = refl {a = results steps}

pub steps_hold : Hold steps
steps_hold = ways_hold steps_ways steps_ends
