-- M1 to M10 hold: the definitions compute to what the table says.
-- Rests on Ways, KnownBoards, Cases and Computes. Assumes nothing.
use mathlib.Core.Path.{◌≡◌, refl}
use Rattle.cases.specs.Trials.{results, Hold}
use Rattle.cases.specs.Boards.{trading}
use Rattle.cases.specs.Cases.{marked}
use Rattle.cases.proofs.Computes.{computes}
use Rattle.cases.proofs.Known.{known}
use Rattle.cases.proofs.KnownBoards.{began_known, boards}
use Rattle.cases.proofs.Ways.{Ways, over, ◌then◌, ends, ways_hold, runs, plain, printing, calling, emptying, looking, ways}

-- M1; M2 to M4; M5; M6; M7 and M8; M9 and M10
unfoldable pub marked_ways : Ways marked
unfolding marked
marked_ways =
    plain then plain then plain then plain then plain
    then plain then plain then plain then plain then plain then plain then plain
    then plain then plain then plain then plain
    then printing then calling began_known
    then emptying (runs began_known trading) then emptying (runs began_known trading)
    then looking began_known then looking began_known then looking began_known
    then over

-- `refl` is given the results: where it is left to find them, the cases are evaluated twice.
marked_ends : ends marked_ways ≡ results marked
unfolding computes known ways marked boards marked_ways
marked_ends = refl {a = results marked}

pub marked_hold : Hold marked
marked_hold = ways_hold marked_ways marked_ends
