-- Each way to be unsound, and odd boards that are sound: the definitions compute to what the table says.
-- Rests on Unsound, on cases. Assumes nothing.
use Prim.Native.Nat.{ℕ}
use mathlib.Core.Path.{refl}
use mathlib.Core.Bool.{Bool, true}
use mathlib.Core.List.{List}
use lib.ListN.{take, drop}
use Rattle.cases.specs.Trials.{Case, results, Hold}
use Rattle.cases.proofs.Computes.{computes}
use Rattle.cases.proofs.Known.{known}
use Rattle.cases.proofs.Ways.{part_hold, ways}
use Rattle.cases.proofs.KnownBoards.{busy_known, boards}
use Rattle.unsound_cases.specs.Unsound.{unsound, unsound_of}

-- the table of the same board, found by the other way
unfoldable pub table : List Case
table = unsound_of busy_known.board

unfoldable pub opens : Bool
unfolding computes known ways boards unsound_of table
opens = true

-- ---- in parts: one declaration may take so many steps only
-- `refl` is given the results: where it is left to find them, the cases are evaluated twice.

-- 12 cases from case j on
abbrev part : ℕ → List Case
part j = take 12 (drop j table)

part1 : Hold (part 0)
unfolding opens
part1 = refl {a = results (part 0)}

part2 : Hold (part 12)
unfolding opens
part2 = refl {a = results (part 12)}

part3 : Hold (part 24)
unfolding opens
part3 = refl {a = results (part 24)}

part4 : Hold (part 36)
unfolding opens
part4 = refl {a = results (part 36)}

part5 : Hold (part 48)
unfolding opens
part5 = refl {a = results (part 48)}

part6 : Hold (part 60)
unfolding opens
part6 = refl {a = results (part 60)}

part7 : Hold (part 72)
unfolding opens
part7 = refl {a = results (part 72)}

part8 : Hold (part 84)
unfolding opens
part8 = refl {a = results (part 84)}

part9 : Hold (drop 96 table)
unfolding opens
part9 = refl {a = results (drop 96 table)}

-- ---- the table

whole : Hold table
whole =
    part_hold 0 12 table part1
    (part_hold 12 12 table part2
    (part_hold 24 12 table part3
    (part_hold 36 12 table part4
    (part_hold 48 12 table part5
    (part_hold 60 12 table part6
    (part_hold 72 12 table part7
    (part_hold 84 12 table part8
    part9)))))))

pub unsound_hold : Hold unsound
unfolding unsound table
unsound_hold = rw busy_known.same whole
