-- Each refusal with its neighbours in the order: the definitions compute to what the table says.
-- Rests on Refusals, on cases. Assumes nothing.
use Prim.Native.Nat.{ℕ}
use mathlib.Core.Path.{refl}
use mathlib.Core.Bool.{Bool, true}
use mathlib.Core.List.{List}
use lib.ListN.{take, drop}
use Rattle.cases.specs.Trials.{Case, results, Hold}
use Rattle.cases.proofs.Computes.{computes}
use Rattle.cases.proofs.Known.{known}
use Rattle.cases.proofs.Ways.{part_hold, KnownSound, runs, ways}
use Rattle.cases.proofs.KnownBoards.{began_known, trade_known, pool_known, deliver_known, rate_known, busy_known, boards}
use Rattle.refusal_cases.specs.Refusals.{heard_one, refusals, refusals_of}

unfoldable pub heard_known : KnownSound heard_one
unfolding heard_one
heard_known = runs began_known _

-- the table of the same boards, found by the other way
unfoldable pub table : List Case
table = refusals_of trade_known.board heard_known.board pool_known.board deliver_known.board rate_known.board busy_known.board

unfoldable pub opens : Bool
unfolding computes known ways boards heard_known refusals_of table
opens = true

-- ---- in parts: one declaration may take so many steps only
-- `refl` is given the results: where it is left to find them, the cases are evaluated twice.

-- 13 cases from case j on
abbrev part : ℕ → List Case
part j = take 13 (drop j table)

part1 : Hold (part 0)
unfolding opens
part1 = refl {a = results (part 0)}

part2 : Hold (part 13)
unfolding opens
part2 = refl {a = results (part 13)}

part3 : Hold (part 26)
unfolding opens
part3 = refl {a = results (part 26)}

part4 : Hold (part 39)
unfolding opens
part4 = refl {a = results (part 39)}

part5 : Hold (part 52)
unfolding opens
part5 = refl {a = results (part 52)}

part6 : Hold (part 65)
unfolding opens
part6 = refl {a = results (part 65)}

part7 : Hold (part 78)
unfolding opens
part7 = refl {a = results (part 78)}

part8 : Hold (part 91)
unfolding opens
part8 = refl {a = results (part 91)}

part9 : Hold (drop 104 table)
unfolding opens
part9 = refl {a = results (drop 104 table)}

-- ---- the table

whole : Hold table
whole =
    part_hold 0 13 table part1
    (part_hold 13 13 table part2
    (part_hold 26 13 table part3
    (part_hold 39 13 table part4
    (part_hold 52 13 table part5
    (part_hold 65 13 table part6
    (part_hold 78 13 table part7
    (part_hold 91 13 table part8
    part9)))))))

pub refusals_hold : Hold refusals
unfolding refusals table
refusals_hold = rw (trade_known.same, heard_known.same, pool_known.same, deliver_known.same, rate_known.same, busy_known.same) whole
