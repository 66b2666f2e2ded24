-- Figures in a lent slice: the definitions compute to what the table says.
-- Rests on Figures, on cases. Assumes nothing.
use mathlib.Core.Path.{◌≡◌, refl}
use Rattle.cases.specs.Trials.{results, Hold}
use Rattle.cases.proofs.Computes.{computes}
use Rattle.cases.proofs.Known.{known}
use Rattle.cases.proofs.Ways.{Ways, over, ◌then◌, ends, ways_hold, KnownSound, runs, empties, filling, filling_all, ways}
use Rattle.cases.proofs.KnownBoards.{began_known, boards}
use Rattle.figure_cases.specs.Figures.{parted, after_calls, after_sale, after_purchase, after_nets, after_net_of_all, netted_again, figures, margins, apart, accounts}

-- Each board is bound once, so that it is evaluated once; one named at each case is evaluated at each.
unfoldable pub ways_from : KnownSound parted → Ways figures
unfolding figures after_calls after_nets after_net_of_all netted_again
ways_from p =
    let c = empties (runs p _) _ in
    let n = empties (runs c _) _ in
    let e = empties (runs c _) _ in
    let t = empties (runs e _) _ in
    filling p then filling p then filling p then filling p
    then filling c
    then filling n then filling n then filling n
    then filling e then filling t
    then filling_all p then filling_all p then filling_all p then filling_all p
    then filling p then filling_all p
    then over

unfoldable pub parted_known : KnownSound parted
unfolding parted
parted_known = runs (empties (runs began_known _) _) _

unfoldable pub figures_ways : Ways figures
figures_ways = ways_from parted_known

-- `refl` is given the results: where it is left to find them, the cases are evaluated twice.
figures_ends : ends figures_ways ≡ results figures
unfolding computes known ways boards figures ways_from parted_known figures_ways
figures_ends = refl {a = results figures}

pub figures_hold : Hold figures
figures_hold = ways_hold figures_ways figures_ends

-- A table of its own: the check of one theorem may take so many steps, and each drain takes some.
unfoldable pub margins_from : KnownSound parted → Ways margins
unfolding margins after_calls after_sale after_purchase
margins_from p =
    let c = empties (runs p _) _ in
    let s = empties (runs c _) _ in
    let b = empties (runs s _) _ in
    filling s then filling b then over

unfoldable pub margins_ways : Ways margins
margins_ways = margins_from parted_known

margins_ends : ends margins_ways ≡ results margins
unfolding computes known ways boards margins margins_from parted_known margins_ways
margins_ends = refl {a = results margins}

pub margins_hold : Hold margins
margins_hold = ways_hold margins_ways margins_ends

unfoldable pub accounts_from : KnownSound apart → Ways accounts
unfolding accounts
accounts_from a = filling a then filling a then filling a then filling a then filling a then filling a then over

unfoldable pub apart_known : KnownSound apart
unfolding apart
apart_known = runs (empties (runs began_known _) _) _

unfoldable pub accounts_ways : Ways accounts
accounts_ways = accounts_from apart_known

accounts_ends : ends accounts_ways ≡ results accounts
unfolding computes known ways boards accounts accounts_from apart_known accounts_ways
accounts_ends = refl {a = results accounts}

pub accounts_hold : Hold accounts
accounts_hold = ways_hold accounts_ways accounts_ends
