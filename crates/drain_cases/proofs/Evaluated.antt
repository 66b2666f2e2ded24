-- The order and the endings of a drain: the definitions compute to what the table says.
-- Rests on Drains, on cases. Assumes nothing.
use mathlib.Core.Path.{◌≡◌, refl, ap, ◌∙◌}
use mathlib.Core.Bool.{true}
use Rattle.flight.specs.Flights.{empty_flight}
use Rattle.flight.proofs.FlightLaws.{empty_flight_shape}
use Rattle.machine.specs.declared.Board.{Board}
use Rattle.machine.specs.Boards.{board_flight, board_down}
use Rattle.machine.specs.Soundness.{is_sound}
use Rattle.cases.specs.Trials.{next, results, Hold}
use Rattle.cases.proofs.Computes.{computes}
use Rattle.cases.proofs.Known.{sound_fit, known}
use Rattle.cases.proofs.Ways.{Ways, over, ◌then◌, ends, ways_hold, KnownSound, runs, plain, emptying, choosing, instead, ways}
use Rattle.cases.proofs.KnownBoards.{began_known, m9_known, trade_known, busy_known, boards}
use Rattle.drain_cases.specs.Drains.{two_pooled, one_ordered, one_read, both_read, drains}

-- a board with nothing in flight, if it is sound
unfoldable pub landed : {b : Board} (r : KnownSound b) → is_sound (board_flight r.board empty_flight) ≡ true → KnownSound (board_flight b empty_flight)
landed {b = b} r sound =
    let shape = r.fit.shape in
    record {
      board = board_flight r.board empty_flight;
      same = ap (λ (x : Board). board_flight x empty_flight) r.same;
      fit =
          sound_fit (board_flight b empty_flight)
          (record {
            rows = shape.rows;
            sites_long = shape.sites_long;
            tallies_long = shape.tallies_long;
            entries_long = shape.entries_long;
            each_site = shape.each_site;
            each_union = shape.each_union;
            each_entry = shape.each_entry;
            flight = empty_flight_shape;
            pool = shape.pool;
            log = shape.log;
          })
          (ap (λ (x : Board). is_sound (board_flight x empty_flight)) r.same ∙ sound);
    }

-- ---- the boards

pub pooled_sound : is_sound (board_flight m9_known.board empty_flight) ≡ true
unfolding computes known ways boards
pooled_sound = refl {a = true}

unfoldable pub pooled_known : KnownSound two_pooled
unfolding two_pooled
pooled_known = landed m9_known pooled_sound

unfoldable pub ordered_known : KnownSound one_ordered
unfolding one_ordered
ordered_known = runs pooled_known _

unfoldable pub one_known : KnownSound one_read
unfolding one_read
one_known = runs ordered_known _

unfoldable pub both_known : KnownSound both_read
unfolding both_read
both_known = runs one_known _

-- ---- the table

unfoldable pub drains_ways : Ways drains
unfolding drains
drains_ways =
    choosing began_known
    then choosing trade_known
    then choosing (runs trade_known _)
    then choosing (runs began_known _)
    then choosing (runs began_known _)
    then choosing busy_known
    then choosing pooled_known
    then choosing ordered_known
    then choosing one_known
    then choosing both_known
    then instead (λ b. next (board_down b 1)) one_known.same
    then instead (λ b. next (board_down b 7)) one_known.same
    then instead (λ b. next (board_down b 7)) ordered_known.same
    then emptying began_known
    then emptying began_known
    then emptying trade_known
    then emptying both_known
    then emptying both_known
    then plain
    then over

-- `refl` is given the results: where it is left to find them, the cases are evaluated twice.
drains_ends : ends drains_ways ≡ results drains
unfolding computes known ways boards landed pooled_known ordered_known one_known both_known drains drains_ways
drains_ends = refl {a = results drains}

pub drains_hold : Hold drains
drains_hold = ways_hold drains_ways drains_ends
