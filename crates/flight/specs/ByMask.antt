-- The same message to every site of a mask at once.
-- Proof machinery: BroadcastLaws says of which single sends it is made. Rests on Flights.
use Rattle.std.specs.Prelude.{ℕ, ◌-◌, Bool, cond, not, ◌&&◌, List, eqb, set}
use Rattle.sets.specs.declared.Set.{Set}
use Rattle.site.specs.Sends.{SECOND, THIRD}
use Rattle.flight.specs.declared.Flight.{Flight}
use Rattle.flight.specs.Flights.{sending_to, saying, carrying, flight_of}

-- the GOOD or BAD of a SECOND and the set of a THIRD, to every site of a mask; to no site, nothing is sent
abbrev pub good_sent : List ℕ → ℕ → ℕ → ℕ → ℕ → Bool → List ℕ
good_sent good form m from receivers so = cond (eqb form SECOND) (saying good m from receivers so) good

abbrev pub set_sent : List ℕ → ℕ → ℕ → ℕ → ℕ → Set → List ℕ
set_sent carried form m from receivers load = cond (eqb form THIRD && not (eqb receivers 0)) (carrying carried m from load) carried

-- The same message to every site of a mask; BroadcastLaws says of which single sends it is made.
unfoldable pub sending_mask : Flight → ℕ → ℕ → ℕ → ℕ → Bool → Set → Flight
sending_mask flight from form m receivers so load =
    flight_of (sending_to flight.masks form m from receivers)
    (good_sent flight.good form m from receivers so)
    (set_sent flight.carried form m from receivers load)
