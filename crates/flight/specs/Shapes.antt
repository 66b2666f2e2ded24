-- What holds of every value of the type: masks of eight sites, words of 64 bits.
-- Proof machinery. Rests on Flights.
use Rattle.std.specs.Prelude.{ℕ, ◌*◌, ◌-◌, ◌^◌, ◌<◌, ◌≡◌, List, length, get_or}
use Rattle.sets.specs.Words.{Words}
use Rattle.sets.specs.Sets.{words}
use Rattle.site.specs.Sites.{sites}
use Rattle.flight.specs.declared.Flight.{Flight}
use Rattle.flight.specs.Flights.{pairs, cells}

-- n masks of eight sites
pub record Bytes (n : ℕ) (l : List ℕ) : Type 0 where
  pub long : length l ≡ n
  pub small : (i : ℕ) → i < n → get_or l i 0 < 2 ^ 8

pub record Shape (flight : Flight) : Type 0 where
  pub masks : Bytes cells flight.masks
  pub good : Bytes pairs flight.good
  pub carried : Words (words * pairs) flight.carried
