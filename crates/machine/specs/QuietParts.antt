-- The parts of quiet, each over what it reads alone: the sites that are up as a byte, and what was read of the log.
-- Proof machinery: quiet_parts in proofs/QuietPartLaws says that they make up is_quiet, the definition in Runs. Rests on Boards, on arrays, flight, site and sets.
use Rattle.std.specs.Prelude.{ℕ, ◌-◌, ◌%◌, ◌^◌, ◌≡◌, Bool, cond, ◌&&◌, ◌||◌, List, ltb, leb, get_or, take}
use Rattle.sets.specs.declared.Set.{Set}
use Rattle.sets.specs.Masks.{has_bit}
use Rattle.sets.specs.Below.{all_below}
use Rattle.sets.specs.Sets.{is_empty_set}
use Rattle.site.specs.Sites.{sites}
use Rattle.arrays.specs.Layout.{place_at, logged_at}
use Rattle.flight.specs.Flights.{cells, nothing_comes}
use Rattle.machine.specs.declared.Board.{Board}
use Rattle.machine.specs.Boards.{site_at}

-- ---- the parts, where there are n sites, some are down, and so many entries were logged

-- the sites that are up, the first eight of them
unfoldable pub up_byte : ℕ → ℕ → ℕ
up_byte n down = ((2 ^ n - 1) - down % 2 ^ n) % 2 ^ 8

-- the log place of site p, of counts as the arrays have them; where there is no site it is 0
abbrev pub place_in : List ℕ → ℕ → ℕ
place_in counts p = cond (ltb p sites) (get_or counts (place_at p) 0) 0

-- site p is down, or has read the whole log
abbrev pub has_read : ℕ → List ℕ → ℕ → Bool
has_read down counts p = has_bit down p || leb (get_or counts logged_at 0) (place_in counts p)

unfoldable pub all_have_read : ℕ → ℕ → List ℕ → Bool
all_have_read n down counts = all_below (has_read down counts) n

-- the counts are those of a board: its sites' places, and how many entries its log has
pub record PlacesOf (b : Board) (counts : List ℕ) : Type 0 where
  pub places : (p : ℕ) → (site_at b p).place ≡ place_in counts p
  pub logged : b.log.count ≡ get_or counts logged_at 0

-- ---- quiet, by its parts

abbrev pub quiet_by : List ℕ → ℕ → ℕ → Set → List ℕ → Bool
quiet_by masks n down pool counts = nothing_comes (take cells masks) (up_byte n down) && (is_empty_set pool && all_have_read n down counts)
