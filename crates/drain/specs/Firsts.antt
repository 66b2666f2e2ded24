-- What the code's searches give: for the next order and the next reading the first number below n that passes, and which sites have log left;
-- for the next receipt the cell below which none has a message. Rests on arrays and flight. Tied to Drain by proofs/Nexts and proofs/Floor.
use Rattle.std.specs.Prelude.{ℕ, zero, suc, min, Bool, cond, not, ◌&&◌, List, ltb, get_or}
use Rattle.sets.specs.Masks.{has_bit}
use Rattle.site.specs.Sends.{DELIVER}
use Rattle.arrays.specs.Layout.{logged_at, place_at}
use Rattle.flight.specs.Flights.{cell_at}

-- the first number below n that passes; n if none does
unfoldable pub first_below : (ℕ → Bool) → ℕ → ℕ
first_below p zero = zero
first_below p (suc n) =
    let rest = first_below p n in
    cond (ltb rest n) rest (cond (p n) n (suc n))

-- site p is not down, and of the log some entries are left for it, by the counts of a board at work
unfoldable pub reads : List ℕ → ℕ → ℕ → Bool
reads counts down p = not (has_bit down p) && ltb (get_or counts (place_at p) 0) (get_or counts logged_at 0)

-- The lowest cell that a receipt changes whose message was in cell `taken`: what one before DELIVER sends stands in later cells; a DELIVER may be
-- relayed, from the receiver's cell.
unfoldable pub floor_after : ℕ → ℕ → ℕ → ℕ → ℕ
floor_after taken form m to = cond (ltb form DELIVER) taken (min taken (cell_at form m to))
