-- 10,000 times a power of two taken away from what is left of a number of ten-thousandths.
-- Serves this crate's code alone. Rests on Part, which the code declares.
use Rattle.std.specs.Prelude.{ℕ, ◌+◌, ◌-◌, ◌*◌, ◌^◌, cond, nat_lt}
use Rattle.ten_thousandths.specs.declared.Part.{Part}

-- 10,000 times 2^k taken away, if there is as much
unfoldable pub lessened : Part → ℕ → Part
lessened p k =
    cond (nat_lt p.rest (10000 * 2 ^ k))
    p
    (record { rest = p.rest - 10000 * 2 ^ k; taken = p.taken + 2 ^ k })
