-- Records: posting numbers in order. The log is one too.
-- Rests on the declared Record, and on sets for lists of numbers.
use Rattle.std.specs.Prelude.{ℕ, ◌+◌, Bool, cond, ◌&&◌, List, ltb, take, set, replicate}
use Rattle.sets.specs.Numbers.{listed}
use Rattle.sets.specs.Sets.{capacity}
use Rattle.posting.specs.declared.Record.{Record}

-- the numbers, in order: the first count
unfoldable pub numbers_of : Record → List ℕ
numbers_of r = take r.count r.numbers

-- m is in the record
unfoldable pub contains : Record → ℕ → Bool
contains r m = listed m (numbers_of r)

abbrev pub empty_record : Record
empty_record = record { count = 0; numbers = replicate capacity 0 }

-- the record with m at its end; a full record, or a number past the capacity, leaves it as it is
unfoldable pub append : Record → ℕ → Record
append r m =
    cond (ltb r.count capacity && ltb m capacity)
    (record { count = r.count + 1; numbers = set r.numbers r.count m })
    r
