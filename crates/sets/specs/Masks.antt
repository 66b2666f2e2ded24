-- A number as a mask: its bit k.
-- Rests on nothing.
use Rattle.std.specs.Prelude.{ℕ, ◌/◌, ◌%◌, ◌^◌, Bool, eqb}

-- bit k of the number w, 0 or 1
abbrev pub bit : ℕ → ℕ → ℕ
bit w k = w / 2 ^ k % 2

-- bit k of w is set
unfoldable pub has_bit : ℕ → ℕ → Bool
has_bit w k = eqb (bit w k) 1
