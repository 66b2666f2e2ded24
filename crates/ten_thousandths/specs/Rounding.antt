-- Ten-thousandths in whole ones, rounded up.
-- Rests on nothing but the library's numbers.
use Rattle.std.specs.Prelude.{ℕ, ◌+◌, ◌/◌}

-- so many ten-thousandths in whole ones, rounded up. A definition may divide, for it says what is meant; the code does not (document 02, W4)
abbrev pub ten_thousandths : ℕ → ℕ
ten_thousandths parts = (parts + 9999) / 10000
