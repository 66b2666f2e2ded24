-- What a function over a file and a slice answers: a count, and the slice.
-- Rests on nothing of the repository.
use Rattle.std.specs.Prelude.{ℕ, List, Option, Some, None}

-- the answer where there is no count: 2^64 − 1, which is no slice's length
abbrev pub no_count : ℕ
no_count = 18_446_744_073_709_551_615

pub record Counted (A : Type 0) : Type 0 where
  pub count : ℕ
  pub slice : List A

-- nothing done, and the slice as it was
abbrev pub not_done : {A : Type 0} → List A → Counted A
not_done slice = record { count = no_count; slice = slice }

-- how many bytes were written; no count where the slice is too short
abbrev pub count_of : Option ℕ → ℕ
count_of (Some count) = count
count_of None = no_count
