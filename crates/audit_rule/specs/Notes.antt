-- What one reading keeps, in numbers: `of c x` tells whether posting x is of class c, `at y c` whether class c is of one of y's accounts.
-- Rests on Reading.
use Rattle.std.specs.Prelude.{ℕ, ◌<◌, ◌≤◌, ◌≡◌, ◌⊎◌, Bool, true, List}
use Rattle.broadcast.specs.Lists.{In}
use Rattle.broadcast.specs.Deliveries.{once, Ahead}
use Rattle.audit_rule.specs.Reading.{count_of}
use Rattle.audit_rule.specs.Audit.{up_to}

-- all that was read
pub record Noted (of : ℕ → ℕ → Bool) (at : ℕ → ℕ → Bool) (read : List ℕ) (place : ℕ → ℕ) (seen : ℕ) (total : ℕ → ℕ) (ahead : ℕ → ℕ → ℕ) : Type 0 where
  -- 0 is the place of what was not read
  pub placed : (x : ℕ) → In x read → 1 ≤ place x
  pub unplaced : (x : ℕ) → ¬ In x read → place x ≡ 0
  pub most : (x : ℕ) → place x ≤ seen
  -- places rise in the order of first reading
  pub lower : (x y : ℕ) → In y read → Ahead x y read → place x < place y
  pub first : (x y : ℕ) → In x read → In y read → place x < place y → Ahead x y read
  pub totals : (c : ℕ) → total c ≡ count_of (of c) (once read)
  pub counted : (y c : ℕ) → In y read → at y c ≡ true → ahead y c ≡ count_of (of c) (up_to y (once read))

-- with the places of all that was read: how many of a class stand above, and their highest place, 0 if there is none
pub record Tallied (of : ℕ → ℕ → Bool) (above : List ℕ) (place : ℕ → ℕ) (count highest : ℕ → ℕ) : Type 0 where
  pub counts : (c : ℕ) → count c ≡ count_of (of c) above
  pub reaches : (c x : ℕ) → In x above → of c x ≡ true → place x ≤ highest c
  pub reached : (c : ℕ) → (highest c ≡ 0) ⊎ ((x : ℕ) × In x above × (of c x ≡ true) × (highest c ≡ place x))
