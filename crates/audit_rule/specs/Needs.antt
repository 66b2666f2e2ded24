-- What the code needs of the lines handed over.
-- Rests on Handed.
use Rattle.std.specs.Prelude.{ℕ, ◌<◌, ◌≤◌, List, length, get_or}
use Rattle.audit_rule.specs.Handed.{start_of}

-- the sites' lines follow one another
pub record Rising (lines ends : List ℕ) : Type 0 where
  pub rising : (p : ℕ) → p < length ends → start_of ends p ≤ get_or ends p 0
  pub within : (p : ℕ) → p < length ends → get_or ends p 0 ≤ length lines

-- every line has a number below n
abbrev pub Numbered : List ℕ → ℕ → Type 0
Numbered lines n = (i : ℕ) → i < length lines → get_or lines i 0 < n
