-- What a search for the lowest number answers.
-- Rests on Audit.
use Rattle.std.specs.Prelude.{ℕ, Bool, cond, Option, Some, None, ltb}
use Rattle.audit_rule.specs.Audit.{lowest}

-- k, if it is below n: n stands for none
abbrev pub if_below : (k n : ℕ) → Option ℕ
if_below k n = cond (ltb k n) (Some k) None

-- the lowest number below n that a test holds of
abbrev pub lowest_below : (ℕ → Bool) → ℕ → Option ℕ
lowest_below q n = if_below (lowest q n) n
