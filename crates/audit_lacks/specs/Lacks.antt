-- Which postings a site lacks that others hold.
-- Rests on audit_rule's Audit and Handed, and on sets for counts.
use Rattle.std.specs.Prelude.{ℕ, Bool, not, ◌&&◌, List, eqb, length}
use Rattle.sets.specs.Below.{all_below, count}
use Rattle.broadcast.specs.Lists.{mem}
use Rattle.audit_rule.specs.Audit.{lowest}
use Rattle.audit_rule.specs.Handed.{record_of}

module _ (lines ends : List ℕ) where
  -- some site holds posting x, and site p does not
  unfoldable pub lacked : (p x : ℕ) → Bool
  lacked p x = mem x lines && not (mem x (record_of lines ends p))

  -- how many below a bound, and the lowest of them
  unfoldable pub lack_count : (bound p : ℕ) → ℕ
  lack_count bound p = count (lacked p) bound

  unfoldable pub lack_lowest : (bound p : ℕ) → ℕ
  lack_lowest bound p = lowest (lacked p) bound

  -- no site lacks any
  unfoldable pub all_hold : (bound : ℕ) → Bool
  all_hold bound = all_below (λ p. eqb (lack_count bound p) 0) (length ends)
