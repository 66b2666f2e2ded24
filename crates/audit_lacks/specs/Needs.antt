-- What the code needs of the slices, and what it keeps of the postings that a site lacks.
-- Rests on Lacks, and on audit_rule's Handed and Needs.
use Rattle.std.specs.Prelude.{ℕ, ◌<◌, ◌≤◌, ◌≡◌, cond, List, get_or}
use Rattle.broadcast.specs.Lists.{mem}
use Rattle.audit_rule.specs.Handed.{record_of}
use Rattle.audit_rule.specs.Needs.{Rising, Numbered}
use Rattle.audit_lacks.specs.Lacks.{lack_count, lack_lowest}

-- a mark for each posting: 2 where site p holds it, 1 where only others do
abbrev pub Marked : (lines ends marks : List ℕ) → ℕ → Type 0
Marked lines ends marks p = (x : ℕ) → get_or marks x 0 ≡ cond (mem x (record_of lines ends p)) 2 (cond (mem x lines) 1 0)

-- the lines of the sites follow one another, and every number has a mark
pub record Markable (lines ends : List ℕ) (bound marks : ℕ) : Type 0 where
  pub ends_rise : Rising lines ends
  pub numbered : Numbered lines bound
  pub room : bound ≤ marks

-- what the first n sites lack
pub record Lacking (lines ends counts lowests : List ℕ) (bound n : ℕ) : Type 0 where
  pub counts_are : (p : ℕ) → p < n → get_or counts p 0 ≡ lack_count lines ends bound p
  pub lowests_are : (p : ℕ) → p < n → get_or lowests p 0 ≡ lack_lowest lines ends bound p
