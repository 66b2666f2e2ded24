-- What the code needs at a line that departs.
-- Rests on Audited, and on audit_rule's Needs.
use Rattle.std.specs.Prelude.{ℕ, ◌<◌, ◌≤◌, ◌≡◌, List, length, get_or}
use Rattle.audit_rule.specs.Audit.{joined, lowest, differs}
use Rattle.audit_rule.specs.Handed.{record_of}
use Rattle.audit_rule.specs.Needs.{Rising, Numbered}
use Rattle.audit_pair.specs.Pair.{Fields}
use Rattle.audit_records.specs.Audited.{conflicts}

module _ (matrix : ℕ) (kinds firsts seconds amounts lines ends : List ℕ) where
  -- the lowest posting that differs there
  unfoldable pub shown : (site line : ℕ) → ℕ
  shown site line = lowest (differs (length ends) (record_of lines ends) (conflicts matrix kinds firsts seconds amounts) site (get_or (record_of lines ends site) line 0)) (length kinds)

  pub record PairAt (site line marks : ℕ) : Type 0 where
    pub fields : Fields kinds firsts seconds amounts
    pub few : length kinds ≤ 65536
    pub ends_rise : Rising lines ends
    pub joins : joined (record_of lines ends) (length ends) ≡ lines
    pub numbered : Numbered lines (length kinds)
    pub room : length kinds ≤ marks
    pub site_below : site < length ends
    pub line_below : line < length (record_of lines ends site)
    pub is_shown : shown site line < length kinds
