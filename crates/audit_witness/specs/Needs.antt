-- What the words of a witness need of the slices, and of the answer.
-- Rests on audit_rule's Handed and Needs, on audit_pair's Fields, and on audit_input's Answer.
use Rattle.std.specs.Prelude.{ℕ, ◌<◌, ◌≤◌, ◌≡◌, List, length, get_or}
use Rattle.audit_rule.specs.Handed.{record_of}
use Rattle.audit_rule.specs.Needs.{Rising}
use Rattle.audit_pair.specs.Pair.{Fields}
use Rattle.audit_input.specs.declared.Answer.{Answer}

-- the most lines of all sites: 7 times 65,537
abbrev pub most_of_all : ℕ
most_of_all = 458_759

pub record Filed (lines ends tops : List ℕ) : Type 0 where
  pub ends_rise : Rising lines ends
  pub few : length ends ≤ 7
  pub tops_all : length ends ≤ length tops
  pub few_lines : length lines ≤ most_of_all

pub record Told (kinds ends : List ℕ) (r : Answer) : Type 0 where
  pub few : length kinds ≤ 65_536
  pub first_known : r.first < length kinds
  pub second_known : r.second < length kinds
  pub here_below : r.here < length ends
  pub there_below : r.there < length ends
  pub site_below : r.site < length ends
  pub line_few : r.line ≤ most_of_all
