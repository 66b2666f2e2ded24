-- What is known of arguments that are not refused.
-- Rests on audit_rule's Handed and Needs, and on posting.
use Rattle.std.specs.Prelude.{ℕ, ◌*◌, ◌<◌, ◌≤◌, ◌≡◌, true, List, length}
use Rattle.posting.specs.Kinds.{fields_ok, symmetric, has_fixed_pairs}
use Rattle.broadcast.specs.Lists.{In}
use Rattle.audit_rule.specs.Audit.{joined, NoRepeats}
use Rattle.audit_rule.specs.Handed.{posting_at, record_of}
use Rattle.audit_rule.specs.Needs.{Rising}

pub record Lawful (matrix : ℕ) (kinds firsts seconds amounts lines ends : List ℕ) (marks places ahead : ℕ) : Type 0 where
  pub turned : symmetric matrix ≡ true
  pub fixed : has_fixed_pairs matrix ≡ true
  pub sites : length ends ≤ 7
  pub few : length kinds ≤ 65536
  pub firsts_all : length firsts ≡ length kinds
  pub seconds_all : length seconds ≡ length kinds
  pub amounts_all : length amounts ≡ length kinds
  pub ends_rise : Rising lines ends
  pub joins : joined (record_of lines ends) (length ends) ≡ lines
  pub marks_room : length kinds ≤ marks
  pub places_room : length kinds ≤ places
  pub ahead_room : 8 * length kinds ≤ ahead
  pub known : (x : ℕ) → In x lines → x < length kinds
  pub lawful : (x : ℕ) → In x lines → fields_ok (posting_at kinds firsts seconds amounts x) ≡ true
  pub single : NoRepeats (length ends) (record_of lines ends)
