-- The records of the sites in one slice, and what a reading of all of them answers.
-- Rests on Kept.
use Rattle.std.specs.Prelude.{ℕ, ◌<◌, ◌≤◌, ◌≡◌, Bool, true, false, List, length, get_or}
use Rattle.posting.specs.declared.Table.{Table}
use Rattle.audit_rule.specs.Audit.{joined}
use Rattle.audit_rule.specs.Handed.{start_of, record_of}
use Rattle.audit_reading.specs.Kept.{Rows, Known, line_ok}

-- line i of site p's record fits
abbrev pub site_ok : ℕ → Table → List ℕ → List ℕ → ℕ → ℕ → Bool
site_ok matrix t lines ends p i = line_ok matrix t (joined (record_of lines ends) p) (record_of lines ends p) i

-- what a reading of all records needs of its slices
pub record Auditable (kinds firsts seconds lines ends places ahead : List ℕ) : Type 0 where
  pub known : (i : ℕ) → i < length lines → Known kinds firsts seconds places ahead (get_or lines i 0)
  pub few : length lines < 4294967294
  pub unread : (x : ℕ) → get_or places x 0 ≡ 0
  pub rising : (p : ℕ) → p < length ends → start_of ends p ≤ get_or ends p 0
  pub within : (p : ℕ) → p < length ends → get_or ends p 0 ≤ length lines

-- the first line that does not fit
pub record FirstUnfit (matrix : ℕ) (t : Table) (lines ends : List ℕ) (site line : ℕ) : Type 0 where
  pub site_below : site < length ends
  pub line_below : line < length (record_of lines ends site)
  pub before : (q j : ℕ) → q < site → j < length (record_of lines ends q) → site_ok matrix t lines ends q j ≡ true
  pub over : (j : ℕ) → j < line → site_ok matrix t lines ends site j ≡ true
  pub breaks : site_ok matrix t lines ends site line ≡ false

-- the answer: every line fits, or the first that does not
abbrev pub DepartureSays : (matrix : ℕ) (kinds firsts seconds lines ends : List ℕ) (agreed : Bool) (site line : ℕ) → Type 0
DepartureSays matrix kinds firsts seconds lines ends agreed site line =
    (t : Table) → Rows t kinds firsts seconds (length kinds)
    → (agreed ≡ true → (p i : ℕ) → p < length ends → i < length (record_of lines ends p) → site_ok matrix t lines ends p i ≡ true)
    × (agreed ≡ false → FirstUnfit matrix t lines ends site line)
