-- What the writers of lines promise: a text put into a slice from a place on, bytes past its end counted and not put; and a run's text that surely fits.
-- Proof machinery: proofs/ ties them to Writing. Rests on nothing of the repository.
use Rattle.std.specs.Prelude.{ℕ, ◌+◌, ◌*◌, ◌-◌, ◌≡◌, Bool, cond, ◌&&◌, List, [], ◌∷◌, ltb, leb, set}

-- the largest usize
abbrev pub last_place : ℕ
last_place = 18_446_744_073_709_551_615

-- the place after one byte; from the last there is none
abbrev pub next : ℕ → ℕ
next at = cond (ltb at last_place) (at + 1) at

-- the place after bytes
unfoldable pub after : ℕ → List ℕ → ℕ
after at [] = at
after at (x ∷ l) = after (next at) l

-- a slice with bytes from a place on
unfoldable pub putting : List ℕ → ℕ → List ℕ → List ℕ
putting slice at [] = slice
putting slice at (x ∷ l) = putting (set slice at x) (next at) l

-- A text was put into a slice from a place on: what the slice is then, and the place after the text.
pub record Put (text : List ℕ) (at : ℕ) (before now : List ℕ) (place : ℕ) : Type 0 where
  pub moved : place ≡ after at text
  pub holds : now ≡ putting before at text

-- below it an event's number has at most four digits
abbrev pub most_events : ℕ
most_events = 10_000

-- the lines of events are no longer: 13 bytes each, and one more for each event whose number has a fourth digit
abbrev pub longest_lines : ℕ → ℕ
longest_lines events = 13 * events + (events - 999)

-- A run's text is no longer: its events' lines, 1,035 bytes for each site, 1,032 for the log and the last line.
abbrev pub longest_run : ℕ → ℕ → ℕ
longest_run events n = longest_lines events + 1_035 * n + 1_032

abbrev pub surely_fits : ℕ → ℕ → ℕ → Bool
surely_fits events n room = ltb events most_events && leb (longest_run events n) room
