-- What a case tries on the definitions, what comes of it, and that all cases of a table hold.
-- Rests on runfile, drain, machine, flight, site, books, posting and sets.
use Rattle.std.specs.Prelude.{ℕ, ◌≡◌, Bool, true, false, ◌&&◌, List, [], ◌∷◌, map, ℤ, pos, take, drop, replicate}
use Rattle.sets.specs.Below.{any_below}
use Rattle.sets.specs.Words.{members_below}
use Rattle.sets.specs.Sets.{members_of, set_of}
use Rattle.posting.specs.declared.Posting.{Posting}
use Rattle.posting.specs.Kinds.{call}
use Rattle.posting.specs.Conflicts.{offered, conflicting}
use Rattle.posting.specs.Records.{numbers_of}
use Rattle.books.specs.Effect.{effect}
use Rattle.site.specs.Sends.{DELIVER}
use Rattle.flight.specs.Flights.{in_flight}
use Rattle.machine.specs.declared.Board.{Board}
use Rattle.steps.specs.declared.Call.{Call}
use Rattle.machine.specs.declared.Answer.{Answer}
use Rattle.machine.specs.Boards.{entry_at}
use Rattle.machine.specs.Soundness.{is_sound}
use Rattle.machine.specs.Calls.{starting}
use Rattle.machine.specs.Runs.{taking, accepted, answers, is_quiet}
use Rattle.machine.specs.Figures.{showing, showing_all}
use Rattle.drain.specs.declared.Ending.{Ending}
use Rattle.drain.specs.Drain.{Next, next_event, drained}
use Rattle.runfile.specs.Program.{printed}

-- ---- what is looked at on a board

-- an entry of pool or log: its posting, and the set that it carries
pub record Entry : Type 0 where
  pub posting : ℕ
  pub carries : List ℕ

-- the sites that are down; the postings of which a DELIVER is in flight; the entries of pool and log; each site's log place and record;
-- whether the board is quiet
pub record View : Type 0 where
  pub down : List ℕ
  pub delivers : List ℕ
  pub pool : List Entry
  pub log : List Entry
  pub places : List ℕ
  pub records : List (List ℕ)
  pub quiet : Bool

-- some DELIVER of m is in flight
unfoldable pub is_delivering : Board → ℕ → Bool
is_delivering b m = any_below (λ from. any_below (λ to. in_flight b.flight DELIVER m from to) b.setup.n) b.setup.n

unfoldable pub entries_of : Board → List ℕ → List Entry
entries_of b postings = map (λ m. record { posting = m; carries = members_of (entry_at b m) }) postings

unfoldable pub view : Board → View
view b =
    record {
      down = members_below (b.down ∷ []) b.setup.n;
      delivers = members_of (set_of (λ m. offered b.table m && is_delivering b m));
      pool = entries_of b (members_of b.pool);
      log = entries_of b (numbers_of b.log);
      places = map (λ site. site.place) (take b.setup.n b.sites);
      records = map (λ site. numbers_of site.delivered) (take b.setup.n b.sites);
      quiet = is_quiet b;
    }

-- ---- cases

pub data Trial : Type 0 where
  -- a start
  start : (n f matrix : ℕ) → Trial
  -- whether two postings, numbers 0 and 1, conflict under a matrix
  conflicts : (matrix : ℕ) → Posting → Posting → Trial
  -- what a CALL adds to called of its account, at a rate and each of these positions
  called : (rate : ℤ) (positions : List ℤ) → Trial
  -- one call on a board
  ask : Board → Call → Trial
  -- calls on a board, each on what the one before it returned
  calls : Board → List Call → Trial
  -- the books of a site, or of all sites, on a board, into a slice of so many numbers
  books : Board → (site : ℕ) → (long : ℕ) → Trial
  books_of_all : Board → (long : ℕ) → Trial
  -- so many numbers, from a place on, of the slice that these books leave of the one lent; fewer where it ends before
  part : Board → (site : ℕ) → (lent : List ℤ) → (place long : ℕ) → Trial
  part_of_all : Board → (lent : List ℤ) → (place long : ℕ) → Trial
  -- what a drain does next on a board
  next : Board → Trial
  -- a drain of a board, with its limit
  drain : Board → ℕ → Trial
  -- what a board looks like after calls, each accepted, and then a drain with its limit
  look : Board → List Call → ℕ → Trial
  -- whether a board is sound
  sound : Board → Trial
  -- what `board` prints for a run file, by its bytes
  prints : (file : List ℕ) → Trial

pub data Result : Type 0 where
  answer : Answer → Result
  answered : List Answer → Result
  said : Bool → Result
  numbers : List ℤ → Result
  does : Next → Result
  ended : (count : ℕ) → Ending → Result
  left : View → Result
  text : List ℕ → Result

-- what a board looks like after calls and a drain; if a call is refused, its answer
unfoldable pub looked : Board → List Call → ℕ → Result
looked b [] limit = left (view (drained b limit).board)
looked b (c ∷ l) limit =
    let outcome = taking b c in
    elim (accepted outcome.answer) [
      | true ↦ looked outcome.board l limit
      | false ↦ answer outcome.answer
    ]

-- a CALL of account 0
abbrev pub call_of_zero : Posting
call_of_zero = record { owner = 0; kind = call; a = 0; b = 0; amount = 0 }

-- what comes of a trial
unfoldable pub found : Trial → Result
found (start n f matrix) = answer (starting n f matrix).answer
found (conflicts matrix p q) = said (conflicting matrix 0 p 1 q)
found (called rate positions) =
    numbers
    (map (λ position. (effect call_of_zero 0 (record { position = position; rate = rate; called = pos 0; settled = pos 0 })).called) positions)
found (ask b c) = answer (taking b c).answer
found (calls b l) = answered (answers b l)
found (books b site long) = answer (showing b site (replicate long (pos 0))).answer
found (books_of_all b long) = answer (showing_all b (replicate long (pos 0))).answer
found (part b site lent place long) = numbers (take long (drop place (showing b site lent).slice))
found (part_of_all b lent place long) = numbers (take long (drop place (showing_all b lent).slice))
found (next b) = does (next_event b)
found (drain b limit) = let d = drained b limit in ended d.count d.ending
found (look b l limit) = looked b l limit
found (sound b) = said (is_sound b)
found (prints file) = text (printed file)

-- a trial, and what must come of it
infix 68 ◌gives◌
pub data Case : Type 0 where
  ◌gives◌ : Trial → Result → Case

abbrev pub trial_of : Case → Trial
trial_of (trial gives result) = trial

abbrev pub result_of : Case → Result
result_of (trial gives result) = result

-- what must come of each case of a table
abbrev pub results : List Case → List Result
results cases = map result_of cases

-- all cases of a table hold
abbrev pub Hold : List Case → Type 0
Hold cases = map (λ c. found (trial_of c)) cases ≡ results cases

-- the board of a start
abbrev pub begun : ℕ → ℕ → ℕ → Board
begun n f matrix = (starting n f matrix).board
