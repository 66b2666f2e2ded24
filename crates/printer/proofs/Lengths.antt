-- Bounds on the lengths of the texts, by the numbers of digits: the line of an event is no longer than 30 bytes, a finished run than longest_run says.
-- Rests on Output and Texts. Of bytes, and of posting and site numbers, that they are below 1,000 is a premise. Assumes nothing.
use Prim.Native.Nat.{ℕ, zero, suc, ◌+◌, ◌*◌, ◌-◌, ◌/◌, ◌^◌, ◌<◌, ◌≤◌}
use mathlib.Core.Path.{ap}
use mathlib.Core.Logic.{inl, inr}
use mathlib.Core.Bool.{Bool, true, false, cond}
use mathlib.Core.List.{List, [], ◌∷◌, ◌++◌}
use native.Mathlib.Omega.{arith}
use lib.Dec.{eqb, ltb}
use lib.ListN.{length, get_or, take, length-append}
use borrow.Author.Tests.{ltb-true, ltb-false}
use Rattle.sets.proofs.Truth.{test}
use Rattle.sets.specs.Masks.{has_bit}
use Rattle.sets.specs.Sets.{capacity}
use Rattle.posting.specs.Records.{numbers_of}
use Rattle.books.specs.declared.Records.{Records}
use Rattle.books.specs.Books.{record_no}
use Rattle.printer.specs.declared.Ended.{Ended}
use Rattle.printer.specs.Output.{last_digit, decimal, ok_word, no_word, up_word, down_word, newline, event_line, event_lines, items, site_line, site_lines, log_line, quiet_line, board_lines, printed_of}
use Rattle.printer.specs.Puts.{last_place, most_events, longest_run}
use Rattle.printer.proofs.Texts.{decimal_last, decimal_more}

-- every number of a list has at most three digits
abbrev pub Small : List ℕ → Type 0
Small l = (i : ℕ) → get_or l i 0 < 1_000

-- a record's numbers: no more than the capacity, and small
pub record Recorded (l : List ℕ) : Type 0 where
  pub few : length l ≤ capacity
  pub small : Small l

pub small_take : (n : ℕ) (l : List ℕ) → ((i : ℕ) → i < n → get_or l i 0 < 1_000) → Small (take n l)
small_take zero l s i = omega arith
small_take (suc n) [] s i = omega arith
small_take (suc n) (x ∷ l) s zero = s 0 (omega arith)
small_take (suc n) (x ∷ l) s (suc i) = small_take n l (λ j h. s (suc j) (omega arith)) i

-- ---- numbers

-- a number below 10 ^ d has at most d digits, and there is one at least
pub decimal_length : (d n : ℕ) → n < 10 ^ suc d → length (decimal n) ≤ suc d
decimal_length zero n h = let e = ap length (decimal_last n h) in omega (arith, e)
decimal_length (suc d) n h = elim (test (ltb n 10)) [
  | inl t ↦ let e = ap length (decimal_last n (ltb-true n 10 t)) in omega (arith, e)
  | inr f ↦
      let e = ap length (decimal_more n (ltb-false n 10 f)) in
      let less : n / 10 < 10 ^ suc d = omega arith in
      omega (arith, e, length-append (decimal (n / 10)) (last_digit n ∷ []), decimal_length d (n / 10) less)
]

pub three_digits : (n : ℕ) → n < 1_000 → length (decimal n) ≤ 3
three_digits n h = decimal_length 2 n h

pub four_digits : (n : ℕ) → n < 10_000 → length (decimal n) ≤ 4
four_digits n h = decimal_length 3 n h

-- no usize has more than 20
pub most_digits : (n : ℕ) → n ≤ last_place → length (decimal n) ≤ 20
most_digits n h = decimal_length 19 n (omega arith)

-- ---- lines

answer_length : (refusal : ℕ) → refusal < 1_000 → length (cond (eqb refusal 0) ok_word (no_word ++ (decimal refusal ++ newline))) ≤ 8
answer_length refusal h = elim (test (eqb refusal 0)) [
  | inl t ↦ rw t (omega arith)
  | inr f ↦ rw f (omega (arith, length-append (decimal refusal) newline, three_digits refusal h))
]

event_length : (d k refusal : ℕ) → length (decimal k) ≤ d → refusal < 1_000 → length (event_line k refusal) ≤ d + 10
unfolding event_line
event_length d k refusal hk h =
    omega (
      arith,
      length-append (decimal k) (cond (eqb refusal 0) ok_word (no_word ++ (decimal refusal ++ newline))),
      answer_length refusal h,
    )

-- the line of any event
pub longest_line : (k refusal : ℕ) → k ≤ last_place → refusal < 1_000 → length (event_line k refusal) ≤ 30
longest_line k refusal hk h = event_length 20 k refusal (most_digits k hk) h

-- the line of event k of fewer than 10,000: a byte more from 1,000 on
numbered_length : (k refusal : ℕ) → k < 10_000 → refusal < 1_000 → length (event_line k refusal) + (k - 1 - 999) ≤ 13 + (k - 999)
numbered_length k refusal hk h = elim (test (ltb k 1_000)) [
  | inl t ↦ omega (arith, ltb-true k 1_000 t, event_length 3 k refusal (three_digits k (ltb-true k 1_000 t)) h)
  | inr f ↦ omega (arith, ltb-false k 1_000 f, event_length 4 k refusal (four_digits k hk) h)
]

-- the lines of the events after event k
events_length : (k : ℕ) (l : List ℕ) → k + length l < 10_000 → Small l → length (event_lines k l) + (k - 999) ≤ 13 * length l + (k + length l - 999)
unfolding event_lines
events_length k [] h s = omega arith
events_length k (refusal ∷ l) h s =
    omega (
      arith,
      length-append (event_line (k + 1) refusal) (event_lines (k + 1) l),
      numbered_length (k + 1) refusal (omega arith) (s 0),
      events_length (k + 1) l (omega arith) (λ i. s (suc i)),
    )

items_length : (l : List ℕ) → Small l → length (items l) ≤ 4 * length l
unfolding items
items_length [] s = omega arith
items_length (m ∷ l) s =
    omega (arith, length-append (decimal m) (items l), three_digits m (s 0), items_length l (λ i. s (suc i)))

pub state_length : (down : Bool) → length (cond down down_word up_word) ≤ 5
state_length true = omega arith
state_length false = omega arith

site_length : (p : ℕ) (down : Bool) (l : List ℕ) → p < 1_000 → Recorded l → length (site_line p down l) ≤ 1_035
unfolding site_line
site_length p down l h r =
    let state = cond down down_word up_word in
    omega (
      arith,
      length-append (decimal p) (state ++ (items l ++ newline)),
      length-append state (items l ++ newline),
      length-append (items l) newline,
      three_digits p h,
      state_length down,
      items_length l r.small,
      r.few,
    )

sites_length : (down : ℕ) (records : Records) (n : ℕ) → n < 1_000 → ((p : ℕ) → p < n → Recorded (numbers_of (record_no records p)))
    → length (site_lines down records n) ≤ 1_035 * n
unfolding site_lines
sites_length down records zero h r = omega arith
sites_length down records (suc p) h r =
    let l = numbers_of (record_no records p) in
    omega (
      arith,
      length-append (site_lines down records p) (site_line p (has_bit down p) l),
      site_length p (has_bit down p) l (omega arith) (r p (omega arith)),
      sites_length down records p (omega arith) (λ q i. r q (omega arith)),
    )

log_length : (l : List ℕ) → Recorded l → length (log_line l) ≤ 1_026
unfolding log_line
log_length l r = omega (arith, length-append (items l) newline, items_length l r.small, r.few)

quiet_length : (quiet : Bool) → length (quiet_line quiet) ≤ 6
quiet_length true = omega arith
quiet_length false = omega arith

-- ---- a finished run

-- what holds of what is shown of a board, and of the answers
pub record Shown (refusals : List ℕ) (e : Ended) : Type 0 where
  pub events : length refusals < most_events
  pub refused : Small refusals
  pub sites : e.n < 1_000
  pub records : (p : ℕ) → p < e.n → Recorded (numbers_of (record_no e.records p))
  pub log : Recorded (numbers_of e.log)

pub printed_length : (refusals : List ℕ) (e : Ended) → Shown refusals e → length (printed_of refusals e) ≤ longest_run (length refusals) e.n
unfolding printed_of board_lines
printed_length refusals e s =
    let sites = site_lines e.down e.records e.n in
    let log = log_line (numbers_of e.log) in
    omega (
      arith,
      length-append (event_lines 0 refusals) (sites ++ (log ++ quiet_line e.quiet)),
      length-append sites (log ++ quiet_line e.quiet),
      length-append log (quiet_line e.quiet),
      events_length 0 refusals (omega (arith, s.events)) s.refused,
      sites_length e.down e.records e.n s.sites s.records,
      log_length (numbers_of e.log) s.log,
      quiet_length e.quiet,
    )
