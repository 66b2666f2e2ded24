-- No output of `board` is longer than the buffer that its program prints into, so every output is written.
-- Rests on Program, on printer for the lengths of texts, on invariants for the boards that a start reaches. Assumes nothing.
use Prim.Native.Nat.{ℕ, zero, suc, ◌<◌, ◌≤◌}
use mathlib.Core.Path.{◌≡◌, refl, ap}
use mathlib.Core.Logic.{◌⊎◌, inl, inr}
use mathlib.Core.Bool.{Bool, true, ◌&&◌}
use mathlib.Core.List.{List, [], ◌∷◌, ◌++◌}
use native.Mathlib.Omega.{arith}
use lib.Dec.{eqb, ltb}
use lib.ListN.{length, get_or, drop, length-take, length-append}
use borrow.Author.Tests.{ltb-true, eqb-true}
use Rattle.sets.proofs.Truth.{test, and_left, and_right}
use Rattle.posting.specs.declared.Record.{Record}
use Rattle.posting.specs.declared.Table.{Table}
use Rattle.posting.proofs.ConflictLaws.{offered_below}
use Rattle.posting.specs.Records.{numbers_of}
use Rattle.books.proofs.Lists.{length_tabulate}
use Rattle.steps.specs.Causes.{Cause}
use Rattle.machine.specs.declared.Board.{Board}
use Rattle.steps.specs.declared.Call.{Call}
use Rattle.steps.specs.declared.Call.TheVariants.{Offer, Receive, Order, Read, Crash}
use Rattle.machine.specs.declared.Outcome.{Outcome}
use Rattle.machine.specs.Boards.{blank_board}
use Rattle.machine.specs.Calls.{refusal_of, judged, starting, offering, receiving, ordering, reading, crashing}
use Rattle.machine.specs.Runs.{taking, running, answers, is_quiet}
use Rattle.machine.proofs.SoundFacts.{RecordSound}
use Rattle.invariants.proofs.Reached.{Good, good_sites}
use Rattle.invariants.proofs.Start.{reached_good}
use Rattle.std.specs.Prelude.{Some}
use Rattle.printer.specs.Writing.{slice_printed, answer_printed}
use Rattle.printer.specs.Output.{decimal, newline, refused_line}
use Rattle.printer.proofs.Lengths.{Small, Recorded, Shown, small_take, three_digits, printed_length}
use Rattle.printer.proofs.Writing.{fits_written}
use Rattle.decoder.specs.RunFile.{setup_of, event_count, event_limit, well_formed, call_at, calls_of}
use Rattle.runfile.specs.Program.{ended_on, refusals, printed_run, printed_from, printed}
use Rattle.runfile.proofs.Programs.{few_events, start_accepted}
use Rattle.runfile.proofs.Runs.{shown_record}

-- ---- the numbers of refusals

-- each cause has a number, of three digits at most
abbrev numbered : List Cause → Bool
numbered [] = true
numbered (c ∷ l) = (ltb 0 c.number && ltb c.number 1_000) && numbered l

-- what is judged by such causes is accepted, or refused by such a number
judged_numbered : (l : List Cause) (back : Board) (taken : Outcome) → numbered l ≡ true
    → (judged l back taken ≡ taken) ⊎ ((0 < refusal_of (judged l back taken).answer) × (refusal_of (judged l back taken).answer < 1_000))
unfolding judged
judged_numbered [] back taken h = inl refl
judged_numbered (c ∷ l) back taken h =
    let low = ltb 0 c.number in
    let high = ltb c.number 1_000 in
    let own = and_left (low && high) (numbered l) h in
    elim (test c.applies) [
      | inl t ↦ rw t (inr (ltb-true 0 c.number (and_left low high own), ltb-true c.number 1_000 (and_right low high own)))
      | inr f ↦ rw f (judged_numbered l back taken (and_right (low && high) (numbered l) h))
    ]

judged_small : (l : List Cause) (back : Board) (taken : Outcome) → numbered l ≡ true → refusal_of taken.answer ≡ 0 → refusal_of (judged l back taken).answer < 1_000
judged_small l back taken h z = elim (judged_numbered l back taken h) [
  | inl e ↦ omega (arith, ap (λ (o : Outcome). refusal_of o.answer) e, z)
  | inr k ↦ k.1
]

taking_small : (b : Board) (c : Call) → refusal_of (taking b c).answer < 1_000
unfolding taking
taking_small b (Offer site kind account other amount cut) = unfold offering in judged_small _ b _ refl refl
taking_small b (Receive form m from to cut) = unfold receiving in judged_small _ b _ refl refl
taking_small b (Order m) = unfold ordering in judged_small _ b _ refl refl
taking_small b (Read site cut) = unfold reading in judged_small _ b _ refl refl
taking_small b (Crash site) = unfold crashing in judged_small _ b _ refl refl

refusals_small : (b : Board) (calls : List Call) → Small (refusals b calls)
unfolding refusals answers
refusals_small b [] i = omega arith
refusals_small b (c ∷ l) zero = taking_small b c
refusals_small b (c ∷ l) (suc i) = refusals_small (taking b c).board l i

refusals_length : (b : Board) (calls : List Call) → length (refusals b calls) ≡ length calls
unfolding refusals answers
refusals_length b [] = refl
refusals_length b (c ∷ l) = ap suc (refusals_length (taking b c).board l)

-- a start
pub start_small : (n f matrix : ℕ) → refusal_of (starting n f matrix).answer < 1_000
unfolding starting
start_small n f matrix = judged_small _ blank_board _ refl refl

-- ---- what is shown of a board that a start reaches

sound_recorded : (t : Table) (r : Record) → RecordSound t r → Recorded (numbers_of r)
unfolding numbers_of
sound_recorded t r s =
    record {
      few = omega (arith, length-take r.count r.numbers, s.within);
      small = small_take r.count r.numbers (λ i h. let below = (offered_below t (get_or r.numbers i 0) (s.named i h)).1 in omega (arith, below));
    }

good_shown : (numbers : List ℕ) (b : Board) (quiet : Bool) → length numbers ≤ event_limit → Small numbers → Good b → Shown numbers (ended_on b quiet)
unfolding ended_on
good_shown numbers b quiet few small g = record {
  events = omega (arith, few);
  refused = small;
  sites = omega (arith, good_sites b g);
  records = λ p h. rw (shown_record b quiet p (omega (arith, h, good_sites b g))) (sound_recorded b.table _ (g.sound.each_site p h).delivered);
  log = sound_recorded b.table b.log g.sound.log;
}

-- ---- the lengths

-- of the buffer that the program has of io
abbrev pub buffer_length : ℕ
buffer_length = 65_536

run_length : (b : Board) (calls : List Call) → length calls ≤ event_limit → Good (running b calls) → length (printed_run b calls) ≤ buffer_length
unfolding printed_run
run_length b calls few g =
    let last = running b calls in
    let numbers = refusals b calls in
    let events : length numbers ≤ event_limit = omega (arith, refusals_length b calls, few) in
    let sites : (ended_on last (is_quiet last)).n ≤ 7 = unfold ended_on in good_sites last g in
    omega (arith, printed_length numbers (ended_on last (is_quiet last)) (good_shown numbers last (is_quiet last) events (refusals_small b calls) g), events, sites)

pub refused_length : (refusal : ℕ) → refusal < 1_000 → length (refused_line refusal) ≤ buffer_length
unfolding refused_line
refused_length refusal h = omega (arith, length-append (decimal refusal) newline, three_digits refusal h)

from_length : (n f matrix : ℕ) (calls : List Call) → length calls ≤ event_limit → length (printed_from (starting n f matrix) calls) ≤ buffer_length
unfolding printed_from
from_length n f matrix calls few =
    let o = starting n f matrix in
    let refusal = refusal_of o.answer in
    elim (test (eqb refusal 0)) [
      | inl t ↦ rw t (run_length o.board calls few (reached_good n f matrix (start_accepted n f matrix (eqb-true refusal 0 t)) calls))
      | inr u ↦ rw u (refused_length refusal (start_small n f matrix))
    ]

-- Every output fits into the buffer.
pub output_fits : (input : List ℕ) → length (printed input) ≤ 65_536
unfolding printed calls_of
output_fits input =
    let setup = setup_of input in
    elim (test (well_formed input)) [
      | inl t ↦
          let few : length (calls_of input) ≤ event_limit = omega (arith, length_tabulate (event_count input) (call_at input), few_events input t) in
          rw t (from_length setup.n setup.f setup.matrix (calls_of input) few)
      | inr f ↦ rw f (refused_length 1 (omega arith))
    ]

-- So into the buffer every output is written, and whole.
pub all_written : (input buffer : List ℕ) → length buffer ≡ 65_536
    → (answer_printed (printed input) buffer ≡ Some (length (printed input))) × (slice_printed (printed input) buffer ≡ printed input ++ drop (length (printed input)) buffer)
all_written input buffer e = fits_written (printed input) buffer (omega (arith, output_fits input, e))
