-- Laws for a loop that runs events of a file: one event more, the whole file, and what is shown of the board it ends on.
-- Rests on Program and Parts, on machine for runs and for calls on the arrays. Assumes nothing.
use Prim.Native.Nat.{ℕ, suc, ◌+◌, ◌-◌, ◌<◌, ◌≤◌}
use mathlib.Core.Path.{◌≡◌, refl, sym, ap, ap₂, ◌∙◌}
use mathlib.Core.Bool.{Bool, true}
use mathlib.Core.List.{List, [], ◌∷◌, ◌++◌, append_assoc}
use native.Mathlib.Omega.{arith}
use lib.ListN.{length, get_or, set, take, drop, length-append, length-drop, take-append-drop}
use lib.Seq.{length-take-le, drop-cons, set_at, take_at}
use Rattle.posting.specs.declared.Record.{Record}
use Rattle.posting.specs.Records.{numbers_of}
use Rattle.books.specs.Books.{tabulate, no_record}
use Rattle.books.specs.Books as of_books
use Rattle.books.proofs.Lists.{length_tabulate, get_d_tabulate}
use Rattle.site.specs.declared.Setup.{Setup}
use Rattle.site.specs.declared.Site.{Site}
use Rattle.site.specs.Sites.{sites}
use Rattle.arrays.specs.Layout.{down_at}
use Rattle.arrays.specs.declared.Arrays.{Arrays}
use Rattle.arrays.specs.Arrays.{zeros, byte}
use Rattle.flat.specs.Flat.{Flat, flat, flat_perform}
use Rattle.machine.specs.declared.Board.{Board}
use Rattle.steps.specs.declared.Call.{Call}
use Rattle.machine.specs.declared.Outcome.{Outcome}
use Rattle.machine.specs.Boards.{fresh_board, site_at}
use Rattle.machine.specs.Soundness.{is_sound}
use Rattle.machine.specs.Calls.{refusal_of}
use Rattle.machine.specs.Runs.{taking, running, answers}
use Rattle.views.specs.Views.{log_of}
use Rattle.machine.specs.View.{view, Right}
use Rattle.views.specs.Views as view_of
use Rattle.machine.specs.Figures.{record_of}
use Rattle.machine.proofs.ByteStores.{table_same}
use Rattle.machine.proofs.Local.{site_at_lem, site_record}
use Rattle.machine.proofs.Fresh.{fresh_shown}
use Rattle.machine.proofs.Performed.{perform_gives}
use Rattle.printer.specs.declared.Ended.{Ended}
use Rattle.decoder.specs.RunFile.{call_at, calls_of, event_count}
use Rattle.runfile.specs.Program.{StaysSound, ended_on, refusals}
use Rattle.runfile.specs.Parts.{calls_from}

pub run_last : (b : Board) (l : List Call) (c : Call) → running b (l ++ (c ∷ [])) ≡ (taking (running b l) c).board
unfolding running
run_last b [] c = refl
run_last b (x ∷ l) c = run_last (taking b x).board l c

refusals_last : (b : Board) (l : List Call) (c : Call)
    → refusals b (l ++ (c ∷ [])) ≡ refusals b l ++ (refusal_of (taking (running b l) c).answer ∷ [])
unfolding refusals running answers
refusals_last b [] c = refl
refusals_last b (x ∷ l) c = ap (λ (r : List ℕ). refusal_of (taking b x).answer ∷ r) (refusals_last (taking b x).board l c)

-- as many numbers as calls
refusals_long : (b : Board) (l : List Call) → length (refusals b l) ≡ length l
unfolding refusals answers
refusals_long b [] = refl
refusals_long b (c ∷ l) = ap suc (refusals_long (taking b c).board l)

-- ---- a part of a file

module _ (input : List ℕ) (first : ℕ) where
  pub none_yet : calls_from input first first ≡ []
  unfolding calls_from tabulate
  none_yet = let z : first - first ≡ 0 = omega arith in rw z

  calls_more : (k : ℕ) → first ≤ k → calls_from input first (k + 1) ≡ calls_from input first k ++ (call_at input k ∷ [])
  unfolding calls_from tabulate
  calls_more k h =
      let e : k + 1 - first ≡ suc (k - first) = omega arith in
      let at : first + (k - first) ≡ k = omega arith in
      rw (e, at)

  calls_long : (k : ℕ) → length (calls_from input first k) ≡ k - first
  unfolding calls_from
  calls_long k = length_tabulate (k - first) _

-- the whole of it
pub calls_all : (input : List ℕ) → calls_from input 0 (event_count input) ≡ calls_of input
unfolding calls_from calls_of
calls_all input =
    let z : event_count input - 0 ≡ event_count input = omega arith in
    rw z (table_same (event_count input) (call_at input) (λ i. call_at input (0 + i)) (λ q h. let e : 0 + q ≡ q = omega arith in ap (call_at input) e))

-- ---- one event more in a loop

-- the numbers of a part's answers, with what stands before and behind them
abbrev pub noted : Board → List Call → ℕ → ℕ → List ℕ → List ℕ
noted b calls first k numbers = take first numbers ++ (refusals b calls ++ drop k numbers)

module _ (start : Board) (input numbers : List ℕ) (first k : ℕ) (from : first ≤ k) (room : k < length numbers) where
  abbrev calls : List Call
  calls = calls_from input first k

  abbrev more : List Call
  more = calls_from input first (k + 1)

  run_more : running start more ≡ (taking (running start calls) (call_at input k)).board
  run_more = ap (running start) (calls_more input first k from) ∙ run_last start calls (call_at input k)

  refusals_more : refusals start more ≡ refusals start calls ++ (refusal_of (taking (running start calls) (call_at input k)).answer ∷ [])
  refusals_more = ap (refusals start) (calls_more input first k from) ∙ refusals_last start calls (call_at input k)

  -- the number of event k is stored at its place
  stored_more : (l : List ℕ) (x : ℕ) → l ≡ noted start calls first k numbers → x ≡ refusal_of (taking (running start calls) (call_at input k)).answer
      → set l k x ≡ noted start more first (k + 1) numbers
  stored_more l x e f =
      ap (λ (y : List ℕ). set y k x) (e ∙ open_up)
      ∙ set_at (take first numbers ++ refusals start calls) _ (drop (suc k) numbers) x k before
      ∙ append_assoc (take first numbers) (refusals start calls) (x ∷ drop (suc k) numbers)
      ∙ ap (λ (y : List ℕ). take first numbers ++ y) closed
    where
      open_up : noted start calls first k numbers ≡ (take first numbers ++ refusals start calls) ++ (get_or numbers k 0 ∷ drop (suc k) numbers)
      open_up = rw (drop-cons numbers k 0 room) (sym (append_assoc (take first numbers) (refusals start calls) (get_or numbers k 0 ∷ drop (suc k) numbers)))

      before : length (take first numbers ++ refusals start calls) ≡ k
      before = omega (arith, length-append (take first numbers) (refusals start calls), length-take-le first numbers (omega arith), refusals_long start calls, calls_long input first k)

      closed : (refusals start calls ++ (x ∷ drop (suc k) numbers)) ≡ (refusals start more ++ drop (k + 1) numbers)
      closed =
          let e1 : k + 1 ≡ suc k = omega arith in
          rw (refusals_more, sym f, e1) (sym (append_assoc (refusals start calls) (x ∷ []) (drop (suc k) numbers)))

  -- the event on the arrays of the board that the part so far has left
  pub event_more :
      (setup : Setup) (a d : Arrays) (l : List ℕ) (x : ℕ) → StaysSound start → Right a → view setup a ≡ running start calls
      → l ≡ noted start calls first k numbers → flat x d ≡ flat_perform setup a (call_at input k)
      → Right d × (view setup d ≡ running start more) × (set l k x ≡ noted start more first (k + 1) numbers)
  event_more setup a d l x stays ok v n e =
      let sound : is_sound (view setup a) ≡ true = rw v (stays calls) in
      let g = perform_gives setup a ok sound (call_at input k) in
      let is : taking (view setup a) (call_at input k) ≡ taking (running start calls) (call_at input k) = ap (λ (b : Board). taking b (call_at input k)) v in (
        rw (ap (λ (r : Flat). r.arrays) e) g.right,
        ap (λ (r : Flat). view setup r.arrays) e ∙ g.shown ∙ ap (λ (o : Outcome). o.board) is ∙ sym run_more,
        stored_more l x n (ap (λ (r : Flat). r.answer) e ∙ g.answer ∙ ap (λ (o : Outcome). refusal_of o.answer) is),
      )

-- the loop's invariant: the arrays show the board that the events so far leave, and the numbers of their answers stand at their places
pub record Ran (setup : Setup) (start : Board) (input numbers : List ℕ) (first last k : ℕ) (a : Arrays) (l : List ℕ) : Type 0 where
  pub from : first ≤ k
  pub upto : k ≤ last
  pub right : Right a
  pub shown : view setup a ≡ running start (calls_from input first k)
  pub answered : l ≡ noted start (calls_from input first k) first k numbers

module _ (setup : Setup) (input numbers : List ℕ) (first last : ℕ) where
  pub ran_none : (a : Arrays) → Right a → first ≤ last → Ran setup (view setup a) input numbers first last first a numbers
  unfolding running refusals answers
  ran_none a ok h =
      record {
        from = omega arith;
        upto = h;
        right = ok;
        shown = rw (none_yet input first);
        answered = rw (none_yet input first) (sym (take-append-drop first numbers));
      }

  -- as many numbers as before
  pub ran_long : {start : Board} {k : ℕ} {a : Arrays} {l : List ℕ} → last ≤ length numbers → Ran setup start input numbers first last k a l → length l ≡ length numbers
  ran_long {start} {k} {a} {l} room r =
      let calls = calls_from input first k in
      let few : first ≤ length numbers = omega (arith, r.from, r.upto) in
      omega (
        arith,
        ap length r.answered,
        length-append (take first numbers) (refusals start calls ++ drop k numbers),
        length-append (refusals start calls) (drop k numbers),
        length-take-le first numbers few,
        refusals_long start calls,
        calls_long input first k,
        length-drop k numbers,
        r.from,
        r.upto,
      )

  pub ran_sound : {start : Board} {k : ℕ} {a : Arrays} {l : List ℕ} → StaysSound start → Ran setup start input numbers first last k a l → is_sound (view setup a) ≡ true
  ran_sound {start} {k} stays r = rw r.shown (stays (calls_from input first k))

  pub ran_more :
      {start : Board} {k : ℕ} {a : Arrays} {l : List ℕ} → StaysSound start → last ≤ length numbers → Ran setup start input numbers first last k a l → k < last
      → (d : Arrays) (x : ℕ) → flat x d ≡ flat_perform setup a (call_at input k) → Ran setup start input numbers first last (k + 1) d (set l k x)
  ran_more {start} {k} {a} {l} stays room r h d x e =
      let more = event_more start input numbers first k r.from (omega arith) setup a d l x stays r.right r.shown r.answered e in
      record { from = omega (arith, r.from); upto = omega arith; right = more.0; shown = more.1; answered = more.2 }

-- ---- from the board of a start

module _ (setup : Setup) (input numbers : List ℕ) (count : ℕ) (all : count ≡ event_count input) (d : Arrays) (l : List ℕ) where
  abbrev started : Board
  started = view setup zeros

  whole : calls_from input 0 count ≡ calls_of input
  whole = ap (calls_from input 0) all ∙ calls_all input

  pub fresh_run : view setup d ≡ running started (calls_from input 0 count) → view setup d ≡ running (fresh_board setup) (calls_of input)
  fresh_run e = e ∙ ap₂ running (fresh_shown setup) whole

  pub fresh_numbers : l ≡ noted started (calls_from input 0 count) 0 count numbers → take count l ≡ refusals (fresh_board setup) (calls_of input)
  fresh_numbers e =
      let long : length (refusals started (calls_from input 0 count)) ≡ count = omega (arith, refusals_long started (calls_from input 0 count), calls_long input 0 count) in
      ap (take count) e ∙ take_at (refusals started (calls_from input 0 count)) (drop count numbers) count long ∙ ap₂ refusals (fresh_shown setup) whole

  -- the numbers of a lent slice, to its end
  pub fresh_noted : l ≡ noted started (calls_from input 0 count) 0 count numbers → l ≡ refusals (fresh_board setup) (calls_of input) ++ drop count numbers
  fresh_noted e = e ∙ ap (λ (r : List ℕ). r ++ drop count numbers) (ap₂ refusals (fresh_shown setup) whole)

  pub fresh_long : l ≡ noted started (calls_from input 0 count) 0 count numbers → count ≤ length numbers → length l ≡ length numbers
  fresh_long e h =
      let r = refusals started (calls_from input 0 count) in
      omega (arith, ap length e, length-append r (drop count numbers), refusals_long started (calls_from input 0 count), calls_long input 0 count, length-drop count numbers)

-- ---- what is shown of the board

-- of a board at work, from its records and its log
pub ended_shown :
    (setup : Setup) (a : Arrays) (quiet : Bool) (n down : ℕ) (l : List Record) (log : Record) → n ≡ setup.n → down ≡ byte a.bytes down_at
    → l ≡ tabulate sites (view_of.record_in a) → log ≡ log_of a
    → record { n = n; down = down; records = record { sites = l }; log = log; quiet = quiet } ≡ ended_on (view setup a) quiet
unfolding ended_on view
ended_shown setup a quiet n down l log e0 e1 e2 e3 =
    rw (e0, e1, e2, e3)
    (ap (λ (x : List Record). record { n = setup.n; down = byte a.bytes down_at; records = record { sites = x }; log = log_of a; quiet = quiet })
    (sym (table_same sites (view_of.record_in a) (λ p. (site_at (view setup a) p).delivered)
    (λ p h. ap (λ (s : Site). s.delivered) (site_at_lem setup a p h) ∙ site_record a p))))

-- the record shown of a site is the site's
pub shown_record : (b : Board) (quiet : Bool) (p : ℕ) → p < sites → numbers_of (of_books.record_no (ended_on b quiet).records p) ≡ record_of b p
unfolding ended_on
shown_record b quiet p h = ap numbers_of (get_d_tabulate sites (λ s. (site_at b s).delivered) no_record p h)
