-- Laws of the whole program: a drain leaves a board sound, the figures of all sites, and what is stated of each kind of input.
-- Rests on Statement, on drain, machine and runfile. Assumes nothing.
use Prim.Native.Nat.{ℕ, zero, suc, ◌+◌, ◌*◌, ◌≤◌}
use mathlib.Core.Path.{◌≡◌, refl, sym, ap, ◌∙◌}
use mathlib.Core.Logic.{inl, inr, ◌≢◌}
use mathlib.Core.Bool.{true}
use mathlib.Core.List.{List, [], ◌∷◌, ◌++◌}
use native.Mathlib.Omega.{arith}
use lib.IntN.{ℤ}
use lib.ListN.{length, take, drop}
use borrow.Author.Tests.{ne_eqb, le-ltb}
use Rattle.site.specs.declared.Setup.{Setup}
use Rattle.arrays.specs.Layout.{down_at}
use Rattle.arrays.specs.declared.Arrays.{Arrays}
use Rattle.arrays.specs.Arrays.{byte}
use Rattle.machine.specs.declared.Answer.{Answer}
use Rattle.machine.specs.declared.Board.{Board}
use Rattle.machine.specs.Boards.{fresh_board}
use Rattle.machine.specs.View.{view}
use Rattle.steps.specs.declared.Call.{Call}
use Rattle.machine.specs.Soundness.{is_sound}
use Rattle.machine.specs.Calls.{answer_of}
use Rattle.machine.specs.Runs.{taking, running}
use Rattle.whole_board.proofs.Showing.{length_all}
use Rattle.machine.specs.Figures.{figures_of_all, shown, showing_all}
use Rattle.drain.specs.declared.Drained.{Drained}
use Rattle.drain.specs.Drain.{next_event, draining, drained, drain_limit}
use Rattle.drain.proofs.Loop.{next_cases, draining_none, draining_event}
use Rattle.decoder.specs.RunFile.{calls_of}
use Rattle.printer.specs.Output.{refused_line}
use Rattle.statements.specs.Table.{statement_text}
use Rattle.runfile.specs.Begins.{Begun, begun_by}
use Rattle.runfile.specs.Program.{StaysSound}
use Rattle.runfile.proofs.Programs.{begun_refused, begun_taken}
use Rattle.statements.specs.Statement.{statement_of, stated_run, stated_from, stated}

-- ---- a drain

stays_after : (b : Board) (c : Call) → StaysSound b → StaysSound (taking b c).board
unfolding running
stays_after b c h calls = h (c ∷ calls)

sound_itself : (b : Board) → StaysSound b → is_sound b ≡ true
unfolding running
sound_itself b h = h []

pub drain_stays : (left limit count : ℕ) (b : Board) → StaysSound b → is_sound (draining left limit count b).board ≡ true
unfolding draining
drain_stays zero limit count b h = sound_itself b h
drain_stays (suc left) limit count b h = elim (next_cases (next_event b)) [
  | inl e ↦ rw (draining_none left limit count b e) (sound_itself b h)
  | inr e ↦ rw (draining_event left limit count b e.0 e.1) (drain_stays left limit (count + 1) (taking b e.0).board (stays_after b e.0 h))
]

pub run_stays : (b : Board) (calls : List Call) → StaysSound b → StaysSound (running b calls)
unfolding running
run_stays b [] h = h
run_stays b (c ∷ calls) h = run_stays (taking b c).board calls (stays_after b c h)

-- ---- a run from the board of a start, and a drain

module _ (setup : Setup) (calls : List Call) (limit : ℕ) (stays : StaysSound (fresh_board setup)) where
  abbrev settled : Drained
  settled = drained (running (fresh_board setup) calls) limit

  not_refused : draining limit limit 0 (running (fresh_board setup) calls) ≡ settled
  unfolding drained
  not_refused = rw (stays calls)

  pub settled_sound : is_sound settled.board ≡ true
  settled_sound = rw (sym not_refused) (drain_stays limit limit 0 (running (fresh_board setup) calls) (run_stays (fresh_board setup) calls stays))

  -- the arrays that the run and the drain leave, of the board that they show
  module _ (a d : Arrays) (run : view setup a ≡ running (fresh_board setup) calls) (drain : view setup d ≡ (draining limit limit 0 (view setup a)).board) where
    after : draining limit limit 0 (view setup a) ≡ settled
    after = ap (draining limit limit 0) run ∙ not_refused

    pub settled_view : view setup d ≡ settled.board
    settled_view = drain ∙ ap (λ (x : Drained). x.board) after

    pub settled_count : (count : ℕ) → count ≡ (draining limit limit 0 (view setup a)).count → count ≡ settled.count
    settled_count count e = e ∙ ap (λ (x : Drained). x.count) after

    pub settled_down : byte d.bytes down_at ≡ settled.board.down
    unfolding view
    settled_down = ap (λ (b : Board). b.down) settled_view

    pub settled_setup : settled.board.setup ≡ setup
    unfolding view
    settled_setup = ap (λ (b : Board). b.setup) (sym settled_view)

    pub settled_books :
        (answer : Answer) (before left : List ℤ)
        → (is_sound (view setup d) ≡ true
        → (answer ≡ (showing_all (view setup d) before).answer) × (left ≡ (showing_all (view setup d) before).slice) × (answer_of answer ≡ answer_of (showing_all (view setup d) before).answer))
        → (answer ≡ (showing_all settled.board before).answer) × (left ≡ (showing_all settled.board before).slice)
    settled_books answer before left h =
        let (e, f, said) = h (rw settled_view settled_sound) in
        (rw settled_view at e, rw settled_view at f)

-- ---- the figures

take_first : {A : Type 0} (a b : List A) (n : ℕ) → length a ≡ n → take n (a ++ b) ≡ a
take_first [] b zero e = refl
take_first [] b (suc n) e = absurd (omega arith)
take_first (x ∷ a) b zero e = absurd (omega arith)
take_first {A} (x ∷ a) b (suc n) e = ap (λ (l : List A). x ∷ l) (take_first a b n (omega arith))

-- the books of all sites fill the beginning of a slice that has room for them
pub all_filled : (b : Board) (slice left : List ℤ) (count : ℕ) → is_sound b ≡ true → left ≡ (showing_all b slice).slice → count ≡ 64 * b.setup.n → count ≤ length slice
    → take count left ≡ figures_of_all b b.setup.n
unfolding showing_all shown
all_filled b slice left count sound e ec room =
    let n = b.setup.n in
    let h : 64 * n ≤ length slice = omega arith in
    rw (e, sound, le-ltb (length slice) (64 * n) h) (take_first (figures_of_all b n) (drop (length (figures_of_all b n)) slice) count (omega (arith, length_all b n)))

-- the text of the figures that a run and a drain leave
module _ (setup : Setup) (calls : List Call) (stays : StaysSound (fresh_board setup)) where
  abbrev last : Board
  last = (settled setup calls drain_limit stays).board

  pub settled_text :
      (slice left : List ℤ) (count down : ℕ) → last.setup ≡ setup → left ≡ (showing_all last slice).slice → down ≡ last.down → count ≡ 64 * setup.n
      → count ≤ length slice → statement_text (take count left) setup.n down ≡ stated_run (fresh_board setup) calls
  unfolding statement_of stated_run
  settled_text slice left count down es el ed ec room =
      let n : last.setup.n ≡ setup.n = ap (λ (s : Setup). s.n) es in
      let filled = all_filled last slice left count (settled_sound setup calls drain_limit stays) el (rw n ec) room in
      ap (λ (l : List ℤ). statement_text l setup.n down) filled
      ∙ ap (λ (d : ℕ). statement_text (figures_of_all last last.setup.n) setup.n d) ed
      ∙ ap (λ (k : ℕ). statement_text (figures_of_all last last.setup.n) k last.down) (sym n)

-- ---- inputs

module _ (input : List ℕ) (begun : Begun) (eb : begun ≡ begun_by input) where
  pub refused_stated : begun.why ≢ 0 → refused_line begun.why ≡ stated input
  unfolding stated stated_from
  refused_stated d =
      begun_refused input begun eb (λ o. stated_from o (calls_of input)) (refused_line 1) (refused_line begun.why) d (ap refused_line) (rw (ne_eqb begun.why 0 d))

  pub started_stated : begun.why ≡ 0 → stated_run (fresh_board begun.setup) (calls_of input) ≡ stated input
  unfolding stated stated_from
  started_stated z = begun_taken input begun eb (λ o. stated_from o (calls_of input)) (refused_line 1) z
