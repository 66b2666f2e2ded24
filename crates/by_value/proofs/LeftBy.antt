-- The turns of the loop that takes the events of a file one by one, each on the board that the one before it handed back.
-- Rests on decoder for the events, on machine and runfile for runs. Assumes nothing.
use Prim.Native.Nat.{ℕ, ◌+◌, ◌≤◌}
use mathlib.Core.Path.{◌≡◌, refl, sym, ap, ap₂, ◌∙◌}
use mathlib.Core.List.{List}
use native.Mathlib.Omega.{arith}
use native.Mathlib.Numerals.{add-one}
use Rattle.books.specs.Books.{tabulate}
use Rattle.steps.specs.declared.Call.{Call}
use Rattle.machine.specs.declared.Board.{Board}
use Rattle.machine.specs.declared.Outcome.{Outcome}
use Rattle.machine.specs.Runs.{taking, running}
use Rattle.decoder.specs.RunFile.{event_count, call_at, calls_of}
use Rattle.runfile.proofs.Runs.{run_last}

module _ (start : Board) (input : List ℕ) where
  -- the board that the first k events leave
  abbrev pub after : ℕ → Board
  after k = running start (tabulate k (call_at input))

  pub left_none : start ≡ after 0
  unfolding running tabulate
  left_none = refl

  pub left_more : (b : Board) (k : ℕ) (call : Call) (o : Outcome) → b ≡ after k → call ≡ call_at input k → o ≡ taking b call → o.board ≡ after (k + 1)
  unfolding tabulate
  left_more b k call o eb ec eo =
      ap (λ (x : Outcome). x.board) (eo ∙ ap₂ taking eb ec)
      ∙ sym (run_last start (tabulate k (call_at input)) (call_at input k))
      ∙ ap after (sym (add-one k))

  pub left_all : (b : Board) (k count : ℕ) → b ≡ after k → k ≤ count → count ≤ k → count ≡ event_count input → b ≡ running start (calls_of input)
  unfolding calls_of
  left_all b k count eb h l all = let same : k ≡ event_count input = omega arith in eb ∙ ap after same
