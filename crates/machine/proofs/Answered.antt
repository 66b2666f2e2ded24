-- An outcome from the board that a call leaves and the number of its refusal.
-- Rests on Causes and Calls. Assumes nothing.
use Prim.Native.Nat.{ℕ, ◌<◌}
use mathlib.Core.Path.{◌≡◌, refl, sym, ap, ◌∙◌}
use mathlib.Core.Logic.{◌≢◌, inl, inr}
use mathlib.Core.Bool.{true, false}
use mathlib.Core.List.{List, [], ◌∷◌}
use native.Mathlib.Omega.{arith}
use borrow.Author.Tests.{eq-eqb, ne_eqb}
use Rattle.sets.proofs.Truth.{test}
use Rattle.steps.specs.declared.Cut.{Cut}
use Rattle.steps.specs.declared.Call.{Call}
use Rattle.arrays.specs.declared.Arrays.{Arrays}
use Rattle.flat.specs.Flat.{Flat, flat, flat_perform}
use Rattle.steps.specs.Causes.{Cause}
use Rattle.machine.specs.declared.Board.{Board}
use Rattle.machine.specs.declared.Outcome.{Outcome}
use Rattle.machine.specs.declared.Answer.{Answer}
use Rattle.machine.specs.declared.Answer.TheVariants.{Done, Offered, Refused}
use Rattle.machine.specs.Calls.{answer_of, refusal_of, judged, offering, receiving, ordering, reading, crashing}
use Rattle.machine.specs.Soundness.{is_sound}
use Rattle.machine.specs.Runs.{taking}
use Rattle.machine.specs.ByMask.{answered_by, refusing}
use Rattle.machine.specs.View.{view, Right}
use Rattle.machine.proofs.Causes.{Numbered}
use Rattle.machine.proofs.Performed.{perform_gives}

-- what is said of an outcome, and of its answer
pub with_answer : {o x : Outcome} → o ≡ x → (o ≡ x) × (answer_of o.answer ≡ answer_of x.answer)
with_answer e = (e, ap (λ (y : Outcome). answer_of y.answer) e)

-- what is judged answers by the number of its refusal
judged_by : (l : List Cause) → Numbered l → (back : Board) (x : Outcome) (a : Answer) → x.answer ≡ a → refusal_of a ≡ 0
    → judged l back x ≡ answered_by a (judged l back x).board (refusal_of (judged l back x).answer)
unfolding judged
judged_by [] h back x a e z = let k : refusal_of x.answer ≡ 0 = ap refusal_of e ∙ z in rw (eq-eqb (refusal_of x.answer) 0 k, sym e) refl
judged_by (c ∷ l) h back x a e z = elim (test c.applies) [
  | inl t ↦ let d : c.number ≢ 0 = λ k. omega (arith, h.0, k) in rw (t, ne_eqb c.number 0 d)
  | inr f ↦ rw f (judged_by l h.1 back x a e z)
]

-- as the code has it: an unsound board is refused, and a sound one answers by the board and the number
pub responded :
    (b : Board) (x o : Outcome) (a : Answer) → (is_sound b ≡ false → refusing b 6 ≡ x) → x ≡ answered_by a x.board (refusal_of x.answer)
    → (is_sound b ≡ false → o ≡ refusing b 6) → (is_sound b ≡ true → o ≡ answered_by a x.board (refusal_of x.answer))
    → (o ≡ x) × (answer_of o.answer ≡ answer_of x.answer)
responded b x o a refused is unsound sound = elim (test (is_sound b)) [
  | inl t ↦ with_answer (sound t ∙ sym is)
  | inr f ↦ with_answer (unsound f ∙ refused f)
]

module _ (b : Board) where
  pub offer_by : (site kind account other amount : ℕ) (cut : Cut) → let o = offering b site kind account other amount cut in
      o ≡ answered_by (Offered b.table.count) o.board (refusal_of o.answer)
  unfolding offering
  offer_by site kind account other amount cut =
      judged_by _ (omega arith, (omega arith, (omega arith, (omega arith, (omega arith, (omega arith, (omega arith, tt))))))) b _ (Offered b.table.count) refl refl

  pub receive_by : (form m from to : ℕ) (cut : Cut) → let o = receiving b form m from to cut in o ≡ answered_by Done o.board (refusal_of o.answer)
  unfolding receiving
  receive_by form m from to cut = judged_by _ (omega arith, (omega arith, (omega arith, (omega arith, (omega arith, (omega arith, tt)))))) b _ Done refl refl

  pub order_by : (m : ℕ) → let o = ordering b m in o ≡ answered_by Done o.board (refusal_of o.answer)
  unfolding ordering
  order_by m = judged_by _ (omega arith, (omega arith, tt)) b _ Done refl refl

  pub read_by : (site : ℕ) (cut : Cut) → let o = reading b site cut in o ≡ answered_by Done o.board (refusal_of o.answer)
  unfolding reading
  read_by site cut = judged_by _ (omega arith, (omega arith, (omega arith, (omega arith, (omega arith, (omega arith, tt)))))) b _ Done refl refl

  pub crash_by : (site : ℕ) → let o = crashing b site in o ≡ answered_by Done o.board (refusal_of o.answer)
  unfolding crashing
  crash_by site = judged_by _ (omega arith, (omega arith, (omega arith, (omega arith, tt)))) b _ Done refl refl

-- a board laid out, the call taken in place, and the board taken off
pub taken_call :
    (b : Board) (a d : Arrays) (call : Call) (why : ℕ) → is_sound b ≡ true → view b.setup a ≡ b → Right a → flat why d ≡ flat_perform b.setup a call
    → (r : Board) → r ≡ view b.setup d → (r ≡ (taking b call).board) × (why ≡ refusal_of (taking b call).answer)
taken_call b a d call why sound v ok e r f =
    let here : is_sound (view b.setup a) ≡ true = rw v sound in
    let g = perform_gives b.setup a ok here call in
    let same : taking (view b.setup a) call ≡ taking b call = ap (λ (x : Board). taking x call) v in (
      f ∙ ap (λ (x : Flat). view b.setup x.arrays) e ∙ g.shown ∙ ap (λ (o : Outcome). o.board) same,
      ap (λ (x : Flat). x.answer) e ∙ g.answer ∙ ap (λ (o : Outcome). refusal_of o.answer) same,
    )
