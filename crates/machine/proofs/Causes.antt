-- Refusals by number: a list of causes judged part by part, as the code tests them.
-- Rests on Calls and ByMask. Assumes nothing.
use Prim.Native.Nat.{ℕ, ◌<◌}
use mathlib.Core.Path.{◌≡◌, refl, sym, ◌∙◌}
use mathlib.Core.Logic.{inl, inr, ◌≢◌}
use mathlib.Core.Bool.{Bool, true, false, not}
use mathlib.Core.List.{List, [], ◌∷◌, ◌++◌, append-nil}
use native.Mathlib.Omega.{arith}
use Rattle.sets.proofs.Truth.{test}
use Rattle.machine.specs.declared.Board.{Board}
use Rattle.machine.specs.declared.Outcome.{Outcome}
use Rattle.machine.specs.declared.Answer.TheVariants.{Refused}
use Rattle.machine.specs.Boards.{fresh_board, blank_board}
use Rattle.machine.specs.Soundness.{is_sound}
use Rattle.steps.specs.Causes.{Cause, cause}
use Rattle.steps.specs.CauseLists.{first_cause}
use Rattle.machine.specs.Calls.{judged, starting}
use Rattle.machine.specs.ByMask.{start_causes, refusing, taken}

-- the numbers of causes are not 0
abbrev pub Numbered : List Cause → Type 0
Numbered [] = Unit {0}
Numbered (c ∷ l) = (0 < c.number) × Numbered l

-- none of the first causes applies: the rest decides
pub judged_rest : (l r : List Cause) → Numbered l → (back : Board) (taken : Outcome) → first_cause l ≡ 0 → judged (l ++ r) back taken ≡ judged r back taken
unfolding judged first_cause
judged_rest [] r h back taken e = refl
judged_rest (c ∷ l) r h back taken e = elim (test c.applies) [
  | inl t ↦ let k : c.number ≡ 0 = rw t at e in absurd (omega (arith, h.0))
  | inr f ↦ rw f (judged_rest l r h.1 back taken (rw f at e))
]

-- one of the first causes applies: its number refuses
pub judged_first : (l r : List Cause) (back : Board) (taken : Outcome) → first_cause l ≢ 0 → judged (l ++ r) back taken ≡ record { board = back; answer = Refused (first_cause l) }
unfolding judged first_cause
judged_first [] r back taken d = absurd (d refl)
judged_first (c ∷ l) r back taken d = elim (test c.applies) [
  | inl t ↦ rw t
  | inr f ↦ rw f (judged_first l r back taken (λ e. d (rw f e)))
]

-- ---- lists of causes in three parts

-- 6, of a board that is sound
abbrev pub unsound : Board → List Cause
unsound b = cause 6 (not (is_sound b)) ∷ []

module _ (b : Board) (sound : is_sound b ≡ true) (accepted : Outcome) where
  none : first_cause (unsound b) ≡ 0
  unfolding first_cause
  none = rw sound

  after_sound : (r : List Cause) → judged (unsound b ++ r) b accepted ≡ judged r b accepted
  after_sound r = judged_rest (unsound b) r (omega arith, tt) b accepted none

  pub stops : (l r : List Cause) (why : ℕ) → why ≡ first_cause l → why ≢ 0 → refusing b why ≡ judged (unsound b ++ (l ++ r)) b accepted
  stops l r why e d = sym (after_sound (l ++ r) ∙ judged_first l r b accepted (λ z. d (e ∙ z)) ∙ rw (sym e))

  pub goes_on : (l r : List Cause) (why : ℕ) → Numbered l → why ≡ first_cause l → why ≡ 0 → judged (unsound b ++ (l ++ r)) b accepted ≡ judged (unsound b ++ r) b accepted
  goes_on l r why h e z = after_sound (l ++ r) ∙ judged_rest l r h b accepted (sym e ∙ z) ∙ sym (after_sound r)

  pub passes : (l : List Cause) (why : ℕ) → Numbered l → why ≡ first_cause l → why ≡ 0 → judged (unsound b ++ l) b accepted ≡ accepted
  unfolding judged
  passes l why h e z = rw (sym (append-nil l)) (goes_on l [] why h e z ∙ after_sound [])

abbrev pub one_cause : ℕ → Bool → List Cause
one_cause k applies = cause k applies ∷ []

pub one_applies : (k : ℕ) (applies : Bool) → applies ≡ true → k ≡ first_cause (one_cause k applies)
unfolding first_cause
one_applies k applies t = rw t

pub one_passes : (k : ℕ) (applies : Bool) → applies ≡ false → 0 ≡ first_cause (one_cause k applies)
unfolding first_cause
one_passes k applies f = rw f

-- an unsound board is refused
pub unsound_refused : (b : Board) → is_sound b ≡ false → (l : List Cause) (accepted : Outcome) → refusing b 6 ≡ judged (cause 6 (not (is_sound b)) ∷ l) b accepted
unfolding judged
unsound_refused b f l accepted = rw f

-- ---- start

module _ (n f matrix : ℕ) (why : ℕ) (board : Board) (tested : why ≡ first_cause (start_causes n f matrix)) where
  abbrev started : Outcome
  started = taken (fresh_board (record { n = n; f = f; matrix = matrix }))

  pub start_refused : why ≢ 0 → board ≡ blank_board → refusing board why ≡ starting n f matrix
  unfolding starting
  start_refused d e = rw e (sym (judged_first (start_causes n f matrix) [] blank_board started (λ z. d (tested ∙ z)) ∙ rw (sym tested)))

  pub start_done : why ≡ 0 → board ≡ fresh_board (record { n = n; f = f; matrix = matrix }) → taken board ≡ starting n f matrix
  unfolding starting judged
  start_done z e = rw e (sym (judged_rest (start_causes n f matrix) [] (omega arith, (omega arith, (omega arith, (omega arith, tt)))) blank_board started (sym tested ∙ z)))
