-- Look-ups: the definitions compute to what the tables say.
-- Rests on Balances, on cases and figure_cases for the board, on lookups. Assumes nothing.
use Prim.Native.Nat.{ℕ}
use mathlib.Core.Path.{◌≡◌, refl, ap, ◌∙◌, fun_ext}
use mathlib.Core.Bool.{Bool, true, cond}
use mathlib.Core.List.{List, [], ◌∷◌, map}
use lib.Dec.{eqb}
use lib.IntN.{ℤ}
use lib.ListN.{length}
use Rattle.sets.specs.Below.{any_below}
use Rattle.machine.specs.declared.Board.{Board}
use Rattle.machine.specs.Boards.{blank_board}
use Rattle.machine.specs.Soundness.{is_sound}
use Rattle.machine.specs.Calls.{refusal_of}
use Rattle.machine.specs.Figures.{figures_of, shown}
use Rattle.cases.proofs.Computes.{computes}
use Rattle.cases.proofs.Known.{known, fit_sound}
use Rattle.cases.proofs.Ways.{KnownSound, ways}
use Rattle.cases.proofs.KnownBoards.{boards}
use Rattle.figure_cases.specs.Figures.{parted}
use Rattle.figure_cases.proofs.Evaluated.{parted_known}
use Rattle.lookup_pairs.specs.Pairs.{pair_causes, is_named, visited_to, lines_to, lines_of}
use Rattle.lookups.specs.Lookups.{visited_of, Looked, looking_up}
use Rattle.lookup_cases.specs.Balances.{Case, Hold, times, refuses, sevens, balances, many}

-- a look-up without cause 6, the test of soundness, which takes most steps
unfoldable pub looking_up_known : Board → List ℕ → List ℤ → Looked
looking_up_known b pairs slice =
    let s = shown (pair_causes b.setup.n (length slice) pairs) slice (lines_of (figures_of b) pairs) in
    record { answer = s.answer; visited = cond (eqb (refusal_of s.answer) 0) (visited_of b pairs) 0; slice = s.slice }

looking_known : (b : Board) → is_sound b ≡ true → (pairs : List ℕ) (slice : List ℤ) → looking_up b pairs slice ≡ looking_up_known b pairs slice
unfolding looking_up looking_up_known shown
looking_known b sound pairs slice = rw sound refl

-- a table holds on a board that is sound, if it does so without the test
known_hold : {b : Board} (r : KnownSound b) (cases : List Case) → map (λ c. looking_up_known r.board c.pairs c.lent) cases ≡ map (λ c. c.gives) cases → Hold b cases
known_hold {b = b} r cases e =
    ap (λ (f : Case → Looked). map f cases)
    (fun_ext (λ c. looking_known b (fit_sound b r.fit) c.pairs c.lent ∙ ap (λ (x : Board). looking_up_known x c.pairs c.lent) r.same))
    ∙ e

-- An unfolding line with this name unfolds what a look-up rests on.
unfoldable pub looks : Bool
unfolding any_below is_named visited_to lines_to visited_of looking_up_known times
looks = true

balances_ends : map (λ c. looking_up_known parted_known.board c.pairs c.lent) balances ≡ map (λ c. c.gives) balances
unfolding computes known ways boards parted_known looks balances
balances_ends = refl {a = map (λ c. c.gives) balances}

pub balances_hold : Hold parted balances
balances_hold = known_hold parted_known balances balances_ends

many_ends : map (λ c. looking_up_known parted_known.board c.pairs c.lent) many ≡ map (λ c. c.gives) many
unfolding computes known ways boards parted_known looks many
many_ends = refl {a = map (λ c. c.gives) many}

pub many_hold : Hold parted many
many_hold = known_hold parted_known many many_ends

-- 6: the blank board, where 7 and 18 apply too
pub blank_refused : Hold blank_board (refuses (0 ∷ 16 ∷ []) (sevens 3) 6 ∷ [])
unfolding computes looking_up
blank_refused = refl {a = map (λ c. c.gives) (refuses (0 ∷ 16 ∷ []) (sevens 3) 6 ∷ [])}
