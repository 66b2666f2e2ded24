-- Ways to what comes of a trial that take fewer steps to evaluate, each proved the same; and that a table holds, by a way for each case or in parts.
-- Rests on Known and Trials. Assumes nothing.
use Prim.Native.Nat.{ℕ, zero, suc, ◌+◌}
use mathlib.Core.Path.{◌≡◌, refl, ap, ap₂, subst, ◌∙◌}
use mathlib.Core.Bool.{Bool, true}
use mathlib.Core.List.{List, [], ◌∷◌, map}
use native.Mathlib.Omega.{arith}
use lib.IntN.{ℤ}
use lib.ListN.{take, drop}
use Rattle.steps.specs.declared.Call.{Call}
use Rattle.machine.specs.declared.Board.{Board}
use Rattle.machine.specs.Calls.{starting}
use Rattle.machine.specs.Runs.{accepted, running}
use Rattle.machine.specs.Figures.{Shown}
use Rattle.drain.specs.declared.Drained.{Drained}
use Rattle.drain.specs.Drain.{next_event, drained}
use Rattle.invariants.proofs.Reached.{run_good}
use Rattle.cases.specs.Trials.{Trial, calls, part, part_of_all, next, drain, look, prints, Result, answered, numbers, does, ended, text, found, Case, trial_of, result_of, results, Hold}
use Rattle.cases.proofs.Known.{running_known, answers_known, draining_known, showing_known, showing_all_known, looked_known, running_known_lem, answers_known_lem, drained_known, drained_fit, showing_known_lem, showing_all_known_lem, looked_known_lem, printed_known, printed_known_lem, Fit, fit_sound, start_fit}

-- ---- a table

pub record Way (trial : Trial) : Type 0 where
  pub result : Result
  pub same : found trial ≡ result

-- a way for each case of a table, in order
infixr 60 ◌then◌
pub data Ways : List Case → Type 0 where
  over : Ways []
  ◌then◌ : {c : Case} {l : List Case} → Way (trial_of c) → Ways l → Ways (c ∷ l)

-- what they lead to
unfoldable pub ends : {l : List Case} → Ways l → List Result
ends over = []
ends (way then ways) = way.result ∷ ends ways

same_ends : {l : List Case} (ways : Ways l) → map (λ c. found (trial_of c)) l ≡ ends ways
unfolding ends
same_ends over = refl
same_ends (way then ways) = ap₂ (λ (r : Result) (rest : List Result). r ∷ rest) way.same (same_ends ways)

pub ways_hold : {l : List Case} (ways : Ways l) → ends ways ≡ results l → Hold l
ways_hold ways e = same_ends ways ∙ e

-- A table may be evaluated in parts, since the checker limits the steps of one declaration: k cases, and then the others.
first_hold : (k : ℕ) (l : List Case) → Hold (take k l) → Hold (drop k l) → Hold l
first_hold zero l first rest = rest
first_hold (suc k) [] first rest = refl
first_hold (suc k) (c ∷ l) first rest =
    ap₂ (λ (r : Result) (more : List Result). r ∷ more) (ap head first) (first_hold k l (ap tail first) rest)
  where
    head : List Result → Result
    head [] = result_of c
    head (r ∷ more) = r

    tail : List Result → List Result
    tail [] = []
    tail (r ∷ more) = more

-- k cases from case j on, and then the others
pub part_hold : (j k : ℕ) (l : List Case) → Hold (take k (drop j l)) → Hold (drop (j + k) l) → Hold (drop j l)
part_hold zero k l first rest =
    let e : 0 + k ≡ k = omega arith in
    first_hold k l first (subst (λ (i : ℕ). Hold (drop i l)) e rest)
part_hold (suc j) k [] first rest = refl
part_hold (suc j) k (c ∷ l) first rest =
    let e : suc j + k ≡ suc (j + k) = omega arith in
    part_hold j k l first (subst (λ (i : ℕ). Hold (drop i (c ∷ l))) e rest)

-- ---- ways

-- as it is
abbrev pub plain : {trial : Trial} → Way trial
plain {trial = trial} = record { result = found trial; same = refl }

-- a board that is sound and in shape, and a way to it
pub record KnownSound (b : Board) : Type 0 where
  pub board : Board
  pub same : b ≡ board
  pub fit : Fit b

-- that of an accepted start; one that a run ends on; one that a drain ends on
unfoldable pub starts : (n f matrix : ℕ) → accepted (starting n f matrix).answer ≡ true → KnownSound (starting n f matrix).board
starts n f matrix ok = record { board = (starting n f matrix).board; same = refl; fit = start_fit n f matrix ok }

unfoldable pub runs : {b : Board} → KnownSound b → (l : List Call) → KnownSound (running b l)
runs {b = b} r l = record {
  board = running_known r.board l;
  same = running_known_lem b l r.fit ∙ ap (λ (x : Board). running_known x l) r.same;
  fit = run_good b l r.fit;
}

pub same_drain : {b : Board} (r : KnownSound b) (limit : ℕ) → drained b limit ≡ draining_known limit limit 0 r.board
same_drain {b = b} r limit = drained_known b limit r.fit ∙ ap (draining_known limit limit 0) r.same

unfoldable pub empties : {b : Board} → KnownSound b → (limit : ℕ) → KnownSound (drained b limit).board
empties {b = b} r limit = record {
  board = (draining_known limit limit 0 r.board).board;
  same = ap (λ (d : Drained). d.board) (same_drain r limit);
  fit = drained_fit b limit r.fit;
}

-- calls on such a board
unfoldable pub calling : {b : Board} {l : List Call} → KnownSound b → Way (calls b l)
unfolding found
calling {b = b} {l = l} r = record {
  result = answered (answers_known r.board l);
  same = ap answered (answers_known_lem b l r.fit ∙ ap (λ (x : Board). answers_known x l) r.same);
}

-- a drain
unfoldable pub emptying : {b : Board} {limit : ℕ} → KnownSound b → Way (drain b limit)
unfolding found
emptying {limit = limit} r =
    let d = draining_known limit limit 0 r.board in
    record {
      result = ended d.count d.ending;
      same = ap (λ (d : Drained). ended d.count d.ending) (same_drain r limit);
    }

-- a look
unfoldable pub looking : {b : Board} {l : List Call} {limit : ℕ} → KnownSound b → Way (look b l limit)
unfolding found
looking {b = b} {l = l} {limit = limit} r = record {
  result = looked_known r.board l limit;
  same = looked_known_lem b l limit r.fit ∙ ap (λ (x : Board). looked_known x l limit) r.same;
}

-- what books leave of a slice
unfoldable pub filling : {b : Board} {site : ℕ} {lent : List ℤ} {place long : ℕ} → KnownSound b → Way (part b site lent place long)
unfolding found
filling {b = b} {site = site} {lent = lent} {place = place} {long = long} r = record {
  result = numbers (take long (drop place (showing_known r.board site lent).slice));
  same =
      ap (λ (s : Shown). numbers (take long (drop place s.slice)))
      (showing_known_lem b (fit_sound b r.fit) site lent ∙ ap (λ (x : Board). showing_known x site lent) r.same);
}

unfoldable pub filling_all : {b : Board} {lent : List ℤ} {place long : ℕ} → KnownSound b → Way (part_of_all b lent place long)
unfolding found
filling_all {b = b} {lent = lent} {place = place} {long = long} r = record {
  result = numbers (take long (drop place (showing_all_known r.board lent).slice));
  same =
      ap (λ (s : Shown). numbers (take long (drop place s.slice)))
      (showing_all_known_lem b (fit_sound b r.fit) lent ∙ ap (λ (x : Board). showing_all_known x lent) r.same);
}

-- what a drain does next
unfoldable pub choosing : {b : Board} → KnownSound b → Way (next b)
unfolding found
choosing {b = b} r = record { result = does (next_event r.board); same = ap (λ (x : Board). does (next_event x)) r.same }

-- what is printed
unfoldable pub printing : {file : List ℕ} → Way (prints file)
unfolding found
printing {file = file} = record { result = text (printed_known file); same = ap text (printed_known_lem file) }

-- any trial on a board that is the same as another
unfoldable pub instead : (try : Board → Trial) {b other : Board} → b ≡ other → Way (try b)
instead try {b = b} {other = other} e = record { result = found (try other); same = ap (λ (x : Board). found (try x)) e }

-- An unfolding line with this name unfolds all of the above.
unfoldable pub ways : Bool
unfolding ends starts runs empties calling emptying looking filling filling_all choosing printing instead
ways = true
