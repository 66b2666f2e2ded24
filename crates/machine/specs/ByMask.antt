-- What the code of a call gives in parts: the number of the refusal; a step with what it sends as a mask of receivers; the board that it leaves.
-- Proof machinery: proofs/ ties each to Calls. Rests on Boards and Soundness, on steps and flight.
use Rattle.std.specs.Prelude.{ℕ, cond, not, eqb, List, [], ◌∷◌, set}
use Rattle.sets.specs.Sets.{with_if}
use Rattle.posting.specs.Kinds.{symmetric, has_fixed_pairs}
use Rattle.site.specs.declared.Setup.{Setup}
use Rattle.site.specs.declared.Stepped.{Stepped}
use Rattle.site.specs.Sites.{sites}
use Rattle.flight.specs.ByMask.{sending_mask}
use Rattle.steps.specs.ByMask.{after_delivery, enters, entered}
use Rattle.machine.specs.declared.Board.{Board}
use Rattle.machine.specs.declared.Outcome.{Outcome}
use Rattle.machine.specs.declared.Answer.{Answer}
use Rattle.machine.specs.declared.Answer.TheVariants.{Done, Refused}
use Rattle.machine.specs.Boards.{entry_at}
use Rattle.machine.specs.Soundness.{sites_ok, crashes_ok}
use Rattle.steps.specs.Causes.{Cause, cause}

-- ---- refusals

-- 2 to 5 of a start
abbrev pub start_causes : ℕ → ℕ → ℕ → List Cause
start_causes n f matrix =
    let setup : Setup = record { n = n; f = f; matrix = matrix } in
    cause 2 (not (sites_ok setup))
    ∷ cause 3 (not (crashes_ok setup))
    ∷ cause 4 (not (symmetric matrix))
    ∷ cause 5 (not (has_fixed_pairs matrix))
    ∷ []

-- a call refused, and done
abbrev pub refusing : Board → ℕ → Outcome
refusing b why = record { board = b; answer = Refused why }

abbrev pub taken : Board → Outcome
taken b = record { board = b; answer = Done }

-- the outcome by the number of the refusal, 0 if the call was accepted and so answers
abbrev pub answered_by : Answer → Board → ℕ → Outcome
answered_by accepted b why = record { board = b; answer = cond (eqb why 0) accepted (Refused why) }

-- ---- the board

-- the board once site p has taken a step about m, sent, and delivered
unfoldable pub placed : Board → ℕ → ℕ → Stepped → Board
placed b p m s =
    record {
      setup = b.setup;
      down = b.down;
      table = b.table;
      sites = set b.sites p (after_delivery s m);
      tallies = set b.tallies m s.tally;
      flight = sending_mask b.flight p s.sends.form m s.sends.to s.sends.good s.sends.carried;
      pool = with_if b.pool m (enters s.sends);
      entries = set b.entries m (entered (entry_at b m) s.sends);
      log = b.log;
    }
