-- What each return of receive's and read's code gives is what Calls says: one law for each return.
-- Rests on Causes, Placed and Facts. Assumes nothing.
use Prim.Native.Nat.{ℕ, ◌<◌, ◌≤◌}
use mathlib.Core.Path.{◌≡◌, refl, sym, ap, ◌∙◌}
use mathlib.Core.Logic.{◌≢◌}
use mathlib.Core.Bool.{true, false, not}
use mathlib.Core.List.{List, [], ◌++◌}
use native.Mathlib.Omega.{arith}
use lib.Dec.{leb}
use lib.ListN.{length}
use lib.Count.{ones}
use borrow.Author.Tests.{le-leb, lt-leb}
use Rattle.site.specs.declared.Stepped.{Stepped}
use Rattle.site.specs.Sends.{Step}
use Rattle.site.specs.Steps.{on_entry}
use Rattle.site.specs.ByMask.{step_of}
use Rattle.flight.specs.Flights.{cells, in_flight, taking_out}
use Rattle.machine.specs.declared.Board.{Board}
use Rattle.steps.specs.declared.Cut.{Cut}
use Rattle.machine.specs.declared.Outcome.{Outcome}
use Rattle.machine.specs.Boards.{site_at, tally_at, entry_at, logged_at, board_flight}
use Rattle.machine.specs.Soundness.{is_sound}
use Rattle.steps.specs.Causes.{Cause}
use Rattle.steps.specs.CauseLists.{first_cause, site_causes, message_causes, cut_causes}
use Rattle.machine.specs.Calls.{judged, carried_out, receipt_of, receiving, reading}
use Rattle.machine.specs.ByMask.{refusing, taken}
use Rattle.machine.proofs.Causes.{unsound, stops, goes_on, passes, one_cause, one_applies, one_passes}
use Rattle.machine.proofs.Placed.{sends_length, receipt, receipt_fits, receipt_is}
use Rattle.machine.proofs.Facts.{few, message_owner, message_placed}

-- ---- receive

module _ (b : Board) (sound : is_sound b ≡ true) (long : length b.flight.masks ≡ cells) (form m from to : ℕ) (cut : Cut)
    (why : ℕ) (tested : why ≡ first_cause (message_causes b.setup.n b.down from to)) where
  abbrev step : Stepped
  step = receipt b form m from to

  abbrev sends : ℕ
  sends = length (receipt_of b form m from to).sends

  abbrev after_taking : Step → Board
  after_taking s = carried_out (board_flight b (taking_out b.flight form m from to)) to m s cut

  abbrev received : Outcome
  received = taken (after_taking (receipt_of b form m from to))

  abbrev sites_first : List Cause
  sites_first = message_causes b.setup.n b.down from to

  abbrev coming : List Cause
  coming = one_cause 11 (not (in_flight b.flight form m from to))

  abbrev cuts : ℕ → List Cause
  cuts k = cut_causes b.setup.f b.down k cut

  pub receive_site : why ≢ 0 → refusing b why ≡ receiving b form m from to cut
  unfolding receiving
  receive_site d = stops b sound received sites_first (coming ++ cuts sends) why tested d

  module _ (z : why ≡ 0) where
    first_passed : judged (unsound b ++ (sites_first ++ (coming ++ cuts sends))) b received ≡ judged (unsound b ++ (coming ++ cuts sends)) b received
    first_passed = goes_on b sound received sites_first (coming ++ cuts sends) why (omega arith, (omega arith, tt)) tested z

    pub receive_none : in_flight b.flight form m from to ≡ false → refusing b 11 ≡ receiving b form m from to cut
    unfolding receiving
    receive_none f =
        stops b sound received coming (cuts sends) 11 (one_applies 11 (not (in_flight b.flight form m from to)) (rw f)) (λ e. absurd (omega arith))
        ∙ sym first_passed

    module _ (t : in_flight b.flight form m from to ≡ true) (late : ℕ) (tested-cut : late ≡ first_cause (cuts (ones step.sends.to))) where
      second_passed : judged (unsound b ++ (coming ++ cuts sends)) b received ≡ judged (unsound b ++ cuts sends) b received
      second_passed = goes_on b sound received coming (cuts sends) 0 (omega arith, tt) (one_passes 11 (not (in_flight b.flight form m from to)) (rw t)) refl

      is : step_of m step ≡ receipt_of b form m from to
      is = receipt_is b form m from to (few b long sound) (message_placed b form m from to t).from_below (message_owner b long sound form m from to t)

      cut_tested : late ≡ first_cause (cuts sends)
      cut_tested =
          tested-cut
          ∙ ap (λ (k : ℕ). first_cause (cuts k)) (sym (sends_length b to m step (receipt_fits b form m from to)) ∙ ap (λ (s : Step). length s.sends) is)

      pub receive_late : late ≢ 0 → refusing b late ≡ receiving b form m from to cut
      unfolding receiving
      receive_late d = stops b sound received (cuts sends) [] late cut_tested d ∙ sym (first_passed ∙ second_passed)

      pub receive_done : late ≡ 0 → (after : Board) → after ≡ after_taking (step_of m step) → taken after ≡ receiving b form m from to cut
      unfolding receiving
      receive_done x after e =
          rw (e, is) (sym (first_passed ∙ second_passed ∙ passes b sound received (cuts sends) late (omega arith, (omega arith, tt)) cut_tested x))

-- ---- read

module _ (b : Board) (sound : is_sound b ≡ true) (site : ℕ) (cut : Cut)
    (why : ℕ) (tested : why ≡ first_cause (site_causes b.setup.n b.down site)) where
  abbrev logged : ℕ
  logged = logged_at b (site_at b site).place

  abbrev entry_step : Step
  entry_step = on_entry (site_at b site) (tally_at b logged) logged (entry_at b logged)

  abbrev has_read : Outcome
  has_read = taken (carried_out b site logged entry_step cut)

  abbrev site_first : List Cause
  site_first = site_causes b.setup.n b.down site

  abbrev ended : List Cause
  ended = one_cause 13 (leb b.log.count (site_at b site).place)

  abbrev no_sends : List Cause
  no_sends = cut_causes b.setup.f b.down 0 cut

  abbrev read_causes : ℕ → List Cause
  read_causes k = unsound b ++ (site_first ++ (ended ++ cut_causes b.setup.f b.down k cut))

  reads_so : reading b site cut ≡ judged (read_causes 0) b has_read
  unfolding reading on_entry
  reads_so = refl

  pub read_site : why ≢ 0 → refusing b why ≡ reading b site cut
  read_site d = stops b sound has_read site_first (ended ++ no_sends) why tested d ∙ sym reads_so

  module _ (z : why ≡ 0) where
    site_passed : judged (read_causes 0) b has_read ≡ judged (unsound b ++ (ended ++ no_sends)) b has_read
    site_passed = goes_on b sound has_read site_first (ended ++ no_sends) why (omega arith, (omega arith, tt)) tested z

    pub read_ended : b.log.count ≤ (site_at b site).place → refusing b 13 ≡ reading b site cut
    read_ended h =
        stops b sound has_read ended no_sends 13 (one_applies 13 (leb b.log.count (site_at b site).place) (le-leb b.log.count (site_at b site).place h)) (λ e. absurd (omega arith))
        ∙ sym (reads_so ∙ site_passed)

    module _ (left : (site_at b site).place < b.log.count) (late : ℕ) (tested-cut : late ≡ first_cause no_sends) where
      log_passed : judged (unsound b ++ (ended ++ no_sends)) b has_read ≡ judged (unsound b ++ no_sends) b has_read
      log_passed = goes_on b sound has_read ended no_sends 0 (omega arith, tt) (one_passes 13 (leb b.log.count (site_at b site).place) (lt-leb b.log.count (site_at b site).place left)) refl

      pub read_late : late ≢ 0 → refusing b late ≡ reading b site cut
      read_late d = stops b sound has_read no_sends [] late tested-cut d ∙ sym (reads_so ∙ site_passed ∙ log_passed)

      pub read_done : late ≡ 0 → (after : Board) → after ≡ carried_out b site logged entry_step cut → taken after ≡ reading b site cut
      read_done x after e = rw e (sym (reads_so ∙ site_passed ∙ log_passed ∙ passes b sound has_read no_sends late (omega arith, (omega arith, tt)) tested-cut x))
