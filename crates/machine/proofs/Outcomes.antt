-- What each return of a call's code gives is what Calls says, from the numbers that its tests gave: one law for each return.
-- Rests on Causes, Placed and Facts. Assumes nothing.
use Prim.Native.Nat.{ℕ, ◌<◌, ◌≤◌}
use mathlib.Core.Path.{◌≡◌, refl, sym, ap, ◌∙◌}
use mathlib.Core.Logic.{◌≢◌}
use mathlib.Core.Bool.{true, false, not}
use mathlib.Core.List.{List, [], ◌++◌}
use native.Mathlib.Omega.{arith}
use lib.ListN.{length}
use lib.Count.{ones}
use borrow.Author.Tests.{le-leb, lt-leb}
use Rattle.sets.specs.declared.Set.{Set}
use Rattle.sets.specs.Sets.{has, without}
use Rattle.posting.specs.declared.Posting.{Posting}
use Rattle.posting.specs.declared.Record.{Record}
use Rattle.posting.specs.Records.{append}
use Rattle.site.specs.declared.Stepped.{Stepped}
use Rattle.site.specs.Sites.{sites, plus}
use Rattle.site.specs.Sends.{Step}
use Rattle.site.specs.Steps.{on_offer}
use Rattle.site.specs.ByMask.{step_of, offer_by_mask}
use Rattle.site.proofs.ByMaskLaws.{offer_is}
use Rattle.site.proofs.Fits.{offer_fits}
use Rattle.machine.specs.declared.Board.{Board}
use Rattle.steps.specs.declared.Cut.{Cut}
use Rattle.machine.specs.declared.Outcome.{Outcome}
use Rattle.machine.specs.declared.Answer.TheVariants.{Offered}
use Rattle.machine.specs.Boards.{site_at, tally_at, board_table, board_down, board_pool}
use Rattle.posting.specs.Conflicts.{table_with}
use Rattle.machine.specs.Soundness.{is_sound}
use Rattle.steps.specs.Causes.{Cause}
use Rattle.steps.specs.CauseLists.{first_cause, site_causes, offer_causes, cut_causes}
use Rattle.machine.specs.Calls.{judged, carried_out, crashes_spent, offering, ordering, crashing}
use Rattle.machine.specs.ByMask.{refusing, taken}
use Rattle.machine.proofs.Causes.{Numbered, unsound, stops, goes_on, passes, one_cause, one_applies, one_passes}
use Rattle.machine.proofs.Placed.{sends_length}
use Rattle.machine.proofs.Facts.{few}

-- ---- order and crash

module _ (b : Board) (sound : is_sound b ≡ true) (m : ℕ) where
  abbrev ordered : Outcome
  ordered = taken (board_pool b (without b.pool m) b.entries (append b.log m))

  pub order_refused : has b.pool m ≡ false → refusing b 12 ≡ ordering b m
  unfolding ordering
  order_refused f = stops b sound ordered (one_cause 12 (not (has b.pool m))) [] 12 (one_applies 12 (not (has b.pool m)) (rw f)) (λ e. absurd (omega arith))

  pub order_done : has b.pool m ≡ true → (pool : Set) (log : Record) → pool ≡ without b.pool m → log ≡ append b.log m
      → taken (board_pool b pool b.entries log) ≡ ordering b m
  unfolding ordering
  order_done t pool log p q = rw (p, q) (sym (passes b sound ordered (one_cause 12 (not (has b.pool m))) 0 (omega arith, tt) (one_passes 12 (not (has b.pool m)) (rw t)) refl))

module _ (b : Board) (sound : is_sound b ≡ true) (site : ℕ) (why : ℕ) (tested : why ≡ first_cause (site_causes b.setup.n b.down site)) where
  abbrev crashed : Outcome
  crashed = taken (board_down b (plus b.down site))

  abbrev spent : List Cause
  spent = one_cause 14 (crashes_spent b)

  numbered : Numbered (site_causes b.setup.n b.down site)
  numbered = (omega arith, (omega arith, tt))

  pub crash_site : why ≢ 0 → refusing b why ≡ crashing b site
  unfolding crashing
  crash_site d = stops b sound crashed (site_causes b.setup.n b.down site) spent why tested d

  pub crash_spent : why ≡ 0 → b.setup.f ≤ ones b.down → refusing b 14 ≡ crashing b site
  unfolding crashing
  crash_spent z h =
      stops b sound crashed spent [] 14 (one_applies 14 (crashes_spent b) (le-leb b.setup.f (ones b.down) h)) (λ e. absurd (omega arith))
      ∙ sym (goes_on b sound crashed (site_causes b.setup.n b.down site) spent why numbered tested z)

  pub crash_done : why ≡ 0 → ones b.down < b.setup.f → (down : ℕ) → down ≡ plus b.down site → taken (board_down b down) ≡ crashing b site
  unfolding crashing
  crash_done z h down e =
      rw e (sym (goes_on b sound crashed (site_causes b.setup.n b.down site) spent why numbered tested z
      ∙ passes b sound crashed spent 0 (omega arith, tt) (one_passes 14 (crashes_spent b) (lt-leb b.setup.f (ones b.down) h)) refl))

-- ---- offer

module _ (b : Board) (sound : is_sound b ≡ true) (site kind account other amount : ℕ) (cut : Cut) (few' : b.setup.n ≤ sites)
    (why : ℕ) (tested : why ≡ first_cause (site_causes b.setup.n b.down site)) where
  abbrev posting : Posting
  posting = record { owner = site; kind = kind; a = account; b = other; amount = amount }

  abbrev m : ℕ
  m = b.table.count

  abbrev step : Stepped
  step = offer_by_mask b.setup (site_at b site) (tally_at b m)

  abbrev offer_step : Step
  offer_step = on_offer b.setup (site_at b site) (tally_at b m) m

  abbrev offer_taken : Outcome
  offer_taken = record { board = carried_out (board_table b (table_with b.table posting)) site m offer_step cut; answer = Offered m }

  abbrev ones_first : List Cause
  ones_first = site_causes b.setup.n b.down site

  abbrev fields : List Cause
  fields = offer_causes posting m

  abbrev cuts : ℕ → List Cause
  cuts sends = cut_causes b.setup.f b.down sends cut

  numbered_sites : Numbered ones_first
  numbered_sites = (omega arith, (omega arith, tt))

  sends_are : length offer_step.sends ≡ ones step.sends.to
  sends_are =
      ap (λ (s : Step). length s.sends) (sym (offer_is b.setup b.table (site_at b site) (tally_at b m) m few'))
      ∙ sends_length b site m step (offer_fits b.setup b.table (site_at b site) (tally_at b m) m)

  pub offer_site : why ≢ 0 → refusing b why ≡ offering b site kind account other amount cut
  unfolding offering
  offer_site d = stops b sound offer_taken ones_first (fields ++ cuts (length offer_step.sends)) why tested d

  module _ (z : why ≡ 0) (no : ℕ) (tested-fields : no ≡ first_cause fields) where
    first_passed : judged (unsound b ++ (ones_first ++ (fields ++ cuts (length offer_step.sends)))) b offer_taken ≡ judged (unsound b ++ (fields ++ cuts (length offer_step.sends))) b offer_taken
    first_passed = goes_on b sound offer_taken ones_first (fields ++ cuts (length offer_step.sends)) why numbered_sites tested z

    pub offer_fields : no ≢ 0 → refusing b no ≡ offering b site kind account other amount cut
    unfolding offering
    offer_fields d = stops b sound offer_taken fields (cuts (length offer_step.sends)) no tested-fields d ∙ sym first_passed

    module _ (y : no ≡ 0) (late : ℕ) (tested-cut : late ≡ first_cause (cuts (ones step.sends.to))) where
      second_passed : judged (unsound b ++ (fields ++ cuts (length offer_step.sends))) b offer_taken ≡ judged (unsound b ++ cuts (length offer_step.sends)) b offer_taken
      second_passed = goes_on b sound offer_taken fields (cuts (length offer_step.sends)) no (omega arith, (omega arith, tt)) tested-fields y

      cut_tested : late ≡ first_cause (cuts (length offer_step.sends))
      cut_tested = tested-cut ∙ rw sends_are

      pub offer_late : late ≢ 0 → refusing b late ≡ offering b site kind account other amount cut
      unfolding offering
      offer_late d = stops b sound offer_taken (cuts (length offer_step.sends)) [] late cut_tested d ∙ sym (first_passed ∙ second_passed)

      pub offer_done : late ≡ 0 → (after : Board) → after ≡ carried_out (board_table b (table_with b.table posting)) site m (step_of m step) cut
          → record { board = after; answer = Offered m } ≡ offering b site kind account other amount cut
      unfolding offering
      offer_done x after e =
          rw (e, offer_is b.setup b.table (site_at b site) (tally_at b m) m few')
          (sym (first_passed ∙ second_passed ∙ passes b sound offer_taken (cuts (length offer_step.sends)) late (omega arith, (omega arith, tt)) cut_tested x))
