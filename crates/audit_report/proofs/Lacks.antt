-- What was noted of each site is what it lacks: its lines, whether all hold all, and a posting for each lowest number.
-- Rests on audit_lacks. Assumes nothing.
use Prim.Native.Nat.{ℕ, zero, suc, ◌<◌, ◌≤◌}
use mathlib.Core.Path.{◌≡◌, refl, ap, ap₂, ◌∙◌}
use mathlib.Core.Logic.{inl, inr}
use mathlib.Core.Bool.{Bool, true}
use mathlib.Core.List.{List, ◌++◌}
use native.Mathlib.Omega.{arith}
use lib.Dec.{eqb}
use lib.ListN.{length, get_or}
use Rattle.sets.specs.Below.{all_below, count}
use Rattle.sets.proofs.Truth.{not_so}
use Rattle.sets.proofs.BelowLaws.{all_ext}
use Rattle.audit_rule.specs.Audit.{lowest}
use Rattle.audit_rule.proofs.Findings.{lowest_cases}
use Rattle.audit_lacks.specs.Lacks.{lacked, lack_count, lack_lowest, all_hold}
use Rattle.audit_lacks.specs.Needs.{Lacking}
use Rattle.audit_report.specs.Report.{lack_line, lack_lines}
use Rattle.audit_report.specs.Needs.{lacked_lines, LacksKnown}

none_counted : (q : ℕ → Bool) (n : ℕ) → ((i : ℕ) → i < n → q i ≡ true → ⊥) → count q n ≡ 0
unfolding count
none_counted q zero none = refl
none_counted q (suc n) none = rw (not_so (q n) (none n (omega arith))) (let rest = none_counted q n (λ i l. none i (omega (arith, l))) in omega (arith, rest))

-- where some are counted, the lowest is one of them
counted_lowest : (q : ℕ → Bool) (n : ℕ) → ¬ (count q n ≡ 0) → lowest q n < n
counted_lowest q n d = elim (lowest_cases q n) [
  | inl (t, below, holds) ↦ below
  | inr (f, none) ↦ absurd (d (none_counted q n none))
]

module _ (kinds lines ends counts lowests : List ℕ) (noted : Lacking lines ends counts lowests (length kinds) (length ends)) where
  lines_noted : (k : ℕ) → k ≤ length ends → lacked_lines kinds counts lowests k ≡ lack_lines kinds lines ends k
  unfolding lacked_lines lack_lines
  lines_noted zero l = refl
  lines_noted (suc p) l =
      ap₂ (λ (t u : List ℕ). t ++ u) (lines_noted p (omega (arith, l)))
      (ap₂ (lack_line kinds p) (noted.counts_are p (omega (arith, l))) (noted.lowests_are p (omega (arith, l))))

  pub lacked_lines_lem : lacked_lines kinds counts lowests (length ends) ≡ lack_lines kinds lines ends (length ends)
  lacked_lines_lem = lines_noted (length ends) (omega arith)

  pub lacked_none : all_below (λ p. eqb (get_or counts p 0) 0) (length ends) ≡ all_hold lines ends (length kinds)
  unfolding all_hold
  lacked_none =
      all_ext (λ p. eqb (get_or counts p 0) 0) (λ p. eqb (lack_count lines ends (length kinds) p) 0) (length ends)
      (λ p l. ap (λ (many : ℕ). eqb many 0) (noted.counts_are p l))

  pub lacks_known : length ends ≤ length counts → length ends ≤ length lowests → LacksKnown kinds counts lowests (length ends)
  unfolding lack_count lack_lowest
  lacks_known room-c room-l = record {
    counts_room = room-c;
    lowests_room = room-l;
    known = λ p l d. rw (noted.lowests_are p l) (counted_lowest (lacked lines ends p) (length kinds) (λ z. d (noted.counts_are p l ∙ z)));
  }
