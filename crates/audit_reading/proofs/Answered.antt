-- What `departure` answers is the audit's answer, and so: all agree, and one order exists; or the pair at the line named is a fault, and none does.
-- Rests on Sites and audit_rule. Assumes nothing.
use Prim.Native.Nat.{ℕ, ◌<◌}
use mathlib.Core.Path.{◌≡◌}
use mathlib.Core.Bool.{Bool, true, false}
use mathlib.Core.List.{List}
use lib.ListN.{length, get_or}
use Rattle.posting.specs.declared.Table.{Table}
use Rattle.posting.specs.Kinds.{symmetric, fields_ok}
use Rattle.posting.specs.Conflicts.{row, conflict}
use Rattle.posting.proofs.ConflictLaws.{conflict_turned}
use Rattle.broadcast.specs.Lists.{In, OneOrder}
use Rattle.audit_rule.specs.Audit.{Agree, NoRepeats, merged, lowest, differs, agreed, departs, audit}
use Rattle.audit_rule.specs.Handed.{record_of}
use Rattle.audit_rule.proofs.Audited.{audit_agreed, audit_departs}
use Rattle.audit_rule.proofs.Answer.{all_fit, first_unfit}
use Rattle.audit_reading.specs.Kept.{Rows}
use Rattle.audit_reading.specs.Sites.{DepartureSays}

module _ (matrix : ℕ) (turned : symmetric matrix ≡ true) (kinds firsts seconds lines ends : List ℕ) (fits : Bool) (site line : ℕ)
    (says : DepartureSays matrix kinds firsts seconds lines ends fits site line) (t : Table) (rows : Rows t kinds firsts seconds (length kinds)) (bound : ℕ)
    (single : NoRepeats (length ends) (record_of lines ends)) (known : (p x : ℕ) → p < length ends → In x (record_of lines ends p) → x < bound)
    (lawful : (p x : ℕ) → p < length ends → In x (record_of lines ends p) → fields_ok (row t x) ≡ true) where
  abbrev records : ℕ → List ℕ
  records = record_of lines ends

  abbrev shown : ℕ
  shown = lowest (differs (length ends) records (conflict matrix t) site (get_or (records site) line 0)) bound

  pub answers_agreed : fits ≡ true → audit (conflict matrix t) bound (length ends) records ≡ agreed
  answers_agreed u = all_fit matrix t bound (length ends) records (conflict_turned matrix turned t) single known lawful (λ p i l h. (says t rows).0 u p i l h)

  pub answers_departs : fits ≡ false → audit (conflict matrix t) bound (length ends) records ≡ departs site line shown
  answers_departs f =
      let b = (says t rows).1 f in
      first_unfit matrix t bound (length ends) records (conflict_turned matrix turned t) single known lawful site line b.site_below b.line_below b.before b.over b.breaks

  -- `true`: the records agree; `false`: they do not.
  pub true_agree : fits ≡ true → OneOrder (conflict matrix t) (length ends) records (merged records (length ends))
  true_agree u = audit_agreed (conflict matrix t) (conflict_turned matrix turned t) (length ends) records single bound known (answers_agreed u)

  pub false_not : fits ≡ false → Agree (conflict matrix t) (length ends) records → ⊥
  false_not f = (audit_departs (conflict matrix t) (conflict_turned matrix turned t) (length ends) records single bound known site line shown (answers_departs f)).3
