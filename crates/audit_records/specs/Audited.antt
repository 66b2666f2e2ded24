-- What the audit of records that were handed over answers: the first refusal that applies, or that they agree, or the line and the pair that show
-- they do not. Rests on audit_rule's Audit and Handed, on audit_pair for the numbers of a finding, and on audit_input for refusals.
use Rattle.std.specs.Prelude.{ℕ, Bool, cond, List, [], ◌∷◌, ◌++◌, eqb, ltb, length, get_or, drop}
use Rattle.posting.specs.Conflicts.{conflict}
use Rattle.audit_rule.specs.Audit.{finding, Outcome, agreed, departs, audit}
use Rattle.audit_rule.specs.Handed.{table_of, record_of}
use Rattle.audit_pair.specs.declared.Found.{Found}
use Rattle.audit_pair.specs.Numbers.{found}
use Rattle.audit_input.specs.declared.Answer.{Answer}
use Rattle.audit_input.specs.Input.{agreement, judged}

-- a line that departs, the lowest posting that shows it, and what the records say of the two
abbrev pub departure : (site line posting : ℕ) → Found → Answer
departure site line posting f = record {
  code = f.code;
  site = site;
  line = line;
  posting = posting;
  above = 0;
  first = f.first;
  second = f.second;
  here = f.here;
  there = f.there;
}

-- whether two of the postings handed over conflict
abbrev pub conflicts : ℕ → (kinds firsts seconds amounts : List ℕ) → ℕ → ℕ → Bool
conflicts matrix kinds firsts seconds amounts = conflict matrix (table_of kinds firsts seconds amounts)

module _ (matrix : ℕ) (kinds firsts seconds amounts lines ends : List ℕ) where
  -- the answer for an outcome of the audit
  unfoldable pub answering : Outcome → Answer
  answering agreed = agreement
  answering (departs p i x) = departure p i x (found (finding (length ends) (record_of lines ends) x (get_or (record_of lines ends p) i 0)))

  -- with the lengths of the slices lent
  unfoldable pub audited : (marks places ahead : ℕ) → Answer
  audited marks places ahead =
      let refused = judged matrix kinds firsts seconds amounts lines ends marks places ahead in
      cond (eqb refused.code 0) (answering (audit (conflicts matrix kinds firsts seconds amounts) (length kinds) (length ends) (record_of lines ends))) refused

-- ---- the answer as numbers

-- its place and its pair
abbrev pub eight_of : Answer → List ℕ
eight_of a = a.site ∷ a.line ∷ a.posting ∷ a.above ∷ a.first ∷ a.second ∷ a.here ∷ a.there ∷ []

-- in a slice that has room for them; else the largest number is handed back, and the slice stays
unfoldable pub audit_code : Answer → List ℕ → ℕ
audit_code a out = cond (ltb (length out) 8) 18_446_744_073_709_551_615 a.code

unfoldable pub audit_slice : Answer → List ℕ → List ℕ
audit_slice a out = cond (ltb (length out) 8) out (eight_of a ++ drop 8 out)
