-- At a line that departs: the lowest posting that the code finds is the one that the audit names.
-- Rests on Audited and audit_rule's Seeking. Assumes nothing.
use Prim.Native.Nat.{ℕ}
use Rattle.std.specs.Prelude.{Option, Some}
use borrow.Author.Tests.{lt-ltb}
use mathlib.Core.Path.{◌≡◌, ap₂, ◌∙◌}
use mathlib.Core.List.{List}
use lib.ListN.{length, get_or}
use Rattle.audit_rule.specs.Audit.{lowest, finding, differs, departs}
use Rattle.audit_rule.specs.Handed.{table_of, record_of}
use Rattle.audit_rule.specs.Searches.{lowest_below}
use Rattle.audit_rule.proofs.Seeking.{lowest_alike}
use Rattle.audit_pair.specs.declared.Found.{Found}
use Rattle.audit_pair.specs.Pair.{differing}
use Rattle.audit_pair.specs.Numbers.{found}
use Rattle.audit_records.specs.Audited.{departure, conflicts, answering}
use Rattle.audit_records.specs.Needs.{shown, PairAt}

module _ (matrix : ℕ) (kinds firsts seconds amounts lines ends : List ℕ) (site line : ℕ) where
  -- the number at the line
  abbrev pub number : ℕ
  number = get_or (record_of lines ends site) line 0

  module _ {room : ℕ} (at : PairAt matrix kinds firsts seconds amounts lines ends site line room) where
    shown_is : (y : ℕ) → y ≡ number
        → lowest (differing matrix (table_of kinds firsts seconds amounts) (record_of lines ends site) lines y) (length kinds)
        ≡ shown matrix kinds firsts seconds amounts lines ends site line
    unfolding shown differing differs
    shown_is y n = lowest_alike (differing matrix (table_of kinds firsts seconds amounts) (record_of lines ends site) lines y)
        (differs (length ends) (record_of lines ends) (conflicts matrix kinds firsts seconds amounts) site number) 0 (length kinds) (λ x h. same x)
      where
        same : (x : ℕ) → differing matrix (table_of kinds firsts seconds amounts) (record_of lines ends site) lines y x
            ≡ differs (length ends) (record_of lines ends) (conflicts matrix kinds firsts seconds amounts) site number x
        same x = rw (n, at.joins)

    -- the search finds the one that is shown
    pub found_shown : (y : ℕ) (r : Option ℕ) → y ≡ number
        → r ≡ lowest_below (differing matrix (table_of kinds firsts seconds amounts) (record_of lines ends site) lines y) (length kinds)
        → r ≡ Some (shown matrix kinds firsts seconds amounts lines ends site line)
    found_shown y r n e = rw (shown_is y n, lt-ltb (shown matrix kinds firsts seconds amounts lines ends site line) (length kinds) at.is_shown) at e

    pub answer_shown : (posting x y : ℕ) (f : Found) → posting ≡ shown matrix kinds firsts seconds amounts lines ends site line → x ≡ posting → y ≡ number
        → f ≡ found (finding (length ends) (record_of lines ends) x y)
        → departure site line posting f
        ≡ answering matrix kinds firsts seconds amounts lines ends (departs site line (shown matrix kinds firsts seconds amounts lines ends site line))
    unfolding answering
    answer_shown posting x y f e ex ey ef =
        ap₂ (departure site line) e (ef ∙ ap₂ (λ (v w : ℕ). found (finding (length ends) (record_of lines ends) v w)) (ex ∙ e) ey)
