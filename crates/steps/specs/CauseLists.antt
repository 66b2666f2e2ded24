-- What the code of refusals gives: the number of the first cause, of some causes in rising number.
-- Proof machinery: machine ties them to Calls. Rests on Causes.
use Rattle.std.specs.Prelude.{ℕ, cond, not, ◌&&◌, ◌||◌, List, [], ◌∷◌, ltb, leb}
use Rattle.std.specs.Int.Count.{ones}
use Rattle.sets.specs.Masks.{has_bit}
use Rattle.sets.specs.Sets.{capacity}
use Rattle.posting.specs.declared.Posting.{Posting}
use Rattle.posting.specs.Kinds.{fields_ok}
use Rattle.steps.specs.declared.Cut.{Cut}
use Rattle.steps.specs.Causes.{Cause, cause, is_cut, cut_after}

-- the number of the first cause that applies; 0 if none does
unfoldable pub first_cause : List Cause → ℕ
first_cause [] = 0
first_cause (c ∷ l) = cond c.applies c.number (first_cause l)

-- 7 and 8 of a site that acts, and 7 of the sender of a message
abbrev pub site_causes : ℕ → ℕ → ℕ → List Cause
site_causes n down p = cause 7 (leb n p) ∷ cause 8 (has_bit down p) ∷ []

abbrev pub message_causes : ℕ → ℕ → ℕ → ℕ → List Cause
message_causes n down from to = cause 7 (leb n from || leb n to) ∷ cause 8 (has_bit down to) ∷ []

-- 9 and 10 of an offer
abbrev pub offer_causes : Posting → ℕ → List Cause
offer_causes posting count = cause 9 (not (fields_ok posting)) ∷ cause 10 (leb capacity count) ∷ []

-- 14 and 15 of a cut, of a step with so many sends
abbrev pub cut_causes : ℕ → ℕ → ℕ → Cut → List Cause
cut_causes f down sends cut = cause 14 (is_cut cut && leb f (ones down)) ∷ cause 15 (ltb sends (cut_after cut)) ∷ []
