-- What the tests of the judge say: a number without a posting, an unlawful posting, the ends of the records, and the records joined.
-- Rests on Input and audit_rule's Handed. Assumes nothing.
use Prim.Native.Nat.{ℕ, zero, suc, ◌+◌, ◌-◌, ◌<◌, ◌≤◌}
use mathlib.Core.Path.{◌≡◌, refl, sym, ap, ◌∙◌}
use mathlib.Core.Bool.{Bool, true, false, not}
use mathlib.Core.List.{List, ◌++◌}
use native.Mathlib.Omega.{arith}
use native.Mathlib.Decide.{dec_lt}
use lib.Dec.{eqb, leb}
use lib.ListN.{length, get_or, take}
use lib.Seq.{take_all, take-add}
use borrow.Author.Tests.{eqb-true, lt-leb, le-leb, leb-true}
use Rattle.sets.proofs.Truth.{never, not_so, and_left, and_right}
use Rattle.sets.specs.Below.{all_below}
use Rattle.sets.proofs.BelowLaws.{all_at, all_from}
use Rattle.posting.specs.Kinds.{fields_ok}
use Rattle.audit_rule.specs.Audit.{joined}
use Rattle.audit_rule.specs.Handed.{posting_at, start_of, part, record_of}
use Rattle.audit_rule.specs.Needs.{Rising}
use Rattle.audit_input.specs.Input.{unused, unlawful, ends_ok}

-- ---- postings

module _ (kinds firsts seconds amounts : List ℕ) (x : ℕ) where
  -- where it has a posting that is not refused, its fields are within their row
  pub used_lawful : unused kinds x ≡ false → unlawful kinds firsts seconds amounts x ≡ false → fields_ok (posting_at kinds firsts seconds amounts x) ≡ true
  unfolding unlawful
  used_lawful u f = not-false (fields_ok (posting_at kinds firsts seconds amounts x)) (rw u at f)
    where
      not-false : (b : Bool) → not b ≡ false → b ≡ true
      not-false true e = refl
      not-false false e = sym e

-- a number that has a posting
pub used_below : (kinds : List ℕ) (x : ℕ) → unused kinds x ≡ false → x < length kinds
unfolding unused
used_below kinds x f = elim (dec_lt x (length kinds)) [
  | yes h ↦ h
  | no h ↦ absurd (never (rw (le-leb (length kinds) x (omega (arith, h)))) f)
]

-- ---- the ends

module _ (ends : List ℕ) where
  abbrev rises : ℕ → Bool
  rises p = leb (start_of ends p) (get_or ends p 0)

  pub ends_fall : (count p : ℕ) → p < length ends → get_or ends p 0 < start_of ends p → ends_ok count ends ≡ false
  unfolding ends_ok
  ends_fall count p h falls =
      rw (not_so (all_below rises (length ends)) (λ t. never (all_at rises (length ends) p t h) (lt-leb (start_of ends p) (get_or ends p 0) falls)))

  pub ends_rise : (count : ℕ) → ((p : ℕ) → p < length ends → start_of ends p ≤ get_or ends p 0) → ends_ok count ends ≡ eqb (start_of ends (length ends)) count
  unfolding ends_ok
  ends_rise count rise = rw (all_from rises (length ends) (λ p h. le-leb (start_of ends p) (get_or ends p 0) (rise p h)))

  module _ (count : ℕ) (ok : ends_ok count ends ≡ true) where
    ends_up : (p : ℕ) → p < length ends → start_of ends p ≤ get_or ends p 0
    unfolding ends_ok
    ends_up p h =
        leb-true (start_of ends p) (get_or ends p 0)
        (all_at rises (length ends) p (and_left (all_below rises (length ends)) (eqb (start_of ends (length ends)) count) ok) h)

    ends_last : start_of ends (length ends) ≡ count
    unfolding ends_ok
    ends_last = eqb-true (start_of ends (length ends)) count (and_right (all_below rises (length ends)) (eqb (start_of ends (length ends)) count) ok)

    -- what begins earlier is no further on
    starts_rise : (left p : ℕ) → p + left ≡ length ends → start_of ends p ≤ start_of ends (length ends)
    starts_rise zero p e = rw (← e, plus_zero p) (omega arith)
      where
        plus_zero : (n : ℕ) → n + 0 ≡ n
        plus_zero n = omega arith
    starts_rise (suc left) p e =
        let up = ends_up p (omega (arith, e)) in
        let rest = starts_rise left (suc p) (omega (arith, e)) in omega (arith, up, rest)

    pub ends_within : (p : ℕ) → p < length ends → get_or ends p 0 ≤ count
    ends_within p h = let rest = starts_rise (length ends - suc p) (suc p) (omega (arith, h)) in omega (arith, rest, ends_last)

pub ends_rising : (lines ends : List ℕ) → ends_ok (length lines) ends ≡ true → Rising lines ends
ends_rising lines ends ok = record { rising = ends_up ends (length lines) ok; within = ends_within ends (length lines) ok }

-- ---- the records joined

take_part : (from to : ℕ) (l : List ℕ) → from ≤ to → take from l ++ part from to l ≡ take to l
take_part from to l h = sym (take-add from (to - from) l) ∙ ap (λ n. take n l) whole
  where
    whole : from + (to - from) ≡ to
    whole = omega (arith, h)

joined_taken : (lines ends : List ℕ) → Rising lines ends → (p : ℕ) → p ≤ length ends → joined (record_of lines ends) p ≡ take (start_of ends p) lines
joined_taken lines ends r zero h = refl
joined_taken lines ends r (suc p) h =
    ap (λ (l : List ℕ). l ++ record_of lines ends p) (joined_taken lines ends r p (omega (arith, h)))
    ∙ take_part (start_of ends p) (get_or ends p 0) lines (r.rising p (omega (arith, h)))

-- the records one behind the other are all lines
pub ends_joined : (lines ends : List ℕ) → ends_ok (length lines) ends ≡ true → joined (record_of lines ends) (length ends) ≡ lines
ends_joined lines ends ok =
    joined_taken lines ends (ends_rising lines ends ok) (length ends) (omega arith)
    ∙ ap (λ n. take n lines) (ends_last ends (length lines) ok)
    ∙ take_all (length lines) lines (omega arith)
