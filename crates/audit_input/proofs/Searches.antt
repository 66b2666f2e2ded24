-- The search over the sites for the first record that has a line of some sort, and the spot that it finds.
-- Rests on audit_rule's Seeking. Assumes nothing.
use Prim.Native.Nat.{ℕ, ◌+◌, ◌<◌, ◌≤◌}
use mathlib.Core.Path.{◌≡◌, sym}
use mathlib.Core.Logic.{inl, inr}
use mathlib.Core.Bool.{Bool}
use mathlib.Core.List.{List}
use native.Mathlib.Omega.{arith}
use native.Mathlib.Decide.{dec_lt}
use lib.Dec.{ltb}
use lib.ListN.{length}
use borrow.Author.Tests.{lt-ltb, le-ltb, ltb-true, ltb-false}
use Rattle.sets.proofs.Truth.{never, test}
use Rattle.audit_rule.specs.Audit.{lowest}
use Rattle.audit_rule.specs.Handed.{record_of}
use Rattle.audit_rule.proofs.Findings.{lowest_cases}
use Rattle.audit_rule.specs.Searches.{if_below}
use Rattle.audit_rule.proofs.Seeking.{Seeking, seek_here, seek_next, seek_end}
use Rattle.audit_rule.proofs.Searches.{below_some, below_none}
use Rattle.audit_input.specs.declared.Spot.{Spot}
use Rattle.audit_input.specs.Input.{first_spot}
use Rattle.audit_input.specs.Refusals.{found_spot}
use Rattle.std.specs.Prelude.{Option, Some, None}

-- ---- over the sites

module _ (line : List ℕ → ℕ) (lines ends : List ℕ) where
  -- site p's record has such a line
  abbrev pub has : ℕ → Bool
  has p = ltb (line (record_of lines ends p)) (length (record_of lines ends p))

  module _ {p : ℕ} (g : Seeking has (length ends) p) where
    module _ (more : p < length ends) where
      pub looked_next : None ≡ if_below (line (record_of lines ends p)) (length (record_of lines ends p)) → Seeking has (length ends) (p + 1)
      looked_next e = seek_next g more (le-ltb (line (record_of lines ends p)) (length (record_of lines ends p)) (below_none e))

      pub spot_found : (at : ℕ) → Some at ≡ if_below (line (record_of lines ends p)) (length (record_of lines ends p))
          → ◌≡◌ {A = Option Spot} (Some (record { site = p; line = at })) (found_spot (first_spot line (length ends) (record_of lines ends)) (length ends))
      unfolding first_spot
      spot_found at e =
          let (is, here) = below_some e in
          let first : lowest has (length ends) ≡ p = sym (seek_here g more (lt-ltb (line (record_of lines ends p)) (length (record_of lines ends p)) (rw is at here))) in
          rw (first, lt-ltb p (length ends) more, is)

    pub spot_none : length ends ≤ p → ◌≡◌ {A = Option Spot} None (found_spot (first_spot line (length ends) (record_of lines ends)) (length ends))
    unfolding first_spot
    spot_none end =
        let e = seek_end g end in
        rw (sym e, le-ltb p (length ends) end)

-- ---- a spot

-- the line of a spot that was found is one of its record
pub spot_line : (line : List ℕ → ℕ) (n : ℕ) (records : ℕ → List ℕ) → (first_spot line n records).site < n
    → (first_spot line n records).line < length (records (first_spot line n records).site)
unfolding first_spot
spot_line line n records h =
    let p = lowest (λ q. ltb (line (records q)) (length (records q))) n in
    elim (lowest_cases (λ q. ltb (line (records q)) (length (records q))) n) [
      | inl (t, l, holds) ↦ rw (lt-ltb p n h) (ltb-true (line (records p)) (length (records p)) holds)
      | inr (f, none) ↦ absurd (never (lt-ltb p n h) f)
    ]

-- where none was found, no record has such a line
pub spot_past : (line : List ℕ → ℕ) (n : ℕ) (records : ℕ → List ℕ) → n ≤ (first_spot line n records).site
    → (p : ℕ) → p < n → length (records p) ≤ line (records p)
unfolding first_spot
spot_past line n records h p l =
    elim (lowest_cases (λ q. ltb (line (records q)) (length (records q))) n) [
      | inl (t, below, holds) ↦ absurd (omega (arith, h, below))
      | inr (f, none) ↦ elim (dec_lt (line (records p)) (length (records p))) [
        | yes b ↦ absurd (none p l (lt-ltb (line (records p)) (length (records p)) b))
        | no b ↦ omega (arith, b)
      ]
    ]

-- ---- a spot as a search answers it

pub spot_is : (s t : Spot) (n : ℕ) → Some t ≡ found_spot s n → (t ≡ s) × (t.site < n)
spot_is s t n e = elim (test (ltb s.site n)) [
  | inl h ↦ let d = rw h at e in let same : t ≡ s = cc in (same, rw same (ltb-true s.site n h))
  | inr f ↦ let d = rw f at e in cc
]

pub spot_is_past : (s : Spot) (n : ℕ) → None ≡ found_spot s n → n ≤ s.site
spot_is_past s n e = elim (test (ltb s.site n)) [ inl h ↦ let d = rw h at e in cc | inr f ↦ ltb-false s.site n f ]

-- it is one of the records, and of its lines
pub spot_lies : (line : List ℕ → ℕ) (n : ℕ) (records : ℕ → List ℕ) (t : Spot) → Some t ≡ found_spot (first_spot line n records) n
    → (t.site < n) × (t.line < length (records t.site))
spot_lies line n records t e =
    let (is, within) = spot_is (first_spot line n records) t n e in (within, rw is (spot_line line n records (rw is at within)))
