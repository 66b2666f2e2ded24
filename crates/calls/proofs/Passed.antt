-- What the tests of a call say where they pass: the acting site has a place; a posting accepted has a number, a kind and its accounts.
-- Rests on steps and posting. Assumes nothing.
use Prim.Native.Nat.{ℕ, ◌<◌, ◌≤◌}
use mathlib.Core.Path.{◌≡◌}
use mathlib.Core.Logic.{inl, inr}
use mathlib.Core.Bool.{true}
use native.Mathlib.Omega.{arith}
use lib.Dec.{leb}
use borrow.Author.Tests.{leb-false}
use Rattle.sets.proofs.Truth.{test}
use Rattle.sets.specs.Sets.{capacity}
use Rattle.posting.specs.declared.Posting.{Posting}
use Rattle.posting.specs.Kinds.{kinds, accounts_ok, fields_ok}
use Rattle.posting.proofs.KindLaws.{fields, row_kind}
use Rattle.site.specs.Sites.{sites}
use Rattle.steps.specs.CauseLists.{first_cause, site_causes, message_causes, offer_causes}

pub site_below : (n down p why : ℕ) → n ≤ sites → why ≡ first_cause (site_causes n down p) → why ≡ 0 → p < sites
unfolding first_cause
site_below n down p why few e z = elim (test (leb n p)) [
  | inl t ↦ let k : why ≡ 7 = rw t at e in absurd (omega (arith, k, z))
  | inr f ↦ omega (arith, few, leb-false n p f)
]

-- and so have the two of a message
pub message_below : (n down from to why : ℕ) → n ≤ sites → why ≡ first_cause (message_causes n down from to) → why ≡ 0 → (from < sites) × (to < sites)
unfolding first_cause
message_below n down from to why few e z = elim (test (leb n from)) [
  | inl t ↦ let k : why ≡ 7 = rw t at e in absurd (omega (arith, k, z))
  | inr f ↦ (omega (arith, few, leb-false n from f), site_below n down to why few (rw f at e) z)
]

module _ (posting : Posting) (count why : ℕ) (e : why ≡ first_cause (offer_causes posting count)) (z : why ≡ 0) where
  fields_ok_lem : fields_ok posting ≡ true
  unfolding first_cause
  fields_ok_lem = elim (test (fields_ok posting)) [
    | inl t ↦ t
    | inr f ↦ let k : why ≡ 9 = rw f at e in absurd (omega (arith, k, z))
  ]

  pub offer_room : count < capacity
  unfolding first_cause
  offer_room = elim (test (leb capacity count)) [
    | inl u ↦ let k : why ≡ 10 = rw (fields_ok_lem, u) at e in absurd (omega (arith, k, z))
    | inr f ↦ leb-false capacity count f
  ]

  -- the kind, and the accounts
  pub offer_fields : (posting.kind < kinds) × (accounts_ok posting.kind posting.a posting.b ≡ true)
  offer_fields =
      let f = fields posting fields_ok_lem in
      (row_kind posting.kind posting.a posting.b posting.amount f.within, f.accounts_are_ok)
