-- Which refusal of pairs comes first: a law for each return of the code, and what holds where none applies.
-- Rests on PairLaws. Assumes nothing.
use Prim.Native.Nat.{ℕ, ◌+◌, ◌*◌, ◌<◌, ◌≤◌}
use mathlib.Core.Path.{◌≡◌, refl, ap, ◌∙◌}
use mathlib.Core.Logic.{inl, inr}
use mathlib.Core.Bool.{Bool, true, false, cond, ◌||◌}
use mathlib.Core.List.{List, [], ◌∷◌}
use native.Mathlib.Omega.{arith}
use lib.Dec.{ltb, leb}
use lib.ListN.{get_or}
use borrow.Author.Tests.{lt-ltb, le-ltb, ltb-false, leb-false}
use Rattle.sets.specs.Below.{any_below}
use Rattle.sets.proofs.Truth.{test, never, or_neither}
use Rattle.sets.proofs.BelowLaws.{any_from}
use Rattle.posting.specs.Kinds.{accounts}
use Rattle.steps.specs.Causes.{cause}
use Rattle.steps.specs.CauseLists.{first_cause}
use Rattle.lookup_pairs.specs.Pairs.{pair_count, site_in, account_in, pair_limit, any_pair, pair_causes}
use Rattle.lookup_pairs.proofs.PairLaws.{any_ext}

-- the code's test of a byte of each pair: at place 0 the site, at place 1 the account
abbrev Past : ℕ → ℕ → List ℕ → Bool → Type 0
Past place limit pairs so = any_below (λ i. leb limit (get_or pairs (2 * i + place) 0)) (pair_count pairs) ≡ so

sites_past : (n : ℕ) (pairs : List ℕ) (so : Bool) → Past 0 n pairs so → any_pair (λ site account. leb n site) pairs ≡ so
sites_past n pairs so h =
    any_ext (λ i. leb n (site_in pairs i)) (λ i. leb n (get_or pairs (2 * i + 0) 0)) (pair_count pairs)
    (λ i l. let e : 2 * i ≡ 2 * i + 0 = omega arith in ap (λ (at : ℕ). leb n (get_or pairs at 0)) e)
    ∙ h

module _ (n room : ℕ) (pairs : List ℕ) where
  pub no_site_lem : Past 0 n pairs true → 7 ≡ first_cause (pair_causes n room pairs)
  unfolding first_cause
  no_site_lem h = rw (sites_past n pairs true h) refl

  module _ (sites : Past 0 n pairs false) where
    pub too_many : pair_limit < pair_count pairs → 18 ≡ first_cause (pair_causes n room pairs)
    unfolding first_cause
    too_many h = rw (sites_past n pairs false sites, lt-ltb pair_limit (pair_count pairs) h) refl

    pub no_account : Past 1 accounts pairs true → 18 ≡ first_cause (pair_causes n room pairs)
    unfolding first_cause
    no_account h = rw (sites_past n pairs false sites, h) (any (ltb pair_limit (pair_count pairs)))
      where
        any : (b : Bool) → ◌≡◌ {A = ℕ} 18 (cond (b || true) 18 0)
        any true = refl
        any false = refl

    pub no_room : room < 4 * pair_count pairs → 18 ≡ first_cause (pair_causes n room pairs)
    unfolding first_cause
    no_room h = rw (sites_past n pairs false sites, lt-ltb room (4 * pair_count pairs) h) (any (ltb pair_limit (pair_count pairs)) (any_pair (λ site account. leb accounts account) pairs))
      where
        any : (b c : Bool) → ◌≡◌ {A = ℕ} 18 (cond (b || (c || true)) 18 0)
        any true c = refl
        any false true = refl
        any false false = refl

    pub none_applies : pair_count pairs ≤ pair_limit → Past 1 accounts pairs false → 4 * pair_count pairs ≤ room → 0 ≡ first_cause (pair_causes n room pairs)
    unfolding first_cause
    none_applies few h fits = rw (sites_past n pairs false sites, le-ltb pair_limit (pair_count pairs) few, h, le-ltb room (4 * pair_count pairs) fits) refl

-- what holds of pairs that are not refused
pub record Accepted (n room : ℕ) (pairs : List ℕ) : Type 0 where
  pub sites : (i : ℕ) → i < pair_count pairs → site_in pairs i < n
  pub accounts_there : (i : ℕ) → i < pair_count pairs → account_in pairs i < accounts
  pub fits : 4 * pair_count pairs ≤ room

none_below : (p : ℕ → Bool) (n i : ℕ) → any_below p n ≡ false → i < n → p i ≡ false
none_below p n i h l = elim (test (p i)) [
  | inl t ↦ absurd (never (any_from p n i l t) h)
  | inr f ↦ f
]

pub none_of : (x y : Bool) → first_cause (cause 7 x ∷ cause 18 y ∷ []) ≡ 0 → (x ≡ false) × (y ≡ false)
unfolding first_cause
none_of true y h = absurd (omega (arith, h))
none_of false true h = absurd (omega (arith, h))
none_of false false h = (refl, refl)

module _ (n room : ℕ) (pairs : List ℕ) where
  abbrev no_such_site : Bool
  no_such_site = any_pair (λ site account. leb n site) pairs

  abbrev no_such_account : Bool
  no_such_account = any_pair (λ site account. leb accounts account) pairs

  -- neither 7 nor 18 applies
  neither : first_cause (pair_causes n room pairs) ≡ 0
      → (no_such_site ≡ false) × (no_such_account ≡ false) × (ltb room (4 * pair_count pairs) ≡ false)
  neither h =
      let both = none_of no_such_site (ltb pair_limit (pair_count pairs) || (no_such_account || ltb room (4 * pair_count pairs))) h in
      let of-18 = or_neither (ltb pair_limit (pair_count pairs)) (no_such_account || ltb room (4 * pair_count pairs)) both.1 in
      let rest = or_neither no_such_account (ltb room (4 * pair_count pairs)) of-18.1 in
      (both.0, rest.0, rest.1)

  pub is_accepted : first_cause (pair_causes n room pairs) ≡ 0 → Accepted n room pairs
  is_accepted h =
      let (no_site_lem, no_account, room-left) = neither h in
      record {
        sites = λ i l. leb-false n (site_in pairs i) (none_below (λ i. leb n (site_in pairs i)) (pair_count pairs) i no_site_lem l);
        accounts_there = λ i l. leb-false accounts (account_in pairs i) (none_below (λ i. leb accounts (account_in pairs i)) (pair_count pairs) i no_account l);
        fits = ltb-false room (4 * pair_count pairs) room-left;
      }
