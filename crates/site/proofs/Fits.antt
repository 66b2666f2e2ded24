-- What a step sends goes to sites only: its mask is below 2 ^ 7.
-- Rests on ByMask. Assumes nothing.
use Prim.Native.Nat.{ℕ, ◌-◌, ◌^◌, ◌<◌}
use mathlib.Core.Logic.{inl, inr}
use mathlib.Core.Bool.{Bool, true, false, cond}
use native.Mathlib.Omega.{arith}
use lib.Dec.{eqb, ltb}
use lib.Bits.{bit_and, and_le_l}
use lib.Pow.{pow-lt}
use borrow.Author.Tests.{ltb-true}
use Rattle.sets.specs.declared.Set.{Set}
use Rattle.sets.proofs.Truth.{test}
use Rattle.sets.specs.Sets.{has}
use Rattle.posting.specs.declared.Table.{Table}
use Rattle.site.specs.declared.Setup.{Setup}
use Rattle.site.specs.declared.Site.{Site}
use Rattle.site.specs.declared.Tally.{Tally}
use Rattle.site.specs.declared.Stepped.{Stepped}
use Rattle.site.specs.Sites.{sites, heard_for, good_for, site_heard}
use Rattle.site.specs.Steps.{owner_of, majority}
use Rattle.masks.specs.SiteMasks.{only_site, every_site, with_site, with_site_if, relay_to}
use Rattle.site.specs.ByMask.{reached, late, no_step_by_mask, offer_by_mask, first_by_mask, step_second_by_mask, second_by_mask, finish_sends, step_third_by_mask, tallied_by_mask, third_by_mask, deliver_by_mask}

pub only_fits : (p : ℕ) → only_site p < 2 ^ sites
unfolding only_site
only_fits p = elim (test (ltb p sites)) [
  | inl t ↦ rw t (pow-lt (ltb-true p sites t))
  | inr f ↦ rw f (omega arith)
]

pub every_fits : (n : ℕ) → every_site n < 2 ^ sites
unfolding every_site
every_fits n = elim (test (ltb n sites)) [
  | inl t ↦ let h : 2 ^ n < 2 ^ sites = pow-lt (ltb-true n sites t) in rw t (omega arith)
  | inr f ↦ rw f (omega arith)
]

-- the receivers of a step's sends
abbrev pub Fits : Stepped → Type 0
Fits s = s.sends.to < 2 ^ sites

pub either : (u : Bool) (x y : Stepped) → Fits x → Fits y → Fits (cond u x y)
either true x y hx hy = hx
either false x y hx hy = hy

cases_fit : (u v : Bool) (x y z : Stepped) → Fits x → Fits y → Fits z → Fits (cond u x (cond v y z))
cases_fit u v x y z hx hy hz = either u x (cond v y z) hx (either v y z hy hz)

none_fits : (site : Site) (tally : Tally) → Fits (no_step_by_mask site tally)
none_fits site tally = omega arith

module _ (setup : Setup) (table : Table) (site : Site) (tally : Tally) (m : ℕ) where
  pub offer_fits : Fits (offer_by_mask setup site tally)
  unfolding offer_by_mask
  offer_fits = every_fits setup.n

  pub first_fits : Fits (first_by_mask setup table site tally m)
  unfolding first_by_mask
  first_fits = every_fits setup.n

  step_second_fits : Fits (step_second_by_mask setup table site tally m)
  unfolding step_second_by_mask
  step_second_fits = only_fits (owner_of table m)

  step_third_fits : Fits (step_third_by_mask setup site tally m)
  unfolding step_third_by_mask finish_sends
  step_third_fits = elim (test (majority setup (bit_and tally.has tally.heard))) [
    | inl t ↦ rw t (every_fits setup.n)
    | inr f ↦ rw f (omega arith)
  ]

  pub deliver_fits : (p : ℕ) → Fits (deliver_by_mask setup table site tally p m)
  unfolding deliver_by_mask relay_to
  deliver_fits p = elim (test (has site.got m)) [
    | inl t ↦ rw t (omega arith)
    | inr f ↦ rw f (relay_fits (eqb p (owner_of table m)))
  ]
    where
      relay_fits : (own : Bool) → cond own 0 (bit_and (every_site setup.n) (255 - only_site p)) < 2 ^ sites
      relay_fits true = omega arith
      relay_fits false = omega (arith, every_fits setup.n, and_le_l (every_site setup.n) (255 - only_site p))

module _ (setup : Setup) (table : Table) (site : Site) (tally : Tally) (m from : ℕ) where
  pub second_fits : (good : Bool) → Fits (second_by_mask setup table site tally m from good)
  unfolding second_by_mask
  second_fits good =
      let heard = with_site (heard_for site m) from in
      let after = site_heard site m heard (with_site_if (good_for site m) from good) in
      cases_fit (late setup (heard_for site m) from (has site.stepped m)) (reached setup heard)
      (no_step_by_mask site tally) (step_second_by_mask setup table after tally m) (no_step_by_mask after tally)
      (none_fits site tally) (step_second_fits setup table after tally m) (none_fits after tally)

  pub third_fits : (carried : Set) → Fits (third_by_mask setup site tally m from carried)
  unfolding third_by_mask
  third_fits carried =
      let after = tallied_by_mask tally m from carried in
      cases_fit (late setup tally.heard from (has site.finished m)) (reached setup after.heard)
      (no_step_by_mask site tally) (step_third_by_mask setup site after m) (no_step_by_mask site after)
      (none_fits site tally) (step_third_fits setup table site after m) (none_fits site after)
