-- The loop over the sites: what holds after p of them, one more, and the end.
-- Rests on Places and Several. Assumes nothing.
use Prim.Native.Nat.{ℕ, ◌+◌, ◌<◌, ◌≤◌}
use mathlib.Core.Path.{◌≡◌, sym, ap, ◌∙◌}
use mathlib.Core.List.{List}
use native.Mathlib.Omega.{arith}
use lib.Dec.{eqb}
use lib.ListN.{length}
use Rattle.audit_rule.specs.Audit.{leads_at, lacks_at}
use Rattle.audit_rule.specs.Handed.{record_of}
use Rattle.audit_pair.specs.declared.Sites.{Sites}
use Rattle.audit_pair.specs.Pair.{stands, with_site, sites_of}
use Rattle.audit_pair.proofs.Places.{leads_forth, leads_back, lacks_first, lacks_second}
use Rattle.audit_pair.proofs.Several.{Left, left_next, left_end}

-- the four searches, after p sites
pub record Visiting (lines ends : List ℕ) (x y : ℕ) (sites : Sites) (p : ℕ) : Type 0 where
  pub below : p ≤ length ends
  pub forth_left : Left (leads_at (length ends) (record_of lines ends) x y) (length ends) sites.forth p
  pub back_left : Left (leads_at (length ends) (record_of lines ends) y x) (length ends) sites.back p
  pub first_left : Left (lacks_at (length ends) (record_of lines ends) y x) (length ends) sites.first p
  pub second_left : Left (lacks_at (length ends) (record_of lines ends) x y) (length ends) sites.second p

module _ {lines ends : List ℕ} {x y : ℕ} {sites : Sites} {p : ℕ} (g : Visiting lines ends x y sites p) where
  abbrev n : ℕ
  n = length ends

  abbrev records : ℕ → List ℕ
  records = record_of lines ends

  pub visit_end : n ≤ p → sites ≡ sites_of n records x y
  unfolding sites_of
  visit_end h = rw
      (sym (left_end g.forth_left g.below h), sym (left_end g.back_left g.below h), sym (left_end g.first_left g.below h), sym (left_end g.second_left g.below h))

  module _ (more : p < n) where
    pub visit_next : {code : ℕ} → code ≡ stands x y (records p) → Visiting lines ends x y (with_site n p code sites) (p + 1)
    unfolding with_site
    visit_next {code} is =
        let forth : eqb code 1 ≡ leads_at n records x y p = ap (λ k. eqb k 1) is ∙ sym (leads_forth n records x y p) in
        let back : eqb code 2 ≡ leads_at n records y x p = ap (λ k. eqb k 2) is ∙ sym (leads_back n records x y p) in
        let first : eqb code 4 ≡ lacks_at n records y x p = ap (λ k. eqb k 4) is ∙ sym (lacks_second n records x y p) in
        let second : eqb code 3 ≡ lacks_at n records x y p = ap (λ k. eqb k 3) is ∙ sym (lacks_first n records x y p) in
        record {
          below = omega (arith, more);
          forth_left = rw forth (left_next g.forth_left more);
          back_left = rw back (left_next g.back_left more);
          first_left = rw first (left_next g.first_left more);
          second_left = rw second (left_next g.second_left more);
        }
