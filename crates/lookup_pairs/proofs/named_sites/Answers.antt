-- `named_sites` meets its contract: after i pairs the mask has the sites that they name.
-- Assumes nothing.
use Prim.Native.Nat.{ℕ, ◌-◌}
use mathlib.Core.Path.{◌≡◌, refl, sym, ap, ◌∙◌}
use native.Mathlib.Omega.{arith}
use borrow.Author.Rules.{rules}
use Rattle.lookup_pairs.specs.Pairs.{pair_count, site_in}
use Rattle.lookup_pairs.specs.Gathered.{named_to}
use Rattle.masks.specs.SiteMasks.{with_site}
use Rattle.lookup_pairs.proofs.PairLaws.{named_more}
use Rattle.lookup_pairs.proofs.named_sites.Goals as goal

pub loop-i-init : goal.loop-i-init
unfolding named_to
loop-i-init c = (search rules, refl)

pub loop-i-preserved : goal.loop-i-preserved
loop-i-preserved c =
    let at = c.loop-i in
    let args = c.args in
    (search rules, c.with_site-named.ensures ∙ ap (λ (mask : ℕ). with_site mask (site_in args.pairs.now at.i)) at.invariant.1 ∙ sym (named_more args.pairs.now at.i))

pub returns : goal.returns
returns c =
    let at = c.loop-i in
    let args = c.args in
    let end : at.i ≡ pair_count args.pairs.now = omega arith in
    at.invariant.1 ∙ ap (λ (n : ℕ). named_to n args.pairs.now) end
