-- `gather` meets its contract: after p sites the blocks of those named stand among the figures, and their places were visited.
-- Assumes nothing.
use Prim.Native.Nat.{ℕ, ◌+◌, ◌≤◌, ◌-◌, ◌<◌}
use mathlib.Core.Path.{◌≡◌, refl, sym, ap, ap₂, ◌∙◌, subst, subst⁻¹}
use mathlib.Core.List.{[]}
use native.Mathlib.Omega.{arith}
use lib.ListN.{length}
use borrow.Author.Rules.{rules}
use Rattle.sets.specs.Masks.{has_bit}
use Rattle.site.specs.Sites.{sites}
use Rattle.arrays.specs.declared.Arrays.{Arrays}
use Rattle.arrays.specs.Arrays.{arrays}
use Rattle.lookup_pairs.specs.Pairs.{visited_to}
use Rattle.lookups.specs.Gathering.{places_at, numbers_at, Gathered}
use Rattle.lookups.proofs.Blocks.{length_at, length_more, gathered_more, visited_more, places_most}
use Rattle.lookups.proofs.gather.Goals as goal
use Rattle.lookups.proofs.gather.Goals.{After-figures-1, Start}

abbrev on-arrays : Start → Arrays
on-arrays c = c.args.board.now

pub loop-p-init : goal.loop-p-init
unfolding visited_to
loop-p-init c = (search rules, c.requires.2, refl, search rules, λ p h so. absurd (omega (arith, h)))

pub gather_site-places-requires : goal.gather_site-places-requires
gather_site-places-requires c =
    let here = c.loop-p-test.true in
    (omega (arith, here, c.requires.0), c.requires.1 c.loop-p.p here, c.loop-p.invariant.1)

-- what site p adds
added : (c : After-figures-1) → c.gather_site-places.result ≤ 256
added c =
    let args = c.args in
    rw c.gather_site-places.ensures.value
    (places_most (on-arrays c.before.before.before.before.before) args.named c.loop-p.p (c.requires.1 c.loop-p.p c.loop-p-test.true))

pub overflow_add-visited : goal.overflow_add-visited
overflow_add-visited c = record { fits = omega (arith, added (goal.at.overflow_add-visited c).After-figures-1, c.loop-p.invariant.3, c.loop-p-test.true, c.requires.0) }

pub loop-p-preserved : goal.loop-p-preserved
loop-p-preserved c =
    let args = c.args in
    let p = c.loop-p.p in
    let here = c.loop-p-test.true in
    let there : p < sites = omega (arith, here, c.requires.0) in
    let site = c.gather_site-places.ensures in
    let a = on-arrays (goal.at.loop-p-preserved c).Start in
    let numbers = numbers_at a in
    let whole = length_at a in (
      omega (arith, here),
      ap length site.figures_after ∙ length_more numbers whole args.named c.loop-p.figures c.loop-p.invariant.1 p there,
      ap₂ ◌+◌ c.loop-p.invariant.2 site.value ∙ sym (visited_more p (has_bit args.named) (places_at a)),
      omega (arith, added (goal.at.loop-p-preserved c).After-figures-1, c.loop-p.invariant.3),
      subst⁻¹ (Gathered numbers args.named (p + 1)) site.figures_after (gathered_more numbers whole args.named c.loop-p.figures c.loop-p.invariant.1 p there c.loop-p.invariant.4),
    )

pub shape_of-figures : goal.shape_of-figures
shape_of-figures c = c.loop-p.invariant.1 ∙ sym c.requires.2

pub returns : goal.returns
returns c =
    let at = c.loop-p in
    let args = c.args in
    let a = on-arrays (goal.at.returns c).Start in
    let end : at.p ≡ args.n = omega arith in record { value = at.invariant.2 ∙ ap (λ (n : ℕ). visited_to n (has_bit args.named) (places_at a)) end; gathered = subst (λ (n : ℕ). Gathered (numbers_at a) args.named n at.figures) end at.invariant.4 }
