-- `copy_lines` meets its contract: after i pairs their lines stand before what is left of the slice.
-- Assumes nothing.
use Prim.Native.Nat.{ℕ, ◌*◌, ◌-◌, ◌<◌}
use mathlib.Core.Path.{◌≡◌, refl, ap, ◌∙◌}
use mathlib.Core.List.{List, ◌++◌}
use native.Mathlib.Omega.{arith}
use lib.IntN.{ℤ}
use lib.ListN.{drop}
use borrow.Author.Rules.{rules}
use Rattle.posting.specs.Kinds.{accounts}
use Rattle.masks.specs.SiteMasks.{room}
use Rattle.lookup_pairs.specs.Pairs.{pair_count, lines_to}
use Rattle.lookup_pairs.specs.Gathered.{block_of, Within}
use Rattle.lookup_pairs.proofs.PairLaws.{line_copied}
use Rattle.lookup_pairs.proofs.copy_lines.Goals as goal
use Rattle.lookup_pairs.proofs.copy_lines.Goals.{After-wide-account}

-- where the line of pair i is copied
module _ (c : After-wide-account) where
  abbrev pairs : List ℕ
  pairs = c.args.pairs.now

  abbrev figures : List ℤ
  figures = c.args.figures.now

  abbrev i : ℕ
  i = c.loop-i.i

  abbrev within : Within pairs
  within = c.requires.0

  here : i < pair_count pairs
  here = c.loop-i-test.true

  site_within : c.wide-site.result < room
  site_within = omega (arith, (within i here).0, c.wide-site.ensures)

  account-within : c.wide-account.result < accounts
  account-within = omega (arith, (within i here).1, c.wide-account.ensures)

pub loop-i-init : goal.loop-i-init
unfolding lines_to
loop-i-init c = (search rules, refl, refl)

pub overflow_mul-site : goal.overflow_mul-site
overflow_mul-site c = record { fits = omega (arith, site_within (goal.at.overflow_mul-site c).After-wide-account) }

pub overflow_mul-account : goal.overflow_mul-account
overflow_mul-account c = record { fits = omega (arith, account-within (goal.at.overflow_mul-account c).After-wide-account) }

pub overflow_add-site : goal.overflow_add-site
overflow_add-site c =
    let at = (goal.at.overflow_add-site c).After-wide-account in
    record { fits = omega (arith, site_within at, account-within at) }

pub copy_line-requires : goal.copy_line-requires
copy_line-requires c =
    let at = (goal.at.copy_line-requires c).After-wide-account in
    (omega (arith, site_within at, account-within at), omega arith)

pub loop-i-preserved : goal.loop-i-preserved
loop-i-preserved c =
    let at = (goal.at.loop-i-preserved c).After-wide-account in (
      omega (arith, here at),
      c.copy_line.auto.out ∙ c.loop-i.invariant.1,
      line_copied (figures at) (pairs at) c.requires.1 (within at) (i at) (here at) _ _
          c.wide-site.ensures c.wide-account.ensures c.args.out.now c.loop-i.out _ c.loop-i.invariant.2 c.copy_line.ensures,
    )

pub shape_of-out : goal.shape_of-out
shape_of-out c = c.loop-i.invariant.1

pub returns : goal.returns
returns c =
    let args = c.args in
    let end : c.loop-i.i ≡ pair_count args.pairs.now = omega arith in
    c.loop-i.invariant.2 ∙ ap (λ (n : ℕ). lines_to n (block_of args.figures.now) args.pairs.now ++ drop (4 * n) args.out.now) end
