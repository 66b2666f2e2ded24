-- `all_read` meets its contract. The loop's invariant: the first p sites are down or have read it all.
-- Assumes nothing.
use Prim.Native.Nat.{◌-◌, ◌<◌}
use mathlib.Core.Path.{sym, ◌∙◌}
use mathlib.Core.Bool.{true}
use native.Mathlib.Omega.{arith}
use lib.ListN.{get_or}
use borrow.Author.Tests.{le-leb, lt-ltb, le-ltb}
use Rattle.sets.specs.Masks.{has_bit}
use Rattle.sets.proofs.Truth.{or_left, or_right}
use Rattle.sets.proofs.BelowLaws.{all_fails, all_none, all_more, all_end}
use Rattle.site.specs.Sites.{sites}
use Rattle.arrays.specs.Layout.{logged_at}
use Rattle.machine.specs.QuietParts.{place_in, has_read, all_have_read}
use Rattle.machine.proofs.QuietPartLaws.{read_none, behind}
use borrow.Author.Rules.{rules}
use Rattle.whole_board.proofs.quiet.all_read.Goals as goal

pub returns-then-logged-eq0 : goal.returns-then-logged-eq0
returns-then-logged-eq0 c = let args = c.args in sym (read_none args.n args.down args.counts.now c.if-logged-eq0.true)

pub loop-p-init : goal.loop-p-init
loop-p-init c = let args = c.args in (search rules, all_none (has_read args.down args.counts.now))

pub loop-p-preserved-then-has_site : goal.loop-p-preserved-then-has_site
loop-p-preserved-then-has_site c =
    let at = c.loop-p in
    let args = c.args in (
      search rules,
      all_more (has_read args.down args.counts.now) at.p at.invariant.1
          (or_left (has_bit args.down at.p) _ (sym c.has_site.ensures ∙ c.if-has_site.true)),
    )

pub returns-then-i-ge-SITES : goal.returns-then-i-ge-SITES
unfolding all_have_read
returns-then-i-ge-SITES c =
    let at = c.loop-p in
    let args = c.args in
    let some : 0 < get_or args.counts.now logged_at 0 = omega (arith, c.if-logged-eq0.false) in
    sym (all_fails (has_read args.down args.counts.now) args.n at.p c.loop-p-test.true
    (behind args.down args.counts.now at.p (sym c.has_site.ensures ∙ c.if-has_site.false) (rw (le-ltb at.p sites c.if-i-ge-SITES.true) some)))

pub returns-then-counts-i : goal.returns-then-counts-i
unfolding all_have_read
returns-then-counts-i c =
    let at = c.loop-p in
    let args = c.args in
    sym (all_fails (has_read args.down args.counts.now) args.n at.p c.loop-p-test.true
    (behind args.down args.counts.now at.p (sym c.has_site.ensures ∙ c.if-has_site.false) (rw (lt-ltb at.p sites c.if-i-ge-SITES.false) c.if-counts-i.true)))

pub loop-p-preserved : goal.loop-p-preserved
loop-p-preserved c =
    let at = c.loop-p in
    let args = c.args in (
      search rules,
      all_more (has_read args.down args.counts.now) at.p at.invariant.1
          (or_right (has_bit args.down at.p) _ (le-leb (get_or args.counts.now logged_at 0) (place_in args.counts.now at.p) (rw (lt-ltb at.p sites c.if-i-ge-SITES.false) c.if-counts-i.false))),
    )

pub returns : goal.returns
unfolding all_have_read
returns c =
    let at = c.loop-p in
    let args = c.args in
    sym (all_end (has_read args.down args.counts.now) args.n at.p (omega (arith, at.invariant.0, c.loop-p-test.false)) at.invariant.1)
