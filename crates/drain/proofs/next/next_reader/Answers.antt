-- `next_reader` meets its contract. The loop's invariant: no site below p has log left.
-- Assumes nothing.
use Prim.Native.Nat.{◌-◌}
use mathlib.Core.Path.{sym, ◌∙◌}
use mathlib.Core.Bool.{true, false}
use native.Mathlib.Omega.{arith}
use borrow.Author.Tests.{lt-ltb, le-ltb}
use Rattle.drain.specs.Firsts.{reads}
use Rattle.drain.proofs.Searches.{first_start, first_miss, first_hit, first_end, reads_down, reads_up}
use borrow.Author.Rules.{rules}
use Rattle.drain.proofs.next.next_reader.Goals as goal

pub loop-p-init : goal.loop-p-init
loop-p-init c = (search rules, first_start (reads c.args.counts.now c.args.down))

pub loop-p-preserved-then-has_site : goal.loop-p-preserved-then-has_site
loop-p-preserved-then-has_site c =
    let at = c.loop-p in
    let args = c.args in
    let none = reads_down args.counts.now args.down at.p (sym c.has_site.ensures ∙ c.if-has_site.true) in
    (search rules, first_miss (reads args.counts.now args.down) at.p at.invariant.1 none)

pub returns-then-counts-i : goal.returns-then-counts-i
returns-then-counts-i c =
    let at = c.loop-p in
    let args = c.args in
    let up = sym c.has_site.ensures ∙ c.if-has_site.false in
    let here = reads_up args.counts.now args.down at.p true up (lt-ltb _ _ c.if-counts-i.true) in
    sym (first_hit (reads args.counts.now args.down) args.n at.p c.loop-p-test.true at.invariant.1 here)

pub loop-p-preserved : goal.loop-p-preserved
loop-p-preserved c =
    let at = c.loop-p in
    let args = c.args in
    let up = sym c.has_site.ensures ∙ c.if-has_site.false in
    let none = reads_up args.counts.now args.down at.p false up (le-ltb _ _ c.if-counts-i.false) in
    (search rules, first_miss (reads args.counts.now args.down) at.p at.invariant.1 none)

pub returns : goal.returns
returns c =
    let at = c.loop-p in
    let args = c.args in
    sym (first_end (reads args.counts.now args.down) args.n at.p (omega arith) at.invariant.1)
