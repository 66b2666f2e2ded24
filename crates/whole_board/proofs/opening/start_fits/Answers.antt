-- `start_fits` meets its contract.
-- Assumes nothing.
use Prim.Native.Nat.{◌*◌}
use mathlib.Core.Path.{sym, ◌∙◌}
use native.Mathlib.Omega.{arith}
use borrow.Author.Tests.{le-leb, lt-leb, le-ltb, lt-ltb}
use Rattle.steps.specs.CauseLists.{first_cause}
use Rattle.whole_board.proofs.opening.start_fits.Goals.{then-n-lt3-via-then-n-lt3, then-n-lt3-via-else-n-lt3+then-n-gt7}
use Rattle.whole_board.proofs.opening.start_fits.Goals as goal

pub returns-then-n-lt3 : goal.returns-then-n-lt3
unfolding first_cause
returns-then-n-lt3 c =
    elim c.then-n-lt3.branch [
      | then-n-lt3-via-then-n-lt3 w ↦ rw (lt-leb 3 c.args.n w.if-n-lt3.true)
      | then-n-lt3-via-else-n-lt3+then-n-gt7 w ↦ rw (le-leb 3 c.args.n w.if-n-lt3.false, lt-leb c.args.n 7 w.if-n-gt7.true)
    ]

pub returns-then-from : goal.returns-then-from
unfolding first_cause
returns-then-from c =
    rw (le-ltb (2 * c.args.f) c.args.n (omega arith), le-leb 3 c.args.n c.if-n-lt3.false, le-leb c.args.n 7 c.if-n-gt7.false)

pub returns-then-not-symmetric : goal.returns-then-not-symmetric
unfolding first_cause
returns-then-not-symmetric c =
    rw
    (sym c.symmetric.ensures ∙ c.if-not-symmetric.true, lt-ltb (2 * c.args.f) c.args.n (omega arith), le-leb 3 c.args.n c.if-n-lt3.false, le-leb c.args.n 7 c.if-n-gt7.false)

pub returns-then-not-has_fixed_pairs : goal.returns-then-not-has_fixed_pairs
unfolding first_cause
returns-then-not-has_fixed_pairs c =
    rw
    (sym c.has_fixed_pairs.ensures ∙ c.if-not-has_fixed_pairs.true, sym c.symmetric.ensures ∙ c.if-not-symmetric.false, lt-ltb (2 * c.args.f) c.args.n (omega arith), le-leb 3 c.args.n c.if-n-lt3.false, le-leb c.args.n 7 c.if-n-gt7.false)

pub returns : goal.returns
unfolding first_cause
returns c =
    rw
    (sym c.has_fixed_pairs.ensures ∙ c.if-not-has_fixed_pairs.false, sym c.symmetric.ensures ∙ c.if-not-symmetric.false, lt-ltb (2 * c.args.f) c.args.n (omega arith), le-leb 3 c.args.n c.if-n-lt3.false, le-leb c.args.n 7 c.if-n-gt7.false)
