-- `setup_ok` meets its contract.
-- Assumes nothing.
use mathlib.Core.Path.{sym, ◌∙◌}
use mathlib.Core.Bool.{and-true}
use borrow.Author.Tests.{lt-ltb, le-ltb, le-leb, lt-leb}
use Rattle.posting.specs.Kinds.{has_fixed_pairs}
use Rattle.sets.specs.Below.{all_of}
use Rattle.machine.specs.Soundness.{setup_ok}
use Rattle.machine.proofs.sound.setup_ok.Goals as goal

pub returns-then-n-lt3 : goal.returns-then-n-lt3
unfolding setup_ok all_of
returns-then-n-lt3 c = rw (lt-leb 3 c.args.setup.n c.if-n-lt3.true)

pub returns-then-n-gt7 : goal.returns-then-n-gt7
unfolding setup_ok all_of
returns-then-n-gt7 c =
    let setup = c.args.setup in
    rw (le-leb 3 setup.n c.if-n-lt3.false, lt-leb setup.n 7 c.if-n-gt7.true)

pub returns-then-n-f : goal.returns-then-n-f
unfolding setup_ok all_of
returns-then-n-f c =
    let setup = c.args.setup in
    rw (le-leb 3 setup.n c.if-n-lt3.false, le-leb setup.n 7 c.if-n-gt7.false, le-ltb _ setup.n c.if-n-f.true)

pub returns-then-not-symmetric : goal.returns-then-not-symmetric
unfolding setup_ok all_of
returns-then-not-symmetric c =
    let setup = c.args.setup in
    rw (
      le-leb 3 setup.n c.if-n-lt3.false,
      le-leb setup.n 7 c.if-n-gt7.false,
      lt-ltb _ setup.n c.if-n-f.false,
      sym c.symmetric.ensures ∙ c.if-not-symmetric.true,
    )

pub returns : goal.returns
unfolding setup_ok all_of
returns c =
    let setup = c.args.setup in
    rw (
      le-leb 3 setup.n c.if-n-lt3.false,
      le-leb setup.n 7 c.if-n-gt7.false,
      lt-ltb _ setup.n c.if-n-f.false,
      sym c.symmetric.ensures ∙ c.if-not-symmetric.false,
      c.has_fixed_pairs.ensures,
    )
    (sym (and-true (has_fixed_pairs setup.matrix)))
