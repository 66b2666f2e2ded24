-- `basis_ok` meets its contract.
-- Assumes nothing.
use Prim.Native.Nat.{◌^◌}
use mathlib.Core.Path.{sym, ◌∙◌}
use mathlib.Core.Bool.{and-true}
use lib.Dec.{ltb}
use Rattle.sets.specs.Below.{all_of}
use Rattle.machine.specs.SoundParts.{basis_sound}
use Rattle.machine.proofs.sound.basis_ok.Goals as goal

pub returns-then-not-setup_ok : goal.returns-then-not-setup_ok
unfolding basis_sound all_of
returns-then-not-setup_ok c = rw (sym c.setup_ok.ensures ∙ c.if-not-setup_ok.true)

pub returns-then-not-table_ok : goal.returns-then-not-table_ok
unfolding basis_sound all_of
returns-then-not-table_ok c = rw (sym c.setup_ok.ensures ∙ c.if-not-setup_ok.false, sym c.table_ok.ensures ∙ c.if-not-table_ok.true)

pub returns : goal.returns
unfolding basis_sound all_of
returns c =
    let args = c.args in
    rw (
      sym c.setup_ok.ensures ∙ c.if-not-setup_ok.false,
      sym c.table_ok.ensures ∙ c.if-not-table_ok.false,
      c.sites_below.ensures,
    )
    (sym (and-true (ltb args.down (2 ^ args.setup.n))))
