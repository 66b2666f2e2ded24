-- `fill` meets its contract.
-- Assumes nothing.
use mathlib.Core.Path.{sym, ap, ◌∙◌}
use native.Mathlib.Omega.{arith}
use lib.ListN.{length}
use Rattle.machine.proofs.Typed.{is_board}
use Rattle.image.proofs.Written.{image_long_lem}
use Rattle.by_value.proofs.Filled.{values_stored}
use Rattle.by_value.proofs.changed.fill.Goals as goal

pub slice_bounds-copy-end : goal.slice_bounds-copy-end
slice_bounds-copy-end c =
    let b = c.args.board in
    sym (ap length c.write_image.ensures ∙ image_long_lem b (is_board b _ c.well_formed.0))

pub copy-requires : goal.copy-requires
copy-requires c =
    let b = c.args.board in
    omega (arith, ap length c.write_image.ensures, image_long_lem b (is_board b _ c.well_formed.0), c.requires)

pub returns : goal.returns
returns c =
    let b = c.args.board in
    values_stored b c.args.first c.args.second _ c.args.out.now _ c.write_image.ensures (image_long_lem b (is_board b _ c.well_formed.0)) c.requires c.copy.ensures
