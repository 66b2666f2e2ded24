-- `lay_out` meets its contract.
-- Assumes nothing.
use mathlib.Core.Path.{refl}
use Rattle.arrays.specs.Arrays.{zeros}
use Rattle.machine.proofs.Typed.{is_board}
use Rattle.machine.proofs.Laid.{sound_ranged, laid_out}
use Rattle.machine.proofs.laying.lay_out.Goals as goal

pub lay_sets-requires : goal.lay_sets-requires
lay_sets-requires c = let b = c.args.board in sound_ranged b (is_board b _ c.well_formed.0) c.requires

pub returns : goal.returns
returns c =
    let b = c.args.board in
    laid_out b (is_board b _ c.well_formed.0) c.requires zeros _ _ _ _ refl
    c.lay_sets.ensures c.lay_counts.ensures c.lay_bytes.ensures c.lay_amounts.ensures
