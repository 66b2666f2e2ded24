-- `is_quiet` meets its contract.
-- Assumes nothing.
use mathlib.Core.Path.{sym, ◌∙◌}
use Rattle.machine.proofs.QuietPartLaws.{quiet_parts}
use Rattle.machine.proofs.Typed.{is_board}
use Rattle.whole_board.proofs.quiet.is_quiet.Goals as goal

pub returns : goal.returns
returns c =
    let board = c.args.board in
    c.quiet_by.ensures
    ∙ sym (quiet_parts board c.places_of-counts.result (record { places = c.places_of-counts.ensures.by_index; logged = sym c.places_of-counts.ensures.logged_at_value })
    (is_board board _ c.well_formed.0).flight.masks)
