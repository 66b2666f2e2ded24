-- `write_image` meets its contract.
-- Assumes nothing.
use Rattle.machine.proofs.Typed.{is_board}
use Rattle.image.proofs.Written.{image_done, image_written}
use Rattle.image.proofs.writing.write_image.Goals as goal

pub returns : goal.returns
returns c =
    let board = c.args.board in
    let shape = is_board board _ c.well_formed.0 in
    image_written board shape c.args.out.now _ c.put_setup-arg-1.given.0.1
    (image_done board shape _ _ _ _ _ _ _ _ _ c.put_setup.ensures c.put_table.ensures
    c.put_sites.ensures c.put_tallies.ensures c.put_flight.ensures
    c.put_set.ensures c.put_entries.ensures c.put_record.ensures)
