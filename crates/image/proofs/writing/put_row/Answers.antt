-- `put_row` meets its contract.
-- Assumes nothing.
use Rattle.image.proofs.Written.{row_written}
use Rattle.image.proofs.writing.put_row.Goals as goal

pub returns : goal.returns
returns c =
    let args = c.args in
    row_written args.row args.out.now args.at
