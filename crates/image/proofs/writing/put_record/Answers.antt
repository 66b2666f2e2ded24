-- `put_record` meets its contract.
-- Assumes nothing.
use Rattle.image.proofs.Written.{record_written}
use Rattle.image.proofs.writing.put_record.Goals as goal

pub returns : goal.returns
returns c =
    let args = c.args in
    record_written args.delivered args.out.now _ args.at c.put_column.ensures
