-- `put_tally` meets its contract.
-- Assumes nothing.
use Rattle.image.proofs.Written.{tally_written}
use Rattle.image.proofs.writing.put_tally.Goals as goal

pub returns : goal.returns
returns c =
    let args = c.args in
    tally_written args.tally args.out.now _ args.at c.put_set.ensures
