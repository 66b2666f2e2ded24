-- `reached` meets its contract.
-- Assumes nothing.
use lib.Count.{ones}
use Rattle.site.proofs.Counts.{quorum_reached}
use Rattle.site.proofs.Setup.reached.Goals as goal

pub returns : goal.returns
returns c =
    let args = c.args in
    rw (c.from.ensures, c.from-2.ensures) (quorum_reached args.self.n args.self.f (ones args.mask))
