-- `record_of` meets its contract.
-- Assumes nothing.
use lib.ListN.{get_or-eq_default}
use native.Mathlib.Omega.{arith}
use Rattle.posting.specs.Records.{numbers_of}
use Rattle.books.specs.Books.{no_record}
use Rattle.printer.proofs.print.record_of.Goals as goal

pub returns-in-None : goal.returns-in-None
unfolding numbers_of
returns-in-None c =
    let sites = c.args.records.sites in
    rw (get_or-eq_default sites no_record {n = c.args.p} (omega (arith, c.in-None.ensures)))
