-- A record brings no more lines than the most.
-- Rests on Lengths. Assumes nothing.
use Rattle.std.proofs.Common.{arith}
use Rattle.std.proofs.Math.ListN.{take}
use Rattle.audit_files.specs.Entries.{entries}
use Rattle.audit_files.proofs.LineLaws.{top_most}
use Rattle.audit_program.proofs.Lengths.{record_few}
use Rattle.audit_program.proofs.read_site.Goals as goal

pub overflow_cast-tops : goal.overflow_cast-tops
overflow_cast-tops g c = omega (arith, top_most (take c.in-Ok.n c.load.new.text), c.top_line.ensures)

pub returns : goal.returns
returns g c =
    omega (arith, record_few (entries (take c.in-Ok.n c.load.new.text)), c.read_record-read.ensures.count_value)
