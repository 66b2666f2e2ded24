-- Arrays keep their lengths.
-- Rests on Lengths. Assumes nothing.
use Rattle.std.proofs.Common.{sym}
use Rattle.std.proofs.Math.Seq.{length-take-le}
use Rattle.audit_program.proofs.Lengths.{within, at_most}
use Rattle.audit_program.proofs.report_on.Goals as goal

pub read_files-read-requires : goal.read_files-read-requires
read_files-read-requires g c = c.requires

pub slice_bounds-lines-end : goal.slice_bounds-lines-end
slice_bounds-lines-end g c = within c.read_files-read.ensures.count_bound c.read_files-read.ensures.lengths.0

pub slice_bounds-records-end : goal.slice_bounds-records-end
slice_bounds-records-end g c =
    let read = c.read_files-read.ensures in
    sym (length-take-le c.read_files-read.result.count c.read_files-read.new.lines (within read.count_bound read.lengths.0))

pub slice_bounds-ends-end : goal.slice_bounds-ends-end
slice_bounds-ends-end g c = within c.requires.0 c.read_files-read.ensures.lengths.1

pub slice_bounds-records-end-2 : goal.slice_bounds-records-end-2
slice_bounds-records-end-2 g c =
    sym (length-take-le c.args.n c.read_files-read.new.ends (within c.requires.0 c.read_files-read.ensures.lengths.1))

pub slice_bounds-report_read-end : goal.slice_bounds-report_read-end
slice_bounds-report_read-end g c = sym c.read_files-read.ensures.lengths.2

pub report_read-requires : goal.report_read-requires
report_read-requires g c =
    let read = c.read_files-read.ensures in (
      at_most (length-take-le c.read_files-read.result.count c.read_files-read.new.lines (within read.count_bound read.lengths.0)) read.count_bound,
      at_most (length-take-le c.args.n c.read_files-read.new.ends (within c.requires.0 read.lengths.1)) (within c.requires.0 read.lengths.2),
    )
