-- What is written is part of the buffer, and arrays keep their lengths.
-- Rests on printer, Lengths. Assumes nothing.
use Rattle.std.proofs.Common.{◌≤◌, length, sym}
use Rattle.std.proofs.lemmas.List.{length-take-le}
use Rattle.printer.proofs.Writing.{written_within}
use Rattle.audit_program.proofs.Lengths.{count_filled}
use Rattle.audit_program.proofs.report_read.Goals as goal

pub slice_bounds-report-end-3 : goal.slice_bounds-report-end-3
slice_bounds-report-end-3 g c = count_filled 524_288 0

pub slice_bounds-out-end : goal.slice_bounds-out-end
slice_bounds-out-end g c = written_within _ _ _ _ _ c.in-Some.is c.report-answer.ensures.value c.report-answer.ensures.out_after

pub slice_bounds-write_out-end : goal.slice_bounds-write_out-end
slice_bounds-write_out-end g c =
    let h : c.in-Some.count ≤ length c.report-answer.new.out = written_within _ _ _ _ _ c.in-Some.is c.report-answer.ensures.value c.report-answer.ensures.out_after in
    sym (length-take-le c.in-Some.count c.report-answer.new.out h)
