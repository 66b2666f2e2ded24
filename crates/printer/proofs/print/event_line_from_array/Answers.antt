-- `event_line_from_array` meets its contract.
-- Assumes nothing.
use mathlib.Core.Path.{sym}
use Rattle.std.proofs.Common.{length-take-le}
use borrow.Author.Rules.{rules}
use native.Mathlib.Omega.{arith}
use Rattle.printer.proofs.Lengths.{longest_line}
use Rattle.printer.proofs.Writing.{put_as, put_room, text_read}
use Rattle.printer.proofs.print.event_line_from_array.Goals as goal

pub slice_bounds-line-end : goal.slice_bounds-line-end
slice_bounds-line-end c =
    let made = c.event_line_in-end.ensures in
    let args = c.args in
    let short = longest_line args.k args.refusal (search rules) (search rules) in
    omega (arith, put_room 0 made (omega (arith, short)))

pub slice_bounds-put_text-end : goal.slice_bounds-put_text-end
slice_bounds-put_text-end c =
    let made = c.event_line_in-end.ensures in
    let args = c.args in
    let short = longest_line args.k args.refusal (search rules) (search rules) in
    sym (length-take-le _ _ (omega (arith, put_room 0 made (omega (arith, short)))))

pub returns : goal.returns
returns c =
    let args = c.args in
    let short = longest_line args.k args.refusal (search rules) (search rules) in
    put_as (text_read _ _ _ _ (omega arith) (omega (arith, short)) c.event_line_in-end.ensures) c.put_text.ensures
