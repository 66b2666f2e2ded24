-- `drain_after` meets its contract.
-- Assumes nothing.
use mathlib.Core.Path.{ap, ◌∙◌}
use Rattle.machine.specs.declared.Board.{Board}
use Rattle.machine.specs.Calls.{refusal_of}
use Rattle.drain.specs.Drain.{drained}
use Rattle.decoder.specs.RunFile.{calls_of}
use Rattle.counted.proofs.DrainLaws.{no_room, all_done}
use Rattle.by_value.proofs.run.drain_after.Goals as goal

pub returns-then-why-ne0 : goal.returns-then-why-ne0
returns-then-why-ne0 c =
    let books = c.books_all-answer.ensures in
    let done = c.drain-drained.ensures.value ∙ ap (λ (b : Board). drained b c.args.limit) c.left_by-left.ensures in let shown = no_room c.args.board (calls_of c.args.input.now) c.args.limit c.args.out.now _ _ _ done (c.refusal_of-why.ensures ∙ ap refusal_of books.value) books.out_after c.if-why-ne0.true in record { value = shown.0; out_after = shown.1 }

pub returns : goal.returns
returns c =
    let books = c.books_all-answer.ensures in
    let done = c.drain-drained.ensures.value ∙ ap (λ (b : Board). drained b c.args.limit) c.left_by-left.ensures in let shown = all_done c.args.board (calls_of c.args.input.now) c.args.limit c.args.out.now _ _ _ done (c.refusal_of-why.ensures ∙ ap refusal_of books.value) books.out_after c.if-why-ne0.false in record { value = shown.0; out_after = shown.1 }
