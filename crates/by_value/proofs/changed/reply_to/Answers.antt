-- `reply_to` meets its contract.
-- Assumes nothing.
use Rattle.by_value.specs.Changed.{reply_to, figures_after}
use Rattle.by_value.proofs.changed.reply_to.Goals as goal

pub returns-in-Take : goal.returns-in-Take
unfolding reply_to figures_after
returns-in-Take c =
    let told = c.in-Take.is in
    record { value = rw told c.reply_of_call.ensures; figures_after = rw told }

pub returns-in-Drain : goal.returns-in-Drain
unfolding reply_to figures_after
returns-in-Drain c =
    let told = c.in-Drain.is in
    record { value = rw told c.reply_of_drain.ensures; figures_after = rw told }

pub returns-in-Books : goal.returns-in-Books
unfolding reply_to figures_after
returns-in-Books c =
    let told = c.in-Books.is in
    let books = c.books_all-answer.ensures in
    record { value = rw (told, c.refusal_of-why.ensures, books.value); figures_after = rw told books.out_after }
