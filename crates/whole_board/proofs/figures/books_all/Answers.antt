-- `books_all` meets its contract.
-- Assumes nothing.
use mathlib.Core.Path.{refl, sym, ◌∙◌}
use Rattle.machine.specs.Figures.{shown, showing_all}
use Rattle.whole_board.proofs.figures.books_all.Goals as goal

pub books_all_sound-requires : goal.books_all_sound-requires
books_all_sound-requires c = sym c.is_sound.ensures ∙ c.if-is_sound.true

pub returns : goal.returns
unfolding showing_all shown
returns c =
    let unsound = sym c.is_sound.ensures ∙ c.if-is_sound.false in
    record {
      value = rw (c.number.ensures, unsound) refl;
      out_after = rw unsound refl;
      result_value = rw (c.number.ensures, unsound) refl;
    }
