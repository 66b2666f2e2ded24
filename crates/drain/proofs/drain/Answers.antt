-- `drain` meets its contract.
-- Assumes nothing.
use mathlib.Core.Path.{refl, sym, ap, ◌∙◌}
use Rattle.drain.specs.declared.Drained.{Drained}
use Rattle.drain.specs.Drain.{ending_of, drained}
use Rattle.drain.proofs.drain.Goals as goal

pub drain_board-requires : goal.drain_board-requires
drain_board-requires c = sym c.is_sound.ensures ∙ c.if-is_sound.true

pub returns-then-is_sound : goal.returns-then-is_sound
unfolding drained
returns-then-is_sound c =
    let same = c.drain_board.ensures in record { value = rw (sym c.is_sound.ensures ∙ c.if-is_sound.true) same; ending_value = rw (sym c.is_sound.ensures ∙ c.if-is_sound.true) (ap (λ (x : Drained). ending_of x.ending) same) }

pub returns : goal.returns
unfolding drained
returns c =
    let unsound = sym c.is_sound.ensures ∙ c.if-is_sound.false in
    rw c.number.ensures (record { value = rw unsound refl; ending_value = rw unsound refl })
