-- `is_good` meets its contract.
-- Assumes nothing.
use mathlib.Core.Path.{refl}
use borrow.Author.Tests.{lt-ltb}
use Rattle.sets.specs.Masks.{has_bit}
use Rattle.flight.proofs.CellLaws.{pair_in, pair_below}
use Rattle.flight.specs.Flights.{pairs, pair_at}
use Rattle.arrays.proofs.messages.is_good.Goals as goal

pub returns : goal.returns
unfolding has_bit
returns c =
    let a = c.args in
    let p = c.requires in
    rw (lt-ltb (pair_at a.m a.from) pairs (pair_below a.m a.from p.0 p.1), pair_in a.m a.from p.0 p.1) refl
