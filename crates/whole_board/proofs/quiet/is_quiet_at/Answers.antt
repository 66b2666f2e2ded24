-- `is_quiet_at` meets its contract.
-- Assumes nothing.
use mathlib.Core.Path.{sym, ◌∙◌}
use Rattle.arrays.specs.Arrays.{arrays}
use Rattle.machine.specs.View.{view}
use Rattle.machine.proofs.QuietPartLaws.{quiet_few}
use Rattle.whole_board.proofs.Places.{places_at}
use Rattle.whole_board.proofs.quiet.is_quiet_at.Goals as goal

pub returns : goal.returns
unfolding view
returns c =
    let g = c.args in
    let b = g.board.now in
    λ amounts good carried.
    let a = arrays b.sets b.counts b.bytes amounts b.masks good carried in
    c.quiet_by.ensures ∙ rw c.load-pool.ensures (sym (quiet_few (view g.setup a) a.counts (places_at g.setup a) c.requires.0 c.requires.1))
