-- `hand_back` meets its contract.
-- Assumes nothing.
use Rattle.by_value.proofs.CallLaws.{filled_in}
use Rattle.by_value.proofs.changed.hand_back.Goals as goal

pub returns : goal.returns
returns c =
    let g = c.args in
    let reply = c.reply_to-reply.ensures in let shown = filled_in g.board g.request g.limit g.figures.now _ g.out.now _ _ reply.value reply.figures_after c.fill.ensures in record { value = shown.0; figures_after = shown.1.0; out_after = shown.1.1 }
