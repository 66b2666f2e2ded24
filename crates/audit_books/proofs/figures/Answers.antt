-- `figures` meets its contract.
-- Rests on Judged. Assumes nothing.
use Rattle.std.proofs.Common.{length, sym}
use Rattle.audit_books.proofs.Judged.{figures_none}
use Rattle.audit_books.proofs.figures.Goals as goal

pub figures_of-requires : goal.figures_of-requires
figures_of-requires c = let v = c.args in figures_none v.kinds.now v.firsts.now v.seconds.now v.amounts.now v.lines.now (length v.out.now) (sym c.in_default.ensures)
