-- `sizes_refusal` meets its contract.
-- Rests on Accepted. Assumes nothing.
use Rattle.std.proofs.Common.{length, sym, ◌∙◌}
use Rattle.audit_input.proofs.Accepted.{fields_long_says}
use Rattle.audit_input.proofs.sizes_refusal.Goals as goal

pub lent_long-requires : goal.lent_long-requires
lent_long-requires c = let v = c.args.postings in (fields_long_says (length v.kinds.now) (length v.firsts.now) (length v.seconds.now) (length v.amounts.now) (sym c.fields_long-long.ensures ∙ c.if-long.true)).0
