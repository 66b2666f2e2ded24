-- `figures_refusal` meets its contract.
-- Rests on audit_input's Accepted. Assumes nothing.
use Rattle.std.proofs.Common.{length, sym, ◌∙◌}
use Rattle.audit_input.proofs.Accepted.{fields_long_says}
use Rattle.audit_books.proofs.figures_refusal.Goals as goal

pub first_unlawful-requires : goal.first_unlawful-requires
first_unlawful-requires c =
    let v = c.args.postings in
    let s = fields_long_says (length v.kinds.now) (length v.firsts.now) (length v.seconds.now) (length v.amounts.now) (sym c.fields_long-long.ensures ∙ c.if-long.true) in
    record { firsts_all = s.1; seconds_all = s.2; amounts_all = s.3 }
