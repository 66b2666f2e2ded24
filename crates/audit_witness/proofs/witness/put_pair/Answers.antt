-- `put_pair` meets its contract.
-- Assumes nothing.
use mathlib.Core.Path.{ap, ap₂}
use mathlib.Core.List.{◌++◌}
use Rattle.posting.specs.declared.Posting.{Posting}
use Rattle.audit_rule.specs.Handed.{posting_at}
use Rattle.printer.proofs.Writing.{then_put, put_as}
use Rattle.audit_witness.specs.Witness.{posting_words, field_words, shared_accounts, pair_words}
use Rattle.audit_witness.proofs.witness.put_pair.Goals as goal

pub returns : goal.returns
unfolding pair_words
returns c = let v = c.args in let first = c.posting_at-p.ensures in let second = c.posting_at-q.ensures in
    then_put (put_as (ap (λ (z : Posting). posting_words v.postings.kinds.now v.x ++ field_words z) {y = posting_at v.postings.kinds.now v.postings.firsts.now v.postings.seconds.now v.postings.amounts.now v.x} first) c.put_told-a.ensures)
    (then_put (put_as (ap (λ (z : Posting). posting_words v.postings.kinds.now v.y ++ field_words z) {y = posting_at v.postings.kinds.now v.postings.firsts.now v.postings.seconds.now v.postings.amounts.now v.y} second) c.put_told-b.ensures)
    (then_put c.put_text-c.ensures
    (then_put (put_as (ap₂ (λ (z w : Posting). shared_accounts z w 16) {y = posting_at v.postings.kinds.now v.postings.firsts.now v.postings.seconds.now v.postings.amounts.now v.x} {v = posting_at v.postings.kinds.now v.postings.firsts.now v.postings.seconds.now v.postings.amounts.now v.y} first second) c.put_all_shared-d.ensures) c.put_text.ensures)))
