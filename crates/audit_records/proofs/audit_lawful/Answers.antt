-- `audit_lawful` meets its contract.
-- Rests on Lawful. Assumes nothing.
use Rattle.std.proofs.Common.{length, refl, ◌∙◌}
use Rattle.audit_records.proofs.Lawful.{all_zero, lawful_auditable, lawful_agreed, lawful_departs, lawful_pair}
use Rattle.audit_records.proofs.audit_lawful.Goals as goal

pub departure-requires : goal.departure-requires
departure-requires c = lawful_auditable c.requires _ _ (λ x. rw (c.fill.ensures.after (λ y e. e)) (all_zero (length c.args.places.now) x)) c.fill.auto.self refl

pub pair_at-requires : goal.pair_at-requires
pair_at-requires c = lawful_pair c.requires c.in-Some.ensures refl

pub returns-in-None : goal.returns-in-None
returns-in-None c = lawful_agreed c.requires c.in-None.ensures refl

pub returns-in-Some : goal.returns-in-Some
returns-in-Some c = c.pair_at.ensures ∙ lawful_departs c.requires c.in-Some.ensures refl
