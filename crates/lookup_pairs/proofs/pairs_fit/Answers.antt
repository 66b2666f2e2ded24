-- `pairs_fit` meets its contract: a return for each cause of 7 and 18.
-- Assumes nothing.
use mathlib.Core.Path.{sym, ◌∙◌}
use Rattle.lookup_pairs.proofs.Refusals.{no_site_lem, too_many, no_account, no_room, none_applies}
use Rattle.lookup_pairs.proofs.pairs_fit.Goals as goal

pub returns-then-some_past : goal.returns-then-some_past
returns-then-some_past c =
    let args = c.args in
    no_site_lem args.n args.room args.pairs.now (sym c.some_past.ensures ∙ c.if-some_past.true)

pub returns-then-count-gt-PAIRS : goal.returns-then-count-gt-PAIRS
returns-then-count-gt-PAIRS c =
    let args = c.args in
    too_many args.n args.room args.pairs.now (sym c.some_past.ensures ∙ c.if-some_past.false) c.if-count-gt-PAIRS.true

pub returns-then-some_past-2 : goal.returns-then-some_past-2
returns-then-some_past-2 c =
    let args = c.args in
    no_account args.n args.room args.pairs.now (sym c.some_past.ensures ∙ c.if-some_past.false)
    (sym c.some_past-2.ensures ∙ c.if-some_past-2.true)

pub returns-then-room-count : goal.returns-then-room-count
returns-then-room-count c =
    let args = c.args in
    no_room args.n args.room args.pairs.now (sym c.some_past.ensures ∙ c.if-some_past.false) c.if-room-count.true

pub returns : goal.returns
returns c =
    let args = c.args in
    none_applies args.n args.room args.pairs.now (sym c.some_past.ensures ∙ c.if-some_past.false)
    c.if-count-gt-PAIRS.false (sym c.some_past-2.ensures ∙ c.if-some_past-2.false) c.if-room-count.false
