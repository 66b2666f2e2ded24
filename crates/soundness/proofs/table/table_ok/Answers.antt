-- `table_ok` meets its contract.
-- Assumes nothing.
use Rattle.std.proofs.Common.{rules, tests, arith}
use mathlib.Core.Path.{◌≡◌, ◌∙◌}
use lib.ListN.{length, take}
use borrow.Author.Tests.{le-leb}
use Rattle.std.proofs.lemmas.Iterator.{YieldsList-from_slice}
use Rattle.std.proofs.lemmas.Iterator.Search.{all_from_yields_List}
use Rattle.sets.specs.Sets.{capacity}
use Rattle.sets.proofs.BelowLaws.{all_taken}
use Rattle.posting.specs.declared.Posting.{Posting}
use Rattle.posting.specs.Conflicts.{row, no_posting}
use Rattle.soundness.specs.Parts.{row_sound, table_sound}
use Rattle.soundness.proofs.table.table_ok.Goals as goal

pub returns-then-table-le-POSTINGS : goal.returns-then-table-le-POSTINGS
unfolding table_sound row
returns-then-table-le-POSTINGS c =
    let t = c.args.table in
    let long : length t.rows ≡ capacity = search rules in
    let test = λ (p : Posting). row_sound c.args.n p in
    rw (le-leb t.count capacity c.if-table-le-POSTINGS.true)
    (all_from_yields_List test c.all.new.self _ _ c.all.ensures.ran (YieldsList-from_slice (take t.count t.rows) (cc)) (λ x b q k. search (rules, tests)) ∙ all_taken test no_posting t.count t.rows (omega (arith, c.if-table-le-POSTINGS.true)))

pub returns-else-table-le-POSTINGS : goal.returns-else-table-le-POSTINGS
unfolding table_sound
returns-else-table-le-POSTINGS c = search (tests, rules)
