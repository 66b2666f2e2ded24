-- `read_postings` meets its contract.
-- Rests on LineLaws. Assumes nothing.
use mathlib.Core.Path.{ap, ◌∙◌}
use Rattle.audit_files.specs.Entries.{entry_of}
use Rattle.audit_files.specs.Steps.{store}
use Rattle.audit_files.proofs.FileLaws.{past_shorter, some_left, none_left, below_is}
use Rattle.audit_files.proofs.LineLaws.{roomy_start, roomy_next, roomy_end}
use Rattle.audit_files.proofs.files.read_postings.Goals as goal

pub loop-rest-init : goal.loop-rest-init
loop-rest-init c =
    let v = c.args in
    roomy_start v.own v.file v.text.now (store v.kinds.now v.firsts.now v.seconds.now v.amounts.now v.wheres.now) c.refusing-refused.ensures c.top_line-line.ensures (below_is v.text.now _ c.below_heading-rest.ensures) c.requires.0

pub loop-rest-smaller : goal.loop-rest-smaller
loop-rest-smaller c =
    let rest = c.loop-rest.rest.now in
    rw c.first_line.ensures.behind (past_shorter rest (some_left rest c.loop-rest-test.ensures))

pub loop-rest-preserved : goal.loop-rest-preserved
loop-rest-preserved c =
    let v = c.args in
    let note = c.note_posting-next in
    let n = note.new in
    roomy_next v.own v.file v.text.now (store v.kinds.now v.firsts.now v.seconds.now v.amounts.now v.wheres.now) c.loop-rest.invariant
    {s' = store n.kinds n.firsts n.seconds n.amounts n.wheres} c.entry_of-e.result (some_left c.loop-rest.rest.now c.loop-rest-test.ensures) (c.entry_of-e.ensures ∙ ap entry_of c.first_line.ensures.line) c.first_line.ensures.behind
    note.ensures.wheres_after (c.lower-refused.ensures ∙ rw note.ensures.value)

pub returns : goal.returns
returns c =
    let v = c.args in
    let done = roomy_end v.own v.file v.text.now (store v.kinds.now v.firsts.now v.seconds.now v.amounts.now v.wheres.now) c.loop-rest.invariant (none_left c.loop-rest.rest.now c.loop-rest-test.ensures) in
    record { value = done.0; wheres_after = done.1 }
