-- `read_record` meets its contract.
-- Rests on LineLaws. Assumes nothing.
use mathlib.Core.Path.{ap, ◌∙◌}
use Rattle.audit_files.specs.Entries.{entry_of}
use Rattle.audit_files.specs.Steps.{store}
use Rattle.audit_files.proofs.FileLaws.{past_shorter, some_left, none_left, below_is}
use Rattle.audit_files.proofs.LineLaws.{reading_start, reading_next, reading_refused, reading_count, reading_lines}
use Rattle.audit_files.proofs.files.read_record.Goals as goal

pub loop-rest-init : goal.loop-rest-init
loop-rest-init c =
    let v = c.args in
    reading_start (store v.postings.kinds.now v.postings.firsts.now v.postings.seconds.now v.postings.amounts.now v.wheres.now) v.file v.text.now v.lines.now v.from c.refusing-refused.ensures c.top_line-line.ensures (below_is v.text.now _ c.below_heading-rest.ensures)

pub loop-rest-smaller : goal.loop-rest-smaller
loop-rest-smaller c =
    let rest = c.loop-rest.rest.now in
    rw c.first_line.ensures.behind (past_shorter rest (some_left rest c.loop-rest-test.ensures))

pub loop-rest-preserved : goal.loop-rest-preserved
loop-rest-preserved c =
    let v = c.args in
    let note = c.note_line-count.ensures in
    let number = c.number.ensures in
    reading_next (store v.postings.kinds.now v.postings.firsts.now v.postings.seconds.now v.postings.amounts.now v.wheres.now) v.file v.text.now v.lines.now v.from c.loop-rest.invariant
    c.entry_of-e.result (some_left c.loop-rest.rest.now c.loop-rest-test.ensures) (c.entry_of-e.ensures ∙ ap entry_of c.first_line.ensures.line) c.first_line.ensures.behind
    note.value (rw number at note.lines_after) (c.lower-refused.ensures ∙ rw c.judge_line-next.ensures)

pub returns : goal.returns
returns c =
    let v = c.args in
    let s = store v.postings.kinds.now v.postings.firsts.now v.postings.seconds.now v.postings.amounts.now v.wheres.now in
    let so_far = c.loop-rest.invariant in
    let done = none_left c.loop-rest.rest.now c.loop-rest-test.ensures in
    record {
      refused_value = reading_refused s v.file v.text.now v.lines.now v.from so_far done;
      count_value = reading_count s v.file v.text.now v.lines.now v.from so_far done;
      lines_after = reading_lines s v.file v.text.now v.lines.now v.from so_far done c.requires.1;
    }
