-- `note` meets its contract.
-- Assumes nothing.
use Rattle.std.proofs.Common.{refl, ◌∙◌}
use borrow.Author.Tests.{eq-eqb}
use Rattle.audit_reading.proofs.note.Goals as goal

pub returns : goal.returns
returns c =
    let unread = eq-eqb _ _ c.if-places-y-ne0.false in
    record {
      seen_after = rw unread refl;
      places_after = rw unread refl;
      totals_after = rw unread c.count_line.ensures;
      ahead_after = rw unread (c.put_four-2.ensures ∙ rw c.put_four.ensures refl);
    }
