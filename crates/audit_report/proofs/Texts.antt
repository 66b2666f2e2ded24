-- The report of an answer, from what was prepared for it.
-- Rests on Figures and Lacks. Assumes nothing.
use Prim.Native.Nat.{ℕ, ◌<◌, ◌≤◌}
use mathlib.Core.Path.{◌≡◌, ap, ap₂, ◌∙◌}
use mathlib.Core.Bool.{Bool, cond}
use mathlib.Core.List.{List, ◌++◌}
use native.Mathlib.Omega.{arith}
use lib.IntN.{ℤ}
use lib.ListN.{length}
use borrow.Author.Tests.{eq-eqb, ne_eqb, le-leb, lt-leb}
use Rattle.std.specs.Prelude.{Option}
use Rattle.printer.specs.Writing.{slice_printed, answer_printed}
use Rattle.amounts.specs.Amounts.{text}
use Rattle.audit_input.specs.declared.Answer.{Answer}
use Rattle.audit_records.specs.Audited.{audited}
use Rattle.audit_files.specs.declared.Refused.{Refused}
use Rattle.audit_witness.specs.Refusals.{refused_text}
use Rattle.audit_witness.specs.Witness.{witness_words}
use Rattle.audit_report.specs.Report.{read_words, refusal_of, agreed_text, departs_text, answer_text, report_text}
use Rattle.audit_report.specs.Needs.{agreed_words, departs_words, Noted}
use Rattle.audit_report.proofs.Figures.{filled_table}
use Rattle.audit_report.proofs.Lacks.{lacked_lines_lem, lacked_none}

module _ (kinds firsts seconds amounts lines ends tops counts lowests : List ℕ) (figures : List ℤ) (r : Answer) where
  -- code 0
  pub agreed_as : r.code ≡ 0 → Noted kinds firsts seconds amounts lines ends counts lowests figures
      → agreed_words kinds (length lines) (length ends) counts lowests figures ≡ answer_text kinds firsts seconds amounts lines ends tops r
  unfolding answer_text agreed_text agreed_words
  agreed_as z noted =
      rw (eq-eqb r.code 0 z)
      (ap₂ (λ (so : Bool) (t : List ℕ). cond so (text "SAME BOOKS\n") (text "AGREE SO FAR\n") ++ (read_words kinds (length lines) (length ends) ++ t))
      (lacked_none kinds lines ends counts lowests noted.lacking)
      (ap₂ (λ (t u : List ℕ). t ++ (text "One order for all: site 0's record, then what site 1 has beyond it, and so on.\n" ++ u))
      (lacked_lines_lem kinds lines ends counts lowests noted.lacking)
      (filled_table kinds firsts seconds amounts lines ends figures noted.filled)))

  -- 1 to 9
  pub refused_as : ¬ (r.code ≡ 0) → r.code < 10 → (s : Refused) → s ≡ refusal_of tops r → refused_text s ≡ answer_text kinds firsts seconds amounts lines ends tops r
  unfolding answer_text
  refused_as d low s e = rw (ne_eqb r.code 0 d, lt-leb 10 r.code low) (ap refused_text e)

  -- 10 or more
  pub departs_as : 10 ≤ r.code → Noted kinds firsts seconds amounts lines ends counts lowests figures
      → departs_words kinds firsts seconds amounts lines ends tops figures r ≡ answer_text kinds firsts seconds amounts lines ends tops r
  unfolding answer_text departs_text departs_words
  departs_as high noted =
      rw (ne_eqb r.code 0 (λ z. omega (arith, z, high)), le-leb 10 r.code high)
      (ap (λ (t : List ℕ). text "DO NOT AGREE\n" ++ (witness_words kinds firsts seconds amounts lines ends tops r ++ (read_words kinds (length lines) (length ends) ++ t)))
      (filled_table kinds firsts seconds amounts lines ends figures noted.filled))

-- what is printed of the audit's answer
pub reported : (matrix : ℕ) (kinds firsts seconds amounts lines ends tops : List ℕ) (marks places ahead : ℕ) (r : Answer)
    → r ≡ audited matrix kinds firsts seconds amounts lines ends marks places ahead → (s : List ℕ) {x : Option ℕ} {t : List ℕ}
    → let own = answer_text kinds firsts seconds amounts lines ends tops r in
    let all = report_text matrix kinds firsts seconds amounts lines ends tops marks places ahead in
    (x ≡ answer_printed own s) × (t ≡ slice_printed own s) → (x ≡ answer_printed all s) × (t ≡ slice_printed all s)
unfolding report_text
reported matrix kinds firsts seconds amounts lines ends tops marks places ahead r e s {x} {t} (a, b) = (
  a ∙ ap (λ (q : Answer). answer_printed (answer_text kinds firsts seconds amounts lines ends tops q) s) e,
  b ∙ ap (λ (q : Answer). slice_printed (answer_text kinds firsts seconds amounts lines ends tops q) s) e,
)
