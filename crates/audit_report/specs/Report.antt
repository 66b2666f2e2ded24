-- The audit's report as bytes: the verdict alone on the first line, then what it rests on.
-- Rests on audit_lacks, on audit_records for the answer, audit_books for figures, audit_witness, audit_table and audit_files for words.
use Rattle.std.specs.Prelude.{ℕ, zero, suc, ◌+◌, cond, not, List, [], ◌++◌, eqb, leb, length, get_or}
use Rattle.sets.specs.Below.{count}
use Rattle.printer.specs.Output.{decimal}
use Rattle.amounts.specs.Amounts.{text}
use Rattle.audit_input.specs.declared.Answer.{Answer}
use Rattle.audit_input.specs.Input.{unused}
use Rattle.audit_records.specs.Audited.{audited}
use Rattle.audit_books.specs.All.{numbers_of_all}
use Rattle.audit_files.specs.declared.Refused.{Refused}
use Rattle.audit_files.specs.Files.{refusing, where_is}
use Rattle.audit_witness.specs.Refusals.{refused_text}
use Rattle.audit_witness.specs.Witness.{posting_words, witness_words}
use Rattle.audit_table.specs.Table.{table_text}
use Rattle.audit_lacks.specs.Lacks.{lack_count, lack_lowest, all_hold}

-- ---- what was read

unfoldable pub read_words : List ℕ → (lines sites : ℕ) → List ℕ
read_words kinds lines sites =
    text "Records read: "
    ++ (decimal sites
    ++ (text ". Lines: " ++ (decimal lines ++ (text ". Postings: " ++ (decimal (count (λ x. not (unused kinds x)) (length kinds)) ++ text ".\n")))))

-- ---- who lacks what

-- "Site 6 lacks 2000 of the postings that others hold, the lowest TRADE 18000."
unfoldable pub lack_line : List ℕ → (p many lowest : ℕ) → List ℕ
lack_line kinds p many lowest =
    cond (eqb many 0) []
    (text "Site "
    ++ (decimal p
    ++ (text " lacks " ++ (decimal many ++ (text " of the postings that others hold, the lowest " ++ (posting_words kinds lowest ++ text ".\n"))))))

-- of the first sites
unfoldable pub lack_lines : (kinds lines ends : List ℕ) → ℕ → List ℕ
lack_lines kinds lines ends zero = []
lack_lines kinds lines ends (suc p) = lack_lines kinds lines ends p ++ lack_line kinds p (lack_count lines ends (length kinds) p) (lack_lowest lines ends (length kinds) p)

-- ---- the answer as a refusal, for 9 and what the files do not show: site p's file is p + 1

unfoldable pub refusal_of : List ℕ → Answer → Refused
refusal_of tops r =
    let top = get_or tops r.site 0 in
    refusing r.code (r.site + 1) (top + r.line) r.posting (where_is (r.site + 1) (top + r.above))

-- ---- the report

module _ (kinds firsts seconds amounts lines ends tops : List ℕ) where
  abbrev table : List ℕ
  table = table_text (numbers_of_all kinds firsts seconds amounts lines ends (length ends)) (length ends)

  -- the records agree
  unfoldable pub agreed_text : List ℕ
  agreed_text =
      cond (all_hold lines ends (length kinds)) (text "SAME BOOKS\n") (text "AGREE SO FAR\n")
      ++ (read_words kinds (length lines) (length ends)
      ++ (lack_lines kinds lines ends (length ends)
      ++ (text "One order for all: site 0's record, then what site 1 has beyond it, and so on.\n" ++ table)))

  -- they do not
  unfoldable pub departs_text : Answer → List ℕ
  departs_text r = text "DO NOT AGREE\n" ++ (witness_words kinds firsts seconds amounts lines ends tops r ++ (read_words kinds (length lines) (length ends) ++ table))

  -- of any answer
  unfoldable pub answer_text : Answer → List ℕ
  answer_text r = cond (eqb r.code 0) agreed_text (cond (leb 10 r.code) (departs_text r) (refused_text (refusal_of tops r)))

-- with the lengths of the slices lent
unfoldable pub report_text : (matrix : ℕ) (kinds firsts seconds amounts lines ends tops : List ℕ) (marks places ahead : ℕ) → List ℕ
report_text matrix kinds firsts seconds amounts lines ends tops marks places ahead =
    answer_text kinds firsts seconds amounts lines ends tops (audited matrix kinds firsts seconds amounts lines ends marks places ahead)
