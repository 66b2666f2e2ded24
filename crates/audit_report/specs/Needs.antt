-- What the report's code needs of the slices, and the report from what was prepared for it.
-- Rests on Report, on audit_books, audit_lacks, audit_pair, audit_input, audit_witness and audit_table.
use Rattle.std.specs.Prelude.{ℕ, zero, suc, ◌*◌, ◌<◌, ◌≤◌, ◌≡◌, ◌⊎◌, cond, List, [], ◌++◌, eqb, ℤ, length, get_or}
use Rattle.sets.specs.Below.{all_below}
use Rattle.amounts.specs.Amounts.{text}
use Rattle.audit_pair.specs.Pair.{Fields}
use Rattle.audit_input.specs.declared.Answer.{Answer}
use Rattle.audit_books.specs.All.{numbers_of_all, AllPostable}
use Rattle.audit_lacks.specs.Needs.{Markable, Lacking}
use Rattle.audit_witness.specs.Witness.{witness_words}
use Rattle.audit_witness.specs.Needs.{most_of_all, Filed, Told}
use Rattle.audit_table.specs.Table.{table_text}
use Rattle.audit_report.specs.Report.{read_words, lack_line}

-- the lines on what the first sites lack, by their counts and lowest numbers
unfoldable pub lacked_lines : (kinds counts lowests : List ℕ) → ℕ → List ℕ
lacked_lines kinds counts lowests zero = []
lacked_lines kinds counts lowests (suc p) = lacked_lines kinds counts lowests p ++ lack_line kinds p (get_or counts p 0) (get_or lowests p 0)

-- what they lack is a posting
pub record LacksKnown (kinds counts lowests : List ℕ) (n : ℕ) : Type 0 where
  pub counts_room : n ≤ length counts
  pub lowests_room : n ≤ length lowests
  pub known : (p : ℕ) → p < n → ¬ (get_or counts p 0 ≡ 0) → get_or lowests p 0 < length kinds

-- with the figures as numbers
unfoldable pub agreed_words : (kinds : List ℕ) (lines n : ℕ) (counts lowests : List ℕ) → List ℤ → List ℕ
agreed_words kinds lines n counts lowests figures =
    cond (all_below (λ p. eqb (get_or counts p 0) 0) n) (text "SAME BOOKS\n") (text "AGREE SO FAR\n")
    ++ (read_words kinds lines n
    ++ (lacked_lines kinds counts lowests n
    ++ (text "One order for all: site 0's record, then what site 1 has beyond it, and so on.\n" ++ table_text figures n)))

unfoldable pub departs_words : (kinds firsts seconds amounts lines ends tops : List ℕ) → List ℤ → Answer → List ℕ
departs_words kinds firsts seconds amounts lines ends tops figures r =
    text "DO NOT AGREE\n" ++ (witness_words kinds firsts seconds amounts lines ends tops r ++ (read_words kinds (length lines) (length ends) ++ table_text figures (length ends)))

-- figures that begin with those of all records
abbrev pub Filled : (kinds firsts seconds amounts lines ends : List ℕ) → List ℤ → Type 0
Filled kinds firsts seconds amounts lines ends figures =
    (rest : List ℤ) × (figures ≡ numbers_of_all kinds firsts seconds amounts lines ends (length ends) ++ rest)

-- the records were not refused
abbrev pub Accepted : ℕ → Type 0
Accepted code = (code ≡ 0) ⊎ (10 ≤ code)

-- what the preparation of their report needs, with the lengths of the slices
pub record Ready (kinds firsts seconds amounts lines ends : List ℕ) (marks counts lowests figures : ℕ) : Type 0 where
  pub markable : Markable lines ends (length kinds) marks
  pub postable : AllPostable kinds firsts seconds amounts lines ends
  pub counts_room : length ends ≤ counts
  pub lowests_room : length ends ≤ lowests
  pub figures_room : 64 * length ends ≤ figures

-- and what it leaves
pub record Noted (kinds firsts seconds amounts lines ends counts lowests : List ℕ) (figures : List ℤ) : Type 0 where
  pub lacking : Lacking lines ends counts lowests (length kinds) (length ends)
  pub filled : Filled kinds firsts seconds amounts lines ends figures

-- what the report of an answer needs: of a refusal its place, of records that agree what each site lacks, of records that do not the pair
pub record Prepared (kinds firsts seconds amounts lines ends tops counts lowests : List ℕ) (figures : List ℤ) (r : Answer) : Type 0 where
  pub small : (r.site ≤ 7) × (r.line ≤ most_of_all) × (r.above ≤ most_of_all)
  pub agreed : r.code ≡ 0 → LacksKnown kinds counts lowests (length ends) × (length ends ≤ 7)
  pub departs : 10 ≤ r.code → Filed lines ends tops × Told kinds ends r × Fields kinds firsts seconds amounts
  pub noted : Accepted r.code → Noted kinds firsts seconds amounts lines ends counts lowests figures
