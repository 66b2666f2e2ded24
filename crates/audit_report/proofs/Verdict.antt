-- What the report's first line says. SAME BOOKS: the records agree and no site lacks any, so that all sites' books are the same, from any opening figures.
-- Rests on Answered, on audit_lacks' Held and on audit_records' Answers. Assumes nothing.
use Prim.Native.Nat.{ℕ, ◌<◌}
use mathlib.Core.Path.{◌≡◌, refl, ap}
use mathlib.Core.Logic.{inl, inr}
use mathlib.Core.Bool.{true}
use mathlib.Core.List.{List}
use native.Mathlib.Omega.{arith}
use native.Mathlib.Decide.{ℕ_discrete}
use lib.Dec.{leb}
use lib.ListN.{length, get_or, take}
use borrow.Author.Tests.{eq-eqb, ne_eqb}
use Rattle.sets.proofs.Truth.{test}
use Rattle.books.specs.Books.{Books, books, numbers}
use Rattle.amounts.specs.Amounts.{text}
use Rattle.audit_input.specs.declared.Answer.{Answer}
use Rattle.audit_rule.specs.Handed.{table_of, record_of}
use Rattle.audit_records.specs.Audited.{audited}
use Rattle.audit_records.proofs.Answers.{agreed_numbers}
use Rattle.audit_witness.specs.Refusals.{refused_text}
use Rattle.audit_lacks.specs.Lacks.{all_hold}
use Rattle.audit_lacks.proofs.Held.{all_hold_same}
use Rattle.audit_report.specs.Report.{agreed_text, departs_text, answer_text, report_text}
use Rattle.audit_report.proofs.Answered.{accepted_lawful}

pub same_books_verdict : (matrix : ℕ) (kinds firsts seconds amounts lines ends : List ℕ) (marks places ahead : ℕ)
    → (audited matrix kinds firsts seconds amounts lines ends marks places ahead).code ≡ 0 → all_hold lines ends (length kinds) ≡ true
    → (opening : Books) (p q : ℕ) → p < length ends → q < length ends
    → numbers (books opening (table_of kinds firsts seconds amounts) (record_of lines ends p)) ≡ numbers (books opening (table_of kinds firsts seconds amounts) (record_of lines ends q))
same_books_verdict matrix kinds firsts seconds amounts lines ends marks places ahead z held opening p q hp hq =
    let ok = accepted_lawful matrix kinds firsts seconds amounts lines ends marks places ahead (inl z) in
    agreed_numbers matrix kinds firsts seconds amounts lines ends marks places ahead z opening p q hp hq
    (all_hold_same lines ends (length kinds) ok.known ok.joins held p q hp hq)
    (all_hold_same lines ends (length kinds) ok.known ok.joins held q p hq hp)

-- ---- the first line

module _ (kinds firsts seconds amounts lines ends tops : List ℕ) (r : Answer) where
  -- the report begins with SAME BOOKS only there
  says_same : take 11 (answer_text kinds firsts seconds amounts lines ends tops r) ≡ text "SAME BOOKS\n" → (r.code ≡ 0) × (all_hold lines ends (length kinds) ≡ true)
  unfolding answer_text agreed_text departs_text refused_text
  says_same e = elim (ℕ_discrete r.code 0) [
    | yes z ↦ elim (test (all_hold lines ends (length kinds))) [
      | inl held ↦ (z, held)
      | inr f ↦ absurd (agree (ap (λ (l : List ℕ). get_or l 0 0) (rw (eq-eqb r.code 0 z, f) at e)))
    ]
    | no d ↦ elim (test (leb 10 r.code)) [
      | inl t ↦ absurd (do_not (ap (λ (l : List ℕ). get_or l 0 0) (rw (ne_eqb r.code 0 d, t) at e)))
      | inr f ↦ absurd (not_audited (ap (λ (l : List ℕ). get_or l 0 0) (rw (ne_eqb r.code 0 d, f) at e)))
    ]
  ]
    where
      -- A, D and N are not S
      agree : ◌≡◌ {A = ℕ} 65 83 → ⊥
      agree h = omega (arith, h)

      do_not : ◌≡◌ {A = ℕ} 68 83 → ⊥
      do_not h = omega (arith, h)

      not_audited : ◌≡◌ {A = ℕ} 78 83 → ⊥
      not_audited h = omega (arith, h)

  -- and there it does
  same_says : r.code ≡ 0 → all_hold lines ends (length kinds) ≡ true → take 11 (answer_text kinds firsts seconds amounts lines ends tops r) ≡ text "SAME BOOKS\n"
  unfolding answer_text agreed_text
  same_says z held = rw (eq-eqb r.code 0 z, held) refl

module _ (matrix : ℕ) (kinds firsts seconds amounts lines ends tops : List ℕ) (marks places ahead : ℕ) where
  abbrev answer : Answer
  answer = audited matrix kinds firsts seconds amounts lines ends marks places ahead

  pub verdict_same : take 11 (report_text matrix kinds firsts seconds amounts lines ends tops marks places ahead) ≡ text "SAME BOOKS\n"
      → (answer.code ≡ 0) × (all_hold lines ends (length kinds) ≡ true)
  unfolding report_text
  verdict_same e = says_same kinds firsts seconds amounts lines ends tops answer e

  pub same_verdict : answer.code ≡ 0 → all_hold lines ends (length kinds) ≡ true
      → take 11 (report_text matrix kinds firsts seconds amounts lines ends tops marks places ahead) ≡ text "SAME BOOKS\n"
  unfolding report_text
  same_verdict z held = same_says kinds firsts seconds amounts lines ends tops answer z held

  -- so a report that begins with SAME BOOKS is one of records whose books are the same
  pub same_books_line : take 11 (report_text matrix kinds firsts seconds amounts lines ends tops marks places ahead) ≡ text "SAME BOOKS\n"
      → (opening : Books) (p q : ℕ) → p < length ends → q < length ends
      → numbers (books opening (table_of kinds firsts seconds amounts) (record_of lines ends p)) ≡ numbers (books opening (table_of kinds firsts seconds amounts) (record_of lines ends q))
  same_books_line e =
      let (z, held) = verdict_same e in
      same_books_verdict matrix kinds firsts seconds amounts lines ends marks places ahead z held
