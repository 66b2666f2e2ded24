-- What the answer of the audit means. Code 0: the records agree, and records that hold the same postings stand for the same books. Code 10 or more:
-- there is no order, and the finding's words hold of the records. Else: refused. Rests on Lawful, audit_rule and same_books. Assumes nothing.
use Prim.Native.Nat.{ℕ, ◌<◌, ◌≤◌}
use mathlib.Core.Path.{◌≡◌, refl, sym, ap, ◌∙◌, subst}
use mathlib.Core.Logic.{◌⊎◌, inl, inr, ◌≢◌}
use mathlib.Core.Bool.{Bool, true}
use mathlib.Core.List.{List}
use native.Mathlib.Omega.{arith}
use native.Mathlib.Decide.{ℕ_discrete}
use lib.ListN.{length, get_or}
use borrow.Author.Tests.{eq-eqb, ne_eqb}
use Rattle.posting.proofs.KindLaws.{fields}
use Rattle.posting.specs.Conflicts.{row}
use Rattle.books.specs.Books.{Books, books, numbers}
use Rattle.broadcast.specs.Lists.{In, OneOrder}
use Rattle.same_books.specs.Accounts.{SameTouching}
use Rattle.same_books.proofs.SameBooks.{Free, lawful_free, same_account, same_numbers}
use Rattle.audit_rule.specs.Audit.{Agree, merged, read_before, Finding, sound, crosses, lacks, parts, finding, Says, Outcome, agreed, departs, audit}
use Rattle.audit_rule.specs.Handed.{table_of, record_of}
use Rattle.audit_rule.proofs.Audited.{audit_agreed, audit_departs, agree_audit}
use Rattle.audit_rule.proofs.Before.{audit_before}
use Rattle.audit_pair.specs.Numbers.{found}
use Rattle.audit_input.specs.declared.Answer.{Answer}
use Rattle.audit_input.specs.Input.{judged}
use Rattle.audit_input.specs.Lawful.{Lawful}
use Rattle.audit_input.proofs.Accepted.{judged_none, judged_few}
use Rattle.audit_records.specs.Audited.{conflicts, answering, audited}
use Rattle.audit_records.proofs.Lawful.{known_below, rows_lawful, turned}

-- what is said of a pair has a code of 10 or more
found_code : (f : Finding) → f ≢ sound → 10 ≤ (found f).code
unfolding found
found_code sound d = absurd (d refl)
found_code (crosses x y p q) d = omega arith
found_code (lacks x y p q) d = omega arith
found_code (parts x y p q) d = omega arith

abbrev IsAgreed : Outcome → Type 0
IsAgreed agreed = Unit {0}
IsAgreed (departs p i x) = ⊥

differ : {p i x : ℕ} → agreed ≡ departs p i x → ⊥
differ h = subst (λ (o : Outcome). IsAgreed o) h tt

module _ (matrix : ℕ) (kinds firsts seconds amounts lines ends : List ℕ) (marks places ahead : ℕ) where
  abbrev n : ℕ
  n = length ends

  abbrev records : ℕ → List ℕ
  records = record_of lines ends

  abbrev conflict : ℕ → ℕ → Bool
  conflict = conflicts matrix kinds firsts seconds amounts

  abbrev refused : Answer
  refused = judged matrix kinds firsts seconds amounts lines ends marks places ahead

  abbrev answer : Answer
  answer = audited matrix kinds firsts seconds amounts lines ends marks places ahead

  abbrev outcome : Outcome
  outcome = audit conflict (length kinds) n records

  -- ---- not refused

  module _ (ok : Lawful matrix kinds firsts seconds amounts lines ends marks places ahead) where
    agreed_order : outcome ≡ agreed → OneOrder conflict n records (merged records n)
    agreed_order e = audit_agreed conflict (turned ok) n records ok.single (length kinds) (known_below ok) e

    -- where a line departs, its pair has a fault, and there is no order
    pub departs_says : (p i x : ℕ) → outcome ≡ departs p i x
        → let y = get_or (records p) i 0 in
        (conflict x y ≡ true) × (Says n records (finding n records x y) x y) × (finding n records x y ≢ sound) × (Agree conflict n records → ⊥)
    departs_says p i x e = audit_departs conflict (turned ok) n records ok.single (length kinds) (known_below ok) p i x e

    outcome_cases : (outcome ≡ agreed) ⊎ ((p : ℕ) × (i : ℕ) × (x : ℕ) × (outcome ≡ departs p i x))
    outcome_cases = go outcome refl
      where
        go : (o : Outcome) → outcome ≡ o → (outcome ≡ agreed) ⊎ ((p : ℕ) × (i : ℕ) × (x : ℕ) × (outcome ≡ departs p i x))
        go agreed e = inl e
        go (departs p i x) e = inr (p, i, x, e)

    -- What is not refused has code 0 if it agrees, else 10 or more.
    answered_code : (((answering matrix kinds firsts seconds amounts lines ends outcome).code ≡ 0) × (outcome ≡ agreed))
        ⊎ ((10 ≤ (answering matrix kinds firsts seconds amounts lines ends outcome).code) × (outcome ≢ agreed))
    unfolding answering
    answered_code = elim outcome_cases [
      | inl e ↦ inl (rw e refl, e)
      | inr (p, i, x, e) ↦ inr (rw e (found_code (finding n records x (get_or (records p) i 0)) (departs_says p i x e).2), λ a. differ (sym a ∙ e))
    ]

  -- ---- the answer

  answer_is : refused.code ≡ 0 → answer ≡ answering matrix kinds firsts seconds amounts lines ends outcome
  unfolding audited
  answer_is z = rw (eq-eqb refused.code 0 z)

  answer_refused : refused.code ≢ 0 → answer ≡ refused
  unfolding audited
  answer_refused d = rw (ne_eqb refused.code 0 d)

  lawful : refused.code ≡ 0 → Lawful matrix kinds firsts seconds amounts lines ends marks places ahead
  lawful z = judged_none matrix kinds firsts seconds amounts lines ends marks places ahead z

  -- A code of 1 to 9 is a refusal; every other is an answer for lawful arguments.
  pub code_cases : (refused.code ≡ 0) ⊎ ((answer ≡ refused) × (1 ≤ answer.code) × (answer.code ≤ 9))
  code_cases = elim (ℕ_discrete refused.code 0) [
    | yes z ↦ inl z
    | no d ↦
        let e = answer_refused d in
        let c = ap (λ (a : Answer). a.code) e in
        let few = judged_few matrix kinds firsts seconds amounts lines ends marks places ahead in
        inr (e, omega (arith, c, d), omega (arith, c, few))
  ]

  -- Code 0.
  agreed_code : answer.code ≡ 0 → (ok : refused.code ≡ 0) × (outcome ≡ agreed)
  agreed_code z = elim code_cases [
    | inr (e, low, high) ↦ absurd (omega (arith, z, low))
    | inl ok ↦ elim (answered_code (lawful ok)) [
      | inl (c, e) ↦ (ok, e)
      | inr (c, d) ↦ absurd (let s = ap (λ (a : Answer). a.code) (answer_is ok) in omega (arith, s, z, c))
    ]
  ]

  module _ (z : answer.code ≡ 0) where
    -- The records agree: site 0's record, then what site 1 has beyond it, and so on, is one order of them.
    pub agreed_orders : OneOrder conflict n records (merged records n)
    agreed_orders = let (ok, e) = agreed_code z in agreed_order (lawful ok) e

    free : Free (table_of kinds firsts seconds amounts) conflict n records
    free =
        let (ok, e) = agreed_code z in
        lawful_free (table_of kinds firsts seconds amounts) matrix (lawful ok).fixed n records
        (λ p x l m. fields (row (table_of kinds firsts seconds amounts) x) (rows_lawful (lawful ok) p x l m))

    -- Two sites that hold the same postings touching an account show the same figures for it, from any opening figures.
    pub agreed_account : (opening : Books) (k p q : ℕ) → p < n → q < n → SameTouching (table_of kinds firsts seconds amounts) k (records p) (records q)
        → books opening (table_of kinds firsts seconds amounts) (records p) k ≡ books opening (table_of kinds firsts seconds amounts) (records q) k
    agreed_account opening k p q lp lq same = same_account (table_of kinds firsts seconds amounts) agreed_orders free opening k p q lp lq same

    -- With the same postings all 64 numbers are equal.
    pub agreed_numbers : (opening : Books) (p q : ℕ) → p < n → q < n → ((x : ℕ) → In x (records p) → In x (records q)) → ((x : ℕ) → In x (records q) → In x (records p))
        → numbers (books opening (table_of kinds firsts seconds amounts) (records p)) ≡ numbers (books opening (table_of kinds firsts seconds amounts) (records q))
    agreed_numbers opening p q lp lq forth back = same_numbers (table_of kinds firsts seconds amounts) agreed_orders free opening p q lp lq forth back

  -- Code 10 or more: the answer names a line and a posting; the two conflict, what is said of them holds of the records, and there is no order.
  pub departs_code : 10 ≤ answer.code
      → (x y : ℕ) × (x ≡ answer.posting) × (y ≡ get_or (records answer.site) answer.line 0)
      × (conflict x y ≡ true) × (Says n records (finding n records x y) x y) × ((found (finding n records x y)).code ≡ answer.code) × (Agree conflict n records → ⊥)
  unfolding answering
  departs_code c = elim code_cases [
    | inr (e, low, high) ↦ absurd (omega (arith, c, high))
    | inl ok ↦ elim (outcome_cases (lawful ok)) [
      | inl e ↦ absurd (let s = ap (λ (a : Answer). a.code) (answer_is ok ∙ ap (answering matrix kinds firsts seconds amounts lines ends) e) in omega (arith, c, s))
      | inr (p, i, x, e) ↦
          let is : answer ≡ answering matrix kinds firsts seconds amounts lines ends (departs p i x) = answer_is ok ∙ ap (answering matrix kinds firsts seconds amounts lines ends) e in
          let (k, says, d, none) = departs_says (lawful ok) p i x e in
          (x, get_or (records p) i 0, rw is refl, rw is refl, k, says, rw is refl, none)
    ]
  ]

  -- And what was read before the line agrees: the records of the sites before it, and the lines above it.
  pub departs_before : 10 ≤ answer.code
      → OneOrder conflict n (read_before records answer.site answer.line) (merged (read_before records answer.site answer.line) n)
  unfolding answering
  departs_before c = elim code_cases [
    | inr (e, low, high) ↦ absurd (omega (arith, c, high))
    | inl ok ↦ elim (outcome_cases (lawful ok)) [
      | inl e ↦ absurd (let s = ap (λ (a : Answer). a.code) (answer_is ok ∙ ap (answering matrix kinds firsts seconds amounts lines ends) e) in omega (arith, c, s))
      | inr (p, i, x, e) ↦
          let is : answer ≡ answering matrix kinds firsts seconds amounts lines ends (departs p i x) = answer_is ok ∙ ap (answering matrix kinds firsts seconds amounts lines ends) e in
          rw is (audit_before conflict (turned (lawful ok)) n records (lawful ok).single (length kinds) (known_below (lawful ok)) p i x e)
    ]
  ]

  -- Lawful records that agree are never accused.
  pub agree_code : refused.code ≡ 0 → Agree conflict n records → answer.code ≡ 0
  unfolding answering
  agree_code ok a =
      let o = agree_audit conflict (turned (lawful ok)) n records (lawful ok).single (length kinds) (known_below (lawful ok)) a in
      ap (λ (b : Answer). b.code) (answer_is ok ∙ ap (answering matrix kinds firsts seconds amounts lines ends) o)
