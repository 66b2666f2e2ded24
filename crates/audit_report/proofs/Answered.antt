-- What an answer of the audit says of its place and its pair, and what is known of records that were not refused: all that their report needs.
-- Rests on Needs, audit_records, audit_books, audit_witness, audit_input, audit_pair and audit_rule. Assumes nothing.
use Prim.Native.Nat.{ℕ, ◌-◌, ◌<◌, ◌≤◌}
use mathlib.Core.Path.{◌≡◌, refl}
use mathlib.Core.Logic.{inl, inr, ◌≢◌}
use mathlib.Core.Bool.{Bool}
use mathlib.Core.List.{List}
use native.Mathlib.Omega.{arith}
use native.Mathlib.Decide.{ℕ_discrete, dec_lt}
use lib.IntN.{ℤ}
use lib.ListN.{length, get_or, drop, length-take, length-drop}
use borrow.Author.Tests.{eq-eqb, ne_eqb, lt-ltb, le-ltb}
use Rattle.broadcast.specs.Lists.{In}
use Rattle.broadcast.proofs.Lists.{in_get_d, before_left, before_right}
use Rattle.audit_rule.specs.Audit.{lowest, Finding, sound, crosses, lacks, parts, finding, Says, Outcome, agreed, departs, audit}
use Rattle.audit_rule.specs.Handed.{start_of, record_of}
use Rattle.audit_rule.proofs.Order.{in_joined}
use Rattle.audit_rule.proofs.Audited.{audit_answers}
use Rattle.audit_pair.specs.Numbers.{found}
use Rattle.audit_input.specs.declared.Answer.{Answer}
use Rattle.audit_input.specs.declared.Spot.{Spot}
use Rattle.audit_input.specs.Input.{unlawful, unknown_line, repeated_line, first_spot, number_at, sizes_code, lines_judged, judged}
use Rattle.audit_input.specs.Lawful.{Lawful}
use Rattle.audit_input.proofs.Accepted.{sizes_none, judged_none}
use Rattle.audit_input.proofs.Searches.{spot_line}
use Rattle.audit_records.specs.Audited.{conflicts, answering, audited}
use Rattle.audit_records.proofs.Lawful.{below_few, known_below, turned, audited_lawful}
use Rattle.audit_records.proofs.Answers.{departs_says, code_cases}
use Rattle.audit_books.specs.Lines.{Postable}
use Rattle.audit_witness.specs.Needs.{most_of_all, Told}
use Rattle.audit_witness.proofs.Lines.{place_few}
use Rattle.audit_report.specs.Needs.{Accepted, Ready, Noted, Prepared}
use Rattle.audit_report.proofs.Lacks.{lacks_known}

-- ---- the place of an answer

abbrev Small : Answer → Type 0
Small r = (r.site ≤ 7) × (r.line ≤ most_of_all) × (r.above ≤ most_of_all)

record_few : (lines ends : List ℕ) (p : ℕ) → length (record_of lines ends p) ≤ length lines
record_few lines ends p =
    let from = start_of ends p in
    omega (arith, length-take (get_or ends p 0 - from) (drop from lines), length-drop from lines)

-- of a refusal
module _ (kinds lines ends : List ℕ) where
  abbrev unknown : Spot
  unknown = first_spot (unknown_line kinds) (length ends) (record_of lines ends)

  abbrev twice : Spot
  twice = first_spot repeated_line (length ends) (record_of lines ends)

  lines_small : length ends ≤ 7 → length lines ≤ most_of_all → Small (lines_judged kinds lines ends)
  unfolding lines_judged
  lines_small sites few = elim (dec_lt unknown.site (length ends)) [
    | yes h ↦
        let i = spot_line (unknown_line kinds) (length ends) (record_of lines ends) h in
        let m = record_few lines ends unknown.site in
        rw (lt-ltb unknown.site (length ends) h) (omega (arith, h, sites), omega (arith, i, m, few), omega arith)
    | no h ↦ elim (dec_lt twice.site (length ends)) [
      | yes k ↦
          let i = spot_line repeated_line (length ends) (record_of lines ends) k in
          let m = record_few lines ends twice.site in
          let above = place_few (number_at lines ends twice) (start_of ends twice.site) (get_or ends twice.site 0) lines in
          rw (le-ltb unknown.site (length ends) (omega (arith, h)), lt-ltb twice.site (length ends) k)
          (omega (arith, k, sites), omega (arith, i, m, few), omega (arith, above, few))
      | no k ↦
          rw (le-ltb unknown.site (length ends) (omega (arith, h)), le-ltb twice.site (length ends) (omega (arith, k)))
          (omega arith, omega arith, omega arith)
    ]
  ]

-- of a finding: its sites are among n, its postings in their records
module _ (n bound : ℕ) (records : ℕ → List ℕ) (known : (p x : ℕ) → p < n → In x (records p) → x < bound) where
  found_known : (f : Finding) (a b : ℕ) → Says n records f a b → f ≢ sound
      → ((found f).first < bound) × ((found f).second < bound) × ((found f).here < n) × ((found f).there < n)
  unfolding found
  found_known sound a b says d = absurd (d refl)
  found_known (crosses x y p q) a b (lp, lq, xy, yx) d = (known p x lp (before_left x y (records p) xy), known p y lp (before_right x y (records p) xy), lp, lq)
  found_known (lacks x y p q) a b (lp, lq, my, nx, xy) d = (known q x lq (before_left x y (records q) xy), known p y lp my, lp, lq)
  found_known (parts x y p q) a b (lp, lq, mx, my, none) d = (known p x lp mx, known q y lq my, lp, lq)

-- ---- the answer

module _ (matrix : ℕ) (kinds firsts seconds amounts lines ends : List ℕ) (marks places ahead : ℕ) where
  abbrev n : ℕ
  n = length ends

  abbrev records : ℕ → List ℕ
  records = record_of lines ends

  abbrev conflict : ℕ → ℕ → Bool
  conflict = conflicts matrix kinds firsts seconds amounts

  abbrev refused : Answer
  refused = judged matrix kinds firsts seconds amounts lines ends marks places ahead

  abbrev answer : Answer
  answer = audited matrix kinds firsts seconds amounts lines ends marks places ahead

  abbrev Lawfully : Type 0
  Lawfully = Lawful matrix kinds firsts seconds amounts lines ends marks places ahead

  judged_small : length lines ≤ most_of_all → Small refused
  unfolding judged
  judged_small few =
      let code = sizes_code matrix kinds firsts seconds amounts lines ends marks places ahead in
      let number = lowest (unlawful kinds firsts seconds amounts) (length kinds) in
      elim (ℕ_discrete code 0) [
        | no d ↦ rw (ne_eqb code 0 d) (omega arith, omega arith, omega arith)
        | yes z ↦
            let sized = sizes_none matrix kinds firsts seconds amounts lines ends marks places ahead z in
            elim (dec_lt number (length kinds)) [
              | yes h ↦ rw (eq-eqb code 0 z, lt-ltb number (length kinds) h) (omega arith, omega arith, omega arith)
              | no h ↦ rw (eq-eqb code 0 z, le-ltb number (length kinds) (omega (arith, h))) (lines_small kinds lines ends sized.sites few)
            ]
      ]

  -- what is not refused is lawful
  pub accepted_lawful : Accepted answer.code → Lawfully
  accepted_lawful a = elim (code_cases matrix kinds firsts seconds amounts lines ends marks places ahead) [
    | inl z ↦ judged_none matrix kinds firsts seconds amounts lines ends marks places ahead z
    | inr (e, low, high) ↦ absurd (elim a [ inl z ↦ omega (arith, z, low) | inr h ↦ omega (arith, h, high) ])
  ]

  -- its place, and the pair
  abbrev Placed : Answer → Type 0
  Placed r = Small r × (10 ≤ r.code → Told kinds ends r)

  outcome_placed : Lawfully → length lines ≤ most_of_all → (o : Outcome) → audit conflict (length kinds) n records ≡ o
      → Placed (answering matrix kinds firsts seconds amounts lines ends o)
  unfolding answering
  outcome_placed ok few agreed e = ((omega arith, omega arith, omega arith), λ h. absurd (omega (arith, h)))
  outcome_placed ok few (departs p i x) e =
      let y = get_or (records p) i 0 in
      let (k, says, d, none) = departs_says matrix kinds firsts seconds amounts lines ends marks places ahead ok p i x e in
      let (l, li, t) = rw e at (audit_answers conflict (turned ok) n records ok.single (length kinds) (known_below ok)) in
      let (first, second, here, there) = found_known n (length kinds) records (known_below ok) (finding n records x y) x y says d in
      let m = record_few lines ends p in (
        (omega (arith, l, ok.sites), omega (arith, li, m, few), omega arith),
        λ h. record {
          few = ok.few;
          first_known = first;
          second_known = second;
          here_below = here;
          there_below = there;
          site_below = l;
          line_few = omega (arith, li, m, few);
        },
      )

  answer_placed : length lines ≤ most_of_all → Placed answer
  answer_placed few = elim (code_cases matrix kinds firsts seconds amounts lines ends marks places ahead) [
    | inr (e, low, high) ↦ (rw e (judged_small few), λ h. absurd (omega (arith, h, high)))
    | inl z ↦
        let ok = judged_none matrix kinds firsts seconds amounts lines ends marks places ahead z in
        let is : answering matrix kinds firsts seconds amounts lines ends (audit conflict (length kinds) n records) ≡ answer
        = audited_lawful matrix kinds firsts seconds amounts lines ends marks places ahead refused refl z in
        rw is at (outcome_placed ok few (audit conflict (length kinds) n records) refl)
  ]

  -- ---- what the report needs

  record_postable : Lawfully → (p : ℕ) → p < n → Postable kinds firsts seconds amounts (records p)
  record_postable ok p l = record {
    few = let h = below_few (length kinds) (records p) (ok.single p l) (λ x m. known_below ok p x l m) in omega (arith, h, ok.few);
    firsts_long = ok.firsts_all;
    seconds_long = ok.seconds_all;
    amounts_long = ok.amounts_all;
    known = λ i h. known_below ok p (get_or (records p) i 0) l (in_get_d (records p) i h);
    lawful = λ i h. ok.lawful (get_or (records p) i 0) (rw ok.joins at (in_joined records n p (get_or (records p) i 0) l (in_get_d (records p) i h)));
  }

  module _ (r : Answer) (is : r ≡ answer) where
    lawful_of : Accepted r.code → Lawfully
    lawful_of a = accepted_lawful (rw is at a)

    pub answer_ready : (room counts lowests figures : ℕ) → room ≡ marks → 7 ≤ counts → 7 ≤ lowests → 448 ≤ figures
        → Accepted r.code → Ready kinds firsts seconds amounts lines ends room counts lowests figures
    answer_ready room counts lowests figures same c l f a =
        let ok = lawful_of a in
        record {
          markable = record {
            ends_rise = ok.ends_rise;
            numbered = λ i h. ok.known (get_or lines i 0) (in_get_d lines i h);
            room = omega (arith, ok.marks_room, same);
          };
          postable = record { ends_rise = ok.ends_rise; few = ok.sites; each = record_postable ok };
          counts_room = omega (arith, ok.sites, c);
          lowests_room = omega (arith, ok.sites, l);
          figures_room = omega (arith, ok.sites, f);
        }

    pub answer_prepared : (tops counts lowests : List ℕ) (figures : List ℤ) → length lines ≤ most_of_all → length ends ≤ length tops → 7 ≤ length counts → 7 ≤ length lowests
        → (Accepted r.code → Noted kinds firsts seconds amounts lines ends counts lowests figures)
        → Prepared kinds firsts seconds amounts lines ends tops counts lowests figures r
    answer_prepared tops counts lowests figures few all c l noted =
        let (small, told) : Placed r = rw is (answer_placed few) in
        record {
          small = small;
          agreed = λ z.
              let ok = lawful_of (inl z) in
              (lacks_known kinds lines ends counts lowests (noted (inl z)).lacking (omega (arith, ok.sites, c)) (omega (arith, ok.sites, l)), ok.sites);
          departs = λ h.
              let ok = lawful_of (inr h) in (
                record { ends_rise = ok.ends_rise; few = ok.sites; tops_all = all; few_lines = few },
                told h,
                record { firsts_all = ok.firsts_all; seconds_all = ok.seconds_all; amounts_all = ok.amounts_all },
              );
          noted = noted;
        }
