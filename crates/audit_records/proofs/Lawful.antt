-- What is not refused may be read: the premises of the reading and of the audit's theorems, and what the reading's answer is.
-- Rests on audit_input's Lawful and on audit_reading. Assumes nothing.
use Prim.Native.Nat.{ℕ, zero, suc, ◌+◌, ◌*◌, ◌<◌, ◌≤◌}
use mathlib.Core.Path.{◌≡◌, sym, ap, ◌∙◌}
use mathlib.Core.Logic.{◌≢◌}
use mathlib.Core.Bool.{Bool, true, false}
use mathlib.Core.List.{List}
use native.Mathlib.Omega.{arith}
use native.Mathlib.Nat.{mul-le-mul}
use native.Mathlib.Decide.{dec_lt}
use lib.ListN.{length, get_or, replicate, length-replicate, get_or-replicate, get_or-eq_default, length-append}
use borrow.Author.Tests.{eq-eqb, ne_eqb}
use Rattle.posting.specs.declared.Posting.{Posting}
use Rattle.posting.specs.declared.Table.{Table}
use Rattle.posting.specs.Kinds.{fields_ok}
use Rattle.posting.proofs.KindLaws.{fields, row_kind}
use Rattle.posting.specs.Conflicts.{row}
use Rattle.posting.proofs.ConflictLaws.{conflict_turned}
use Rattle.books.specs.Books.{tabulate}
use Rattle.books.proofs.Lists.{length_tabulate, get_d_tabulate}
use Rattle.broadcast.specs.Lists.{In, NoRepeat}
use Rattle.broadcast.proofs.Lists.{in_get_d}
use Rattle.audit_rule.specs.Audit.{joined, agreed, departs, audit}
use Rattle.audit_rule.specs.Handed.{posting_at, table_of, record_of}
use Rattle.audit_rule.proofs.Handed.{row_at}
use Rattle.audit_rule.proofs.Order.{in_joined}
use Rattle.audit_rule.proofs.Reading.{within_length}
use Rattle.audit_rule.proofs.Audited.{audit_answers, differs_known}
use Rattle.audit_reading.specs.Kept.{Rows, Known}
use Rattle.audit_reading.specs.Sites.{Auditable, DepartureSays}
use Rattle.audit_reading.proofs.Answered.{answers_agreed, answers_departs}
use Rattle.audit_input.specs.declared.Answer.{Answer}
use Rattle.audit_input.specs.Input.{agreement, judged}
use Rattle.audit_input.specs.Lawful.{Lawful}
use Rattle.audit_input.proofs.Accepted.{judged_none}
use Rattle.audit_records.specs.Audited.{conflicts, answering, audited}
use Rattle.audit_records.specs.Needs.{shown, PairAt}

-- ---- places before any is given

pub all_zero : (n x : ℕ) → get_or {A = ℕ} (replicate n 0) x 0 ≡ 0
all_zero n x = elim (dec_lt x n) [
  | yes h ↦ get_or-replicate {A = ℕ} n x 0 0 h
  | no h ↦
      let out : length (replicate {A = ℕ} n 0) ≤ x = omega (arith, h, length-replicate {A = ℕ} n 0) in
      get_or-eq_default (replicate {A = ℕ} n 0) 0 out
]

-- ---- how many lines there can be

-- numbers below n, none twice, are at most n
pub below_few : (n : ℕ) (l : List ℕ) → NoRepeat l → ((x : ℕ) → In x l → x < n) → length l ≤ n
below_few n l single below =
    let few = within_length l (tabulate n (λ k. k)) single (λ x m. there x (below x m)) in
    let long = length_tabulate n (λ (k : ℕ). k) in omega (arith, few, long)
  where
    there : (x : ℕ) → x < n → In x (tabulate n (λ k. k))
    there x h =
        let long = length_tabulate n (λ (k : ℕ). k) in
        rw (get_d_tabulate n (λ (k : ℕ). k) 0 x h) at (in_get_d (tabulate n (λ k. k)) x (omega (arith, h, long)))

joined_few : (n : ℕ) (records : ℕ → List ℕ) (k : ℕ) → ((p : ℕ) → p < k → length (records p) ≤ n) → length (joined records k) ≤ k * n
joined_few n records zero few = omega arith
joined_few n records (suc k) few =
    let rest = joined_few n records k (λ p h. few p (omega (arith, h))) in
    let last = few k (omega arith) in
    let both = length-append (joined records k) (records k) in
    let next : suc k * n ≡ k * n + n = omega arith in omega (arith, rest, last, both, next)

module _ {matrix : ℕ} {kinds firsts seconds amounts lines ends : List ℕ} {marks places ahead : ℕ}
    (lawful : Lawful matrix kinds firsts seconds amounts lines ends marks places ahead) where
  abbrev n : ℕ
  n = length ends

  abbrev records : ℕ → List ℕ
  records = record_of lines ends

  abbrev table : Table
  table = table_of kinds firsts seconds amounts

  in_lines : (p x : ℕ) → p < n → In x (records p) → In x lines
  in_lines p x l m = rw lawful.joins at (in_joined records n p x l m)

  pub known_below : (p x : ℕ) → p < n → In x (records p) → x < length kinds
  known_below p x l m = lawful.known x (in_lines p x l m)

  pub rows_lawful : (p x : ℕ) → p < n → In x (records p) → fields_ok (row table x) ≡ true
  rows_lawful p x l m = ap fields_ok (row_at kinds firsts seconds amounts x (known_below p x l m)) ∙ lawful.lawful x (in_lines p x l m)

  rows : Rows table kinds firsts seconds (length kinds)
  rows y h =
      let e = row_at kinds firsts seconds amounts y h in
      (ap (λ (q : Posting). q.kind) e, ap (λ (q : Posting). q.a) e, ap (λ (q : Posting). q.b) e)

  pub turned : (x y : ℕ) → conflicts matrix kinds firsts seconds amounts x y ≡ conflicts matrix kinds firsts seconds amounts y x
  turned = conflict_turned matrix lawful.turned table

  few_lines : length lines ≤ 458752
  few_lines =
      let all = joined_few (length kinds) records n (λ p l. below_few (length kinds) (records p) (lawful.single p l) (λ x m. known_below p x l m)) in
      let most : n * length kinds ≤ 7 * 65536 = mul-le-mul lawful.sites lawful.few in
      let e = ap (length {A = ℕ}) lawful.joins in omega (arith, all, most, e)

  -- the reading's premises
  pub lawful_auditable : (given room : List ℕ) → ((x : ℕ) → get_or given x 0 ≡ 0) → length given ≡ places → length room ≡ ahead
      → Auditable kinds firsts seconds lines ends given room
  lawful_auditable given room blank lp la = record {
    known = λ i h. line_known i h;
    few = let b = few_lines in omega (arith, b);
    unread = blank;
    rising = lawful.ends_rise.rising;
    within = lawful.ends_rise.within;
  }
    where
      line_known : (i : ℕ) → i < length lines → Known kinds firsts seconds given room (get_or lines i 0)
      line_known i h =
          let y = get_or lines i 0 in
          let m = in_get_d lines i h in
          let b = lawful.known y m in
          let f = fields (posting_at kinds firsts seconds amounts y) (lawful.lawful y m) in
          record {
            in_kinds = b;
            in_firsts = omega (arith, b, lawful.firsts_all);
            in_seconds = omega (arith, b, lawful.seconds_all);
            in_places = omega (arith, b, lp, lawful.places_room);
            in_ahead = omega (arith, b, la, lawful.ahead_room);
            kind_below = row_kind (get_or kinds y 0) (get_or firsts y 0) (get_or seconds y 0) (get_or amounts y 0) f.within;
            accounts_are_ok = f.accounts_are_ok;
          }

  module _ {site line : ℕ} {fits : Bool} (says : DepartureSays matrix kinds firsts seconds lines ends fits site line) where
    is_agreed : fits ≡ true → audit (conflicts matrix kinds firsts seconds amounts) (length kinds) n records ≡ agreed
    is_agreed t = answers_agreed matrix lawful.turned kinds firsts seconds lines ends fits site line says table rows (length kinds) lawful.single known_below rows_lawful t

    is_departs : fits ≡ false
        → audit (conflicts matrix kinds firsts seconds amounts) (length kinds) n records ≡ departs site line (shown matrix kinds firsts seconds amounts lines ends site line)
    unfolding shown
    is_departs f = answers_departs matrix lawful.turned kinds firsts seconds lines ends fits site line says table rows (length kinds) lawful.single known_below rows_lawful f

    -- the answer in each case
    pub lawful_agreed : fits ≡ true
        → agreement ≡ answering matrix kinds firsts seconds amounts lines ends (audit (conflicts matrix kinds firsts seconds amounts) (length kinds) n records)
    unfolding answering
    lawful_agreed t = rw (is_agreed t)

    pub lawful_departs : fits ≡ false
        → answering matrix kinds firsts seconds amounts lines ends (departs site line (shown matrix kinds firsts seconds amounts lines ends site line))
        ≡ answering matrix kinds firsts seconds amounts lines ends (audit (conflicts matrix kinds firsts seconds amounts) (length kinds) n records)
    lawful_departs f = ap (answering matrix kinds firsts seconds amounts lines ends) (sym (is_departs f))

    pub lawful_pair : fits ≡ false → PairAt matrix kinds firsts seconds amounts lines ends site line marks
    lawful_pair f =
        let b = (says table rows).1 f in
        let answers = audit_answers (conflicts matrix kinds firsts seconds amounts) turned n records lawful.single (length kinds) known_below in
        let (l, li, t) = rw (is_departs f) at answers in
        record {
          fields = record { firsts_all = lawful.firsts_all; seconds_all = lawful.seconds_all; amounts_all = lawful.amounts_all };
          few = lawful.few;
          ends_rise = lawful.ends_rise;
          joins = lawful.joins;
          numbered = λ i h. lawful.known (get_or lines i 0) (in_get_d lines i h);
          room = lawful.marks_room;
          site_below = b.site_below;
          line_below = b.line_below;
          is_shown = differs_known (conflicts matrix kinds firsts seconds amounts) turned n records lawful.single (length kinds) known_below site (get_or (records site) line 0)
              (shown matrix kinds firsts seconds amounts lines ends site line) l (in_get_d (records site) line li) t;
        }

-- ---- refused or not

module _ (matrix : ℕ) (kinds firsts seconds amounts lines ends : List ℕ) (marks places ahead : ℕ) (refused : Answer)
    (is : refused ≡ judged matrix kinds firsts seconds amounts lines ends marks places ahead) where
  pub audited_refused : refused.code ≢ 0 → refused ≡ audited matrix kinds firsts seconds amounts lines ends marks places ahead
  unfolding audited
  audited_refused d = rw (← is, ne_eqb refused.code 0 d)

  pub audited_lawful : refused.code ≡ 0
      → answering matrix kinds firsts seconds amounts lines ends (audit (conflicts matrix kinds firsts seconds amounts) (length kinds) (length ends) (record_of lines ends))
      ≡ audited matrix kinds firsts seconds amounts lines ends marks places ahead
  unfolding audited
  audited_lawful z = rw (← is, eq-eqb refused.code 0 z)

  pub not_refused : refused.code ≡ 0 → (room : ℕ) → room ≡ marks → Lawful matrix kinds firsts seconds amounts lines ends room places ahead
  not_refused z room e = rw e (judged_none matrix kinds firsts seconds amounts lines ends marks places ahead (ap (λ (a : Answer). a.code) (sym is) ∙ z))
