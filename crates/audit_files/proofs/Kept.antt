-- A file of postings that is not refused: every line's posting stands at its number afterwards, so that what is audited is what the file says.
-- Rests on Files, Room, posting and audit_input. Assumes nothing.
use Prim.Native.Nat.{ℕ, zero, suc, ◌<◌}
use mathlib.Core.Path.{◌≡◌, refl, sym, ap, ◌∙◌, subst}
use mathlib.Core.Logic.{inl, inr, ◌≢◌}
use mathlib.Core.Bool.{true, false, ◌||◌, true≢false, false≢true}
use mathlib.Core.List.{List, [], ◌∷◌}
use native.Mathlib.Omega.{arith}
use lib.Dec.{eqb, ltb}
use lib.ListN.{length, get_or, length-set}
use lib.Seq.{get_or-set_same, get_or-set_other}
use borrow.Author.Tests.{eq-eqb, eqb-true, lt-leb}
use Rattle.sets.proofs.Truth.{test, and_right, or_neither}
use Rattle.posting.specs.Kinds.{fields_ok, accounts_ok, in_row}
use Rattle.posting.specs.declared.Posting.{Posting}
use Rattle.audit_rule.specs.Handed.{no_kind, posting_at}
use Rattle.audit_input.specs.Input.{unused}
use Rattle.audit_files.specs.declared.Entry.{Entry}
use Rattle.audit_files.specs.declared.Refused.{Refused}
use Rattle.audit_files.specs.declared.files.Store.{Store}
use Rattle.audit_files.specs.Entries.{malformed, is_whole, number_in, kind_in, a_in, b_in, amount_in}
use Rattle.audit_files.specs.Room.{Room}
use Rattle.audit_files.specs.Files.{lower, where_is, posting_of, keeps, kept, posting_code, kept_all, postings_refused}

-- ---- refusals

pub lower_none : (r s : Refused) → (lower r s).code ≡ 0 → (r.code ≡ 0) × (s.code ≡ 0)
unfolding lower
lower_none r s e = elim (test (eqb s.code 0)) [
  | inl z ↦ (rw z at e, eqb-true s.code 0 z)
  | inr d ↦ elim (test (eqb r.code 0 || ltb s.code r.code)) [
    | inl t ↦ let e' : s.code ≡ 0 = rw (d, t) at e in absurd (true≢false (sym (eq-eqb s.code 0 e') ∙ d))
    | inr f ↦ let e' : r.code ≡ 0 = rw (d, f) at e in absurd (true≢false (sym (eq-eqb r.code 0 e') ∙ (or_neither _ _ f).0))
  ]
]

-- a line that is not refused has all its fields within its row, and its number had no posting
pub code_none : (kinds : List ℕ) (e : Entry) → posting_code false kinds e ≡ 0 → (is_whole e ≡ true) × (fields_ok (posting_of e) ≡ true) × (unused kinds (number_in e) ≡ true)
unfolding posting_code
code_none kinds e z = elim (test (is_whole e)) [
  | inr f ↦ absurd (let z' : 4 ≡ 0 = rw f at z in omega (arith, z'))
  | inl t ↦ elim (test (fields_ok (posting_of e))) [
    | inr f ↦ absurd (let z' : 5 ≡ 0 = rw (t, f) at z in omega (arith, z'))
    | inl ok ↦ elim (test (unused kinds (number_in e))) [
      | inr f ↦ absurd (let z' : 6 ≡ 0 = rw (t, ok, f) at z in omega (arith, z'))
      | inl u ↦ (t, ok, u)
    ]
  ]
]

-- ---- the store

abbrev at : Store → ℕ → Posting
at s x = posting_at s.kinds s.firsts s.seconds s.amounts x

abbrev pub Roomy : Store → Type 0
Roomy s = Room s.kinds s.firsts s.seconds s.amounts s.wheres

pub kept_roomy : (file line : ℕ) (e : Entry) (s : Store) → Roomy s → Roomy (kept file line e s)
unfolding kept
kept_roomy file line e s r = elim (test (keeps e s.kinds)) [
  | inr f ↦ rw f r
  | inl t ↦ rw t record {
    kinds_all = length-set s.kinds (number_in e) (kind_in e) ∙ r.kinds_all;
    firsts_all = length-set s.firsts (number_in e) (a_in e) ∙ r.firsts_all;
    seconds_all = length-set s.seconds (number_in e) (b_in e) ∙ r.seconds_all;
    amounts_all = length-set s.amounts (number_in e) (amount_in e) ∙ r.amounts_all;
    wheres_all = length-set s.wheres (number_in e) (where_is file line) ∙ r.wheres_all;
  }
]

-- a number that has a posting keeps it
kept_stays : (file line : ℕ) (e : Entry) (s : Store) (x : ℕ) → unused s.kinds x ≡ false → (at (kept file line e s) x ≡ at s x) × (unused (kept file line e s).kinds x ≡ false)
unfolding kept keeps unused
kept_stays file line e s x used = elim (test (keeps e s.kinds)) [
  | inr f ↦ rw f (refl, used)
  | inl t ↦
      let free = and_right (is_whole e) (unused s.kinds (number_in e)) t in
      let d : x ≢ number_in e = λ h. true≢false (sym free ∙ ap (unused s.kinds) (sym h) ∙ used) in
      rw (t, get_or-set_other s.kinds (number_in e) x (kind_in e) 0 d, get_or-set_other s.firsts (number_in e) x (a_in e) 0 d, get_or-set_other s.seconds (number_in e) x (b_in e) 0 d, get_or-set_other s.amounts (number_in e) x (amount_in e) 0 d, length-set s.kinds (number_in e) (kind_in e))
      (refl, used)
]

all_stays : (file line : ℕ) (l : List Entry) (s : Store) (x : ℕ) → unused s.kinds x ≡ false → at (kept_all file line l s) x ≡ at s x
unfolding kept_all
all_stays file line [] s x used = refl
all_stays file line (e ∷ l) s x used = let (same, again) = kept_stays file line e s x used in all_stays file (suc line) l (kept file line e s) x again ∙ same

-- no posting within the rule has the kind that stands for none
kind_some : (e : Entry) → fields_ok (posting_of e) ≡ true → eqb (kind_in e) no_kind ≡ false
unfolding fields_ok in_row
kind_some e ok = elim (test (eqb (kind_in e) no_kind)) [
  | inr f ↦ f
  | inl t ↦
      let row : in_row (kind_in e) (a_in e) (b_in e) (amount_in e) ≡ true = and_right (accounts_ok (kind_in e) (a_in e) (b_in e)) (in_row (kind_in e) (a_in e) (b_in e) (amount_in e)) ok in
      let row' : in_row no_kind (a_in e) (b_in e) (amount_in e) ≡ true = subst (λ (k : ℕ). in_row k (a_in e) (b_in e) (amount_in e) ≡ true) (eqb-true (kind_in e) no_kind t) row in
      absurd (false≢true row')
]

-- a line that is not refused stands at its number
kept_there : (file line : ℕ) (e : Entry) (s : Store) → Roomy s → number_in e < 65_536 → posting_code false s.kinds e ≡ 0
    → (at (kept file line e s) (number_in e) ≡ posting_of e) × (unused (kept file line e s).kinds (number_in e) ≡ false)
unfolding kept keeps unused
kept_there file line e s r n z =
    let (form, ok, free) = code_none s.kinds e z in
    let k : number_in e < length s.kinds = rw r.kinds_all n in
    let a : number_in e < length s.firsts = rw r.firsts_all n in
    let b : number_in e < length s.seconds = rw r.seconds_all n in
    let m : number_in e < length s.amounts = rw r.amounts_all n in
    rw (form, free, get_or-set_same s.kinds (number_in e) (kind_in e) 0 k, get_or-set_same s.firsts (number_in e) (a_in e) 0 a, get_or-set_same s.seconds (number_in e) (b_in e) 0 b, get_or-set_same s.amounts (number_in e) (amount_in e) 0 m, length-set s.kinds (number_in e) (kind_in e), lt-leb (length s.kinds) (number_in e) k, kind_some e ok)
    (refl, refl)

-- of all lines
all_none : (file line : ℕ) (l : List Entry) (s : Store) (r : Refused) → (postings_refused false file line l s r).code ≡ 0 → r.code ≡ 0
unfolding postings_refused
all_none file line [] s r z = z
all_none file line (e ∷ l) s r z = (lower_none r _ (all_none file (suc line) l (kept file line e s) _ z)).0

pub postings_stand : (file line : ℕ) (l : List Entry) (s : Store) (r : Refused) → Roomy s → ((i : ℕ) → i < length l → number_in (get_or l i malformed) < 65_536)
    → (postings_refused false file line l s r).code ≡ 0
    → (i : ℕ) → i < length l → at (kept_all file line l s) (number_in (get_or l i malformed)) ≡ posting_of (get_or l i malformed)
unfolding postings_refused kept_all
postings_stand file line [] s r roomy few z i h = absurd (omega (arith, h))
postings_stand file line (e ∷ l) s r roomy few z zero h =
    let none = (lower_none r _ (all_none file (suc line) l (kept file line e s) _ z)).1 in
    let (there, used) = kept_there file line e s roomy (few 0 h) none in
    all_stays file (suc line) l (kept file line e s) (number_in e) used ∙ there
postings_stand file line (e ∷ l) s r roomy few z (suc i) h =
    postings_stand file (suc line) l (kept file line e s) _ (kept_roomy file line e s roomy) (λ j k. few (suc j) (omega (arith, k))) z i (omega (arith, h))
