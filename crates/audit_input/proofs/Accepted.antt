-- What is known where no refusal applies: sizes, known numbers, lawful fields, no repeats.
-- Rests on Judged and Searches. Assumes nothing.
use Prim.Native.Nat.{ℕ, suc, ◌*◌, ◌<◌, ◌≤◌}
use mathlib.Core.Path.{◌≡◌, refl}
use mathlib.Core.Logic.{inl, inr, ◌≢◌}
use mathlib.Core.Bool.{Bool, true, false, cond, ◌&&◌}
use mathlib.Core.List.{List, [], ◌∷◌}
use native.Mathlib.Omega.{arith}
use native.Mathlib.Decide.{ℕ_discrete, dec_lt}
use lib.Dec.{eqb, ltb, leb}
use lib.ListN.{length, get_or, take}
use borrow.Author.Tests.{eq-eqb, ne_eqb, eqb-true, leb-true, lt-ltb, le-ltb}
use Rattle.sets.proofs.Truth.{never, not_so, and_left, and_right, or_neither}
use Rattle.posting.specs.Kinds.{fields_ok, symmetric, has_fixed_pairs}
use Rattle.broadcast.specs.Lists.{In, NoRepeat, mem}
use Rattle.broadcast.proofs.Lists.{in_get_d}
use Rattle.audit_rule.specs.Audit.{joined, lowest}
use Rattle.audit_rule.specs.Handed.{posting_at, record_of}
use Rattle.audit_rule.specs.Needs.{Rising, Numbered}
use Rattle.audit_rule.proofs.Order.{joined_in}
use Rattle.audit_rule.proofs.Findings.{lowest_cases}
use Rattle.audit_rule.proofs.Answer.{in_place}
use Rattle.audit_pair.specs.Pair.{Fields}
use Rattle.audit_input.specs.declared.Spot.{Spot}
use Rattle.audit_input.specs.Input.{refusal, number_at, above_at, sites_ok, matrix_ok, ends_ok, fields_long, lent_long, unused, unlawful, unknown_line, repeated_line, first_spot, sizes_code, lines_judged, judged}
use Rattle.audit_input.specs.Lawful.{Lawful}
use Rattle.audit_input.proofs.Judged.{used_lawful, used_below, ends_rising, ends_joined}
use Rattle.audit_input.proofs.Searches.{spot_past}

-- ---- sizes

pub fields_long_says : (k f s a : ℕ) → fields_long k f s a ≡ true → (k ≤ 65536) × (f ≡ k) × (s ≡ k) × (a ≡ k)
unfolding fields_long
fields_long_says k f s a t =
    let rest = and_right (leb k 65536) (eqb f k && (eqb s k && eqb a k)) t in
    let last = and_right (eqb f k) (eqb s k && eqb a k) rest in (
      leb-true k 65536 (and_left (leb k 65536) (eqb f k && (eqb s k && eqb a k)) t),
      eqb-true f k (and_left (eqb f k) (eqb s k && eqb a k) rest),
      eqb-true s k (and_left (eqb s k) (eqb a k) last),
      eqb-true a k (and_right (eqb s k) (eqb a k) last),
    )

lent_long_says : (k m p a : ℕ) → lent_long k m p a ≡ true → (k ≤ m) × (k ≤ p) × (8 * k ≤ a)
unfolding lent_long
lent_long_says k m p a t =
    let rest = and_right (leb k m) (leb k p && leb (8 * k) a) t in (
      leb-true k m (and_left (leb k m) (leb k p && leb (8 * k) a) t),
      leb-true k p (and_left (leb k p) (leb (8 * k) a) rest),
      leb-true (8 * k) a (and_right (leb k p) (leb (8 * k) a) rest),
    )

module _ (matrix : ℕ) (kinds firsts seconds amounts lines ends : List ℕ) (marks places ahead : ℕ) where
  abbrev long : Bool
  long = fields_long (length kinds) (length firsts) (length seconds) (length amounts)

  abbrev rise : Bool
  rise = ends_ok (length lines) ends

  abbrev lent : Bool
  lent = lent_long (length kinds) marks places ahead

  pub record Sized : Type 0 where
    pub turned : symmetric matrix ≡ true
    pub fixed : has_fixed_pairs matrix ≡ true
    pub sites : length ends ≤ 7
    pub few : length kinds ≤ 65536
    pub fields : Fields kinds firsts seconds amounts
    pub ends_rise : Rising lines ends
    pub joins : joined (record_of lines ends) (length ends) ≡ lines
    pub rooms : (length kinds ≤ marks) × (length kinds ≤ places) × (8 * length kinds ≤ ahead)

  passes_all : (s m l : Bool) → ◌≡◌ {A = ℕ} (cond s (cond m (cond l 0 3) 2) 1) 0 → (s ≡ true) × (m ≡ true) × (l ≡ true)
  passes_all true true true e = (refl, refl, refl)
  passes_all true true false e = absurd (omega (arith, e))
  passes_all true false l e = absurd (omega (arith, e))
  passes_all false m l e = absurd (omega (arith, e))

  pub sizes_none : sizes_code matrix kinds firsts seconds amounts lines ends marks places ahead ≡ 0 → Sized
  unfolding sizes_code sites_ok matrix_ok
  sizes_none e =
      let (s, m, l) = passes_all (sites_ok ends) (matrix_ok matrix) (long && (rise && lent)) e in
      let (few, f, sec, a) = fields_long_says (length kinds) (length firsts) (length seconds) (length amounts) (and_left long (rise && lent) l) in
      let r = and_left rise lent (and_right long (rise && lent) l) in
      record {
        turned = and_left (symmetric matrix) (has_fixed_pairs matrix) m;
        fixed = and_right (symmetric matrix) (has_fixed_pairs matrix) m;
        sites = leb-true (length ends) 7 (and_right (leb 1 (length ends)) (leb (length ends) 7) s);
        few = few;
        fields = record { firsts_all = f; seconds_all = sec; amounts_all = a };
        ends_rise = ends_rising lines ends r;
        joins = ends_joined lines ends r;
        rooms = lent_long_says (length kinds) marks places ahead (and_right rise lent (and_right long (rise && lent) l));
      }

-- ---- numbers

-- no posting is unlawful
pub none_unlawful : (kinds firsts seconds amounts : List ℕ) → length kinds ≤ lowest (unlawful kinds firsts seconds amounts) (length kinds)
    → (x : ℕ) → unused kinds x ≡ false → fields_ok (posting_at kinds firsts seconds amounts x) ≡ true
none_unlawful kinds firsts seconds amounts past x u = elim (lowest_cases (unlawful kinds firsts seconds amounts) (length kinds)) [
  | inl (t, below, holds) ↦ absurd (omega (arith, past, below))
  | inr (f, none) ↦ used_lawful kinds firsts seconds amounts x u (not_so (unlawful kinds firsts seconds amounts x) (none x (used_below kinds x u)))
]

-- no line of a record has a number without a posting
pub known_record : (kinds l : List ℕ) → length l ≤ unknown_line kinds l → (x : ℕ) → In x l → unused kinds x ≡ false
unfolding unknown_line
known_record kinds l past x m = elim (lowest_cases (λ i. unused kinds (get_or l i 0)) (length l)) [
  | inl (t, below, holds) ↦ absurd (omega (arith, past, below))
  | inr (f, none) ↦ let (i, h, e) = in_place x l m in rw (← e) (not_so (unused kinds (get_or l i 0)) (none i h))
]

module _ (kinds lines ends : List ℕ) (joins : joined (record_of lines ends) (length ends) ≡ lines)
    (none : length ends ≤ (first_spot (unknown_line kinds) (length ends) (record_of lines ends)).site) where
  pub known_lines : (x : ℕ) → In x lines → unused kinds x ≡ false
  known_lines x m =
      let (p, l, h) = joined_in (record_of lines ends) (length ends) x (rw joins m) in
      known_record kinds (record_of lines ends p) (spot_past (unknown_line kinds) (length ends) (record_of lines ends) none p l) x h

  pub known_numbered : (n : ℕ) → length kinds ≤ n → Numbered lines n
  known_numbered n h i l = let b = used_below kinds (get_or lines i 0) (known_lines (get_or lines i 0) (in_get_d lines i l)) in omega (arith, b, h)

-- ---- no repeats

norepeat_lines : (l : List ℕ) → ((i : ℕ) → i < length l → mem (get_or l i 0) (take i l) ≡ false) → NoRepeat l
norepeat_lines [] h = tt
norepeat_lines (x ∷ l) h = (
  λ m. let (i, b, e) = in_place x l m in never (first i e) (h (suc i) (omega (arith, b))),
  norepeat_lines l (λ i b. later i b (h (suc i) (omega (arith, b)))),
)
  where
    first : (i : ℕ) → get_or l i 0 ≡ x → mem (get_or l i 0) (x ∷ take i l) ≡ true
    first i e = rw (e, eq-eqb x x refl)

    later : (i : ℕ) → i < length l → mem (get_or l i 0) (x ∷ take i l) ≡ false → mem (get_or l i 0) (take i l) ≡ false
    later i b f = (or_neither (eqb (get_or l i 0) x) (mem (get_or l i 0) (take i l)) f).1

single_record : (l : List ℕ) → length l ≤ repeated_line l → NoRepeat l
unfolding repeated_line
single_record l past = elim (lowest_cases (λ i. mem (get_or l i 0) (take i l)) (length l)) [
  | inl (t, below, holds) ↦ absurd (omega (arith, past, below))
  | inr (f, none) ↦ norepeat_lines l (λ i h. not_so (mem (get_or l i 0) (take i l)) (none i h))
]

-- ---- all

module _ (kinds lines ends : List ℕ) where
  abbrev unknown : Spot
  unknown = first_spot (unknown_line kinds) (length ends) (record_of lines ends)

  abbrev twice : Spot
  twice = first_spot repeated_line (length ends) (record_of lines ends)

  lines_none : (lines_judged kinds lines ends).code ≡ 0 → (length ends ≤ unknown.site) × (length ends ≤ twice.site)
  unfolding lines_judged
  lines_none e = elim (dec_lt unknown.site (length ends)) [
    | yes h ↦ absurd (seven (rw (lt-ltb unknown.site (length ends) h) at e))
    | no h ↦ elim (dec_lt twice.site (length ends)) [
      | yes k ↦ absurd (nine (rw (le-ltb unknown.site (length ends) (omega (arith, h)), lt-ltb twice.site (length ends) k) at e))
      | no k ↦ (omega (arith, h), omega (arith, k))
    ]
  ]
    where
      seven : ◌≡◌ {A = ℕ} 7 0 → ⊥
      seven h = omega (arith, h)

      nine : ◌≡◌ {A = ℕ} 9 0 → ⊥
      nine h = omega (arith, h)

  -- how the code comes to each end
  pub judged_unknown : (u : Spot) → u ≡ unknown → u.site < length ends
      → refusal 7 u.site u.line (number_at lines ends u) 0 ≡ lines_judged kinds lines ends
  unfolding lines_judged
  judged_unknown u e h = rw (← e, lt-ltb u.site (length ends) h)

  pub judged_twice : (u t : Spot) → u ≡ unknown → length ends ≤ u.site → t ≡ twice → t.site < length ends
      → refusal 9 t.site t.line (number_at lines ends t) (above_at lines ends t) ≡ lines_judged kinds lines ends
  unfolding lines_judged
  judged_twice u t e past d h = rw (← e, ← d, le-ltb u.site (length ends) past, lt-ltb t.site (length ends) h)

  pub judged_neither : (u t : Spot) → u ≡ unknown → length ends ≤ u.site → t ≡ twice → length ends ≤ t.site
      → refusal 0 0 0 0 0 ≡ lines_judged kinds lines ends
  unfolding lines_judged
  judged_neither u t e past d h = rw (← e, ← d, le-ltb u.site (length ends) past, le-ltb t.site (length ends) h)

module _ (matrix : ℕ) (kinds firsts seconds amounts lines ends : List ℕ) (marks places ahead : ℕ) where
  abbrev code : ℕ
  code = sizes_code matrix kinds firsts seconds amounts lines ends marks places ahead

  abbrev number : ℕ
  number = lowest (unlawful kinds firsts seconds amounts) (length kinds)

  -- how the code comes to each end
  pub judged_sizes : (c : ℕ) → c ≡ code → c ≢ 0 → refusal c 0 0 0 0 ≡ judged matrix kinds firsts seconds amounts lines ends marks places ahead
  unfolding judged
  judged_sizes c e d = rw (← e, ne_eqb c 0 d)

  pub judged_fields : (c x : ℕ) → c ≡ code → c ≡ 0 → x ≡ number → x < length kinds
      → refusal 5 0 0 x 0 ≡ judged matrix kinds firsts seconds amounts lines ends marks places ahead
  unfolding judged
  judged_fields c x e z f h = rw (← e, eq-eqb c 0 z, ← f, lt-ltb x (length kinds) h)

  pub judged_lines : (c x : ℕ) → c ≡ code → c ≡ 0 → x ≡ number → length kinds ≤ x
      → lines_judged kinds lines ends ≡ judged matrix kinds firsts seconds amounts lines ends marks places ahead
  unfolding judged
  judged_lines c x e z f h = rw (← e, eq-eqb c 0 z, ← f, le-ltb x (length kinds) h)

  -- Nothing is refused: all that the audit's theorems ask holds.
  pub judged_none : (judged matrix kinds firsts seconds amounts lines ends marks places ahead).code ≡ 0
      → Lawful matrix kinds firsts seconds amounts lines ends marks places ahead
  unfolding judged
  judged_none e = elim (ℕ_discrete code 0) [
    | no d ↦ absurd (d (rw (ne_eqb code 0 d) at e))
    | yes z ↦ elim (dec_lt number (length kinds)) [
      | yes h ↦ absurd (five (rw (eq-eqb code 0 z, lt-ltb number (length kinds) h) at e))
      | no h ↦ whole z (omega (arith, h)) (lines_none kinds lines ends (rw (eq-eqb code 0 z, le-ltb number (length kinds) (omega (arith, h))) at e))
    ]
  ]
    where
      five : ◌≡◌ {A = ℕ} 5 0 → ⊥
      five h = omega (arith, h)

      whole : sizes_code matrix kinds firsts seconds amounts lines ends marks places ahead ≡ 0
          → length kinds ≤ lowest (unlawful kinds firsts seconds amounts) (length kinds)
          → (length ends ≤ (unknown kinds lines ends).site) × (length ends ≤ (twice kinds lines ends).site)
          → Lawful matrix kinds firsts seconds amounts lines ends marks places ahead
      whole z lawful (none, once) =
          let s = sizes_none matrix kinds firsts seconds amounts lines ends marks places ahead z in
          let known = known_lines kinds lines ends s.joins none in
          record {
            turned = s.turned;
            fixed = s.fixed;
            sites = s.sites;
            few = s.few;
            firsts_all = s.fields.firsts_all;
            seconds_all = s.fields.seconds_all;
            amounts_all = s.fields.amounts_all;
            ends_rise = s.ends_rise;
            joins = s.joins;
            marks_room = s.rooms.0;
            places_room = s.rooms.1;
            ahead_room = s.rooms.2;
            known = λ x m. used_below kinds x (known x m);
            lawful = λ x m. none_unlawful kinds firsts seconds amounts lawful x (known x m);
            single = λ p l. single_record (record_of lines ends p) (spot_past repeated_line (length ends) (record_of lines ends) once p l);
          }

  -- The numbers of refusals end at 9.
  sizes_few : code ≤ 3
  unfolding sizes_code
  sizes_few = go (sites_ok ends) (matrix_ok matrix)
      (fields_long (length kinds) (length firsts) (length seconds) (length amounts) && (ends_ok (length lines) ends && lent_long (length kinds) marks places ahead))
    where
      go : (s m l : Bool) → cond s (cond m (cond l 0 3) 2) 1 ≤ 3
      go true true true = omega arith
      go true true false = omega arith
      go true false l = omega arith
      go false m l = omega arith

  pub judged_few : (judged matrix kinds firsts seconds amounts lines ends marks places ahead).code ≤ 9
  unfolding judged lines_judged
  judged_few = elim (ℕ_discrete code 0) [
    | no d ↦ rw (ne_eqb code 0 d) (let h = sizes_few in omega (arith, h))
    | yes z ↦ rw (eq-eqb code 0 z) (go (ltb number (length kinds)) (ltb (unknown kinds lines ends).site (length ends)) (ltb (twice kinds lines ends).site (length ends)))
  ]
    where
      go : (u k t : Bool)
          → (cond u (refusal 5 0 0 number 0)
          (cond k (refusal 7 (unknown kinds lines ends).site (unknown kinds lines ends).line (number_at lines ends (unknown kinds lines ends)) 0)
          (cond t (refusal 9 (twice kinds lines ends).site (twice kinds lines ends).line (number_at lines ends (twice kinds lines ends)) (above_at lines ends (twice kinds lines ends))) (refusal 0 0 0 0 0)))).code ≤ 9
      go true k t = omega arith
      go false true t = omega arith
      go false false true = omega arith
      go false false false = omega arith
