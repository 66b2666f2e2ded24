-- What the slices of a reading mean: the numbers of audit_rule's notes and tallies, by class number; one line more; and the test of a line by the slices
-- is the test by the lists. Rests on Kept, RowLaws and audit_rule. Assumes nothing.
use Prim.Native.Nat.{ℕ, suc, ◌+◌, ◌*◌, ◌/◌, ◌%◌, ◌<◌, ◌≤◌, max}
use mathlib.Core.Path.{◌≡◌, refl, sym, ap, ap₂, ◌∙◌, subst}
use mathlib.Core.Logic.{◌⊎◌, inl, inr, ◌≢◌}
use mathlib.Core.Bool.{Bool, true, false, cond, not, ◌&&◌, ◌||◌}
use mathlib.Core.List.{List, [], ◌∷◌, ◌++◌, append_assoc}
use native.Mathlib.Omega.{arith}
use native.Mathlib.Decide.{ℕ_discrete, dec_lt}
use native.Mathlib.Numerals.{add-one}
use lib.Dec.{eqb}
use lib.ListN.{length, get_or, set, length-set}
use lib.Seq.{get_or-set_same, get_or-set_other}
use borrow.Author.Tests.{eq-eqb, ne_eqb, eqb-true}
use Rattle.sets.proofs.Truth.{never, not_so, or_cases, or_left, or_right}
use Rattle.sets.proofs.BelowLaws.{all_ext}
use Rattle.posting.specs.declared.Table.{Table}
use Rattle.posting.specs.Kinds.{matrix_entry, kinds}
use Rattle.posting.specs.Conflicts.{row, touches}
use Rattle.posting.specs.Touched.{every_row, stands_in}
use Rattle.posting.proofs.ConflictLaws.{touches_account}
use Rattle.broadcast.specs.Lists.{In}
use Rattle.broadcast.specs.Deliveries.{once}
use Rattle.broadcast.proofs.Lists.{once_in, in_left, in_right}
use Rattle.broadcast.specs.Counts.{bit}
use Rattle.audit_rule.specs.Reading.{every, fits, of_class, row_of, fits_row, line_fits}
use Rattle.audit_rule.specs.Audit.{ahead_of, up_to}
use Rattle.audit_rule.proofs.Order.{in_or}
use Rattle.audit_rule.proofs.Reading.{ahead_cut}
use Rattle.audit_rule.proofs.Notes.{noted_new, noted_old, tallied_line, tallied_kept, numbers_fit, once_old, once_new, up_to_new, up_to_last}
use Rattle.audit_reading.specs.Kept.{classes, class_of, looks_in, ahead_at, NotedIn, TalliedIn, fits_class, class_fits, fits_classes, fits_line, own_class, counted, reached, four_put, entered, places_after, seen_after, totals_after, ahead_after}
use Rattle.audit_reading.proofs.Bumps.{past, changed_length, changed_at_lem}
use Rattle.audit_reading.proofs.RowLaws.{Row}

-- a class past the last has no posting
class_past : (t : Table) (c y : ℕ) → classes ≤ c → class_of t c y ≡ false
unfolding of_class stands_in
class_past t c y h =
    rw (ne_eqb (c / 4) every_row (omega (arith, h)), not_so (touches (row t y) (c / 4)) (λ u. let l = touches_account (row t y) (c / 4) u in absurd (omega (arith, h, l))))

module _ (t : Table) (y kind a b : ℕ) (r : Row t y kind a b) (l : List ℕ) (len : length l ≡ classes) where
  more_one : (v : Bool) (x : ℕ) → cond v (x + 1) x ≡ x + bit v
  more_one true x = refl
  more_one false x = omega arith

  -- a posting counted
  pub counted_is : (c : ℕ) → get_or (counted l kind a b) c 0 ≡ get_or l c 0 + bit (class_of t c y)
  counted_is c = elim (dec_lt c classes) [
    | yes h ↦ rw (r.own c) (changed_at_lem l (λ v. v + 1) (own_class kind a b) c (omega (arith, h, len)) ∙ more_one (own_class kind a b c) (get_or l c 0))
    | no h ↦
        let g : classes ≤ c = omega (arith, h) in
        let new = past (counted l kind a b) classes c (changed_length l (λ v. v + 1) (own_class kind a b) ∙ len) g in
        let old = past l classes c len g in
        rw (class_past t c y g) (omega (arith, new, old))
  ]

  -- its place among the highest
  abbrev Lifts : ℕ → ℕ → ℕ → Type 0
  Lifts old new place = (old ≤ new) × (place ≤ new) × ((new ≡ old) ⊎ (new ≡ place))

  lift_max : (old place : ℕ) → Lifts old (max old place) place
  lift_max old place = elim (dec_lt old place) [
    | yes h ↦ (omega arith, omega arith, inr (omega (arith, h)))
    | no h ↦ (omega arith, omega arith, inl (omega (arith, h)))
  ]

  pub reached_stays : (place c : ℕ) → class_of t c y ≡ false → get_or (reached l kind a b place) c 0 ≡ get_or l c 0
  reached_stays place c f = elim (dec_lt c classes) [
    | yes h ↦ changed_at_lem l (λ v. max v place) (own_class kind a b) c (omega (arith, h, len)) ∙ rw (sym (r.own c) ∙ f)
    | no h ↦
        let g : classes ≤ c = omega (arith, h) in
        past (reached l kind a b place) classes c (changed_length l (λ v. max v place) (own_class kind a b) ∙ len) g ∙ sym (past l classes c len g)
  ]

  pub reached_lifts : (place c : ℕ) → class_of t c y ≡ true → Lifts (get_or l c 0) (get_or (reached l kind a b place) c 0) place
  reached_lifts place c u = elim (dec_lt c classes) [
    | yes h ↦
        let e : get_or (reached l kind a b place) c 0 ≡ max (get_or l c 0) place = changed_at_lem l (λ v. max v place) (own_class kind a b) c (omega (arith, h, len)) ∙ rw (sym (r.own c) ∙ u) in
        rw e (lift_max (get_or l c 0) place)
    | no h ↦ absurd (never u (class_past t c y (omega (arith, h))))
  ]

-- four numbers put
four_at : (c at : ℕ) (totals ahead : List ℕ) → at + 4 ≤ length ahead → (j : ℕ) → j < 4 → get_or (four_put c at totals ahead) (at + j) 0 ≡ get_or totals (c + j) 0
unfolding four_put
four_at c at totals ahead len j h =
    let l0 = set ahead at (get_or totals c 0) in
    let l1 = set l0 (at + 1) (get_or totals (c + 1) 0) in
    let l2 = set l1 (at + 2) (get_or totals (c + 2) 0) in
    let n0 : length l0 ≡ length ahead = length-set ahead at (get_or totals c 0) in
    let n1 : length l1 ≡ length ahead = length-set l0 (at + 1) (get_or totals (c + 1) 0) ∙ n0 in
    let n2 : length l2 ≡ length ahead = length-set l1 (at + 2) (get_or totals (c + 2) 0) ∙ n1 in
    elim (ℕ_discrete j 3) [
      | yes e ↦ rw e (get_or-set_same l2 (at + 3) (get_or totals (c + 3) 0) 0 (omega (arith, n2, len)))
      | no d3 ↦ get_or-set_other l2 (at + 3) (at + j) (get_or totals (c + 3) 0) 0 (λ e. d3 (omega (arith, e))) ∙ elim (ℕ_discrete j 2) [
        | yes e ↦ rw e (get_or-set_same l1 (at + 2) (get_or totals (c + 2) 0) 0 (omega (arith, n1, len)))
        | no d2 ↦ get_or-set_other l1 (at + 2) (at + j) (get_or totals (c + 2) 0) 0 (λ e. d2 (omega (arith, e))) ∙ elim (ℕ_discrete j 1) [
          | yes e ↦ rw e (get_or-set_same l0 (at + 1) (get_or totals (c + 1) 0) 0 (omega (arith, n0, len)))
          | no d1 ↦
              let z : j ≡ 0 = omega (arith, h, d1, d2, d3) in
              let za : at + j ≡ at = omega (arith, z) in
              let zc : c + j ≡ c = omega (arith, z) in
              get_or-set_other l0 (at + 1) (at + j) (get_or totals (c + 1) 0) 0 (λ e. d1 (omega (arith, e)))
              ∙ rw (za, zc) (get_or-set_same ahead at (get_or totals c 0) 0 (omega (arith, len)))
        ]
      ]
    ]

four_past : (c at : ℕ) (totals ahead : List ℕ) (k : ℕ) → (k < at) ⊎ (at + 4 ≤ k) → get_or (four_put c at totals ahead) k 0 ≡ get_or ahead k 0
unfolding four_put
four_past c at totals ahead k h =
    let d0 : k ≢ at = λ e. elim h [ inl l ↦ absurd (omega (arith, l, e)) | inr l ↦ absurd (omega (arith, l, e)) ] in
    let d1 : k ≢ at + 1 = λ e. elim h [ inl l ↦ absurd (omega (arith, l, e)) | inr l ↦ absurd (omega (arith, l, e)) ] in
    let d2 : k ≢ at + 2 = λ e. elim h [ inl l ↦ absurd (omega (arith, l, e)) | inr l ↦ absurd (omega (arith, l, e)) ] in
    let d3 : k ≢ at + 3 = λ e. elim h [ inl l ↦ absurd (omega (arith, l, e)) | inr l ↦ absurd (omega (arith, l, e)) ] in
    let l0 = set ahead at (get_or totals c 0) in
    let l1 = set l0 (at + 1) (get_or totals (c + 1) 0) in
    let l2 = set l1 (at + 2) (get_or totals (c + 2) 0) in
    get_or-set_other l2 (at + 3) k (get_or totals (c + 3) 0) 0 d3
    ∙ get_or-set_other l1 (at + 2) k (get_or totals (c + 2) 0) 0 d2
    ∙ get_or-set_other l0 (at + 1) k (get_or totals (c + 1) 0) 0 d1
    ∙ get_or-set_other ahead at k (get_or totals c 0) 0 d0

-- ---- the notes

pub four_length : (c at : ℕ) (totals ahead : List ℕ) → length (four_put c at totals ahead) ≡ length ahead
unfolding four_put
four_length c at totals ahead = simp length-set

module _ (t : Table) (y kind a b : ℕ) (r : Row t y kind a b) (totals ahead : List ℕ) (room : 8 * y + 8 ≤ length ahead) where
  pub entered_own : (c : ℕ) → looks_in t y c ≡ true → get_or (entered y a b totals ahead) (ahead_at t y c) 0 ≡ get_or totals c 0
  entered_own c u =
      let first = four_put (4 * a) (8 * y) totals ahead in
      let n : length first ≡ length ahead = four_length (4 * a) (8 * y) totals ahead in
      let ra = row_of (row t y) (row t y).a in
      let rb = row_of (row t y) (row t y).b in
      elim (ℕ_discrete (c / 4) ra) [
        | yes e ↦
            let i : 8 * y + (0 + c % 4) ≡ 8 * y + c % 4 = omega arith in
            let k : 4 * a + c % 4 ≡ c = omega (arith, e, r.first_is) in
            rw (eq-eqb (c / 4) ra e, i)
            (four_past (4 * b) (8 * y + 4) totals first (8 * y + c % 4) (inl (omega arith)) ∙ four_at (4 * a) (8 * y) totals ahead (omega (arith, room)) (c % 4) (omega arith) ∙ ap (λ v. get_or totals v 0) k)
        | no d ↦
            let e : c / 4 ≡ rb = elim (or_cases (eqb (c / 4) ra) (eqb (c / 4) rb) u) [ inl h ↦ absurd (d (eqb-true (c / 4) ra h)) | inr h ↦ eqb-true (c / 4) rb h ] in
            let i : 8 * y + (4 + c % 4) ≡ (8 * y + 4) + c % 4 = omega arith in
            let k : 4 * b + c % 4 ≡ c = omega (arith, e, r.second_is) in
            rw (ne_eqb (c / 4) ra d, i) (four_at (4 * b) (8 * y + 4) totals first (omega (arith, room, n)) (c % 4) (omega arith) ∙ ap (λ v. get_or totals v 0) k)
      ]

  pub entered_rest : (z c : ℕ) → z ≢ y → get_or (entered y a b totals ahead) (ahead_at t z c) 0 ≡ get_or ahead (ahead_at t z c) 0
  entered_rest z c d =
      let first = four_put (4 * a) (8 * y) totals ahead in
      let low : 8 * z ≤ ahead_at t z c = omega arith in
      let high : ahead_at t z c < 8 * z + 8 = spread (eqb (c / 4) (row_of (row t z) (row t z).a)) in
      elim (dec_lt z y) [
        | yes l ↦ four_past (4 * b) (8 * y + 4) totals first (ahead_at t z c) (inl (omega (arith, l, high))) ∙ four_past (4 * a) (8 * y) totals ahead (ahead_at t z c) (inl (omega (arith, l, high)))
        | no l ↦ four_past (4 * b) (8 * y + 4) totals first (ahead_at t z c) (inr (omega (arith, l, d, low))) ∙ four_past (4 * a) (8 * y) totals ahead (ahead_at t z c) (inr (omega (arith, l, d, low)))
      ]
    where
      spread : (v : Bool) → 8 * z + (cond v 0 4 + c % 4) < 8 * z + 8
      spread true = omega arith
      spread false = omega arith

module _ (t : Table) (y kind a b : ℕ) (r : Row t y kind a b) (read places : List ℕ) (seen : ℕ) (totals ahead : List ℕ) (k : NotedIn t read places seen totals ahead)
    (room : y < length places) (more : 8 * y + 8 ≤ length ahead) (all : length totals ≡ classes) where
  pub note_one : NotedIn t (read ++ (y ∷ [])) (places_after places y seen) (seen_after places y seen) (totals_after places y kind a b totals) (ahead_after places y a b totals ahead)
  note_one = elim (ℕ_discrete (get_or places y 0) 0) [
    | yes e ↦
        let new : ¬ In y read = λ m. let l = k.placed y m in absurd (omega (arith, l, e)) in
        rw (eq-eqb (get_or places y 0) 0 e, add-one seen)
        (noted_new (class_of t) (looks_in t) k y new (λ x. get_or (set places y (suc seen)) x 0) (λ c. get_or (counted totals kind a b) c 0) (λ z c. get_or (entered y a b totals ahead) (ahead_at t z c) 0)
        (get_or-set_same places y (suc seen) 0 room)
        (λ x d. get_or-set_other places y x (suc seen) 0 d)
        (counted_is t y kind a b r totals all)
        (entered_own t y kind a b r totals ahead more)
        (entered_rest t y kind a b r totals ahead more))
    | no d ↦
        let old : In y read = elim (in_or y read) [ inl m ↦ m | inr h ↦ absurd (d (k.unplaced y h)) ] in
        rw (ne_eqb (get_or places y 0) 0 d) (noted_old (class_of t) (looks_in t) k y old)
  ]

  -- the places of what was read stay
  pub places_kept : (x : ℕ) → In x read → get_or (places_after places y seen) x 0 ≡ get_or places x 0
  places_kept x m = elim (ℕ_discrete (get_or places y 0) 0) [
    | yes e ↦ rw (eq-eqb (get_or places y 0) 0 e) (get_or-set_other places y x (seen + 1) 0 (λ h. let l = k.placed x m in absurd (omega (arith, l, e, ap (λ v. get_or places v 0) h))))
    | no d ↦ rw (ne_eqb (get_or places y 0) 0 d)
  ]

-- ---- the test of a line

every_alike : (p q : ℕ → Bool) (l : List ℕ) → ((x : ℕ) → p x ≡ q x) → every p l ≡ every q l
every_alike p q [] h = refl
every_alike p q (x ∷ l) h = rw (h x, every_alike p q l h)

-- a line is tested alike with its own posting read
fits_own : (q : ℕ → Bool) (read above : List ℕ) (y : ℕ) → fits q (read ++ (y ∷ [])) above y ≡ fits q read above y
unfolding fits
fits_own q read above y =
    let fronts : up_to y (once (read ++ (y ∷ []))) ≡ up_to y (once read) = elim (in_or y read) [
      | inl m ↦ ap (up_to y) (once_old read y m)
      | inr h ↦
          let out : ¬ In y (once read) = λ m. h (once_in y read m) in
          ap (up_to y) (once_new read y h) ∙ up_to_last (once read) y out ∙ sym (up_to_new (once read) y out)
    ] in
    rw (fronts, every_alike (λ x. not (q x) || ahead_of x y (read ++ (y ∷ []))) (λ x. not (q x) || ahead_of x y read) above (λ x. rw (ahead_cut x y read [])))

module _ (matrix : ℕ) (t : Table) (y kind a b : ℕ) (r : Row t y kind a b) (read above places : List ℕ) (seen : ℕ) (totals ahead counts highest : List ℕ)
    (k : NotedIn t (read ++ (y ∷ [])) places seen totals ahead) (s : TalliedIn t above places counts highest)
    (within : (x : ℕ) → In x above → In x (read ++ (y ∷ []))) (here : In y (read ++ (y ∷ []))) where
  class_is : (line at j : ℕ) → j < 4 → looks_in t y (4 * line + j) ≡ true → ahead_at t y (4 * line + j) ≡ at + j
      → class_fits matrix kind line (get_or places y 0) at counts highest ahead j ≡ (not (matrix_entry matrix j (row t y).kind) || fits (of_class t line j) read above y)
  unfolding fits_class
  class_is line at j h u e =
      let c = 4 * line + j in
      let q : c / 4 ≡ line = omega (arith, h) in
      let m : c % 4 ≡ j = omega (arith, h) in
      let f = numbers_fit (class_of t) (looks_in t) k s within y here c u ∙ fits_own (class_of t c) read above y
      ∙ ap₂ (λ (v w : ℕ). fits (of_class t v w) read above y) q m in
      rw (r.kind_is, ← e) (ap (λ v. not (matrix_entry matrix j kind) || v) f)

  row_fits : (line at : ℕ) → ((j : ℕ) → j < 4 → looks_in t y (4 * line + j) ≡ true) → ((j : ℕ) → j < 4 → ahead_at t y (4 * line + j) ≡ at + j)
      → fits_classes matrix kind line (get_or places y 0) at counts highest ahead ≡ fits_row matrix t read above y line
  unfolding fits_classes fits_row
  row_fits line at u e =
      all_ext (class_fits matrix kind line (get_or places y 0) at counts highest ahead) (λ j. not (matrix_entry matrix j (row t y).kind) || fits (of_class t line j) read above y) kinds
      (λ j h. class_is line at j h (u j h) (e j h))

  abbrev ra : ℕ
  ra = row_of (row t y) (row t y).a

  abbrev rb : ℕ
  rb = row_of (row t y) (row t y).b

  quotient : (line j : ℕ) → j < 4 → (4 * line + j) / 4 ≡ line
  quotient line j h = omega (arith, h)

  rest : (line j : ℕ) → j < 4 → (4 * line + j) % 4 ≡ j
  rest line j h = omega (arith, h)

  first_looks : (j : ℕ) → j < 4 → looks_in t y (4 * ra + j) ≡ true
  first_looks j h = let c = 4 * ra + j in or_left (eqb (c / 4) ra) (eqb (c / 4) rb) (eq-eqb (c / 4) ra (quotient ra j h))

  second_looks : (j : ℕ) → j < 4 → looks_in t y (4 * rb + j) ≡ true
  second_looks j h = let c = 4 * rb + j in or_right (eqb (c / 4) ra) (eqb (c / 4) rb) (eq-eqb (c / 4) rb (quotient rb j h))

  at_first : (j : ℕ) → j < 4 → ahead_at t y (4 * ra + j) ≡ 8 * y + j
  at_first j h = rw (quotient ra j h, rest ra j h, eq-eqb ra ra refl) (omega arith)

  at_second : (a ≡ b → ⊥) → (j : ℕ) → j < 4 → ahead_at t y (4 * rb + j) ≡ (8 * y + 4) + j
  at_second d j h = rw (quotient rb j h, rest rb j h, ne_eqb rb ra (λ e. d (sym r.first_is ∙ sym e ∙ r.second_is))) (omega arith)

  pub line_is : fits_line matrix kind a b (get_or places y 0) y counts highest ahead ≡ line_fits matrix t read above y
  unfolding fits_line line_fits
  line_is =
      let first = sym (ap (λ v. fits_classes matrix kind v (get_or places y 0) (8 * y) counts highest ahead) r.first_is) ∙ row_fits ra (8 * y) first_looks at_first in
      elim (ℕ_discrete a b) [
        | yes e ↦ rw (eq-eqb a b e) (twice _ _ _ first (ap (fits_row matrix t read above y) (r.second_is ∙ sym e ∙ sym r.first_is)))
        | no d ↦ rw (ne_eqb a b d) (ap₂ (λ (v w : Bool). v && w) first
            (sym (ap (λ v. fits_classes matrix kind v (get_or places y 0) (8 * y + 4) counts highest ahead) r.second_is) ∙ row_fits rb (8 * y + 4) second_looks (at_second d)))
      ]
    where
      twice : (x v w : Bool) → x ≡ v → w ≡ v → (x && true) ≡ (v && w)
      twice true v w e f = rw (← e, f, ← e)
      twice false v w e f = rw (← e)

-- a line more above
pub tally_one : (t : Table) (y kind a b : ℕ) → Row t y kind a b → (above places counts highest : List ℕ) → TalliedIn t above places counts highest
    → length counts ≡ classes → length highest ≡ classes
    → TalliedIn t (above ++ (y ∷ [])) places (counted counts kind a b) (reached highest kind a b (get_or places y 0))
tally_one t y kind a b r above places counts highest s lc lh =
    tallied_line (class_of t) (looks_in t) s y (λ c. get_or (counted counts kind a b) c 0) (λ c. get_or (reached highest kind a b (get_or places y 0)) c 0)
    (counted_is t y kind a b r counts lc)
    (λ c f. reached_stays t y kind a b r highest lh (get_or places y 0) c f)
    (λ c u. reached_lifts t y kind a b r highest lh (get_or places y 0) c u)

-- ---- one line of a record

module _ (matrix : ℕ) (t : Table) (y kind a b : ℕ) (r : Row t y kind a b) (read above places : List ℕ) (seen : ℕ) (totals ahead counts highest : List ℕ)
    (k : NotedIn t (read ++ above) places seen totals ahead) (s : TalliedIn t above places counts highest)
    (room : y < length places) (more : 8 * y + 8 ≤ length ahead) (all : length totals ≡ classes) (lc : length counts ≡ classes) (lh : length highest ≡ classes) where
  abbrev placed : List ℕ
  placed = places_after places y seen

  noted : NotedIn t ((read ++ above) ++ (y ∷ [])) placed (seen_after places y seen) (totals_after places y kind a b totals) (ahead_after places y a b totals ahead)
  noted = note_one t y kind a b r (read ++ above) places seen totals ahead k room more all

  kept : TalliedIn t above placed counts highest
  kept = tallied_kept (class_of t) (looks_in t) s (λ x m. places_kept t y kind a b r (read ++ above) places seen totals ahead k room more all x (in_right x read above m))

  pub line_test : fits_line matrix kind a b (get_or placed y 0) y counts highest (ahead_after places y a b totals ahead) ≡ line_fits matrix t (read ++ above) above y
  line_test =
      line_is matrix t y kind a b r (read ++ above) above placed (seen_after places y seen) (totals_after places y kind a b totals) (ahead_after places y a b totals ahead) counts highest noted kept
      (λ x m. in_left x (read ++ above) (y ∷ []) (in_right x read above m)) (in_right y (read ++ above) (y ∷ []) (inl refl))

  pub line_noted : NotedIn t (read ++ (above ++ (y ∷ []))) placed (seen_after places y seen) (totals_after places y kind a b totals) (ahead_after places y a b totals ahead)
  line_noted = subst (λ (l : List ℕ). NotedIn t l placed (seen_after places y seen) (totals_after places y kind a b totals) (ahead_after places y a b totals ahead)) (append_assoc read above (y ∷ [])) noted

  pub line_tallied : TalliedIn t (above ++ (y ∷ [])) placed (counted counts kind a b) (reached highest kind a b (get_or placed y 0))
  line_tallied = tally_one t y kind a b r above placed counts highest kept lc lh
