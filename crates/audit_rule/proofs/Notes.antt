-- What one reading keeps, in numbers, and what it means: places and totals of all that was read, counts and highest places of the lines above.
-- The test of a line by these numbers is the test by the lists. Rests on Reading. Assumes nothing.
use Prim.Native.Nat.{ℕ, suc, ◌+◌, ◌<◌, ◌≤◌}
use mathlib.Core.Path.{◌≡◌, refl, sym, ap, ◌∙◌}
use mathlib.Core.Logic.{◌⊎◌, inl, inr, ◌≢◌}
use mathlib.Core.Bool.{Bool, true, false, cond, not, ◌&&◌, ◌||◌}
use mathlib.Core.List.{List, [], ◌∷◌, ◌++◌, append-nil}
use native.Mathlib.Omega.{arith}
use lib.Dec.{eqb, ltb}
use borrow.Author.Tests.{lt-ltb, ltb-true}
use Rattle.sets.proofs.Truth.{both_ways}
use Rattle.broadcast.specs.Lists.{In, keep}
use Rattle.broadcast.specs.Deliveries.{once}
use Rattle.broadcast.specs.Counts.{bit}
use Rattle.broadcast.proofs.Tests.{test, nope, same_or, and_l, and_r, and_i, or_cases, or_i_r, not-true, eqb_yes, eqb_no}
use Rattle.broadcast.proofs.Lists.{in_left, in_right, in_cases, in_one, once_in, in_once, ahead_append, ahead_part, ahead_last, ahead_here}
use Rattle.audit_rule.specs.Audit.{ahead_of, up_to}
use Rattle.audit_rule.specs.Reading.{count_of, every, fits}
use Rattle.audit_rule.specs.Notes.{Noted, Tallied}
use Rattle.audit_rule.proofs.Order.{in_or, ahead_in}
use Rattle.audit_rule.proofs.Findings.{ahead_of_lem, of_ahead}
use Rattle.audit_rule.proofs.Reading.{every_in, in_every}

-- ---- one posting more

keep_snoc : (q : ℕ → Bool) (l : List ℕ) (y : ℕ) → keep q (l ++ (y ∷ [])) ≡ keep q l ++ cond (q y) (y ∷ []) []
keep_snoc q [] y = elim (test (q y)) [ inl t ↦ rw t | inr t ↦ rw t ]
keep_snoc q (x ∷ l) y = elim (test (q x)) [ inl t ↦ rw t (ap (λ (r : List ℕ). x ∷ r) (keep_snoc q l y)) | inr t ↦ rw t (keep_snoc q l y) ]

pub once_new : (l : List ℕ) (y : ℕ) → ¬ In y l → once (l ++ (y ∷ [])) ≡ once l ++ (y ∷ [])
once_new [] y h = refl
once_new (x ∷ l) y h =
    ap (λ (r : List ℕ). x ∷ r) (ap (keep (λ z. not (eqb z x))) (once_new l y (λ m. h (inr m))) ∙ keep_snoc (λ z. not (eqb z x)) (once l) y ∙ rw (eqb_no y x (λ e. h (inl e))))

pub once_old : (l : List ℕ) (y : ℕ) → In y l → once (l ++ (y ∷ [])) ≡ once l
once_old [] y m = elim m [ ]
once_old (x ∷ l) y m = elim (in_or y l) [
  | inl k ↦ ap (λ (r : List ℕ). x ∷ keep (λ z. not (eqb z x)) r) (once_old l y k)
  | inr lacks ↦
      let e : y ≡ x = elim m [ inl d ↦ d | inr k ↦ absurd (lacks k) ] in
      ap (λ (r : List ℕ). x ∷ r) (ap (keep (λ z. not (eqb z x))) (once_new l y lacks) ∙ keep_snoc (λ z. not (eqb z x)) (once l) y ∙ rw (eqb_yes y x e, append-nil))
]

pub count_snoc : (q : ℕ → Bool) (l : List ℕ) (y : ℕ) → count_of q (l ++ (y ∷ [])) ≡ count_of q l + bit (q y)
count_snoc q [] y = elim (test (q y)) [ inl t ↦ rw t | inr t ↦ rw t ]
count_snoc q (x ∷ l) y = elim (test (q x)) [
  | inl t ↦ rw t (omega (arith, count_snoc q l y))
  | inr t ↦ rw t (count_snoc q l y)
]

pub up_to_new : (l : List ℕ) (y : ℕ) → ¬ In y l → up_to y l ≡ l
up_to_new [] y h = refl
up_to_new (x ∷ l) y h = rw (eqb_no x y (λ e. h (inl (sym e)))) (ap (λ (r : List ℕ). x ∷ r) (up_to_new l y (λ m. h (inr m))))

pub up_to_snoc : (l : List ℕ) (y z : ℕ) → In z l → up_to z (l ++ (y ∷ [])) ≡ up_to z l
up_to_snoc [] y z m = elim m [ ]
up_to_snoc (x ∷ l) y z m = elim (same_or x z) [
  | inl e ↦ rw (eqb_yes x z e)
  | inr d ↦ rw (eqb_no x z d) (ap (λ (r : List ℕ). x ∷ r) (up_to_snoc l y z (elim m [ inl e ↦ absurd (d (sym e)) | inr k ↦ k ])))
]

pub up_to_last : (l : List ℕ) (y : ℕ) → ¬ In y l → up_to y (l ++ (y ∷ [])) ≡ l
up_to_last [] y h = rw (eqb_yes y y refl)
up_to_last (x ∷ l) y h = rw (eqb_no x y (λ e. h (inl (sym e)))) (ap (λ (r : List ℕ). x ∷ r) (up_to_last l y (λ m. h (inr m))))

-- ---- all that was read

-- Classes are numbers; `of c x` tells whether posting x is of the class, `at y c` whether class c is of one of y's accounts.
module _ (of : ℕ → ℕ → Bool) (at : ℕ → ℕ → Bool) where
  -- nothing read
  pub noted_none : (ahead : ℕ → ℕ → ℕ) → Noted of at [] (λ x. 0) 0 (λ c. 0) ahead
  noted_none ahead = record {
    placed = λ x m. absurd m;
    unplaced = λ x h. refl;
    most = λ x. omega arith;
    lower = λ x y m. absurd m;
    first = λ x y m. absurd m;
    totals = λ c. refl;
    counted = λ y c m. absurd m;
  }

  -- a posting that was read before is read again: nothing changes
  pub noted_old : {read : List ℕ} {place : ℕ → ℕ} {seen : ℕ} {total : ℕ → ℕ} {ahead : ℕ → ℕ → ℕ} → Noted of at read place seen total ahead
      → (y : ℕ) → In y read → Noted of at (read ++ (y ∷ [])) place seen total ahead
  noted_old {read} {place} {seen} {total} {ahead} k y m = record {
    placed = λ x h. k.placed x (back x h);
    unplaced = λ x h. k.unplaced x (λ i. h (in_left x read (y ∷ []) i));
    most = k.most;
    lower = λ x z i h. k.lower x z (back z i) (ahead_part x z read (y ∷ []) (back z i) h);
    first = λ x z i h l. ahead_append x z read (y ∷ []) (k.first x z (back x i) (back z h) l);
    totals = λ c. k.totals c ∙ ap (count_of (of c)) (sym (once_old read y m));
    counted = λ z c i t. k.counted z c (back z i) t ∙ ap (λ (r : List ℕ). count_of (of c) (up_to z r)) (sym (once_old read y m));
  }
    where
      back : (x : ℕ) → In x (read ++ (y ∷ [])) → In x read
      back x h = elim (in_cases x read (y ∷ []) h) [ inl i ↦ i | inr i ↦ rw (in_one i) m ]

  -- a posting is read for the first time
  pub noted_new : {read : List ℕ} {place : ℕ → ℕ} {seen : ℕ} {total : ℕ → ℕ} {ahead : ℕ → ℕ → ℕ} → Noted of at read place seen total ahead
      → (y : ℕ) → ¬ In y read → (place' : ℕ → ℕ) (total' : ℕ → ℕ) (ahead' : ℕ → ℕ → ℕ)
      → place' y ≡ suc seen → ((x : ℕ) → x ≢ y → place' x ≡ place x)
      → ((c : ℕ) → total' c ≡ total c + bit (of c y))
      → ((c : ℕ) → at y c ≡ true → ahead' y c ≡ total c) → ((z c : ℕ) → z ≢ y → ahead' z c ≡ ahead z c)
      → Noted of at (read ++ (y ∷ [])) place' (suc seen) total' ahead'
  noted_new {read} {place} {seen} {total} {ahead} k y new place' total' ahead' own others tot mine rest = record {
    placed = λ x h. elim (old_or x h) [ inl i ↦ let e = others x (off x i) in let l = k.placed x i in omega (arith, e, l) | inr e ↦ rw e (omega (arith, own)) ];
    unplaced = λ x h. others x (λ e. h (rw e last)) ∙ k.unplaced x (λ i. h (in_left x read (y ∷ []) i));
    most = λ x. elim (same_or x y) [ inl e ↦ rw e (omega (arith, own)) | inr d ↦ let e = others x d in let l = k.most x in omega (arith, e, l) ];
    lower = λ x z i h. elim (old_or z i) [
      | inl old ↦
          let a = ahead_part x z read (y ∷ []) old h in
          let l = k.lower x z old a in
          let ex = others x (off x (ahead_in x z read a)) in
          let ez = others z (off z old) in omega (arith, l, ex, ez)
      | inr e ↦
          let m : In x read = ahead_last x y read (rw e at h) in
          let ex = others x (off x m) in
          let l = k.most x in rw e (omega (arith, ex, l, own))
    ];
    first = λ x z i h l. elim (old_or z h) [
      | inl oz ↦ elim (old_or x i) [
        | inl ox ↦ ahead_append x z read (y ∷ []) (k.first x z ox oz (let ex = others x (off x ox) in let ez = others z (off z oz) in omega (arith, ex, ez, l)))
        | inr e ↦
            let ez = others z (off z oz) in
            let m = k.most z in
            let g : place' y < place' z = rw e at l in absurd (omega (arith, g, own, ez, m))
      ]
      | inr e ↦ elim (old_or x i) [
        | inl ox ↦ rw e (ahead_here x y read (y ∷ []) new ox)
        | inr d ↦ let g : place' y < place' y = rw (e, d) at l in absurd (omega (arith, g))
      ]
    ];
    totals = λ c. tot c ∙ ap (λ v. v + bit (of c y)) (k.totals c) ∙ sym (count_snoc (of c) (once read) y) ∙ ap (count_of (of c)) (sym (once_new read y new));
    counted = λ z c i t. elim (same_or z y) [
      | inl e ↦ rw e (mine c (rw e at t) ∙ k.totals c ∙ sym (ap (count_of (of c)) (ap (up_to y) (once_new read y new) ∙ up_to_last (once read) y (λ m. new (once_in y read m)))))
      | inr d ↦
          let old : In z read = elim (old_or z i) [ inl o ↦ o | inr e ↦ absurd (d e) ] in
          rest z c d ∙ k.counted z c old t ∙ sym (ap (count_of (of c)) (ap (up_to z) (once_new read y new) ∙ up_to_snoc (once read) y z (in_once z read old)))
    ];
  }
    where
      last : In y (read ++ (y ∷ []))
      last = in_right y read (y ∷ []) (inl refl)

      old_or : (x : ℕ) → In x (read ++ (y ∷ [])) → In x read ⊎ (x ≡ y)
      old_or x h = elim (in_cases x read (y ∷ []) h) [ inl i ↦ inl i | inr i ↦ inr (in_one i) ]

      off : (x : ℕ) → In x read → x ≢ y
      off x i e = new (rw e at i)

  -- ---- the lines above, in one record

  pub tallied_none : (place : ℕ → ℕ) → Tallied of [] place (λ c. 0) (λ c. 0)
  tallied_none place = record { counts = λ c. refl; reaches = λ c x m. absurd m; reached = λ c. inl refl }

  -- the places of what stands above stay
  pub tallied_kept : {above : List ℕ} {place place' : ℕ → ℕ} {count highest : ℕ → ℕ} → Tallied of above place count highest
      → ((x : ℕ) → In x above → place' x ≡ place x) → Tallied of above place' count highest
  tallied_kept {above} {place} {place'} {count} {highest} k same = record {
    counts = k.counts;
    reaches = λ c x m t. let e = same x m in let l = k.reaches c x m t in omega (arith, e, l);
    reached = λ c. elim (k.reached c) [ inl z ↦ inl z | inr (x, m, t, e) ↦ inr (x, m, t, e ∙ sym (same x m)) ];
  }

  -- a line more
  pub tallied_line : {above : List ℕ} {place : ℕ → ℕ} {count highest : ℕ → ℕ} → Tallied of above place count highest
      → (y : ℕ) (count' highest' : ℕ → ℕ)
      → ((c : ℕ) → count' c ≡ count c + bit (of c y))
      → ((c : ℕ) → of c y ≡ false → highest' c ≡ highest c)
      → ((c : ℕ) → of c y ≡ true → (highest c ≤ highest' c) × (place y ≤ highest' c) × ((highest' c ≡ highest c) ⊎ (highest' c ≡ place y)))
      → Tallied of (above ++ (y ∷ [])) place count' highest'
  tallied_line {above} {place} {count} {highest} k y count' highest' more stays rises = record {
    counts = λ c. more c ∙ ap (λ v. v + bit (of c y)) (k.counts c) ∙ sym (count_snoc (of c) above y);
    reaches = λ c x m t. elim (in_cases x above (y ∷ []) m) [
      | inl i ↦ elim (test (of c y)) [
        | inl u ↦ let l = k.reaches c x i t in let h = (rises c u).0 in omega (arith, l, h)
        | inr u ↦ let l = k.reaches c x i t in let e = stays c u in omega (arith, l, e)
      ]
      | inr i ↦ let e : x ≡ y = in_one i in rw e (rises c (rw e at t)).1
    ];
    reached = λ c. elim (test (of c y)) [
      | inl u ↦ elim (rises c u).2 [
        | inl e ↦ old c e
        | inr e ↦ inr (y, in_right y above (y ∷ []) (inl refl), u, e)
      ]
      | inr u ↦ old c (stays c u)
    ];
  }
    where
      old : (c : ℕ) → highest' c ≡ highest c → (highest' c ≡ 0) ⊎ ((x : ℕ) × In x (above ++ (y ∷ [])) × (of c x ≡ true) × (highest' c ≡ place x))
      old c e = elim (k.reached c) [
        | inl z ↦ inl (e ∙ z)
        | inr (x, m, t, h) ↦ inr (x, in_left x above (y ∷ []) m, t, e ∙ h)
      ]

  -- ---- the test of a line, in numbers

  module _ {read above : List ℕ} {place : ℕ → ℕ} {seen : ℕ} {total : ℕ → ℕ} {ahead : ℕ → ℕ → ℕ} {count highest : ℕ → ℕ}
      (k : Noted of at read place seen total ahead) (s : Tallied of above place count highest) (within : (x : ℕ) → In x above → In x read)
      (y : ℕ) (here : In y read) (c : ℕ) (mine : at y c ≡ true) where
    -- as many of the class stand above as stood ahead of y, and the highest of them ahead of y
    abbrev pub fits_numbers : Bool
    fits_numbers = eqb (count c) (ahead y c) && ltb (highest c) (place y)

    pub numbers_fit : fits_numbers ≡ fits (of c) read above y
    unfolding fits
    numbers_fit =
        both_ways fits_numbers (eqb (count_of (of c) above) (count_of (of c) (up_to y (once read))) && every (λ x. not (of c x) || ahead_of x y read) above)
        (λ t. and_i (eqb (count_of (of c) above) (count_of (of c) (up_to y (once read)))) (every (λ x. not (of c x) || ahead_of x y read) above)
        (rw (← counts_are, ← aheads_are) (and_l (eqb (count c) (ahead y c)) (ltb (highest c) (place y)) t))
        (in_every (λ x. not (of c x) || ahead_of x y read) above (λ x m. elim (test (of c x)) [
          | inr u ↦ rw u
          | inl u ↦
              let h = ltb-true (highest c) (place y) (and_r (eqb (count c) (ahead y c)) (ltb (highest c) (place y)) t) in
              let l = s.reaches c x m u in
              or_i_r (not (of c x)) (ahead_of x y read) (of_ahead x y read (k.first x y (within x m) here (omega (arith, h, l))))
        ])))
        (λ t. and_i (eqb (count c) (ahead y c)) (ltb (highest c) (place y))
        (rw (counts_are, aheads_are) (and_l (eqb (count_of (of c) above) (count_of (of c) (up_to y (once read)))) (every (λ x. not (of c x) || ahead_of x y read) above) t))
        (lt-ltb (highest c) (place y) (elim (s.reached c) [
          | inl z ↦ let p = k.placed y here in omega (arith, z, p)
          | inr (x, m, u, e) ↦
              let v = every_in (λ x. not (of c x) || ahead_of x y read) above
              (and_r (eqb (count_of (of c) above) (count_of (of c) (up_to y (once read)))) (every (λ x. not (of c x) || ahead_of x y read) above) t) x m in
              elim (or_cases (not (of c x)) (ahead_of x y read) v) [
                | inl w ↦ absurd (nope u (not-true (of c x) w))
                | inr w ↦ let l = k.lower x y here (ahead_of_lem x y read w) in omega (arith, l, e)
              ]
        ])))
      where
        counts_are : count c ≡ count_of (of c) above
        counts_are = s.counts c

        aheads_are : ahead y c ≡ count_of (of c) (up_to y (once read))
        aheads_are = k.counted y c here mine
