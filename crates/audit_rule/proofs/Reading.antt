-- A line fits a class exactly if the same postings of the class stand above it as stood ahead of it where it was first read;
-- and what a line is tested by is what the audit's definition asks. Rests on Order and Findings. Assumes nothing.
use Prim.Native.Nat.{ℕ, suc, ◌≤◌}
use mathlib.Core.Path.{◌≡◌, refl, sym, ap, ◌∙◌}
use mathlib.Core.Logic.{inl, inr, ◌≢◌}
use mathlib.Core.Bool.{Bool, true, cond, not, ◌||◌}
use mathlib.Core.List.{List, [], ◌∷◌, ◌++◌}
use native.Mathlib.Omega.{arith}
use lib.Dec.{eqb}
use lib.ListN.{length}
use Rattle.broadcast.specs.Lists.{In, NoRepeat, mem, keep}
use Rattle.broadcast.specs.Deliveries.{once, Ahead}
use Rattle.broadcast.proofs.Tests.{test, nope, same_or, and_l, and_r, and_i, or_cases, or_i_r, not-true, not-false, eqb_yes, eqb_no, eqb-true}
use Rattle.broadcast.proofs.Lists.{mem_in, in_mem, not_mem, keep_in, in_keep, keep_norepeat, keep_ahead, once_norepeat}
use Rattle.audit_rule.specs.Audit.{ahead_of, up_to}
use Rattle.audit_rule.specs.Reading.{count_of, every, fits}
use Rattle.audit_rule.proofs.Order.{in_or, ahead_in}
use Rattle.audit_rule.proofs.Findings.{ahead_of_lem, of_ahead}

-- ---- counting

count_keep : (q : ℕ → Bool) (l : List ℕ) → count_of q l ≡ length (keep q l)
count_keep q [] = refl
count_keep q (x ∷ l) = elim (test (q x)) [ inl t ↦ rw t (ap suc (count_keep q l)) | inr t ↦ rw t (count_keep q l) ]

-- a list without its y
abbrev drop_one : ℕ → List ℕ → List ℕ
drop_one y [] = []
drop_one y (z ∷ l) = cond (eqb z y) l (z ∷ drop_one y l)

drop-length : (y : ℕ) (l : List ℕ) → In y l → length l ≡ suc (length (drop_one y l))
drop-length y [] m = elim m [ ]
drop-length y (z ∷ l) m = elim (same_or z y) [
  | inl e ↦ rw (eqb_yes z y e)
  | inr d ↦ rw (eqb_no z y d) (ap suc (drop-length y l (elim m [ inl e ↦ absurd (d (sym e)) | inr k ↦ k ])))
]

drop_in : (y x : ℕ) (l : List ℕ) → In x l → x ≢ y → In x (drop_one y l)
drop_in y x [] m d = elim m [ ]
drop_in y x (z ∷ l) m d = elim (same_or z y) [
  | inl e ↦ rw (eqb_yes z y e) (elim m [ inl k ↦ absurd (d (k ∙ e)) | inr k ↦ k ])
  | inr c ↦ rw (eqb_no z y c) (elim m [ inl k ↦ inl k | inr k ↦ inr (drop_in y x l k d) ])
]

-- within another, so no longer
pub within_length : (l r : List ℕ) → NoRepeat l → ((x : ℕ) → In x l → In x r) → length l ≤ length r
within_length [] r d h = omega arith
within_length (y ∷ l) r d h =
    let shorter = within_length l (drop_one y r) d.1 (λ x m. drop_in y x r (h x (inr m)) (λ e. d.0 (rw e at m))) in
    omega (arith, shorter, drop-length y r (h y (inl refl)))

-- within another, and as long: so it has all of it
pub within_full : (l r : List ℕ) → NoRepeat l → NoRepeat r → ((x : ℕ) → In x l → In x r) → length l ≡ length r → (x : ℕ) → In x r → In x l
within_full l r dl dr h e x m = elim (in_or x l) [
  | inl k ↦ k
  | inr lacks ↦
      let less = within_length l (drop_one x r) dl (λ z i. drop_in x z r (h z i) (λ c. lacks (rw c at i))) in
      absurd (omega (arith, less, e, drop-length x r m))
]

-- ---- what stands ahead

pub up_to_in : (x y : ℕ) (l : List ℕ) → In x (up_to y l) → Ahead x y l
up_to_in x y [] m = elim m [ ]
up_to_in x y (z ∷ l) m = elim (same_or z y) [
  | inl e ↦ absurd (rw (eqb_yes z y e) at m)
  | inr d ↦ elim (rw (eqb_no z y d) at m) [ inl k ↦ (d, inl k) | inr k ↦ (d, inr (up_to_in x y l k)) ]
]

pub in_up_to : (x y : ℕ) (l : List ℕ) → Ahead x y l → In x (up_to y l)
in_up_to x y [] x'' = elim x'' [ ]
in_up_to x y (z ∷ l) (d, inl e) = rw (eqb_no z y d) (inl e)
in_up_to x y (z ∷ l) (d, inr h) = rw (eqb_no z y d) (inr (in_up_to x y l h))

up_to_norepeat : (y : ℕ) (l : List ℕ) → NoRepeat l → NoRepeat (up_to y l)
up_to_norepeat y [] d = tt
up_to_norepeat y (z ∷ l) d = elim (same_or z y) [
  | inl e ↦ rw (eqb_yes z y e) tt
  | inr c ↦ rw (eqb_no z y c) (λ m. d.0 (ahead_in z y l (up_to_in z y l m)), up_to_norepeat y l d.1)
]

-- ahead among the first occurrences is ahead
once_ahead : (x y : ℕ) (l : List ℕ) → Ahead x y (once l) → Ahead x y l
once_ahead x y [] x'' = elim x'' [ ]
once_ahead x y (z ∷ l) (d, inl e) = (d, inl e)
once_ahead x y (z ∷ l) (d, inr h) = (d, inr (once_ahead x y l (keep_ahead (λ w. not (eqb w z)) x y (once l) (rw (eqb_no y z (λ e. d (sym e)))) h)))

ahead_keep : (q : ℕ → Bool) (x y : ℕ) (l : List ℕ) → q x ≡ true → Ahead x y l → Ahead x y (keep q l)
ahead_keep q x y [] t x3 = elim x3 [ ]
ahead_keep q x y (z ∷ l) t (d, inl e) = rw (rw e at t) (d, inl e)
ahead_keep q x y (z ∷ l) t (d, inr h) = elim (test (q z)) [
  | inl u ↦ rw u (d, inr (ahead_keep q x y l t h))
  | inr u ↦ rw u (ahead_keep q x y l t h)
]

ahead_once : (x y : ℕ) (l : List ℕ) → Ahead x y l → Ahead x y (once l)
ahead_once x y [] x'' = elim x'' [ ]
ahead_once x y (z ∷ l) (d, inl e) = (d, inl e)
ahead_once x y (z ∷ l) (d, inr h) = elim (same_or x z) [
  | inl e ↦ (d, inl e)
  | inr c ↦ (d, inr (ahead_keep (λ w. not (eqb w z)) x y (once l) (rw (eqb_no x z c)) (ahead_once x y l h)))
]

pub every_in : (q : ℕ → Bool) (l : List ℕ) → every q l ≡ true → (x : ℕ) → In x l → q x ≡ true
every_in q [] t x x4 = elim x4 [ ]
every_in q (y ∷ l) t x (inl e) = rw e (and_l (q y) (every q l) t)
every_in q (y ∷ l) t x (inr m) = every_in q l (and_r (q y) (every q l) t) x m

pub in_every : (q : ℕ → Bool) (l : List ℕ) → ((x : ℕ) → In x l → q x ≡ true) → every q l ≡ true
in_every q [] h = refl
in_every q (y ∷ l) h = and_i (q y) (every q l) (h y (inl refl)) (in_every q l (λ x m. h x (inr m)))

-- ---- a line and a class

module _ (q : ℕ → Bool) (read above : List ℕ) (y : ℕ) (single : NoRepeat above) where
  abbrev front : List ℕ
  front = up_to y (once read)

  front_single : NoRepeat (keep q front)
  front_single = keep_norepeat q front (up_to_norepeat y (once read) (once_norepeat read))

  -- the same of the class stand above the line as stood ahead of y
  abbrev pub Same : Type 0
  Same = (x : ℕ) → q x ≡ true → mem x above ≡ ahead_of x y read

  pub fits_same : fits q read above y ≡ true → Same
  unfolding fits
  fits_same t x qx =
      let count = eqb (count_of q above) (count_of q front) in
      let among = every (λ z. not (q z) || ahead_of z y read) above in
      let e : length (keep q above) ≡ length (keep q front) =
      sym (count_keep q above) ∙ eqb-true (count_of q above) (count_of q front) (and_l count among t) ∙ count_keep q front in
      let sub : (z : ℕ) → In z (keep q above) → In z (keep q front) = λ z m.
      let (h, qz) = keep_in q z above m in
      in_keep q z front (in_up_to z y (once read) (ahead_once z y read (ahead_of_lem z y read
      (elim (or_cases (not (q z)) (ahead_of z y read) (every_in (λ w. not (q w) || ahead_of w y read) above (and_r count among t) z h)) [
        | inl u ↦ absurd (nope qz (not-true (q z) u))
        | inr u ↦ u
      ])))) qz in
      elim (in_or x above) [
        | inl m ↦ in_mem x above m ∙ sym (of_ahead x y read (once_ahead x y read (up_to_in x y (once read) (keep_in q x front (sub x (in_keep q x above m qx))).0)))
        | inr lacks ↦ not_mem x above lacks ∙ sym (not-false (ahead_of x y read) (λ a.
            lacks (keep_in q x above (within_full (keep q above) (keep q front) (keep_norepeat q above single) front_single sub e x
            (in_keep q x front (in_up_to x y (once read) (ahead_once x y read (ahead_of_lem x y read a))) qx))).0))
      ]

  pub same_fits : Same → fits q read above y ≡ true
  unfolding fits
  same_fits same =
      let there : (z : ℕ) → In z (keep q above) → In z (keep q front) = λ z m.
      let (h, qz) = keep_in q z above m in
      in_keep q z front (in_up_to z y (once read) (ahead_once z y read (ahead_of_lem z y read (sym (same z qz) ∙ in_mem z above h)))) qz in
      let back : (z : ℕ) → In z (keep q front) → In z (keep q above) = λ z m.
      let (h, qz) = keep_in q z front m in
      in_keep q z above (mem_in z above (same z qz ∙ of_ahead z y read (once_ahead z y read (up_to_in z y (once read) h)))) qz in
      let a = within_length (keep q above) (keep q front) (keep_norepeat q above single) there in
      let b = within_length (keep q front) (keep q above) front_single back in
      let e : count_of q above ≡ count_of q front = count_keep q above ∙ omega (arith, a, b) ∙ sym (count_keep q front) in
      and_i (eqb (count_of q above) (count_of q front)) (every (λ z. not (q z) || ahead_of z y read) above)
      (eqb_yes (count_of q above) (count_of q front) e)
      (in_every (λ z. not (q z) || ahead_of z y read) above (λ z h. elim (test (q z)) [
        | inl qz ↦ or_i_r (not (q z)) (ahead_of z y read) (sym (same z qz) ∙ in_mem z above h)
        | inr nz ↦ rw nz
      ]))

-- ---- where the line stands

-- only what is ahead of a y counts
pub ahead_cut : (x y : ℕ) (l r : List ℕ) → ahead_of x y (l ++ y ∷ r) ≡ ahead_of x y l
ahead_cut x y [] r = rw (eqb_yes y y refl)
ahead_cut x y (z ∷ l) r = rw (ahead_cut x y l r)

pub ahead_new : (x y : ℕ) (l : List ℕ) → ¬ In y l → ahead_of x y l ≡ mem x l
ahead_new x y [] h = refl
ahead_new x y (z ∷ l) h = rw (eqb_no z y (λ e. h (inl (sym e))), ahead_new x y l (λ m. h (inr m)))

-- the record's own side: the lines above the line that has y
pub ahead_line : (x y : ℕ) (above below : List ℕ) → ¬ In y above → ahead_of x y (above ++ y ∷ below) ≡ mem x above
ahead_line x y above below h = ahead_cut x y above below ∙ ahead_new x y above h
