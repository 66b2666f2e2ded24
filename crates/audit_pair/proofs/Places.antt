-- Places in a list tell what it has and what stands ahead of what; and the code of two postings tells how they stand.
-- Rests on Pair. Assumes nothing.
use Prim.Native.Nat.{ℕ, suc, ◌<◌, ◌≤◌}
use mathlib.Core.Path.{◌≡◌, refl, sym}
use mathlib.Core.Logic.{inl, inr, ◌≢◌}
use mathlib.Core.Bool.{cond, not, ◌&&◌}
use mathlib.Core.List.{List, [], ◌∷◌}
use native.Mathlib.Omega.{arith}
use lib.Dec.{eqb, ltb, leb-suc-suc}
use lib.ListN.{length, get_or, drop, drop_of_length-le}
use lib.Seq.{drop-cons}
use borrow.Author.Tests.{lt-ltb, le-ltb, ltb-true, ltb-false}
use Rattle.std.specs.List.{position_or_len}
use Rattle.std.proofs.lemmas.List.Recursion.{is_position_or_len}
use Rattle.broadcast.specs.Lists.{mem}
use Rattle.broadcast.proofs.Tests.{test, same_or, eqb_yes, eqb_no}
use Rattle.audit_rule.specs.Audit.{ahead_of, leads_at, lacks_at, up_to}
use Rattle.audit_rule.specs.Handed.{place_of}
use Rattle.audit_pair.specs.Pair.{stands}

-- ---- places

pub place_at_most : (x : ℕ) (l : List ℕ) → place_of x l ≤ length l
unfolding place_of
place_at_most x [] = omega arith
place_at_most x (z ∷ l) = elim (same_or z x) [
  | inl e ↦ rw (eqb_yes z x e) (omega arith)
  | inr d ↦ let next = place_at_most x l in rw (eqb_no z x d) (omega (arith, next))
]

-- the place is the first index at which x stands
pub place_is : (x : ℕ) (l : List ℕ) → place_of x l ≡ position_or_len (λ z. eqb z x) l
unfolding place_of
place_is x l = is_position_or_len (λ l. place_of x l) (λ z. eqb z x) refl (λ z l. elim (same_or z x) [ inl e ↦ rw (eqb_yes z x e) | inr d ↦ rw (eqb_no z x d) (omega arith) ]) l

-- what has a place before the end is there
pub place_mem : (x : ℕ) (l : List ℕ) → mem x l ≡ ltb (place_of x l) (length l)
unfolding place_of
place_mem x [] = refl
place_mem x (z ∷ l) = elim (same_or z x) [
  | inl e ↦ rw (eqb_yes z x e, eqb_yes x z (sym e), lt-ltb 0 (suc (length l)) (omega arith))
  | inr d ↦ rw (eqb_no z x d, eqb_no x z (λ e. d (sym e)), leb-suc-suc (suc (length (up_to x l))) (length l)) (place_mem x l)
]

-- ahead is at a lower place
pub place_ahead : (x y : ℕ) (l : List ℕ) → ahead_of x y l ≡ ltb (place_of x l) (place_of y l)
unfolding place_of
place_ahead x y [] = refl
place_ahead x y (z ∷ l) = elim (same_or z y) [
  | inl e ↦ rw (eqb_yes z y e) (sym (le-ltb (length (up_to x (z ∷ l))) 0 (omega arith)))
  | inr d ↦ elim (same_or z x) [
    | inl e ↦ rw (eqb_no z y d, eqb_yes z x e, eqb_yes x z (sym e), lt-ltb 0 (suc (length (up_to y l))) (omega arith))
    | inr f ↦ rw (eqb_no z y d, eqb_no z x f, eqb_no x z (λ e. f (sym e)), leb-suc-suc (suc (length (up_to x l))) (length (up_to y l))) (place_ahead x y l)
  ]
]

-- ---- the search for a place: i lines without x, and what is left

module _ (x : ℕ) (l : List ℕ) (i : ℕ) where
  pub place_here : i < length l → get_or l i 0 ≡ x → place_of x (drop i l) ≡ 0
  unfolding place_of
  place_here h e = rw (drop-cons l i 0 h, eqb_yes (get_or l i 0) x e)

  pub place_next : i < length l → get_or l i 0 ≢ x → place_of x (drop i l) ≡ suc (place_of x (drop (suc i) l))
  unfolding place_of
  place_next h d = rw (drop-cons l i 0 h, eqb_no (get_or l i 0) x d)

  pub place_end : length l ≤ i → place_of x (drop i l) ≡ 0
  unfolding place_of
  place_end h = rw (drop_of_length-le l h)

-- ---- how two postings stand

-- the code of two places in a list of n lines
abbrev code_of : ℕ → ℕ → ℕ → ℕ
code_of i j n = cond (eqb i j) 0 (cond (eqb i n) 3 (cond (eqb j n) 4 (cond (ltb i j) 1 2)))

module _ (i j n : ℕ) (li : i ≤ n) (lj : j ≤ n) where
  -- each code, with what it says of the places
  data Standing : ℕ → Type 0 where
    neither : i ≡ j → Standing 0
    forth : i < j → j < n → Standing 1
    back : j < i → i < n → Standing 2
    second_alone : i ≡ n → j < n → Standing 3
    first_alone : j ≡ n → i < n → Standing 4

  standing : Standing (code_of i j n)
  standing = elim (same_or i j) [
    | inl e ↦ rw (eqb_yes i j e) (neither e)
    | inr d ↦ elim (same_or i n) [
      | inl e ↦ rw (eqb_no i j d, eqb_yes i n e) (second_alone e (omega (arith, d, e, lj)))
      | inr ni ↦ elim (same_or j n) [
        | inl e ↦ rw (eqb_no i j d, eqb_no i n ni, eqb_yes j n e) (first_alone e (omega (arith, ni, li)))
        | inr nj ↦ elim (test (ltb i j)) [
          | inl t ↦ rw (eqb_no i j d, eqb_no i n ni, eqb_no j n nj, t) (forth (ltb-true i j t) (omega (arith, nj, lj)))
          | inr f ↦ let g = ltb-false i j f in rw (eqb_no i j d, eqb_no i n ni, eqb_no j n nj, f) (back (omega (arith, g, d)) (omega (arith, ni, li)))
        ]
      ]
    ]
  ]

  -- the tests of the places, by the code
  forth_by : {k : ℕ} → Standing k → ltb j n && ltb i j ≡ eqb k 1
  forth_by (neither e) = elim (test (ltb j n)) [ inl t ↦ rw (t, le-ltb i j (omega (arith, e))) | inr t ↦ rw t ]
  forth_by (forth a b) = rw (lt-ltb i j a, lt-ltb j n b)
  forth_by (back a b) = rw (lt-ltb j n (omega (arith, a, b)), le-ltb i j (omega (arith, a)))
  forth_by (second_alone e a) = rw (lt-ltb j n a, le-ltb i j (omega (arith, e, a)))
  forth_by (first_alone e a) = rw (le-ltb j n (omega (arith, e)))

  back_by : {k : ℕ} → Standing k → ltb i n && ltb j i ≡ eqb k 2
  back_by (neither e) = elim (test (ltb i n)) [ inl t ↦ rw (t, le-ltb j i (omega (arith, e))) | inr t ↦ rw t ]
  back_by (forth a b) = rw (lt-ltb i n (omega (arith, a, b)), le-ltb j i (omega (arith, a)))
  back_by (back a b) = rw (lt-ltb j i a, lt-ltb i n b)
  back_by (second_alone e a) = rw (le-ltb i n (omega (arith, e)))
  back_by (first_alone e a) = rw (lt-ltb i n a, le-ltb j i (omega (arith, e, a)))

  second_by : {k : ℕ} → Standing k → ltb j n && not (ltb i n) ≡ eqb k 3
  second_by (neither e) = elim (test (ltb j n)) [
    | inl t ↦ let h = ltb-true j n t in rw (t, lt-ltb i n (omega (arith, e, h)))
    | inr t ↦ rw t
  ]
  second_by (forth a b) = rw (lt-ltb j n b, lt-ltb i n (omega (arith, a, b)))
  second_by (back a b) = rw (lt-ltb j n (omega (arith, a, b)), lt-ltb i n b)
  second_by (second_alone e a) = rw (lt-ltb j n a, le-ltb i n (omega (arith, e)))
  second_by (first_alone e a) = rw (le-ltb j n (omega (arith, e)))

  first_by : {k : ℕ} → Standing k → ltb i n && not (ltb j n) ≡ eqb k 4
  first_by (neither e) = elim (test (ltb i n)) [
    | inl t ↦ let h = ltb-true i n t in rw (t, lt-ltb j n (omega (arith, e, h)))
    | inr t ↦ rw t
  ]
  first_by (forth a b) = rw (lt-ltb i n (omega (arith, a, b)), lt-ltb j n b)
  first_by (back a b) = rw (lt-ltb i n b, lt-ltb j n (omega (arith, a, b)))
  first_by (second_alone e a) = rw (le-ltb i n (omega (arith, e)))
  first_by (first_alone e a) = rw (lt-ltb i n a, le-ltb j n (omega (arith, e)))

-- The code by the tests of the places, one law for each end of the tests.
module _ (x y : ℕ) (l : List ℕ) {i j : ℕ} (ei : i ≡ place_of x l) (ej : j ≡ place_of y l) where
  pub stands_neither : i ≡ j → 0 ≡ stands x y l
  unfolding stands
  stands_neither e = rw (sym ei, sym ej, eqb_yes i j e)

  module _ (d : i ≢ j) where
    pub stands_second_alone : i ≡ length l → 3 ≡ stands x y l
    unfolding stands
    stands_second_alone e = rw (sym ei, sym ej, eqb_no i j d, eqb_yes i (length l) e)

    module _ (di : i ≢ length l) where
      pub stands_first_alone : j ≡ length l → 4 ≡ stands x y l
      unfolding stands
      stands_first_alone e = rw (sym ei, sym ej, eqb_no i j d, eqb_no i (length l) di, eqb_yes j (length l) e)

      pub stands_forth : j ≢ length l → i < j → 1 ≡ stands x y l
      unfolding stands
      stands_forth dj h = rw (sym ei, sym ej, eqb_no i j d, eqb_no i (length l) di, eqb_no j (length l) dj, lt-ltb i j h)

      pub stands_back : j ≢ length l → j ≤ i → 2 ≡ stands x y l
      unfolding stands
      stands_back dj h = rw (sym ei, sym ej, eqb_no i j d, eqb_no i (length l) di, eqb_no j (length l) dj, le-ltb i j h)

-- Each sort of a site has its code.
module _ (n : ℕ) (records : ℕ → List ℕ) (x y p : ℕ) where
  abbrev here : Standing (place_of x (records p)) (place_of y (records p)) (length (records p)) (place_at_most x (records p)) (place_at_most y (records p))
      (code_of (place_of x (records p)) (place_of y (records p)) (length (records p)))
  here = standing (place_of x (records p)) (place_of y (records p)) (length (records p)) (place_at_most x (records p)) (place_at_most y (records p))

  pub leads_forth : leads_at n records x y p ≡ eqb (stands x y (records p)) 1
  unfolding leads_at stands
  leads_forth = rw (place_mem y (records p), place_ahead x y (records p)) (forth_by _ _ _ _ _ here)

  pub leads_back : leads_at n records y x p ≡ eqb (stands x y (records p)) 2
  unfolding leads_at stands
  leads_back = rw (place_mem x (records p), place_ahead y x (records p)) (back_by _ _ _ _ _ here)

  pub lacks_first : lacks_at n records x y p ≡ eqb (stands x y (records p)) 3
  unfolding lacks_at stands
  lacks_first = rw (place_mem y (records p), place_mem x (records p)) (second_by _ _ _ _ _ here)

  pub lacks_second : lacks_at n records y x p ≡ eqb (stands x y (records p)) 4
  unfolding lacks_at stands
  lacks_second = rw (place_mem x (records p), place_mem y (records p)) (first_by _ _ _ _ _ here)
