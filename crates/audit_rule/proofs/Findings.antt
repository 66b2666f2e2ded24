-- The finding of a pair says what it should: where it is not `sound`, its sites show the fault; where it is, there is none.
-- Rests on Order. Assumes nothing.
use Prim.Native.Nat.{ℕ, zero, suc, ◌+◌, ◌<◌, ◌≤◌}
use mathlib.Core.Path.{◌≡◌, refl}
use mathlib.Core.Logic.{◌⊎◌, inl, inr, ◌≢◌}
use mathlib.Core.Bool.{Bool, true, false, not, ◌||◌}
use mathlib.Core.List.{List, [], ◌∷◌}
use native.Mathlib.Omega.{arith}
use lib.Dec.{eqb, ltb}
use borrow.Author.Tests.{lt-ltb, ltb-true}
use Rattle.broadcast.specs.Lists.{In, Before, mem}
use Rattle.broadcast.proofs.Tests.{test, nope, and_l, and_r, and_i, or_cases, or_i_r, not-true, eqb_yes, eqb_no, eqb-true, eqb-false}
use Rattle.broadcast.proofs.Lists.{mem_in, in_mem, not_in, not_mem, before_left, before_right}
use Rattle.broadcast.specs.Deliveries.{Ahead}
use Rattle.audit_rule.specs.Audit.{Fault, crossed, missing, apart, NoRepeats, ahead_of, lowest_from, lowest, leads_at, lacks_at, finding, Says}
use Rattle.audit_rule.proofs.Order.{either_before, before_ahead, ahead_before}

-- ---- ahead, as a test

pub ahead_of_lem : (x y : ℕ) (l : List ℕ) → ahead_of x y l ≡ true → Ahead x y l
ahead_of_lem x y [] e = absurd (nope e refl)
ahead_of_lem x y (z ∷ l) e =
    let d = eqb-false z y (not-true (eqb z y) (and_l (not (eqb z y)) (eqb x z || ahead_of x y l) e)) in
    elim (or_cases (eqb x z) (ahead_of x y l) (and_r (not (eqb z y)) (eqb x z || ahead_of x y l) e)) [
      | inl t ↦ (d, inl (eqb-true x z t))
      | inr t ↦ (d, inr (ahead_of_lem x y l t))
    ]

pub of_ahead : (x y : ℕ) (l : List ℕ) → Ahead x y l → ahead_of x y l ≡ true
of_ahead x y [] x'' = elim x'' [ ]
of_ahead x y (z ∷ l) (d, inl e) = rw (eqb_no z y d, eqb_yes x z e)
of_ahead x y (z ∷ l) (d, inr h) = rw (eqb_no z y d) (or_i_r (eqb x z) (ahead_of x y l) (of_ahead x y l h))

-- ---- the lowest number of a test

module _ (q : ℕ → Bool) where
  pub lowest_holds : (k left : ℕ) → lowest_from q k left < k + left → q (lowest_from q k left) ≡ true
  lowest_holds k zero h = absurd (omega (arith, h))
  lowest_holds k (suc left) h = elim (test (q k)) [
    | inl t ↦ rw t t
    | inr t ↦
        let g : lowest_from q (suc k) left < k + suc left = rw t at h in
        let next = lowest_holds (suc k) left (omega (arith, g)) in
        rw t next
  ]

  pub lowest_below : (k left i : ℕ) → k ≤ i → i < k + left → q i ≡ true → lowest_from q k left < k + left
  lowest_below k zero i h l t = absurd (omega (arith, h, l))
  lowest_below k (suc left) i h l t = elim (test (q k)) [
    | inl u ↦ rw u (omega arith)
    | inr u ↦
        let d : k ≢ i = λ e. nope t (rw e at u) in
        let next = lowest_below (suc k) left i (omega (arith, h, d)) (omega (arith, l)) t in
        rw u (omega (arith, next))
  ]

  -- it is below n and passes; or nothing below n passes
  pub lowest_cases : (n : ℕ) → ((ltb (lowest q n) n ≡ true) × (lowest q n < n) × (q (lowest q n) ≡ true)) ⊎ ((ltb (lowest q n) n ≡ false) × ((i : ℕ) → i < n → q i ≡ true → ⊥))
  lowest_cases n = elim (test (ltb (lowest q n) n)) [
    | inl t ↦ let l = ltb-true (lowest q n) n t in inl (t, l, lowest_holds 0 n (omega (arith, l)))
    | inr f ↦ inr (f, λ i l t. let b = lowest_below 0 n i (omega arith) (omega (arith, l)) t in nope (lt-ltb (lowest q n) n (omega (arith, b))) f)
  ]

-- ---- sites

module _ (n : ℕ) (records : ℕ → List ℕ) (single : NoRepeats n records) where
  leads_before : (x y p : ℕ) → leads_at n records x y p ≡ true → Before x y (records p)
  unfolding leads_at
  leads_before x y p t =
      let m = mem y (records p) in
      ahead_before x y (records p) (mem_in y (records p) (and_l m (ahead_of x y (records p)) t)) (ahead_of_lem x y (records p) (and_r m (ahead_of x y (records p)) t))

  before_leads : (x y p : ℕ) → p < n → Before x y (records p) → leads_at n records x y p ≡ true
  unfolding leads_at
  before_leads x y p l b =
      and_i (mem y (records p)) (ahead_of x y (records p)) (in_mem y (records p) (before_right x y (records p) b))
      (of_ahead x y (records p) (before_ahead x y (records p) (single p l) b))

  lacks_says : (x y p : ℕ) → lacks_at n records x y p ≡ true → In y (records p) × (¬ In x (records p))
  unfolding lacks_at
  lacks_says x y p t =
      let m = mem y (records p) in
      (mem_in y (records p) (and_l m (not (mem x (records p))) t), not_in x (records p) (not-true (mem x (records p)) (and_r m (not (mem x (records p))) t)))

  says_lacks : (x y p : ℕ) → In y (records p) → ¬ In x (records p) → lacks_at n records x y p ≡ true
  unfolding lacks_at
  says_lacks x y p m h = rw (in_mem y (records p) m, not_mem x (records p) h)

  -- no site leads y by x, nor x by y: then none has both
  none_both : (x y : ℕ) → x ≢ y → ((p : ℕ) → p < n → leads_at n records x y p ≡ true → ⊥) → ((p : ℕ) → p < n → leads_at n records y x p ≡ true → ⊥)
      → (s : ℕ) → s < n → In x (records s) → In y (records s) → ⊥
  none_both x y d f b s l mx my = elim (either_before x y (records s) d mx my) [
    | inl h ↦ f s l (before_leads x y s l h)
    | inr h ↦ b s l (before_leads y x s l h)
  ]

  -- a site that leads has both
  both : (x y p : ℕ) → leads_at n records x y p ≡ true → In x (records p) × In y (records p)
  both x y p t = let b = leads_before x y p t in (before_left x y (records p) b, before_right x y (records p) b)

  -- forth only: no fault, if no site has y without x
  module _ (x y : ℕ) where
    one_way : (p : ℕ) → p < n → leads_at n records x y p ≡ true → ((i : ℕ) → i < n → leads_at n records y x i ≡ true → ⊥) → ((i : ℕ) → i < n → lacks_at n records x y i ≡ true → ⊥)
        → (Fault n records x y → ⊥) × (Fault n records y x → ⊥)
    one_way p l t nb nw = (λ f. go f, λ f. back f)
      where
        go : Fault n records x y → ⊥
        go (crossed a b la lb h k) = nb b lb (before_leads y x b lb k)
        go (missing a b la lb m h k) = nw a la (says_lacks x y a m h)
        go (apart a b la lb mx my none) = none p l (both x y p t).0 (both x y p t).1

        back : Fault n records y x → ⊥
        back (crossed a b la lb h k) = nb a la (before_leads y x a la h)
        back (missing a b la lb m h k) = nb b lb (before_leads y x b lb k)
        back (apart a b la lb my mx none) = none p l (both x y p t).1 (both x y p t).0

    no_way : ((i : ℕ) → i < n → leads_at n records x y i ≡ true → ⊥) → ((i : ℕ) → i < n → leads_at n records y x i ≡ true → ⊥)
        → (((i : ℕ) → i < n → lacks_at n records x y i ≡ true → ⊥) ⊎ ((i : ℕ) → i < n → lacks_at n records y x i ≡ true → ⊥))
        → (Fault n records x y → ⊥) × (Fault n records y x → ⊥)
    no_way nf nb w = (λ f. go f, λ f. back f)
      where
        lonely : (a b : ℕ) → a < n → b < n → In x (records a) → In y (records b) → ((s : ℕ) → s < n → In x (records s) → In y (records s) → ⊥) → ⊥
        lonely a b la lb mx my none = elim w [
          | inl h ↦ h b lb (says_lacks x y b my (λ m. none b lb m my))
          | inr h ↦ h a la (says_lacks y x a mx (λ m. none a la mx m))
        ]

        go : Fault n records x y → ⊥
        go (crossed a b la lb h k) = nf a la (before_leads x y a la h)
        go (missing a b la lb m h k) = nf b lb (before_leads x y b lb k)
        go (apart a b la lb mx my none) = lonely a b la lb mx my none

        back : Fault n records y x → ⊥
        back (crossed a b la lb h k) = nb a la (before_leads y x a la h)
        back (missing a b la lb m h k) = nb b lb (before_leads y x b lb k)
        back (apart a b la lb my mx none) = lonely b a lb la mx my (λ s l h i. none s l i h)

  -- The finding of two postings says what it should.
  pub finding_says : (x y : ℕ) → x ≢ y → Says n records (finding n records x y) x y
  unfolding finding
  finding_says x y d = elim (lowest_cases (leads_at n records x y) n) [
    | inl (tf, lf, hf) ↦ elim (lowest_cases (leads_at n records y x) n) [
      | inl (tb, lb, hb) ↦ rw (tf, tb) (lf, lb, leads_before x y _ hf, leads_before y x _ hb)
      | inr (tb, nb) ↦ elim (lowest_cases (lacks_at n records x y) n) [
        | inl (tw, lw, hw) ↦ rw (tf, tb, tw) (lw, lf, (lacks_says x y _ hw).0, (lacks_says x y _ hw).1, leads_before x y _ hf)
        | inr (tw, nw) ↦ rw (tf, tb, tw) (one_way x y _ lf hf nb nw)
      ]
    ]
    | inr (tf, nf) ↦ elim (lowest_cases (leads_at n records y x) n) [
      | inl (tb, lb, hb) ↦ elim (lowest_cases (lacks_at n records y x) n) [
        | inl (tw, lw, hw) ↦ rw (tf, tb, tw) (lw, lb, (lacks_says y x _ hw).0, (lacks_says y x _ hw).1, leads_before y x _ hb)
        | inr (tw, nw) ↦ let h = one_way y x _ lb hb nf nw in rw (tf, tb, tw) (h.1, h.0)
      ]
      | inr (tb, nb) ↦ elim (lowest_cases (lacks_at n records x y) n) [
        | inl (tw, lw, hw) ↦ elim (lowest_cases (lacks_at n records y x) n) [
          | inl (tv, lv, hv) ↦ rw (tf, tb, tw, tv) (lv, lw, (lacks_says y x _ hv).0, (lacks_says x y _ hw).0, none_both x y d nf nb)
          | inr (tv, nv) ↦ rw (tf, tb, tw, tv) (no_way x y nf nb (inr nv))
        ]
        | inr (tw, nw) ↦ rw (tf, tb, tw) (no_way x y nf nb (inl nw))
      ]
    ]
  ]
