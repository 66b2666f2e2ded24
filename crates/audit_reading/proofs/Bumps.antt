-- Laws of numbers kept by class: one number changed, those of a posting's classes one by one, and those of every row.
-- Rests on Kept. Assumes nothing.
use Prim.Native.Nat.{ℕ, ◌+◌, ◌*◌, ◌/◌, ◌%◌, ◌<◌, ◌≤◌}
use mathlib.Core.Path.{◌≡◌, refl, sym, ap, ◌∙◌}
use mathlib.Core.Logic.{◌≢◌}
use mathlib.Core.Bool.{Bool, true, false, cond, ◌&&◌, ◌||◌, or-false}
use mathlib.Core.List.{List}
use native.Mathlib.Omega.{arith}
use native.Mathlib.Decide.{ℕ_discrete, dec_lt}
use lib.Dec.{eqb, ltb}
use lib.ListN.{length, get_or, length-set, get_or-eq_default}
use lib.Seq.{get_or-set_same, get_or-set_other}
use borrow.Author.Tests.{eq-eqb, ne_eqb, lt-ltb, le-ltb, le-leb, lt-leb}
use Rattle.posting.specs.Touched.{every_row}
use Rattle.books.proofs.Lists.{length_tabulate, get_d_tabulate, is_tabulate}
use Rattle.audit_reading.specs.Kept.{changed_at, changed, own_row, own_class, AtMost}

-- past the end all numbers are 0
pub past : (l : List ℕ) (n c : ℕ) → length l ≡ n → n ≤ c → get_or l c 0 ≡ 0
past l n c e h = let g : length l ≤ c = omega (arith, e, h) in get_or-eq_default l 0 g

-- ---- numbers changed

module _ (l : List ℕ) (f : ℕ → ℕ) where
  pub changed_length : (own : ℕ → Bool) → length (changed l f own) ≡ length l
  unfolding changed
  changed_length own = length_tabulate (length l) (λ c. cond (own c) (f (get_or l c 0)) (get_or l c 0))

  pub changed_at_lem : (own : ℕ → Bool) (c : ℕ) → c < length l → get_or (changed l f own) c 0 ≡ cond (own c) (f (get_or l c 0)) (get_or l c 0)
  unfolding changed
  changed_at_lem own c h = get_d_tabulate (length l) (λ k. cond (own k) (f (get_or l k 0)) (get_or l k 0)) 0 c h

  -- a list with these numbers is the list changed
  is_changed : (own : ℕ → Bool) (r : List ℕ) → length r ≡ length l → ((k : ℕ) → k < length l → get_or r k 0 ≡ cond (own k) (f (get_or l k 0)) (get_or l k 0)) → r ≡ changed l f own
  unfolding changed
  is_changed own r e h = is_tabulate (length l) (λ c. cond (own c) (f (get_or l c 0)) (get_or l c 0)) 0 r e h

  pub changed_alike : (own other : ℕ → Bool) → ((k : ℕ) → own k ≡ other k) → changed l f own ≡ changed l f other
  changed_alike own other same =
      is_changed other (changed l f own) (changed_length own) (λ k h. changed_at_lem own k h ∙ ap (λ (v : Bool). cond v (f (get_or l k 0)) (get_or l k 0)) (same k))

  pub changed_none : (own : ℕ → Bool) → ((k : ℕ) → own k ≡ false) → l ≡ changed l f own
  changed_none own same = is_changed own l refl (λ k h. rw (same k))

  pub changed_one : (c : ℕ) → changed_at l f c ≡ changed l f (λ k. eqb k c)
  changed_one c = is_changed (λ k. eqb k c) (changed_at l f c) (length-set l c (f (get_or l c 0))) at
    where
      at : (k : ℕ) → k < length l → get_or (changed_at l f c) k 0 ≡ cond (eqb k c) (f (get_or l k 0)) (get_or l k 0)
      at k h = elim (ℕ_discrete k c) [
        | yes e ↦ rw (e, eq-eqb c c refl) (get_or-set_same l c (f (get_or l c 0)) 0 (omega (arith, e, h)))
        | no d ↦ rw (ne_eqb k c d) (get_or-set_other l c k (f (get_or l c 0)) 0 d)
      ]

  -- one class more, which was not among them
  pub changed_more : (own : ℕ → Bool) (c : ℕ) → own c ≡ false → changed_at (changed l f own) f c ≡ changed l f (λ k. own k || eqb k c)
  changed_more own c new =
      let r = changed l f own in
      is_changed (λ k. own k || eqb k c) (changed_at r f c) (length-set r c (f (get_or r c 0)) ∙ changed_length own) at
    where
      at : (k : ℕ) → k < length l → get_or (changed_at (changed l f own) f c) k 0 ≡ cond (own k || eqb k c) (f (get_or l k 0)) (get_or l k 0)
      at k h =
          let r = changed l f own in
          elim (ℕ_discrete k c) [
            | yes e ↦
                let hc : c < length l = omega (arith, e, h) in
                let hr : c < length r = omega (arith, hc, changed_length own) in
                let old : get_or r c 0 ≡ get_or l c 0 = changed_at_lem own c hc ∙ rw new in
                rw (e, new, eq-eqb c c refl) (get_or-set_same r c (f (get_or r c 0)) 0 hr ∙ ap f old)
            | no d ↦
                let same : own k ≡ (own k || eqb k c) = rw (ne_eqb k c d) (sym (or-false (own k))) in
                get_or-set_other r c k (f (get_or r c 0)) 0 d ∙ changed_at_lem own k h
                ∙ ap (λ (v : Bool). cond v (f (get_or l k 0)) (get_or l k 0)) same
          ]

-- ---- the classes of a row, of a posting, and of every row

-- class k is the one of a row and a kind
class_number : (line kind k : ℕ) → kind < 4 → eqb k (4 * line + kind) ≡ (eqb (k / 4) line && eqb kind (k % 4))
class_number line kind k h = elim (ℕ_discrete (k / 4) line) [
  | yes q ↦ elim (ℕ_discrete kind (k % 4)) [
    | yes r ↦ rw (eq-eqb (k / 4) line q, eq-eqb kind (k % 4) r) (eq-eqb k (4 * line + kind) (omega (arith, q, r)))
    | no r ↦ rw (eq-eqb (k / 4) line q, ne_eqb kind (k % 4) r) (ne_eqb k (4 * line + kind) (λ e. r (omega (arith, e, h))))
  ]
  | no q ↦ rw (ne_eqb (k / 4) line q) (ne_eqb k (4 * line + kind) (λ e. q (omega (arith, e, h))))
]

-- a kind in the first n rows
abbrev pub rows_to : ℕ → ℕ → ℕ → Bool
rows_to kind n k = ltb (k / 4) n && eqb kind (k % 4)

-- a kind in a row and in that of all
abbrev pub both : ℕ → ℕ → ℕ → Bool
both kind a k = eqb k (4 * a + kind) || eqb k (4 * every_row + kind)

module _ (l : List ℕ) (f : ℕ → ℕ) (kind : ℕ) (h : kind < 4) where
  pub rows_none : l ≡ changed l f (rows_to kind 0)
  rows_none = changed_none l f (rows_to kind 0) (λ k. rw (le-ltb (k / 4) 0 (omega arith)))

  pub rows_more : (n : ℕ) → changed_at (changed l f (rows_to kind n)) f (4 * n + kind) ≡ changed l f (rows_to kind (n + 1))
  rows_more n =
      let q : (4 * n + kind) / 4 ≡ n = omega (arith, h) in
      changed_more l f (rows_to kind n) (4 * n + kind) (rw (q, le-ltb n n (omega arith)))
      ∙ changed_alike l f (λ k. rows_to kind n k || eqb k (4 * n + kind)) (rows_to kind (n + 1)) at
    where
      at : (k : ℕ) → (rows_to kind n k || eqb k (4 * n + kind)) ≡ rows_to kind (n + 1) k
      at k = elim (ℕ_discrete (k / 4) n) [
        | yes e ↦ rw (class_number n kind k h, e, le-ltb n n (omega arith), lt-ltb n (n + 1) (omega arith), eq-eqb n n refl)
        | no d ↦ elim (dec_lt (k / 4) n) [
          | yes b ↦ rw (class_number n kind k h, ne_eqb (k / 4) n d, lt-ltb (k / 4) n b, lt-ltb (k / 4) (n + 1) (omega (arith, b))) (or-false (eqb kind (k % 4)))
          | no b ↦ rw (class_number n kind k h, ne_eqb (k / 4) n d, le-ltb (k / 4) n (omega (arith, b)), le-ltb (k / 4) (n + 1) (omega (arith, b, d)))
        ]
      ]

  pub rows_all : changed l f (rows_to kind 17) ≡ changed l f (own_class kind every_row every_row)
  unfolding own_class own_row
  rows_all = changed_alike l f (rows_to kind 17) (own_class kind every_row every_row) at
    where
      at : (k : ℕ) → rows_to kind 17 k ≡ own_class kind every_row every_row k
      at k = elim (dec_lt (k / 4) 17) [
        | yes b ↦ rw (lt-ltb (k / 4) 17 b, le-leb (k / 4) every_row (omega (arith, b)))
        | no b ↦ rw (le-ltb (k / 4) 17 (omega (arith, b)), lt-leb (k / 4) every_row (omega (arith, b)))
      ]

  -- what nets every account, in rows a and b
  pub line_all : (a b : ℕ) → a ≡ every_row → changed l f (own_class kind every_row every_row) ≡ changed l f (own_class kind a b)
  unfolding own_class own_row
  line_all a b e = changed_alike l f (own_class kind every_row every_row) (own_class kind a b) (λ k. rw e)

  module _ (a : ℕ) (named : a ≢ every_row) where
    pub both_changed : changed_at (changed_at l f (4 * a + kind)) f (4 * every_row + kind) ≡ changed l f (both kind a)
    both_changed =
        ap (λ (r : List ℕ). changed_at r f (4 * every_row + kind)) (changed_one l f (4 * a + kind))
        ∙ changed_more l f (λ k. eqb k (4 * a + kind)) (4 * every_row + kind) (ne_eqb (4 * every_row + kind) (4 * a + kind) (λ e. named (omega (arith, e))))

    -- a posting's own row and that of all
    pub line_two : (b : ℕ) → a ≡ b → changed_at (changed_at l f (4 * a + kind)) f (4 * every_row + kind) ≡ changed l f (own_class kind a b)
    unfolding own_class own_row
    line_two b e = both_changed ∙ changed_alike l f (both kind a) (own_class kind a b) at
      where
        go : (x y z : Bool) → ((x && z) || (y && z)) ≡ ((y || (x || x)) && z)
        go true true true = refl
        go true true false = refl
        go true false true = refl
        go true false false = refl
        go false true true = refl
        go false true false = refl
        go false false z = refl

        at : (k : ℕ) → both kind a k ≡ own_class kind a b k
        at k = rw (← e, class_number a kind k h, class_number every_row kind k h, ne_eqb a every_row named) (go (eqb (k / 4) a) (eqb (k / 4) every_row) (eqb kind (k % 4)))

    -- the rows of two accounts and that of all
    pub line_three : (b : ℕ) → a ≢ b → b ≢ every_row
        → changed_at (changed_at (changed_at l f (4 * a + kind)) f (4 * every_row + kind)) f (4 * b + kind) ≡ changed l f (own_class kind a b)
    unfolding own_class own_row
    line_three b d other =
        ap (λ (r : List ℕ). changed_at r f (4 * b + kind)) both_changed
        ∙ changed_more l f (both kind a) (4 * b + kind)
        (rw (ne_eqb (4 * b + kind) (4 * a + kind) (λ e. d (omega (arith, e))), ne_eqb (4 * b + kind) (4 * every_row + kind) (λ e. other (omega (arith, e)))))
        ∙ changed_alike l f (λ k. both kind a k || eqb k (4 * b + kind)) (own_class kind a b) at
      where
        go : (x y w z : Bool) → (((x && z) || (y && z)) || (w && z)) ≡ ((y || (x || w)) && z)
        go true true w true = refl
        go true true true false = refl
        go true true false false = refl
        go true false w true = refl
        go true false true false = refl
        go true false false false = refl
        go false true w true = refl
        go false true true false = refl
        go false true false false = refl
        go false false w z = refl

        at : (k : ℕ) → (both kind a k || eqb k (4 * b + kind)) ≡ own_class kind a b k
        at k =
            rw (class_number a kind k h, class_number every_row kind k h, class_number b kind k h, ne_eqb a every_row named)
            (go (eqb (k / 4) a) (eqb (k / 4) every_row) (eqb (k / 4) b) (eqb kind (k % 4)))

-- ---- bounds

cond_most : (v : Bool) (x m : ℕ) → x ≤ m → cond v (x + 1) x ≤ m + 1
cond_most true x m h = omega (arith, h)
cond_most false x m h = omega (arith, h)

pub changed_most : (l : List ℕ) (own : ℕ → Bool) (m : ℕ) → AtMost l m → AtMost (changed l (λ v. v + 1) own) (m + 1)
changed_most l own m most c = elim (dec_lt c (length l)) [
  | yes h ↦ let e = changed_at_lem l (λ v. v + 1) own c h in let n = cond_most (own c) (get_or l c 0) m (most c) in omega (arith, e, n)
  | no h ↦ let e = past (changed l (λ v. v + 1) own) (length l) c (changed_length l (λ v. v + 1) own) (omega (arith, h)) in omega (arith, e)
]
