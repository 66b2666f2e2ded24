-- What the loops have shown after some turns.
-- Rests on Parts. Assumes nothing.
use Prim.Native.Nat.{ℕ, zero, suc, ◌+◌, ◌*◌, ◌<◌, ◌≤◌, min}
use mathlib.Core.Path.{◌≡◌, refl, sym, ap, ◌∙◌}
use mathlib.Core.Bool.{Bool, true, false, not, ◌&&◌, ◌||◌, or-false}
use mathlib.Core.List.{List, [], ◌∷◌}
use native.Mathlib.Omega.{arith}
use native.Mathlib.Numerals.{add-one}
use native.Mathlib.Decide.{ℕ_discrete, dec_lt}
use lib.Dec.{eqb, ltb}
use lib.ListN.{length, get_or, take, replicate, get_or-eq_default}
use lib.Seq.{take-suc, take_all}
use borrow.Author.Tests.{eq-eqb, ne_eqb, ltb-true, le-leb, lt-leb}
use Rattle.sets.specs.declared.Set.{Set}
use Rattle.sets.proofs.Truth.{never, not_so, and_left, and_right, or_left, or_right, not_flips}
use Rattle.sets.specs.Below.{all_below, all_of}
use Rattle.sets.proofs.BelowLaws.{all_fails, all_none, all_more, all_end}
use Rattle.sets.specs.Numbers.{listed, distinct}
use Rattle.sets.proofs.NumberLaws.{listed_last, distinct_last}
use Rattle.sets.specs.Words.{Words, member, insert, collect}
use Rattle.sets.proofs.WordLaws.{member_empty, member_past, member_insert, insert_past, empty_shape, insert_shape, collect_shape, same_members}
use Rattle.sets.specs.Sets.{words, capacity, of_words, has, set_of}
use Rattle.posting.specs.declared.Table.{Table}
use Rattle.posting.specs.declared.Record.{Record}
use Rattle.posting.specs.Conflicts.{offered_by}
use Rattle.posting.specs.Records.{numbers_of, contains}
use Rattle.site.specs.declared.Site.{Site}
use Rattle.site.specs.Sites.{no_site}
use Rattle.site.specs.Steps.{owner_of}
use Rattle.sets.proofs.SetLaws.{has_set_of}
use Rattle.soundness.specs.Parts.{record_sound}

-- ---- the numbers of a list, as a set

-- the set of the first i numbers; those past the capacity are left out
unfoldable pub first_of : List ℕ → ℕ → Set
first_of l zero = of_words (replicate words 0)
first_of l (suc i) = of_words (insert (first_of l i).words (get_or l i 0))

pub first_shape : (l : List ℕ) (i : ℕ) → Words words (first_of l i).words
unfolding first_of
first_shape l zero = empty_shape words
first_shape l (suc i) = insert_shape (first_of l i).words (get_or l i 0) (first_shape l i)

pub has_first : (l : List ℕ) (i x : ℕ) → i ≤ length l → x < capacity → has (first_of l i) x ≡ listed x (take i l)
unfolding first_of listed
has_first l zero x h c = member_empty words x
has_first l (suc i) x h c =
    let old = (first_of l i).words in
    let y = get_or l i 0 in
    let n : 64 * length old ≡ capacity = omega (arith, (first_shape l i).long) in
    let before : member old x ≡ listed x (take i l) = has_first l i x (omega arith) c in
    let split : listed x (take (suc i) l) ≡ (listed x (take i l) || eqb x y) = ap (listed x) (take-suc l i 0 (omega arith)) ∙ listed_last x (take i l) y in
    elim (dec_lt y capacity) [
      | yes k ↦ member_insert old y x (omega arith) ∙ ap (λ (b : Bool). b || eqb x y) before ∙ sym split
      | no k ↦
          let past : 64 * length old ≤ y = omega arith in
          let apart : eqb x y ≡ false = ne_eqb x y (omega arith) in
          ap (λ (ws : List ℕ). member ws x) (insert_past old y past) ∙ before ∙ sym (split ∙ rw apart (or-false (listed x (take i l))))
    ]

-- the first i numbers are all of the list's first n, where i is n or the list ends
take_first : (l : List ℕ) (n i : ℕ) → min n (length l) ≤ i → i ≤ n → take i l ≡ take n l
take_first l n i h k = elim (ℕ_discrete i n) [
  | yes e ↦ rw e
  | no d ↦ let ends : length l ≤ i = omega arith in let past : length l ≤ n = omega arith in take_all i l ends ∙ sym (take_all n l past)
]

-- what holds of every record: a place for each number
pub first_all : (r : Record) (i : ℕ) → length r.numbers ≡ capacity → min r.count capacity ≤ i → i ≤ r.count → i ≤ capacity → first_of r.numbers i ≡ set_of (contains r)
unfolding contains numbers_of
first_all r i long h k c =
    let past : min r.count (length r.numbers) ≤ i = omega arith in
    ap of_words
    (same_members (first_of r.numbers i).words (collect words (contains r) capacity) (first_shape r.numbers i) (collect_shape words (contains r) capacity)
    (λ x b. has_first r.numbers i x (omega arith) b ∙ ap (listed x) (take_first r.numbers r.count i past k)
    ∙ sym (has_set_of (contains r) x b)))

-- ---- a record, number by number

listed_at : (l : List ℕ) (n i : ℕ) → i < n → i < length l → listed (get_or l i 0) (take n l) ≡ true
unfolding listed
listed_at [] n i h k = absurd (omega arith)
listed_at (x ∷ l) zero i h k = absurd (omega arith)
listed_at (x ∷ l) (suc n) zero h k = or_left (eqb x x) (listed x (take n l)) (eq-eqb x x refl)
listed_at (x ∷ l) (suc n) (suc i) h k = or_right (eqb (get_or l i 0) x) (listed (get_or l i 0) (take n l)) (listed_at l n i (omega arith) (omega arith))

distinct_at : (l : List ℕ) (n i : ℕ) → i < n → i < length l → distinct (take n l) ≡ true → listed (get_or l i 0) (take i l) ≡ false
unfolding listed distinct
distinct_at [] n i h k d = absurd (omega arith)
distinct_at (x ∷ l) zero i h k d = absurd (omega arith)
distinct_at (x ∷ l) (suc n) zero h k d = refl
distinct_at (x ∷ l) (suc n) (suc i) h k d =
    let y = get_or l i 0 in
    let alone : listed x (take n l) ≡ false = not_flips (listed x (take n l)) (and_left (not (listed x (take n l))) (distinct (take n l)) d) in
    let later : listed y (take i l) ≡ false = distinct_at l n i (omega arith) (omega arith) (and_right (not (listed x (take n l))) (distinct (take n l)) d) in
    let found : listed y (take n l) ≡ true = listed_at l n i (omega arith) (omega arith) in
    let other : eqb y x ≡ false = ne_eqb y x (λ e. never (ap (λ (z : ℕ). listed z (take n l)) (sym e) ∙ found) alone) in
    rw (other, later)

-- the first i numbers of a record are offered, and none is twice among them
pub record Checked (count : ℕ) (r : Record) (i : ℕ) : Type 0 where
  pub offers : all_below (λ j. offered_by count (get_or r.numbers j 0)) i ≡ true
  pub apart : distinct (take i r.numbers) ≡ true

pub checked_none : (count : ℕ) (r : Record) → Checked count r 0
unfolding distinct
checked_none count r = record { offers = all_none (λ j. offered_by count (get_or r.numbers j 0)); apart = refl }

pub record_long : (count : ℕ) (r : Record) → capacity < r.count → record_sound count r ≡ false
unfolding record_sound all_of
record_long count r h = rw (lt-leb r.count capacity h)

pub record_end : (count : ℕ) (r : Record) (i : ℕ) → r.count ≤ capacity → i ≡ r.count → Checked count r i → record_sound count r ≡ true
unfolding record_sound all_of numbers_of
record_end count r i h e d =
    rw (
      le-leb r.count capacity h,
      all_end (λ j. offered_by count (get_or r.numbers j 0)) r.count i e d.offers,
      ap (λ (n : ℕ). distinct (take n r.numbers)) (sym e) ∙ d.apart,
    )

offered_small : (count m : ℕ) → offered_by count m ≡ true → m < capacity
unfolding offered_by
offered_small count m t = ltb-true m capacity (and_right (ltb m count) (ltb m capacity) t)

module _ (count : ℕ) (r : Record) (i : ℕ) (h : i < r.count) (fits : r.count ≤ capacity) (long : length r.numbers ≡ capacity) where
  pub record_not_offered : offered_by count (get_or r.numbers i 0) ≡ false → record_sound count r ≡ false
  unfolding record_sound all_of
  record_not_offered f = rw (le-leb r.count capacity fits, all_fails (λ j. offered_by count (get_or r.numbers j 0)) r.count i h f)

  -- number i is among those before it
  module _ (met : Set) (e : met ≡ first_of r.numbers i) (so : offered_by count (get_or r.numbers i 0) ≡ true) where
    before : has met (get_or r.numbers i 0) ≡ listed (get_or r.numbers i 0) (take i r.numbers)
    before =
        ap (λ (s : Set). has s (get_or r.numbers i 0)) e
        ∙ has_first r.numbers i (get_or r.numbers i 0) (omega arith) (offered_small count (get_or r.numbers i 0) so)

    pub record_twice : has met (get_or r.numbers i 0) ≡ true → record_sound count r ≡ false
    unfolding record_sound all_of numbers_of
    record_twice t =
        let d : distinct (take r.count r.numbers) ≡ false
        = not_so (distinct (take r.count r.numbers)) (λ u. never (sym before ∙ t) (distinct_at r.numbers r.count i h (omega arith) u)) in
        rw (le-leb r.count capacity fits, d) (go (all_below (λ j. offered_by count (get_or r.numbers j 0)) r.count))
      where
        go : (b : Bool) → b && false ≡ false
        go true = refl
        go false = refl

    pub checked_more : Checked count r i → has met (get_or r.numbers i 0) ≡ false → Checked count r (i + 1)
    checked_more d f =
        record {
          offers = all_more (λ j. offered_by count (get_or r.numbers j 0)) i d.offers so;
          apart =
              let here : i < length r.numbers = omega arith in
              rw (add-one, take-suc r.numbers i 0 here) (distinct_last (take i r.numbers) (get_or r.numbers i 0) d.apart (sym before ∙ f));
        }

-- ---- what is finished

-- an owner that is no site has finished nothing
pub no_owner : (t : Table) (l : List Site) (m : ℕ) → length l ≤ owner_of t m → has (get_or l (owner_of t m) no_site).finished m ≡ false
no_owner t l m h = rw (get_or-eq_default l no_site h) (member_past [] m (omega arith))
