-- Filling a list block by block: four numbers at a place, one block more after those that are there, a part that was lent and is back.
-- Rests on Books and Lists, on posting. Assumes nothing.
use mathlib.Core.Path.{◌≡◌, refl, sym, ap, ap₂, ◌∙◌}
use mathlib.Core.List.{List, [], ◌∷◌, ◌++◌, append_assoc, append-nil}
use Prim.Native.Nat.{ℕ, zero, suc, ◌+◌, ◌*◌, ◌-◌, ◌<◌, ◌≤◌}
use native.Mathlib.Decide.{ℕ_discrete}
use native.Mathlib.Nat.{mul-suc}
use native.Mathlib.Numerals.{add-one, add-two, add-three}
use native.Mathlib.Omega.{arith}
use lib.IntN.{ℤ, pos}
use lib.ListN.{length, get_or, take, drop, set, get_or-append, length-append, length-drop, drop_of_length-le}
use lib.Seq.{sets-eq, take_at, drop-append-add, get_or-append-add, drop-drop, take_all}
use borrow.Rule.Slice.PartMut.{put_mid}
use Rattle.posting.specs.declared.Table.{Table}
use Rattle.posting.specs.Kinds.{accounts}
use Rattle.posting.specs.Records.{numbers_of}
use Rattle.books.specs.declared.Records.{Records}
use Rattle.books.specs.Books.{Books, books, four, numbers_to, numbers, record_no, numbers_of_sites, figures_on, sheet_of, zeros}
use Rattle.books.proofs.Lists.{get_d_tabulate}

module _ {A : Type 0} where
  -- four stores in a row
  pub four_stores : (l : List A) (at : ℕ) (w x y z : A) → at + 4 ≤ length l
      → set (set (set (set l at w) (at + 1) x) (at + 2) y) (at + 3) z
      ≡ take at l ++ (w ∷ x ∷ y ∷ z ∷ []) ++ drop (at + 4) l
  four_stores l at w x y z h = rw (add-one, add-two, add-three) (sets-eq (w ∷ x ∷ y ∷ z ∷ []) l at h)

  -- blocks of n: done holds the first k of them, and one more is put behind it
  pub next_block : (n k : ℕ) (done block l : List A) → length done ≡ n * k
      → take (n * k) (done ++ drop (n * k) l) ++ block ++ drop (n * k + n) (done ++ drop (n * k) l)
      ≡ done ++ block ++ drop (n * (k + 1)) l
  next_block n k done block l e =
      let d : drop (n * k + n) (done ++ drop (n * k) l) ≡ drop (n * k + n) l =
      rw (← e) (drop-append-add done (drop (length done) l) n ∙ drop-drop n (length done) l) in
      rw (take_at done (drop (n * k) l) (n * k) e, d, add-one, mul-suc)

  -- a part from a to the end, lent: what the callee sees, and the whole when it is back
  pub part_all : (a : ℕ) (l : List A) → take (length l - a) (drop a l) ≡ drop a l
  part_all a l = take_all (length l - a) (drop a l) (simp length-drop (omega arith))

  pub part_back : (a : ℕ) (l part : List A) → put_mid a (length l - a) l part ≡ take a l ++ part
  part_back a l part =
      let h : length (drop a l) ≤ length l - a = simp length-drop (omega arith) in
      ap (λ (r : List A). take a l ++ (part ++ r)) (drop_of_length-le (drop a l) h) ∙ ap (λ (r : List A). take a l ++ r) (append-nil part)

-- ---- the numbers of accounts and of sites

pub length_numbers : (n : ℕ) (s : Books) → length (numbers_to n s) ≡ 4 * n
unfolding numbers_to
length_numbers zero s = refl
length_numbers (suc n) s = omega (arith, length-append (numbers_to n s) (four (s n)), length_numbers n s)

-- the numbers of account k stand from 4k on
pub numbers_at : (n : ℕ) (s : Books) (k j : ℕ) → k < n → j < 4
    → get_or (numbers_to n s) (4 * k + j) (pos 0) ≡ get_or (four (s k)) j (pos 0)
unfolding numbers_to
numbers_at zero s k j h l = absurd (omega arith)
numbers_at (suc n) s k j h l = elim (ℕ_discrete k n) [
  | yes e ↦
      let at : 4 * k + j ≡ length (numbers_to n s) + j = omega (arith, length_numbers n s) in
      rw at (get_or-append-add (numbers_to n s) (four (s n)) j (pos 0) ∙ ap (λ (m : ℕ). get_or (four (s m)) j (pos 0)) (sym e))
  | no ne ↦
      let b : 4 * k + j < length (numbers_to n s) = omega (arith, length_numbers n s) in
      get_or-append (numbers_to n s) (four (s n)) (pos 0) (4 * k + j) b ∙ numbers_at n s k j (omega arith) l
]

-- the numbers of one account more
pub next_account : (k : ℕ) (s : Books) (l : List ℤ)
    → take (4 * k) (numbers_to k s ++ drop (4 * k) l) ++ four (s k) ++ drop (4 * k + 4) (numbers_to k s ++ drop (4 * k) l)
    ≡ numbers_to (k + 1) s ++ drop (4 * (k + 1)) l
unfolding numbers_to
next_account k s l = next_block 4 k (numbers_to k s) (four (s k)) l (length_numbers k s) ∙ rw add-one

pub numbers_same : (n : ℕ) (s t : Books) → ((k : ℕ) → k < n → s k ≡ t k) → numbers_to n s ≡ numbers_to n t
unfolding numbers_to
numbers_same zero s t h = refl
numbers_same (suc n) s t h = ap₂ ◌++◌ (numbers_same n s t (λ k l. h k (omega arith))) (ap four (h n (omega arith)))

-- a sheet's numbers are those of its books
pub sheet_numbers : (s : Books) → numbers (figures_on (sheet_of s)) ≡ numbers s
sheet_numbers s = numbers_same accounts (figures_on (sheet_of s)) s (λ k h. get_d_tabulate accounts s zeros k h)

pub length_sites : (n : ℕ) (opening : Books) (table : Table) (records : Records) → length (numbers_of_sites n opening table records) ≡ 64 * n
unfolding numbers_of_sites
length_sites zero opening table records = refl
length_sites (suc n) opening table records =
    let b = books opening table (numbers_of (record_no records n)) in
    omega (arith, length-append (numbers_of_sites n opening table records) (numbers b), length_sites n opening table records, length_numbers accounts b)

-- the numbers of one site more, put into the part from 64s
pub next_site : (s : ℕ) (opening : Books) (table : Table) (records : Records) (l : List ℤ)
    → let done = numbers_of_sites s opening table records ++ drop (64 * s) l in
    take (64 * s) done ++ (numbers (books opening table (numbers_of (record_no records s))) ++ drop 64 (drop (64 * s) done))
    ≡ numbers_of_sites (s + 1) opening table records ++ drop (64 * (s + 1)) l
unfolding numbers_of_sites
next_site s opening table records l =
    let sites = numbers_of_sites s opening table records in
    let block = numbers (books opening table (numbers_of (record_no records s))) in
    let done = sites ++ drop (64 * s) l in
    ap (λ (r : List ℤ). take (64 * s) done ++ (block ++ r)) (drop-drop 64 (64 * s) done)
    ∙ sym (append_assoc (take (64 * s) done) block (drop (64 * s + 64) done))
    ∙ next_block 64 s sites block l (length_sites s opening table records)
    ∙ rw add-one
