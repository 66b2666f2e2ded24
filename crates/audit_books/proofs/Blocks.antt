-- Laws of the figures of all sites, one behind the other.
-- Rests on All and on books. Assumes nothing.
use Prim.Native.Nat.{ℕ, zero, suc, ◌+◌, ◌*◌}
use mathlib.Core.Path.{◌≡◌, refl, sym, ap, ◌∙◌}
use mathlib.Core.List.{List, ◌++◌, append_assoc}
use native.Mathlib.Numerals.{add-one}
use native.Mathlib.Omega.{arith}
use lib.IntN.{ℤ}
use lib.ListN.{length, take, drop, length-append}
use lib.Seq.{drop-drop}
use Rattle.posting.specs.Kinds.{accounts}
use Rattle.books.specs.Books.{books, blank}
use Rattle.books.proofs.Blocks.{length_numbers, next_block}
use Rattle.audit_rule.specs.Handed.{table_of, record_of}
use Rattle.audit_books.specs.All.{numbers_of_site, numbers_of_all}

module _ (kinds firsts seconds amounts lines ends : List ℕ) where
  abbrev site : ℕ → List ℤ
  site = numbers_of_site kinds firsts seconds amounts lines ends

  abbrev all : ℕ → List ℤ
  all = numbers_of_all kinds firsts seconds amounts lines ends

  pub length_site : (p : ℕ) → length (site p) ≡ 64
  length_site p = length_numbers accounts (books blank (table_of kinds firsts seconds amounts) (record_of lines ends p))

  pub length_all : (n : ℕ) → length (all n) ≡ 64 * n
  unfolding numbers_of_all
  length_all zero = refl
  length_all (suc n) = omega (arith, length-append (all n) (site n), length_all n, length_site n)

  -- the numbers of one site more, put into the part from 64 p
  pub next_all : (p : ℕ) (l : List ℤ)
      → let done = all p ++ drop (64 * p) l in
      take (64 * p) done ++ (site p ++ drop 64 (drop (64 * p) done)) ≡ all (p + 1) ++ drop (64 * (p + 1)) l
  unfolding numbers_of_all
  next_all p l =
      let done = all p ++ drop (64 * p) l in
      ap (λ (r : List ℤ). take (64 * p) done ++ (site p ++ r)) (drop-drop 64 (64 * p) done)
      ∙ sym (append_assoc (take (64 * p) done) (site p) (drop (64 * p + 64) done))
      ∙ next_block 64 p (all p) (site p) l (length_all p)
      ∙ rw add-one
