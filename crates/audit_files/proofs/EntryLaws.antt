-- The laws behind the functions that read a line: parts up to a byte and past it, digits scanned from a place on, words compared, and fields put together.
-- Rests on Entries, on audit_pair's Places and on the kit's lists. Assumes nothing.
use Rattle.audit_files.specs.declared.Entry.TheVariants.{Number, Whole}
use Rattle.std.proofs.lemmas.Bool.Decides.{nat_tests}
use lib.Pointwise.{pointwise}
use Prim.Native.Nat.{ℕ, suc, ◌+◌, ◌*◌, ◌-◌, ◌<◌, ◌≤◌}
use mathlib.Core.Path.{◌≡◌, refl, sym, ap, ◌∙◌}
use mathlib.Core.Logic.{inl, inr, ◌≢◌}
use mathlib.Core.Bool.{Bool, true, false, cond, ◌&&◌}
use mathlib.Core.List.{List, [], ◌∷◌}
use native.Mathlib.Omega.{arith}
use native.Mathlib.Numerals.{add-one}
use lib.Dec.{eqb, ltb}
use lib.ListN.{length, get_or, take, drop, length-drop, drop_of_length-le}
use lib.Seq.{drop-cons, take_all}
use borrow.Author.Tests.{lt-ltb, le-ltb, le-leb, lt-leb, ltb-false}
use Rattle.std.specs.Prelude.{Some, None, position}
use Rattle.std.specs.List.{position_or_len}
use Rattle.std.proofs.lemmas.List.Recursion.{is_position_or_len}
use Rattle.broadcast.specs.Lists.{mem}
use Rattle.broadcast.proofs.Tests.{test, same_or, eqb_yes, eqb_no}
use Rattle.audit_rule.specs.Audit.{up_to}
use Rattle.audit_rule.specs.Handed.{place_of}
use Rattle.audit_pair.proofs.Places.{place_mem, place_at_most}
use Rattle.audit_files.specs.Words.{same}
use Rattle.audit_files.specs.Entries.{past, comma, is_digit, badly_begun, number_of, kind_of, scanned, no_number, digit_zero, most_number, most_account, most_amount, alone, whole, fields_after, entry_of, malformed}

-- ---- parts of a text

pub take_place : (x : ℕ) (l : List ℕ) → take (place_of x l) l ≡ up_to x l
unfolding place_of
take_place x [] = refl
take_place x (z ∷ l) = elim (same_or z x) [
  | inl e ↦ rw (eqb_yes z x e)
  | inr d ↦ rw (eqb_no z x d) (ap (λ (r : List ℕ). z ∷ r) (take_place x l))
]

-- the part ahead of a byte is all of the text where the text lacks the byte
pub mem_none : (x : ℕ) (l : List ℕ) → length (up_to x l) ≡ length l → mem x l ≡ false
unfolding place_of
mem_none x l e = place_mem x l ∙ le-ltb (length (up_to x l)) (length l) (omega (arith, e))

pub mem_some : (x : ℕ) (l : List ℕ) → length (up_to x l) ≢ length l → mem x l ≡ true
unfolding place_of
mem_some x l d = let h = place_at_most x l in place_mem x l ∙ lt-ltb (length (up_to x l)) (length l) (omega (arith, h, d))

-- what is left from a place on
rest_is : (from : ℕ) (l : List ℕ) → take (length l - from) (drop from l) ≡ drop from l
rest_is from l = let n = length-drop from l in let h : length (drop from l) ≤ length l - from = omega (arith, n) in take_all (length l - from) (drop from l) h

position_is : (x : ℕ) (l : List ℕ) → place_of x l ≡ position_or_len (λ y. eqb y x) l
unfolding place_of
position_is x l = is_position_or_len (λ m. length (up_to x m)) (λ y. eqb y x) refl (λ z m. step z m (eqb z x)) l
  where
    step : (z : ℕ) (m : List ℕ) (b : Bool) → length (cond b [] (z ∷ up_to x m)) ≡ cond b 0 (1 + length (up_to x m))
    step z m true = refl
    step z m false = omega arith

module _ (x : ℕ) (l : List ℕ) where
  place_some : (i : ℕ) → Some i ≡ position (λ y. eqb y x) l → i ≡ place_of x l
  place_some i e = elim (test (ltb (position_or_len (λ y. eqb y x) l) (length l))) [
    | inl t ↦ let f : Some i ≡ Some (position_or_len (λ y. eqb y x) l) = rw t at e in
        let p = position_is x l in
        cc
    | inr f ↦ let g = rw f at e in absurd (cc)
  ]

  place_none : None ≡ position (λ y. eqb y x) l → length l ≤ place_of x l
  place_none e = elim (test (ltb (position_or_len (λ y. eqb y x) l) (length l))) [
    | inl t ↦ let g : None ≡ Some (position_or_len (λ y. eqb y x) l) = rw t at e in absurd (cc)
    | inr f ↦ let p = position_is x l in omega (arith, p, ltb-false _ _ f)
  ]

  -- the parts of a text around the place where a search found the byte
  pub found_ahead : (i : ℕ) → Some i ≡ position (λ y. eqb y x) l → take i l ≡ up_to x l
  found_ahead i e = rw (place_some i e) (take_place x l)

  pub found_behind : (i : ℕ) → Some i ≡ position (λ y. eqb y x) l → take (length l - (i + 1)) (drop (i + 1) l) ≡ past x l
  unfolding past
  found_behind i e = rest_is (i + 1) l ∙ rw (add-one, place_some i e) refl

  pub none_ahead : None ≡ position (λ y. eqb y x) l → l ≡ up_to x l
  none_ahead e = sym (take_all (place_of x l) l (place_none e)) ∙ take_place x l

  pub none_behind : None ≡ position (λ y. eqb y x) l → [] ≡ past x l
  unfolding past
  none_behind e = let h = place_none e in let k : length l ≤ suc (place_of x l) = omega (arith, h) in sym (drop_of_length-le l k)

-- ---- digits

module _ (most value : ℕ) (l : List ℕ) (i : ℕ) (more : i < length l) where
  abbrev next : ℕ
  next = 10 * value + (get_or l i 0 - digit_zero)

  pub scan_no_digit : is_digit (get_or l i 0) ≡ false → scanned most value (drop i l) ≡ no_number
  unfolding scanned
  scan_no_digit e = rw (drop-cons l i 0 more, e)

  pub scan_too_large : most < next → scanned most value (drop i l) ≡ no_number
  unfolding scanned
  scan_too_large h = elim (test (is_digit (get_or l i 0))) [
    | inl t ↦ rw (drop-cons l i 0 more, t, lt-leb next most h)
    | inr f ↦ rw (drop-cons l i 0 more, f)
  ]

  pub scan_next : is_digit (get_or l i 0) ≡ true → next ≤ most → scanned most value (drop i l) ≡ scanned most next (drop (suc i) l)
  unfolding scanned
  scan_next e h = rw (drop-cons l i 0 more, e, le-leb next most h)

pub scan_end : (most value : ℕ) (l : List ℕ) (i : ℕ) → length l ≤ i → scanned most value (drop i l) ≡ value
unfolding scanned
scan_end most value l i h = rw (drop_of_length-le l h)

pub number_scanned : (most : ℕ) (l : List ℕ) → badly_begun l ≡ false → number_of most l ≡ scanned most 0 l
unfolding number_of
number_scanned most l e = rw e

-- ---- kinds

-- a word, as it is compared
pub same_is : (l m : List ℕ) → pointwise eqb l m ≡ same l m
same_is [] [] = refl
same_is [] (y ∷ m) = refl
same_is (x ∷ l) [] = refl
same_is (x ∷ l) (y ∷ m) = ap (λ (b : Bool). eqb x y && b) (same_is l m)

pub is_same : (l : List ℕ) {b c : Bool} {m word : List ℕ} → b ≡ pointwise eqb l m → m ≡ word → b ≡ c → same l word ≡ c
is_same l {b} {c} {m} {word} e w t = sym (same_is l word) ∙ ap (pointwise eqb l) (sym w) ∙ sym e ∙ t

-- ---- lines

module _ (number kind a b amount : ℕ) where
  pub whole_all : number < no_number → kind < no_number → a < no_number → b < no_number → amount < no_number → whole number kind a b amount ≡ Whole number kind a b amount
  unfolding whole
  whole_all n k p q m =
      rw (
        eqb_no number no_number (λ e. omega (arith, n, e)),
        eqb_no kind no_number (λ e. omega (arith, k, e)),
        eqb_no a no_number (λ e. omega (arith, p, e)),
        eqb_no b no_number (λ e. omega (arith, q, e)),
        eqb_no amount no_number (λ e. omega (arith, m, e)),
      ) refl

  -- a field that is no number
  pub no_kind : kind ≡ no_number → whole number kind a b amount ≡ malformed
  unfolding whole
  no_kind e = grind (arith, nat_tests)

  pub no_a : a ≡ no_number → whole number kind a b amount ≡ malformed
  unfolding whole
  no_a e = grind (arith, nat_tests)

  pub no_b : b ≡ no_number → whole number kind a b amount ≡ malformed
  unfolding whole
  no_b e = grind (arith, nat_tests)

  pub no_amount : amount ≡ no_number → whole number kind a b amount ≡ malformed
  unfolding whole
  no_amount e = grind (arith, nat_tests)

-- the fields behind the number, one after another
pub fields_are : (number : ℕ) (line : List ℕ) {kind second a third b amount : List ℕ}
    → kind ≡ up_to comma line
    → second ≡ past comma line
    → a ≡ up_to comma second
    → third ≡ past comma second
    → b ≡ up_to comma third
    → amount ≡ past comma third
    → fields_after number line ≡ whole number (kind_of kind) (number_of most_account a) (number_of most_account b) (number_of most_amount amount)
unfolding fields_after
fields_are number line k one p two q three = rw (three, q, two, p, one, k) refl

module _ (line : List ℕ) {first : List ℕ} (first_is : first ≡ up_to comma line) where
  pub entry_none : no_number ≡ number_of most_number first → malformed ≡ entry_of line
  unfolding entry_of fields_after whole alone
  entry_none e = elim (test (mem comma line)) [
    | inl t ↦ rw (t, sym (rw first_is at e)) refl
    | inr f ↦ rw (f, sym (rw first_is at e)) refl
  ]

  pub entry_alone : {number : ℕ} → number ≡ number_of most_number first → number ≤ most_number → length first ≡ length line → Number number ≡ entry_of line
  unfolding entry_of alone
  entry_alone {number} e h n =
      rw (mem_none comma line (rw first_is at n), sym (rw first_is at e), eqb_no number no_number (λ z. omega (arith, h, z))) refl

  pub entry_fields : {number : ℕ} → number ≡ number_of most_number first → length first ≢ length line → fields_after number (past comma line) ≡ entry_of line
  unfolding entry_of
  entry_fields {number} e n = rw (mem_some comma line (rw first_is at n), sym (rw first_is at e)) refl
