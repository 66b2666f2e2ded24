-- Laws of the texts: a number by its last digit or its last two, and lines and items with one more at the end.
-- Rests on Output. Assumes nothing.
use Prim.Native.Nat.{ℕ, zero, suc, ◌+◌, ◌*◌, ◌/◌, ◌%◌, ◌<◌, ◌≤◌}
use mathlib.Core.Path.{◌≡◌, refl, sym, ap, ◌∙◌}
use mathlib.Core.Logic.{inl, inr}
use mathlib.Core.List.{List, [], ◌∷◌, ◌++◌, append_assoc, append-nil}
use native.Mathlib.Numerals.{add-one}
use native.Mathlib.Omega.{arith}
use lib.Dec.{ltb}
use lib.ListN.{length, get_or, take, length-take}
use lib.Seq.{take-suc}
use borrow.Author.Tests.{lt-ltb, le-ltb, ltb-false}
use Rattle.sets.proofs.Truth.{test}
use Rattle.printer.specs.Output.{last_digit, digits, decimal, event_line, event_lines, items, space}

-- ---- numbers

-- a number has enough digits in as many places as it says
digits_enough : (f g n : ℕ) → n ≤ f → n ≤ g → digits f n ≡ digits g n
unfolding digits
digits_enough zero zero n hf hg = refl
digits_enough zero (suc g) n hf hg = rw (lt-ltb n 10 (omega arith))
digits_enough (suc f) zero n hf hg = rw (lt-ltb n 10 (omega arith))
digits_enough (suc f) (suc g) n hf hg = elim (test (ltb n 10)) [
  | inl t ↦ rw t
  | inr u ↦
      let b : 10 ≤ n = ltb-false n 10 u in
      rw u (ap (λ (l : List ℕ). l ++ (last_digit n ∷ [])) (digits_enough f g (n / 10) (omega arith) (omega arith)))
]

pub decimal_last : (n : ℕ) → n < 10 → last_digit n ∷ [] ≡ decimal n
unfolding decimal digits
decimal_last zero h = refl
decimal_last (suc n) h = rw (lt-ltb (suc n) 10 h)

pub decimal_more : (n : ℕ) → 10 ≤ n → decimal (n / 10) ++ (last_digit n ∷ []) ≡ decimal n
unfolding decimal digits
decimal_more zero h = absurd (omega arith)
decimal_more (suc n) h =
    let m = suc n / 10 in
    rw (le-ltb (suc n) 10 h) (ap (λ (l : List ℕ). l ++ (last_digit (suc n) ∷ [])) (digits_enough m n m (omega arith) (omega arith)))

-- two digits at a time
pub decimal_two : (n : ℕ) → 10 ≤ n → n < 100 → last_digit (n / 10) ∷ last_digit n ∷ [] ≡ decimal n
decimal_two n h k = ap (λ (l : List ℕ). l ++ (last_digit n ∷ [])) (decimal_last (n / 10) (omega arith)) ∙ decimal_more n h

pub decimal_hundreds : (n : ℕ) → 100 ≤ n → decimal (n / 100) ++ (last_digit (n / 10) ∷ last_digit n ∷ []) ≡ decimal n
decimal_hundreds n h =
    let ten : n / 100 ≡ n / 10 / 10 = omega arith in
    let more : decimal (n / 100) ++ (last_digit (n / 10) ∷ []) ≡ decimal (n / 10) = rw ten (decimal_more (n / 10) (omega arith)) in
    sym (append_assoc (decimal (n / 100)) (last_digit (n / 10) ∷ []) (last_digit n ∷ []))
    ∙ ap (λ (l : List ℕ). l ++ (last_digit n ∷ [])) more
    ∙ decimal_more n (omega arith)

-- two bytes out of one number
bytes_of : (a b : ℕ) → a < 256 → (a + 256 * b) % 256 ∷ (a + 256 * b) / 256 ∷ [] ≡ a ∷ b ∷ []
bytes_of a b h =
    let low : (a + 256 * b) % 256 ≡ a = omega arith in
    let high : (a + 256 * b) / 256 ≡ b = omega arith in
    rw (low, high)

-- the last two digits out of the number that their bytes make
pub two_digits : (n : ℕ) → let both = 48 + n % 100 / 10 + 256 * (48 + n % 100 % 10) in both % 256 ∷ both / 256 ∷ [] ≡ last_digit (n / 10) ∷ last_digit n ∷ []
two_digits n =
    let tens : n % 100 / 10 ≡ n / 10 % 10 = omega arith in
    let ones : n % 100 % 10 ≡ n % 10 = omega arith in
    rw (tens, ones) (bytes_of (last_digit (n / 10)) (last_digit n) (omega arith))

-- ---- lines and items with one more

lines_last : (l : List ℕ) (k r : ℕ) → event_lines k (l ++ (r ∷ [])) ≡ event_lines k l ++ event_line (k + length l + 1) r
unfolding event_lines
lines_last [] k r = let e : k + 1 ≡ k + 0 + 1 = omega arith in append-nil (event_line (k + 1) r) ∙ ap (λ (n : ℕ). event_line n r) e
lines_last (x ∷ l) k r =
    let e : k + 1 + length l + 1 ≡ k + suc (length l) + 1 = omega arith in
    rw (lines_last l (k + 1) r, e) (sym (append_assoc (event_line (k + 1) x) (event_lines (k + 1) l) (event_line (k + suc (length l) + 1) r)))

items_last : (l : List ℕ) (m : ℕ) → items (l ++ (m ∷ [])) ≡ items l ++ (space ++ decimal m)
unfolding items
items_last [] m = ap (λ (t : List ℕ). space ++ t) (append-nil (decimal m))
items_last (x ∷ l) m =
    ap (λ (t : List ℕ). space ++ (decimal x ++ t)) (items_last l m)
    ∙ ap (λ (t : List ℕ). space ++ t) (sym (append_assoc (decimal x) (items l) (space ++ decimal m)))

-- the first i of a list, and the next
pub line_more : (l : List ℕ) (i : ℕ) → i < length l
    → event_lines 0 (take i l) ++ event_line (i + 1) (get_or l i 0) ≡ event_lines 0 (take (i + 1) l)
line_more l i h =
    let n : 0 + length (take i l) + 1 ≡ i + 1 = omega (arith, length-take i l) in
    rw (add-one i, take-suc l i 0 h, lines_last (take i l) 0 (get_or l i 0), n, add-one i)

pub item_more : (l : List ℕ) (i : ℕ) → i < length l → items (take i l) ++ (space ++ decimal (get_or l i 0)) ≡ items (take (i + 1) l)
item_more l i h = rw (add-one i, take-suc l i 0 h, items_last (take i l) (get_or l i 0))
