-- A slice filled from its beginning: the turns of the loop that copies, and the two values stored behind a board's numbers.
-- Rests on the specs, on image for the length of a row. Assumes nothing.
use Prim.Native.Nat.{ℕ, suc, ◌+◌, ◌<◌, ◌≤◌}
use mathlib.Core.Path.{◌≡◌, sym, ap, ◌∙◌}
use mathlib.Core.List.{List, [], ◌∷◌, ◌++◌, append_assoc}
use native.Mathlib.Omega.{arith}
use native.Mathlib.Numerals.{add-one}
use lib.ListN.{length, get_or, set, take, drop, length-append, length-drop}
use lib.Seq.{length-take-le, take_all, take-suc, drop-cons, append_snoc, set_at}
use Rattle.machine.specs.declared.Board.{Board}
use Rattle.image.specs.Layout.{image_long}
use Rattle.image.specs.Image.{image_of}
use Rattle.by_value.specs.Changed.{filled_long, filled}

-- ---- numbers copied

module _ (values out : List ℕ) where
  -- the first k are copied
  abbrev pub copied : ℕ → List ℕ
  copied k = take k values ++ drop k out

  pub copied_long : (k : ℕ) → k ≤ length values → length values ≤ length out → length (copied k) ≡ length out
  copied_long k h room = omega (arith, length-append (take k values) (drop k out), length-take-le k values h, length-drop k out)

  pub copied_more : (k : ℕ) (r : List ℕ) → k < length values → length values ≤ length out → r ≡ copied k → set r k (get_or values k 0) ≡ copied (k + 1)
  copied_more k r h room e =
      let n : length (take k values) ≡ k = length-take-le k values (omega arith) in
      let b : k < length out = omega arith in
      ap (λ (t : List ℕ). set t k (get_or values k 0)) (e ∙ ap (λ (t : List ℕ). take k values ++ t) (drop-cons out k 0 b))
      ∙ set_at (take k values) (get_or out k 0) (drop (suc k) out) (get_or values k 0) k n
      ∙ sym (append_snoc (take k values) (get_or values k 0) (drop (suc k) out))
      ∙ ap (λ (t : List ℕ). t ++ drop (suc k) out) (sym (take-suc values k 0 h))
      ∙ ap copied (sym (add-one k))

  pub copied_all : (k : ℕ) → k ≤ length values → length values ≤ k → copied k ≡ values ++ drop (length values) out
  copied_all k h l =
      let same : k ≡ length values = omega arith in
      ap (λ (t : List ℕ). t ++ drop k out) (take_all k values l) ∙ ap (λ (n : ℕ). values ++ drop n out) same

-- ---- two values behind a row

two_stored : (row : List ℕ) (x y first second : ℕ) (rest : List ℕ) (n : ℕ) → length row ≡ n
    → set (set (row ++ x ∷ y ∷ rest) n first) (suc n) second ≡ row ++ (first ∷ second ∷ []) ++ rest
two_stored row x y first second rest n e =
    let long : length (row ++ (first ∷ [])) ≡ suc n = omega (arith, length-append row (first ∷ [])) in
    ap (λ (t : List ℕ). set t (suc n) second) (set_at row x (y ∷ rest) first n e ∙ sym (append_snoc row first (y ∷ rest)))
    ∙ set_at (row ++ (first ∷ [])) y rest second (suc n) long
    ∙ append_snoc row first (second ∷ rest)
    ∙ sym (append_assoc row (first ∷ second ∷ []) rest)

pub values_stored : (b : Board) (first second : ℕ) (row slice out : List ℕ) → row ≡ image_of b → length (image_of b) ≡ image_long → filled_long ≤ length slice
    → out ≡ row ++ drop (length row) slice → set (set out image_long first) (image_long + 1) second ≡ filled b first second slice
values_stored b first second row slice out er long room eo =
    let n : length row ≡ image_long = ap length er ∙ long in
    let one : image_long < length slice = omega arith in
    let two : suc image_long < length slice = omega arith in
    let x = get_or slice image_long 0 in
    let y = get_or slice (suc image_long) 0 in
    let rest = drop filled_long slice in
    let opened : drop (length row) slice ≡ x ∷ y ∷ rest = ap (λ (k : ℕ). drop k slice) n ∙ drop-cons slice image_long 0 one ∙ ap (λ (t : List ℕ). x ∷ t) (drop-cons slice (suc image_long) 0 two) in
    ap (λ (t : List ℕ). set (set t image_long first) (image_long + 1) second) (eo ∙ ap (λ (t : List ℕ). row ++ t) opened)
    ∙ two_stored row x y first second rest image_long n
    ∙ ap (λ (t : List ℕ). t ++ (first ∷ second ∷ []) ++ rest) er
