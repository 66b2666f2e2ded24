-- Laws of writing: one text after another is their concatenation; what room is left after a text; a text that fits stands at the beginning, one that does not is seen by its place.
-- Rests on Writing. Assumes nothing.
use Prim.Native.Nat.{ℕ, suc, min, ◌+◌, ◌<◌, ◌≤◌}
use mathlib.Core.Path.{◌≡◌, refl, sym, ap, ◌∙◌}
use mathlib.Core.Logic.{inl, inr}
use mathlib.Core.Bool.{cond}
use mathlib.Core.List.{List, [], ◌∷◌, ◌++◌}
use native.Mathlib.Numerals.{add-one}
use native.Mathlib.Omega.{arith}
use lib.Dec.{ltb, leb}
use lib.ListN.{length, take, drop, set, length-set, length-append}
use lib.Seq.{sets, sets-eq, take-append_seam}
use borrow.Author.Tests.{lt-ltb, ltb-true, ltb-false, le-leb, lt-leb}
use Rattle.sets.proofs.Truth.{test}
use Rattle.std.specs.Prelude.{Option, Some, None}
use Rattle.printer.specs.Writing.{slice_printed, written_of, answer_printed}
use Rattle.printer.specs.Puts.{last_place, next, after, putting, Put}

-- ---- one text after another

after_append : (a b : List ℕ) (at : ℕ) → after at (a ++ b) ≡ after (after at a) b
unfolding after
after_append [] b at = refl
after_append (x ∷ a) b at = after_append a b (next at)

putting_append : (a b s : List ℕ) (at : ℕ) → putting s at (a ++ b) ≡ putting (putting s at a) (after at a) b
unfolding after putting
putting_append [] b s at = refl
putting_append (x ∷ a) b s at = putting_append a b (set s at x) (next at)

-- Writing a text and then another after it is writing their concatenation.
pub then_put : {a b : List ℕ} {at p q : ℕ} {s t u : List ℕ} → Put a at s t p → Put b p t u q → Put (a ++ b) at s u q
then_put {a} {b} {at} {p} {q} {s} {t} {u} x y = record {
  moved = y.moved ∙ ap (λ (n : ℕ). after n b) x.moved ∙ sym (after_append a b at);
  holds = y.holds ∙ rw (x.moved, x.holds) (sym (putting_append a b s at));
}

pub nothing_put : (at : ℕ) (s : List ℕ) → Put [] at s s at
unfolding after putting
nothing_put at s = record { moved = refl; holds = refl }

pub put_as : {a b : List ℕ} {at p : ℕ} {s t : List ℕ} → a ≡ b → Put a at s t p → Put b at s t p
put_as {a} {b} {at} {p} {s} {t} e x = rw e at x

length_putting : (a s : List ℕ) (at : ℕ) → length (putting s at a) ≡ length s
unfolding putting
length_putting [] s at = refl
length_putting (x ∷ a) s at = length_putting a (set s at x) (next at) ∙ length-set s at x

-- the slice keeps its length
pub put_length : {a : List ℕ} {at p : ℕ} {s t : List ℕ} → Put a at s t p → length t ≡ length s
put_length {a} {at} {p} {s} {t} x = ap length x.holds ∙ length_putting a s at

-- ---- where a text ends

after_within : (a : List ℕ) (at : ℕ) → after at a ≤ at + length a
unfolding after
after_within [] at = omega arith
after_within (x ∷ a) at = elim (test (ltb at last_place)) [
  | inl t ↦ rw t (omega (arith, after_within a (at + 1)))
  | inr f ↦ rw f (omega (arith, after_within a at))
]

pub after_is : (a : List ℕ) (at : ℕ) → at ≤ last_place → after at a ≡ min (at + length a) last_place
unfolding after
after_is [] at h = omega arith
after_is (x ∷ a) at h = elim (test (ltb at last_place)) [
  | inl t ↦ rw t (let l : at < last_place = ltb-true at last_place t in omega (arith, after_is a (at + 1) (omega arith)))
  | inr f ↦ rw f (let l : last_place ≤ at = ltb-false at last_place f in omega (arith, after_is a at h))
]

putting_sets : (a s : List ℕ) (at : ℕ) → at + length a ≤ last_place → putting s at a ≡ sets s at a
unfolding putting
putting_sets [] s at h = refl
putting_sets (x ∷ a) s at h =
    let l : at < last_place = omega arith in
    rw (lt-ltb at last_place l, add-one) (putting_sets a (set s at x) (suc at) (omega arith))

-- ---- room

-- where there was room for a text and more bytes, there is room for these after it
pub put_room : {a : List ℕ} {at p : ℕ} {s t : List ℕ} (more : ℕ) → Put a at s t p → at + (length a + more) ≤ length s → p + more ≤ length t
put_room {a} {at} {p} {s} {t} more x h = omega (arith, x.moved, after_within a at, put_length x)

-- ---- a text that fits, and one that does not

-- nothing is put into no bytes
pub none_held : (a : List ℕ) (at : ℕ) → putting [] at a ≡ []
unfolding putting
none_held [] at = refl
none_held (x ∷ a) at = none_held a (next at)

-- what a contract says of a text printed into a slice: the answer, the slice after it, and the answer's number and values
abbrev pub Prints : List ℕ → List ℕ → Option ℕ → List ℕ → Type 0
Prints text s x t = (x ≡ answer_printed text s) × ((t ≡ slice_printed text s) × (written_of x ≡ written_of (answer_printed text s)))

pub fits_written : (text s : List ℕ) → length text ≤ length s → (answer_printed text s ≡ Some (length text)) × (slice_printed text s ≡ text ++ drop (length text) s)
unfolding answer_printed slice_printed
fits_written text s l = rw (le-leb (length text) (length s) l) (refl, refl)

-- a text no longer than the slice, written from its beginning on
module _ (text s u : List ℕ) (end : ℕ) (room : length s < last_place) (l : length text ≤ length s) (x : Put text 0 s u end) where
  all_written : end ≡ length text
  all_written = omega (arith, x.moved, after_is text 0 (omega arith))

  stands : u ≡ text ++ drop (length text) s
  stands =
      let n : 0 + length text ≡ length text = omega arith in
      x.holds ∙ putting_sets text s 0 (omega arith) ∙ sets-eq text s 0 (omega arith) ∙ ap (λ (k : ℕ). text ++ drop k s) n

  pub text_read : take end u ≡ text
  text_read = rw (all_written, stands) (take-append_seam text (drop (length text) s))

  pub at_once : Prints text s (Some end) u
  unfolding answer_printed slice_printed
  at_once =
      rw (le-leb (length text) (length s) l) (ap Some all_written, (stands, ap (λ (k : ℕ). written_of (Some k)) all_written))

-- the text was counted on no bytes of the slice, which are t after that
module _ (text s t : List ℕ) (needed : ℕ) (counted : Put text 0 [] t needed) where
  stays : t ++ s ≡ s
  stays = ap (λ (l : List ℕ). l ++ s) (counted.holds ∙ none_held text 0)

  place_is : needed ≡ min (0 + length text) last_place
  place_is = counted.moved ∙ after_is text 0 (omega arith)

  pub too_short : length (t ++ s) < needed → Prints text s None (t ++ s)
  unfolding answer_printed slice_printed
  too_short h = rw (lt-leb (length text) (length s) (omega (arith, place_is, ap length stays))) (refl, (stays, refl))

  pub written : (u : List ℕ) (end : ℕ) → length s < last_place → needed ≤ length (t ++ s) → Put text 0 (t ++ s) u end → Prints text s (Some end) u
  written u end room h x =
      let l : length text ≤ length s = omega (arith, place_is, ap length stays) in
      at_once text s u end room l (rw stays at x)

-- ---- what was written is part of the slice

abbrev count_in : Option ℕ → ℕ
count_in (Some count) = count
count_in None = 0

pub written_within : (text s t : List ℕ) (count : ℕ) (x : Option ℕ) → x ≡ Some count → x ≡ answer_printed text s → t ≡ slice_printed text s → count ≤ length t
unfolding answer_printed slice_printed
written_within text s t count x w a e =
    let same : count ≡ count_in (cond (leb (length text) (length s)) (Some (length text)) None) = ap count_in (sym w ∙ a) in
    elim (test (leb (length text) (length s))) [
      | inl l ↦
          let n : count ≡ length text = rw l at same in
          let long : length t ≡ length (text ++ drop (length text) s) = ap length (rw l at e) in
          omega (arith, n, long, length-append text (drop (length text) s))
      | inr l ↦ let n : count ≡ 0 = rw l at same in omega (arith, n)
    ]
