-- A file's lines one after another: what a text says is what its first line says and what the others say.
-- Rests on Entries, Steps and EntryLaws. Assumes nothing.
use Prim.Native.Nat.{ℕ, zero, suc, ◌-◌, ◌<◌, ◌≤◌}
use mathlib.Core.Path.{◌≡◌, refl, sym, ap, ◌∙◌}
use mathlib.Core.Logic.{inl, inr, ◌≢◌}
use mathlib.Core.Bool.{true, false, cond, and-true, false≢true}
use mathlib.Core.List.{List, [], ◌∷◌}
use native.Mathlib.Omega.{arith}
use lib.Dec.{eqb}
use lib.Pointwise.{pointwise}
use lib.Seq.{drop-cons}
use lib.ListN.{length, get_or, take, drop, length-drop, drop_of_length-le}
use borrow.Author.Tests.{eqb-true}
use Rattle.broadcast.proofs.Tests.{test}
use Rattle.audit_rule.specs.Audit.{up_to}
use Rattle.audit_rule.specs.Handed.{place_of}
use Rattle.audit_files.specs.declared.Entry.{Entry}
use Rattle.audit_files.specs.Entries.{line_feed, carriage_return, past, bare, first_line, entry_of, entries_of, headed, entries}
use Rattle.audit_files.specs.Steps.{entries_in}
use Rattle.audit_files.proofs.EntryLaws.{mem_none, mem_some}

-- ---- lines with more fuel than they need

-- past a line a text is shorter, unless there was nothing
pub past_shorter : (text : List ℕ) → 0 < length text → length (past line_feed text) < length text
unfolding past
past_shorter text h = let d = length-drop (suc (place_of line_feed text)) text in omega (arith, d, h)

pub past_within : (text : List ℕ) → length (past line_feed text) ≤ length text
unfolding past
past_within text = let d = length-drop (suc (place_of line_feed text)) text in omega (arith, d)

entries_fuel : (m n : ℕ) (l : List ℕ) → length l ≤ m → length l ≤ n → entries_of m l ≡ entries_of n l
unfolding entries_of
entries_fuel zero zero l h k = refl
entries_fuel zero (suc n) [] h k = refl
entries_fuel zero (suc n) (z ∷ l) h k = absurd (omega (arith, h))
entries_fuel (suc m) zero [] h k = refl
entries_fuel (suc m) zero (z ∷ l) h k = absurd (omega (arith, k))
entries_fuel (suc m) (suc n) [] h k = refl
entries_fuel (suc m) (suc n) (z ∷ l) h k =
    let s = past_shorter (z ∷ l) (omega arith) in
    let a : length (past line_feed (z ∷ l)) ≤ m = omega (arith, s, h) in
    let b : length (past line_feed (z ∷ l)) ≤ n = omega (arith, s, k) in
    ap (λ (r : List Entry). entry_of (first_line (z ∷ l)) ∷ r) (entries_fuel m n (past line_feed (z ∷ l)) a b)

-- ---- one line on

pub some_left : (text : List ℕ) → false ≡ eqb (length text) 0 → 0 < length text
some_left [] h = absurd (false≢true h)
some_left (z ∷ l) h = omega arith

pub none_left : (text : List ℕ) → true ≡ eqb (length text) 0 → length text ≡ 0
none_left text h = eqb-true (length text) 0 (sym h)

pub lines_next : (text : List ℕ) → 0 < length text → entries_in text ≡ entry_of (first_line text) ∷ entries_in (past line_feed text)
unfolding entries_of
lines_next [] h = absurd (omega (arith, h))
lines_next (z ∷ l) h =
    let s = past_shorter (z ∷ l) h in
    let more = past line_feed (z ∷ l) in
    ap (λ (r : List Entry). entry_of (first_line (z ∷ l)) ∷ r) (entries_fuel (length l) (length more) more (omega (arith, s)) (omega arith))

pub lines_end : (text : List ℕ) → length text ≡ 0 → entries_in text ≡ []
unfolding entries_of
lines_end [] h = refl
lines_end (z ∷ l) h = absurd (omega (arith, h))

-- ---- the first line

pub open_line : (text : List ℕ) → length (up_to line_feed text) ≡ length text → up_to line_feed text ≡ first_line text
unfolding first_line
open_line text e = rw (mem_none line_feed text e) refl

pub ended_line : (text : List ℕ) → length (up_to line_feed text) ≢ length text → bare (up_to line_feed text) ≡ first_line text
unfolding first_line
ended_line text d = rw (mem_some line_feed text d) refl

-- the last byte, as it is compared
suffix_is : (l : List ℕ) → pointwise eqb (drop (length l - 1) l) (carriage_return ∷ []) ≡ eqb (get_or l (length l - 1) 0) carriage_return
suffix_is [] = refl
suffix_is (z ∷ l) =
    let here : length l < length (z ∷ l) = omega arith in
    let last : length (z ∷ l) - 1 ≡ length l = omega arith in
    rw (last, drop-cons (z ∷ l) (length l) 0 here, drop_of_length-le (z ∷ l) {i = suc (length l)} (omega arith)) (and-true _)

pub bare_returned : (l text : List ℕ) → pointwise eqb (drop (length l - 1) l) (carriage_return ∷ []) ≡ true → text ≡ take (length l - 1) l → text ≡ bare l
unfolding bare
bare_returned l text e t = rw (sym (suffix_is l) ∙ e) t

pub bare_plain : (l : List ℕ) → pointwise eqb (drop (length l - 1) l) (carriage_return ∷ []) ≡ false → l ≡ bare l
unfolding bare
bare_plain l e = rw (sym (suffix_is l) ∙ e) refl

-- ---- the first line that is no heading

pub below_is : (file rest : List ℕ) → rest ≡ cond (headed file) (past line_feed file) file → (length rest ≤ length file) × (entries_in rest ≡ entries file)
unfolding entries
below_is file rest e =
    let below = cond (headed file) (past line_feed file) file in
    let within : length below ≤ length file = elim (test (headed file)) [
      | inl t ↦ rw t (past_within file)
      | inr f ↦ rw f (omega arith)
    ] in
    rw e (within, entries_fuel (length below) (length file) below (omega arith) within)
