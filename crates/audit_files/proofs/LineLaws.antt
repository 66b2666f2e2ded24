-- What the loops over a file's lines keep: all that the file does is what its lines have done, and what those that are left will do.
-- Rests on Files, Steps, FileLaws and Kept. Assumes nothing.
use Prim.Native.Nat.{ℕ, suc, ◌+◌, ◌-◌, ◌<◌, ◌≤◌}
use mathlib.Core.Path.{◌≡◌, refl, sym, ap, ◌∙◌, subst}
use mathlib.Core.Logic.{inl, inr}
use mathlib.Core.Bool.{Bool, cond}
use mathlib.Core.List.{List, [], ◌∷◌, append_assoc}
use native.Mathlib.Omega.{arith}
use native.Mathlib.Numerals.{add-one}
use lib.Dec.{leb}
use lib.ListN.{length, get_or, set, take, drop, length-set, length-take}
use lib.Seq.{sets, sets-eq, take-nil}
use borrow.Author.Tests.{leb-true, leb-false}
use Rattle.broadcast.proofs.Tests.{test}
use Rattle.audit_files.specs.declared.Entry.{Entry}
use Rattle.audit_files.specs.declared.Refused.{Refused}
use Rattle.audit_files.specs.declared.files.Store.{Store}
use Rattle.audit_files.specs.Entries.{line_feed, past, first_line, entry_of, headed, top_line, entries, number_in}
use Rattle.audit_files.specs.Files.{refusing, nothing, lower, kept, posting_code, kept_all, postings_refused, line_code, lines_refused, numbers_of, most_lines, record_lines, with_lines}
use Rattle.audit_files.specs.Steps.{entries_in}
use Rattle.audit_files.proofs.FileLaws.{past_shorter, lines_next, lines_end}
use Rattle.audit_files.proofs.Kept.{Roomy, kept_roomy}

-- ---- the number of a line

pub top_most : (file : List ℕ) → top_line file ≤ 2
unfolding top_line
top_most file = elim (test (headed file)) [ inl t ↦ rw t (omega arith) | inr f ↦ rw f (omega arith) ]

-- ---- postings

module _ (own : Bool) (file : ℕ) (text : List ℕ) (s₀ : Store) where
  -- what is kept of the lines so far, and their first refusal
  pub record Noting (s : Store) (refused : Refused) (line : ℕ) (rest : List ℕ) : Type 0 where
    pub few : line + length rest ≤ length text + 2
    pub keeps_all : kept_all file line (entries_in rest) s ≡ kept_all file (top_line text) (entries text) s₀
    pub refuses_all : postings_refused own file line (entries_in rest) s refused ≡ postings_refused own file (top_line text) (entries text) s₀ nothing

  pub noting_start : {refused : Refused} {line : ℕ} {rest : List ℕ} → refused ≡ nothing → line ≡ top_line text → (length rest ≤ length text) × (entries_in rest ≡ entries text)
      → Noting s₀ refused line rest
  noting_start {refused} {line} {rest} refused-is line_is rest-is = let m = top_most text in record {
    few = omega (arith, line_is, m, rest-is.0);
    keeps_all = ap (λ (n : ℕ). kept_all file n (entries_in rest) s₀) line_is ∙ ap (λ (l : List Entry). kept_all file (top_line text) l s₀) rest-is.1;
    refuses_all = ap (λ (z : Refused). postings_refused own file line (entries_in rest) s₀ z) refused-is ∙ ap (λ (n : ℕ). postings_refused own file n (entries_in rest) s₀ nothing) line_is ∙ ap (λ (l : List Entry). postings_refused own file (top_line text) l s₀ nothing) rest-is.1;
  }

  module _ {s : Store} {refused : Refused} {line : ℕ} {rest : List ℕ} (so_far : Noting s refused line rest) where
    pub noting_next : {s' : Store} {refused' : Refused} (e : Entry) {next : List ℕ} → 0 < length rest → e ≡ entry_of (first_line rest) → next ≡ past line_feed rest
        → s' ≡ kept file line e s
        → refused' ≡ lower refused (refusing (posting_code own s.kinds e) file line (number_in e) (get_or s.wheres (number_in e) 0))
        → Noting s' refused' (line + 1) next
    unfolding kept_all postings_refused
    noting_next {s'} {refused'} e {next} h e-is next-is kept-is refused-is =
        let shorter : length next < length rest = rw next-is (past_shorter rest h) in
        let few = so_far.few in
        let left = entries_in next in
        let here : e ∷ left ≡ entries_in rest = rw (e-is, next-is) (sym (lines_next rest h)) in
        record {
          few = omega (arith, shorter, few);
          keeps_all =
              ap (λ (n : ℕ). kept_all file n left s') (add-one line)
              ∙ ap (λ (z : Store). kept_all file (suc line) left z) kept-is
              ∙ ap (λ (l : List Entry). kept_all file line l s) here
              ∙ so_far.keeps_all;
          refuses_all =
              ap (λ (n : ℕ). postings_refused own file n left s' refused') (add-one line)
              ∙ ap (λ (z : Store). postings_refused own file (suc line) left z refused') kept-is
              ∙ ap (λ (z : Refused). postings_refused own file (suc line) left (kept file line e s) z) refused-is
              ∙ ap (λ (l : List Entry). postings_refused own file line l s refused) here
              ∙ so_far.refuses_all;
        }

    pub noting_end : length rest ≡ 0 → (refused ≡ postings_refused own file (top_line text) (entries text) s₀ nothing) × (s ≡ kept_all file (top_line text) (entries text) s₀)
    unfolding kept_all postings_refused
    noting_end h =
        let none = sym (lines_end rest h) in (
          ap (λ (l : List Entry). postings_refused own file line l s refused) none ∙ so_far.refuses_all,
          ap (λ (l : List Entry). kept_all file line l s) none ∙ so_far.keeps_all,
        )

  -- the same in slices that have a place for every number
  pub record RoomyNoting (s : Store) (refused : Refused) (line : ℕ) (rest : List ℕ) : Type 0 where
    pub noting : Noting s refused line rest
    pub room : Roomy s

  pub roomy_start : {refused : Refused} {line : ℕ} {rest : List ℕ} → refused ≡ nothing → line ≡ top_line text → (length rest ≤ length text) × (entries_in rest ≡ entries text)
      → Roomy s₀
      → RoomyNoting s₀ refused line rest
  roomy_start refused-is line_is rest-is roomy = record { noting = noting_start refused-is line_is rest-is; room = roomy }

  module _ {s : Store} {refused : Refused} {line : ℕ} {rest : List ℕ} (so_far : RoomyNoting s refused line rest) where
    pub roomy_next : {s' : Store} {refused' : Refused} (e : Entry) {next : List ℕ} → 0 < length rest → e ≡ entry_of (first_line rest) → next ≡ past line_feed rest
        → s' ≡ kept file line e s
        → refused' ≡ lower refused (refusing (posting_code own s.kinds e) file line (number_in e) (get_or s.wheres (number_in e) 0))
        → RoomyNoting s' refused' (line + 1) next
    roomy_next e h e-is next-is kept-is refused-is = record {
      noting = noting_next so_far.noting e h e-is next-is kept-is refused-is;
      room = subst Roomy (sym kept-is) (kept_roomy file line e s so_far.room);
    }

    pub roomy_end : length rest ≡ 0 → (refused ≡ postings_refused own file (top_line text) (entries text) s₀ nothing) × (s ≡ kept_all file (top_line text) (entries text) s₀)
    roomy_end h = noting_end so_far.noting h

-- ---- a record's lines

numbers_long : (l : List Entry) → length (numbers_of l) ≡ length l
unfolding numbers_of
numbers_long [] = refl
numbers_long (e ∷ l) = ap suc (numbers_long l)

module _ (most : ℕ) where
  -- what is still handed on of the lines that are left, behind `count` others
  unfoldable pub left_of : ℕ → List Entry → List ℕ
  left_of count l = numbers_of (take (most - count) l)

  left_none : (count : ℕ) → left_of count [] ≡ []
  unfolding left_of numbers_of
  left_none count = ap numbers_of (take-nil (most - count))

  left_full : (count : ℕ) (l : List Entry) → most ≤ count → left_of count l ≡ []
  unfolding left_of numbers_of
  left_full count l h = let e : most - count ≡ 0 = omega (arith, h) in ap (λ (n : ℕ). numbers_of (take n l)) e

  left_next : (count : ℕ) (e : Entry) (l : List Entry) → count < most → left_of count (e ∷ l) ≡ number_in e ∷ left_of (suc count) l
  unfolding left_of numbers_of
  left_next count e l h = let s : most - count ≡ suc (most - suc count) = omega (arith, h) in ap (λ (n : ℕ). numbers_of (take n (e ∷ l))) s

  left_all : (l : List Entry) → left_of 0 l ≡ numbers_of (take most l)
  unfolding left_of
  left_all l = let s : most - 0 ≡ most = omega arith in ap (λ (n : ℕ). numbers_of (take n l)) s

  module _ (from : ℕ) (lines : List ℕ) (count : ℕ) (e : Entry) (l : List Entry) {lines' : List ℕ} {count' : ℕ}
      (count-is : count' ≡ cond (leb most count) count (count + 1))
      (lines-is : lines' ≡ cond (leb most count) lines (set lines (from + count) (number_in e))) where
    put_next : sets lines' (from + count') (left_of count' l) ≡ sets lines (from + count) (left_of count (e ∷ l))
    put_next = elim (test (leb most count)) [
      | inl t ↦
          let m = leb-true most count t in
          let a : count' ≡ count = count-is ∙ rw t in
          let b : lines' ≡ lines = lines-is ∙ rw t in
          rw (a, b, left_full count l m, left_full count (e ∷ l) m)
      | inr f ↦
          let m = leb-false most count f in
          let a : count' ≡ suc count = count-is ∙ rw f (add-one count) in
          let b : lines' ≡ set lines (from + count) (number_in e) = lines-is ∙ rw f in
          let s : from + suc count ≡ suc (from + count) = omega arith in
          rw (a, b, left_next count e l m, s)
    ]

    count_next : count' + length (left_of count' l) ≡ count + length (left_of count (e ∷ l))
    count_next = elim (test (leb most count)) [
      | inl t ↦
          let m = leb-true most count t in
          let a : count' ≡ count = count-is ∙ rw t in
          rw (a, left_full count l m, left_full count (e ∷ l) m)
      | inr f ↦
          let m = leb-false most count f in
          let a : count' ≡ suc count = count-is ∙ rw f (add-one count) in
          rw (a, left_next count e l m) (omega arith)
    ]

    long_next : length lines' ≡ length lines
    long_next = elim (test (leb most count)) [
      | inl t ↦ let b : lines' ≡ lines = lines-is ∙ rw t in ap length b
      | inr f ↦ let b : lines' ≡ set lines (from + count) (number_in e) = lines-is ∙ rw f in ap length b ∙ length-set lines (from + count) (number_in e)
    ]

module _ (s : Store) (file : ℕ) (text : List ℕ) (lines₀ : List ℕ) (from : ℕ) where
  -- the lines handed on so far, and their first refusal
  pub record Reading (lines : List ℕ) (refused : Refused) (count line : ℕ) (rest : List ℕ) : Type 0 where
    pub few : line + length rest ≤ length text + 2
    pub long : length lines ≡ length lines₀
    pub counts_all : count + length (left_of most_lines count (entries_in rest)) ≡ length (record_lines (entries text))
    pub puts_all : sets lines (from + count) (left_of most_lines count (entries_in rest)) ≡ sets lines₀ from (record_lines (entries text))
    pub refuses_all : lines_refused s file line (entries_in rest) refused ≡ lines_refused s file (top_line text) (entries text) nothing

  pub reading_start : {refused : Refused} {line : ℕ} {rest : List ℕ} → refused ≡ nothing → line ≡ top_line text → (length rest ≤ length text) × (entries_in rest ≡ entries text) → Reading lines₀ refused 0 line rest
  unfolding record_lines
  reading_start {refused} {line} {rest} refused-is line_is rest-is =
      let m = top_most text in
      let all : left_of most_lines 0 (entries_in rest) ≡ record_lines (entries text) = ap (left_of most_lines 0) rest-is.1 ∙ left_all most_lines (entries text) in
      let f : from + 0 ≡ from = omega arith in
      let z : 0 + length (record_lines (entries text)) ≡ length (record_lines (entries text)) = omega arith in
      record {
        few = omega (arith, line_is, m, rest-is.0);
        long = refl;
        counts_all = ap (λ (l : List ℕ). 0 + length l) all ∙ z;
        puts_all = ap (λ (l : List ℕ). sets lines₀ (from + 0) l) all ∙ ap (λ (i : ℕ). sets lines₀ i (record_lines (entries text))) f;
        refuses_all = ap (λ (z : Refused). lines_refused s file line (entries_in rest) z) refused-is ∙ ap (λ (n : ℕ). lines_refused s file n (entries_in rest) nothing) line_is ∙ ap (λ (l : List Entry). lines_refused s file (top_line text) l nothing) rest-is.1;
      }

  module _ {lines : List ℕ} {refused : Refused} {count line : ℕ} {rest : List ℕ} (so_far : Reading lines refused count line rest) where
    pub reading_next : {lines' : List ℕ} {refused' : Refused} {count' : ℕ} (e : Entry) {next : List ℕ} → 0 < length rest → e ≡ entry_of (first_line rest) → next ≡ past line_feed rest
        → count' ≡ cond (leb most_lines count) count (count + 1)
        → lines' ≡ cond (leb most_lines count) lines (set lines (from + count) (number_in e))
        → refused' ≡ lower refused (refusing (line_code s e) file line (number_in e) (get_or s.wheres (number_in e) 0))
        → Reading lines' refused' count' (line + 1) next
    unfolding lines_refused
    reading_next {lines'} {refused'} {count'} e {next} h e-is next-is count-is lines-is refused-is =
        let shorter : length next < length rest = rw next-is (past_shorter rest h) in
        let few = so_far.few in
        let left = entries_in next in
        let here : e ∷ left ≡ entries_in rest = rw (e-is, next-is) (sym (lines_next rest h)) in
        record {
          few = omega (arith, shorter, few);
          long = long_next most_lines from lines count e left count-is lines-is ∙ so_far.long;
          counts_all = count_next most_lines from lines count e left count-is lines-is ∙ ap (λ (l : List Entry). count + length (left_of most_lines count l)) here ∙ so_far.counts_all;
          puts_all = put_next most_lines from lines count e left count-is lines-is ∙ ap (λ (l : List Entry). sets lines (from + count) (left_of most_lines count l)) here ∙ so_far.puts_all;
          refuses_all =
              ap (λ (n : ℕ). lines_refused s file n left refused') (add-one line)
              ∙ ap (λ (r : Refused). lines_refused s file (suc line) left r) refused-is
              ∙ ap (λ (l : List Entry). lines_refused s file line l refused) here
              ∙ so_far.refuses_all;
        }

    pub reading_refused : length rest ≡ 0 → refused ≡ lines_refused s file (top_line text) (entries text) nothing
    unfolding lines_refused
    reading_refused h = ap (λ (l : List Entry). lines_refused s file line l refused) (sym (lines_end rest h)) ∙ so_far.refuses_all

    -- nothing is left
    done : length rest ≡ 0 → left_of most_lines count (entries_in rest) ≡ []
    done h = ap (left_of most_lines count) (lines_end rest h) ∙ left_none most_lines count

    pub reading_count : length rest ≡ 0 → count ≡ length (record_lines (entries text))
    reading_count h =
        let n : length (left_of most_lines count (entries_in rest)) ≡ 0 = ap length (done h) in
        let a = so_far.counts_all in
        omega (arith, n, a)

    pub reading_lines : length rest ≡ 0 → from + most_lines ≤ length lines₀ → lines ≡ with_lines lines₀ from (record_lines (entries text))
    unfolding record_lines with_lines
    reading_lines h r =
        let l = record_lines (entries text) in
        let n = numbers_long (take most_lines (entries text)) in
        let t = length-take most_lines (entries text) in
        let fits : from + length l ≤ length lines₀ = omega (arith, n, t, r) in
        ap (λ (m : List ℕ). sets lines (from + count) m) (sym (done h))
        ∙ so_far.puts_all
        ∙ sets-eq l lines₀ from fits
        ∙ append_assoc (take from lines₀) l (drop (from + length l) lines₀)
