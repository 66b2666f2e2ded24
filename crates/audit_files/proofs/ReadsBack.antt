-- A file that was written gives its entries back, whichever way its lines end, the last one open or not, with or without a heading.
-- Rests on LineBack. Assumes nothing.
use Prim.Native.Nat.{ℕ, zero, suc, ◌-◌, ◌≤◌}
use mathlib.Core.Path.{◌≡◌, refl, sym, ap, ◌∙◌}
use mathlib.Core.Logic.{◌≢◌}
use mathlib.Core.Bool.{true, false}
use mathlib.Core.List.{List, [], ◌∷◌, ◌++◌, append_assoc, append-nil}
use native.Mathlib.Omega.{arith}
use lib.Dec.{eqb}
use lib.ListN.{length, get_or, length-append}
use lib.Seq.{take-append_seam, get_or-append_seam}
use Rattle.broadcast.specs.Lists.{mem}
use Rattle.broadcast.proofs.Tests.{eqb_no, nope}
use Rattle.audit_files.specs.declared.Entry.{Entry}
use Rattle.audit_files.specs.Entries.{line_feed, carriage_return, past, is_letter, bare, first_line, entry_of, entries_of, headed, entries}
use Rattle.audit_files.specs.Written.{Ending, unix, dos, end_of, line_of, lines_of, lines_open, AllSayable, Heading}
use Rattle.audit_files.proofs.LineBack.{lacks_cons, lacks_join, has_first, up_to_none, up_to_first, past_none, past_first, Plain, line_back, line_plain}

-- ---- a line and its end

-- no byte of the list is x, nor is what stands past it
lacks_at : (x : ℕ) → x ≢ 0 → (l : List ℕ) (i : ℕ) → mem x l ≡ false → eqb (get_or l i 0) x ≡ false
lacks_at x d [] i h = eqb_no 0 x (λ e. d (sym e))
lacks_at x d (z ∷ l) zero h = eqb_no z x (lacks_cons x z l h).0
lacks_at x d (z ∷ l) (suc i) h = lacks_at x d l i (lacks_cons x z l h).1

bare_plain : (l : List ℕ) → mem carriage_return l ≡ false → bare l ≡ l
unfolding bare
bare_plain l h = rw (lacks_at carriage_return (λ e. omega (arith, e)) l (length l - 1) h)

bare_returned : (l : List ℕ) → bare (l ++ (carriage_return ∷ [])) ≡ l
unfolding bare
bare_returned l =
    let n : length (l ++ (carriage_return ∷ [])) - 1 ≡ length l = let e = length-append l (carriage_return ∷ []) in omega (arith, e) in
    rw (n, get_or-append_seam l carriage_return [] 0, take-append_seam l (carriage_return ∷ []))

returned_lacks : (l : List ℕ) → mem line_feed l ≡ false → mem line_feed (l ++ (carriage_return ∷ [])) ≡ false
returned_lacks l h = lacks_join line_feed l (carriage_return ∷ []) h refl

-- what follows a line
past_end : (end : Ending) (l m : List ℕ) → mem line_feed l ≡ false → past line_feed (l ++ (end_of end ++ m)) ≡ m
past_end unix l m h = past_first line_feed m l h
past_end dos l m h =
    ap (past line_feed) (sym (append_assoc l (carriage_return ∷ []) (line_feed ∷ m)))
    ∙ past_first line_feed m (l ++ (carriage_return ∷ [])) (returned_lacks l h)

-- the line itself
first_ended : (end : Ending) (l m : List ℕ) → mem line_feed l ≡ false → mem carriage_return l ≡ false → first_line (l ++ (end_of end ++ m)) ≡ l
unfolding first_line
first_ended unix l m h k = rw (has_first line_feed m l, up_to_first line_feed m l h) (bare_plain l k)
first_ended dos l m h k =
    let r = l ++ (carriage_return ∷ []) in
    ap first_line (sym (append_assoc l (carriage_return ∷ []) (line_feed ∷ m)))
    ∙ rw (has_first line_feed m r, up_to_first line_feed m r (returned_lacks l h)) (bare_returned l)

first_open : (l : List ℕ) → mem line_feed l ≡ false → first_line l ≡ l
unfolding first_line
first_open l h = rw (h, up_to_none line_feed l h)

-- ---- lines

entries_none : (most : ℕ) → entries_of most [] ≡ []
unfolding entries_of
entries_none zero = refl
entries_none (suc most) = refl

-- one line and the others
entries_step : (most head : ℕ) (tail l : List ℕ) → l ≡ head ∷ tail → entries_of (suc most) l ≡ entry_of (first_line l) ∷ entries_of most (past line_feed l)
unfolding entries_of
entries_step most head tail l e = rw e

entries_line : (most : ℕ) (end : Ending) (line rest : List ℕ) → Plain line → entries_of (suc most) ((line ++ end_of end) ++ rest) ≡ entry_of line ∷ entries_of most rest
entries_line most end line rest p =
    let t = line ++ (end_of end ++ rest) in
    let begins : t ≡ p.head ∷ (p.tail ++ (end_of end ++ rest)) = ap (λ (l : List ℕ). l ++ (end_of end ++ rest)) p.is in
    ap (entries_of (suc most)) (append_assoc line (end_of end) rest)
    ∙ entries_step most p.head (p.tail ++ (end_of end ++ rest)) t begins
    ∙ rw (first_ended end line rest p.no_feed p.no_return, past_end end line rest p.no_feed)

entries_last : (most : ℕ) (line : List ℕ) → Plain line → entries_of (suc most) line ≡ entry_of line ∷ []
entries_last most line p =
    entries_step most p.head p.tail line p.is
    ∙ rw (first_open line p.no_feed, past_none line_feed line p.no_feed, entries_none most)

-- ---- files

end_some : (e : Ending) → 1 ≤ length (end_of e)
end_some unix = omega arith
end_some dos = omega arith

module _ (end : Ending) where
  -- with at least as many lines allowed as there are
  lines_back : (most : ℕ) (l : List Entry) → length l ≤ most → AllSayable l → entries_of most (lines_of end l) ≡ l
  unfolding lines_of
  lines_back most [] h s = entries_none most
  lines_back zero (e ∷ l) h s = absurd (omega (arith, h))
  lines_back (suc most) (e ∷ l) h s =
      entries_line most end (line_of e) (lines_of end l) (line_plain e s.0)
      ∙ rw (line_back e s.0, lines_back most l (omega (arith, h)) s.1)

  open_back : (most : ℕ) (l : List Entry) → length l ≤ most → AllSayable l → entries_of most (lines_open end l) ≡ l
  unfolding lines_open
  open_back most [] h s = entries_none most
  open_back zero (e ∷ l) h s = absurd (omega (arith, h))
  open_back (suc most) (e ∷ []) h s = entries_last most (line_of e) (line_plain e s.0) ∙ rw (line_back e s.0)
  open_back (suc most) (e ∷ f ∷ l) h s =
      entries_line most end (line_of e) (lines_open end (f ∷ l)) (line_plain e s.0)
      ∙ rw (line_back e s.0, open_back most (f ∷ l) (omega (arith, h)) s.1)

  -- a file has at least as many bytes as lines
  end_long : 1 ≤ length (end_of end)
  end_long = end_some end

  lines_long : (l : List Entry) → length l ≤ length (lines_of end l)
  unfolding lines_of
  lines_long [] = omega arith
  lines_long (e ∷ l) =
      let n = length-append (line_of e ++ end_of end) (lines_of end l) in
      let m = length-append (line_of e) (end_of end) in
      let before = lines_long l in
      omega (arith, n, m, before, end_long)

  open_long : (l : List Entry) → AllSayable l → length l ≤ length (lines_open end l)
  unfolding lines_open
  open_long [] s = omega arith
  open_long (e ∷ []) s = let p = line_plain e s.0 in let n = ap (length {A = ℕ}) p.is in omega (arith, n)
  open_long (e ∷ f ∷ l) s =
      let n = length-append (line_of e ++ end_of end) (lines_open end (f ∷ l)) in
      let m = length-append (line_of e) (end_of end) in
      let before = open_long (f ∷ l) s.1 in
      omega (arith, n, m, before, end_long)

  -- a file of entries has no heading
  plain_unheaded : (line rest : List ℕ) → Plain line → headed (line ++ rest) ≡ false
  unfolding headed
  plain_unheaded line rest p = rw p.is p.no_letter

  lines_unheaded : (l : List Entry) → AllSayable l → headed (lines_of end l) ≡ false
  unfolding lines_of headed is_letter
  lines_unheaded [] s = refl
  lines_unheaded (e ∷ l) s =
      ap headed (append_assoc (line_of e) (end_of end) (lines_of end l)) ∙ plain_unheaded (line_of e) (end_of end ++ lines_of end l) (line_plain e s.0)

  open_unheaded : (l : List Entry) → AllSayable l → headed (lines_open end l) ≡ false
  unfolding lines_open headed is_letter
  open_unheaded [] s = refl
  open_unheaded (e ∷ []) s = ap headed (sym (append-nil (line_of e))) ∙ plain_unheaded (line_of e) [] (line_plain e s.0)
  open_unheaded (e ∷ f ∷ l) s =
      ap headed (append_assoc (line_of e) (end_of end) (lines_open end (f ∷ l)))
      ∙ plain_unheaded (line_of e) (end_of end ++ lines_open end (f ∷ l)) (line_plain e s.0)

heading_headed : (heading rest : List ℕ) → is_letter (get_or heading 0 0) ≡ true → headed (heading ++ rest) ≡ true
unfolding headed is_letter
heading_headed [] rest h = absurd (nope h refl)
heading_headed (byte ∷ l) rest h = h

-- what was written is read, with every line ended
pub reads_back : (end : Ending) (l : List Entry) → AllSayable l → entries (lines_of end l) ≡ l
unfolding entries
reads_back end l s = rw (lines_unheaded end l s) (lines_back end (length (lines_of end l)) l (lines_long end l) s)

-- with the last one open
pub reads_back_open : (end : Ending) (l : List Entry) → AllSayable l → entries (lines_open end l) ≡ l
unfolding entries
reads_back_open end l s = rw (open_unheaded end l s) (open_back end (length (lines_open end l)) l (open_long end l s) s)

-- and under a heading
pub reads_back_headed : (end : Ending) (heading : List ℕ) (l : List Entry) → Heading heading → AllSayable l → entries (heading ++ (end_of end ++ lines_of end l)) ≡ l
unfolding entries
reads_back_headed end heading l g s =
    let rest = end_of end ++ lines_of end l in
    let n = length-append heading rest in
    let m = length-append (end_of end) (lines_of end l) in
    let k = lines_long end l in
    rw (heading_headed heading rest g.letter, past_end end heading (lines_of end l) g.one_line)
    (lines_back end (length (heading ++ rest)) l (omega (arith, n, m, k)) s)
