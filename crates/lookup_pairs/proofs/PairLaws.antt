-- Laws of pairs: no number below a bound passes; which refusal comes first; the sites named as a mask; lines one by one, and where each stands.
-- Rests on the specs, on masks and sets for bits, on books for filling a list block by block. Assumes nothing.
use Prim.Native.Nat.{ℕ, zero, suc, ◌+◌, ◌*◌, ◌-◌, ◌<◌, ◌≤◌}
use mathlib.Core.Path.{◌≡◌, refl, sym, ap, ap₂, ◌∙◌}
use mathlib.Core.Bool.{Bool, true, false, cond, ◌||◌}
use mathlib.Core.List.{List, [], ◌∷◌, ◌++◌}
use native.Mathlib.Decide.{ℕ_discrete}
use native.Mathlib.Numerals.{add-one, add-two, add-three}
use native.Mathlib.Omega.{arith}
use lib.Dec.{eqb}
use lib.IntN.{ℤ, pos}
use lib.ListN.{length, get_or, take, drop, get_or-append, length-append, length-drop}
use lib.Seq.{length-take-le, take-add, take-take, drop_at, drop-drop, get_or-append-add, drop-cons}
use Rattle.sets.specs.Below.{any_below}
use Rattle.sets.specs.Masks.{has_bit}
use Rattle.sets.proofs.MaskLaws.{has_bit_zero, has_bit_or}
use Rattle.masks.specs.SiteMasks.{room, only_site, with_site}
use Rattle.site.proofs.ByMaskLaws.{only_bit}
use Rattle.posting.specs.Kinds.{accounts}
use Rattle.books.proofs.Blocks.{next_block}
use Rattle.lookup_pairs.specs.Pairs.{pair_count, site_in, account_in, visited_to, line_of, lines_to}
use Rattle.lookup_pairs.specs.Gathered.{named_to, block_of, Within}

-- ---- none below a bound

pub any_none : (p : ℕ → Bool) → any_below p 0 ≡ false
unfolding any_below
any_none p = refl

pub any_next : (p : ℕ → Bool) (n : ℕ) → any_below p n ≡ false → p n ≡ false → any_below p (n + 1) ≡ false
unfolding any_below
any_next p n h e = rw (add-one, h, e) refl

pub any_ext : (p q : ℕ → Bool) (n : ℕ) → ((i : ℕ) → i < n → p i ≡ q i) → any_below p n ≡ any_below q n
unfolding any_below
any_ext p q zero h = refl
any_ext p q (suc n) h = ap₂ ◌||◌ (any_ext p q n (λ i l. h i (omega arith))) (h n (omega arith))

-- ---- four numbers of a list

-- those from a place on, one by one
pub four_at : (l : List ℤ) (at : ℕ) → at + 4 ≤ length l
    → take 4 (drop at l) ≡ get_or l at (pos 0) ∷ get_or l (at + 1) (pos 0) ∷ get_or l (at + 2) (pos 0) ∷ get_or l (at + 3) (pos 0) ∷ []
four_at l at h =
    let a : at < length l = omega arith in
    let b : suc at < length l = omega arith in
    let c : suc (suc at) < length l = omega arith in
    let d : suc (suc (suc at)) < length l = omega arith in
    rw (add-one, add-two, add-three, drop-cons l at (pos 0) a, drop-cons l (suc at) (pos 0) b, drop-cons l (suc (suc at)) (pos 0) c, drop-cons l (suc (suc (suc at))) (pos 0) d) refl

-- ---- lines

-- the figures of a site hold all its accounts
pub length_line : (numbers : List ℤ) (k : ℕ) → k < accounts → 64 ≤ length numbers → length (line_of numbers k) ≡ 4
length_line numbers k h l = length-take-le 4 (drop (4 * k) numbers) (omega (arith, length-drop (4 * k) numbers))

-- where every pair's account is one, and every pair's site has its 64 numbers
module _ (numbers : ℕ → List ℤ) (pairs : List ℕ) where
  abbrev pub Whole : ℕ → Type 0
  Whole n = (i : ℕ) → i < n → (account_in pairs i < accounts) × (64 ≤ length (numbers (site_in pairs i)))

  -- the line of pair i
  abbrev pub line : ℕ → List ℤ
  line i = line_of (numbers (site_in pairs i)) (account_in pairs i)

  pub length_lines : (n : ℕ) → Whole n → length (lines_to n numbers pairs) ≡ 4 * n
  unfolding lines_to
  length_lines zero w = refl
  length_lines (suc n) w =
      let last = w n (omega arith) in
      length-append (lines_to n numbers pairs) (line n)
      ∙ omega (arith, length_lines n (λ i h. w i (omega arith)), length_line (numbers (site_in pairs n)) (account_in pairs n) last.0 last.1)

  -- number j of the line of pair i stands at 4i + j
  pub line_at : (n : ℕ) → Whole n → (i j : ℕ) → i < n → j < 4 → get_or (lines_to n numbers pairs) (4 * i + j) (pos 0) ≡ get_or (line i) j (pos 0)
  unfolding lines_to
  line_at zero w i j h l = absurd (omega arith)
  line_at (suc n) w i j h l =
      let before : Whole n = λ i h. w i (omega arith) in
      let done = length_lines n before in
      elim (ℕ_discrete i n) [
        | yes e ↦
            let at : 4 * i + j ≡ length (lines_to n numbers pairs) + j = omega (arith, done) in
            rw at (get_or-append-add (lines_to n numbers pairs) (line n) j (pos 0) ∙ ap (λ (m : ℕ). get_or (line m) j (pos 0)) (sym e))
        | no ne ↦
            let b : 4 * i + j < length (lines_to n numbers pairs) = omega (arith, done) in
            get_or-append (lines_to n numbers pairs) (line n) (pos 0) (4 * i + j) b ∙ line_at n before i j (omega arith) l
      ]

  lines_more : (n : ℕ) → lines_to (n + 1) numbers pairs ≡ lines_to n numbers pairs ++ line n
  unfolding lines_to
  lines_more n = let e : n + 1 ≡ suc n = omega arith in ap (λ (m : ℕ). lines_to m numbers pairs) e

  -- one line more, behind those that are there
  pub next_line : (n : ℕ) → Whole n → (l : List ℤ)
      → let done = lines_to n numbers pairs ++ drop (4 * n) l in
      take (4 * n) done ++ line n ++ drop (4 * n + 4) done ≡ lines_to (n + 1) numbers pairs ++ drop (4 * (n + 1)) l
  next_line n w l =
      next_block 4 n (lines_to n numbers pairs) (line n) l (length_lines n w)
      ∙ ap (λ (x : List ℤ). x ++ drop (4 * (n + 1)) l) (sym (lines_more n))

drop_take : (m n : ℕ) (l : List ℤ) → m ≤ length l → drop m (take (m + n) l) ≡ take n (drop m l)
drop_take m n l h = ap (drop m) (take-add m n l) ∙ drop_at (take m l) (take n (drop m l)) m (length-take-le m l h)

-- the line of account k out of the block of site s
pub line_in : (figures : List ℤ) (s k : ℕ) → 64 * s + 64 ≤ length figures → k < accounts → line_of (block_of figures s) k ≡ take 4 (drop (64 * s + 4 * k) figures)
line_in figures s k h l =
    let own = drop (64 * s) figures in
    let rest = 64 - 4 * k in
    let split : 64 ≡ 4 * k + rest = omega arith in
    let long : 4 * k ≤ length own = omega (arith, length-drop (64 * s) figures) in
    ap (λ (n : ℕ). take 4 (drop (4 * k) (take n own))) split
    ∙ ap (take 4) (drop_take (4 * k) rest own long)
    ∙ take-take 4 rest (drop (4 * k) own) (omega arith)
    ∙ ap (take 4) (drop-drop (4 * k) (64 * s) figures)

pub length_block : (figures : List ℤ) (s : ℕ) → 64 * s + 64 ≤ length figures → length (block_of figures s) ≡ 64
length_block figures s h = length-take-le 64 (drop (64 * s) figures) (omega (arith, length-drop (64 * s) figures))

-- figures of all sites, and pairs within them
module _ (figures : List ℤ) (pairs : List ℕ) (long : 64 * room ≤ length figures) (within : Within pairs) where
  blocks_whole : (n : ℕ) → n ≤ pair_count pairs → Whole (block_of figures) pairs n
  blocks_whole n b i h =
      let at = within i (omega arith) in
      (at.1, omega (arith, length_block figures (site_in pairs i) (omega (arith, at.0, long))))

  -- the line of pair i, copied behind those before it
  pub line_copied : (i : ℕ) → i < pair_count pairs → (site account : ℕ) → site ≡ site_in pairs i → account ≡ account_in pairs i
      → (l out new : List ℤ) → out ≡ lines_to i (block_of figures) pairs ++ drop (4 * i) l
      → new ≡ take (4 * i) out ++ take 4 (drop (64 * site + 4 * account) figures) ++ drop (4 * i + 4) out
      → new ≡ lines_to (i + 1) (block_of figures) pairs ++ drop (4 * (i + 1)) l
  line_copied i h site account es ea l out new eo en =
      let at = within i h in
      let copied = line_in figures (site_in pairs i) (account_in pairs i) (omega (arith, at.0, long)) at.1 in
      en ∙ rw (es, ea, eo, ← copied) (next_line (block_of figures) pairs i (blocks_whole i (omega arith)) l)

-- sites that have the same numbers give the same lines
pub lines_same : (f g : ℕ → List ℤ) (pairs : List ℕ) (n : ℕ) → ((i : ℕ) → i < n → f (site_in pairs i) ≡ g (site_in pairs i)) → lines_to n f pairs ≡ lines_to n g pairs
unfolding lines_to
lines_same f g pairs zero h = refl
lines_same f g pairs (suc n) h =
    ap₂ ◌++◌ (lines_same f g pairs n (λ i l. h i (omega arith))) (ap (λ (x : List ℤ). line_of x (account_in pairs n)) (h n (omega arith)))

-- ---- the sites named, as a mask

pub named_more : (pairs : List ℕ) (n : ℕ) → named_to (n + 1) pairs ≡ with_site (named_to n pairs) (site_in pairs n)
unfolding named_to
named_more pairs n = let e : n + 1 ≡ suc n = omega arith in ap (λ (m : ℕ). named_to m pairs) e

pub named_bit : (pairs : List ℕ) (n p : ℕ) → p < room → has_bit (named_to n pairs) p ≡ any_below (λ i. eqb p (site_in pairs i)) n
unfolding named_to any_below
named_bit pairs zero p h = has_bit_zero p
named_bit pairs (suc n) p h =
    has_bit_or (named_to n pairs) (only_site (site_in pairs n)) p ∙ ap₂ ◌||◌ (named_bit pairs n p h) (only_bit (site_in pairs n) p h)

-- ---- places visited

pub visited_same : (n : ℕ) (s t : ℕ → Bool) (f g : ℕ → ℕ) → ((p : ℕ) → p < n → s p ≡ t p) → ((p : ℕ) → p < n → f p ≡ g p) → visited_to n s f ≡ visited_to n t g
unfolding visited_to
visited_same zero s t f g hs hf = refl
visited_same (suc n) s t f g hs hf =
    rw (hs n (omega arith), hf n (omega arith), visited_same n s t f g (λ p h. hs p (omega arith)) (λ p h. hf p (omega arith))) refl

-- at most what all sites have
pub visited_less : (n : ℕ) (t : ℕ → Bool) (long : ℕ → ℕ) → visited_to n t long ≤ visited_to n (λ p. true) long
unfolding visited_to
visited_less zero t long = omega arith
visited_less (suc n) t long = most (t n) (visited_less n t long)
  where
    most : (b : Bool) → visited_to n t long ≤ visited_to n (λ p. true) long → visited_to n t long + cond b (long n) 0 ≤ visited_to n (λ p. true) long + long n
    most true h = omega (arith, h)
    most false h = omega (arith, h)
