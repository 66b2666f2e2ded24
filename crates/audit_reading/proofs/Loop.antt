-- The loop over a record's lines: what holds after i lines, one line more, and what is left at the end and at a line that does not fit.
-- Rests on Meaning. Assumes nothing.
use Prim.Native.Nat.{ℕ, zero, suc, ◌+◌, ◌*◌, ◌<◌, ◌≤◌, max}
use mathlib.Core.Path.{◌≡◌, refl, sym, ap, ◌∙◌, subst}
use mathlib.Core.Logic.{inl}
use mathlib.Core.Bool.{Bool, true, false}
use mathlib.Core.List.{List, [], ◌∷◌, ◌++◌, append-nil}
use native.Mathlib.Omega.{arith}
use native.Mathlib.Decide.{ℕ_discrete}
use native.Mathlib.Numerals.{add-one}
use lib.ListN.{length, get_or, take, replicate, length-set, length-replicate}
use lib.Seq.{take-suc}
use borrow.Author.Tests.{eq-eqb, ne_eqb}
use Rattle.posting.specs.declared.Table.{Table}
use Rattle.audit_rule.specs.Reading.{row_in, line_fits}
use Rattle.audit_reading.specs.Kept.{classes, Rows, Known, NotedIn, TalliedIn, Readable, line_ok, Broken, AtMost, own_class, counted, reached, four_put, places_after, seen_after, totals_after, ahead_after, fits_now}
use Rattle.audit_reading.proofs.Bumps.{changed_length, changed_most}
use Rattle.audit_reading.proofs.RowLaws.{Row, row_is}
use Rattle.audit_reading.proofs.Meaning.{line_test, line_noted, line_tallied, four_length}

-- ---- lengths and bounds

pub totals_most : (places : List ℕ) (y kind a b seen : ℕ) (totals : List ℕ) → AtMost totals seen → AtMost (totals_after places y kind a b totals) (seen_after places y seen)
totals_most places y kind a b seen totals most k = elim (ℕ_discrete (get_or places y 0) 0) [
  | yes e ↦ rw (eq-eqb (get_or places y 0) 0 e) (changed_most totals (own_class kind a b) seen most k)
  | no d ↦ rw (ne_eqb (get_or places y 0) 0 d) (most k)
]

pub totals_length : (places : List ℕ) (y kind a b : ℕ) (totals : List ℕ) → length (totals_after places y kind a b totals) ≡ length totals
totals_length places y kind a b totals = elim (ℕ_discrete (get_or places y 0) 0) [
  | yes e ↦ rw (eq-eqb (get_or places y 0) 0 e) (changed_length totals (λ v. v + 1) (own_class kind a b))
  | no d ↦ rw (ne_eqb (get_or places y 0) 0 d)
]

pub places_length : (places : List ℕ) (y seen : ℕ) → length (places_after places y seen) ≡ length places
places_length places y seen = elim (ℕ_discrete (get_or places y 0) 0) [
  | yes e ↦ rw (eq-eqb (get_or places y 0) 0 e) (length-set places y (seen + 1))
  | no d ↦ rw (ne_eqb (get_or places y 0) 0 d)
]

pub ahead_length : (places : List ℕ) (y a b : ℕ) (totals ahead : List ℕ) → length (ahead_after places y a b totals ahead) ≡ length ahead
ahead_length places y a b totals ahead = elim (ℕ_discrete (get_or places y 0) 0) [
  | yes e ↦ rw (eq-eqb (get_or places y 0) 0 e) (four_length (4 * b) (8 * y + 4) totals (four_put (4 * a) (8 * y) totals ahead) ∙ four_length (4 * a) (8 * y) totals ahead)
  | no d ↦ rw (ne_eqb (get_or places y 0) 0 d)
]

pub seen_most : (places : List ℕ) (y seen : ℕ) → seen_after places y seen ≤ seen + 1
seen_most places y seen = elim (ℕ_discrete (get_or places y 0) 0) [
  | yes e ↦ rw (eq-eqb (get_or places y 0) 0 e) (omega arith)
  | no d ↦ rw (ne_eqb (get_or places y 0) 0 d) (omega arith)
]

-- ---- after i lines

pub record Going (matrix : ℕ) (kinds firsts seconds lines : List ℕ) (seen : ℕ) (totals₀ places₀ ahead₀ totals places ahead counts highest : List ℕ) (given i : ℕ) : Type 0 where
  pub below : i ≤ length lines
  pub same_places : length places ≡ length places₀
  pub same_ahead : length ahead ≡ length ahead₀
  pub full_totals : length totals ≡ classes
  pub full_counts : length counts ≡ classes
  pub full_highest : length highest ≡ classes
  pub few : given ≤ seen + i
  pub most : AtMost totals given
  pub counts_most : AtMost counts i
  pub notes : (t : Table) (read : List ℕ) → Rows t kinds firsts seconds (length kinds) → NotedIn t read places₀ seen totals₀ ahead₀ → NotedIn t (read ++ take i lines) places given totals ahead
  pub tally : (t : Table) (read : List ℕ) → Rows t kinds firsts seconds (length kinds) → NotedIn t read places₀ seen totals₀ ahead₀ → TalliedIn t (take i lines) places counts highest
  pub fit : (t : Table) (read : List ℕ) → Rows t kinds firsts seconds (length kinds) → NotedIn t read places₀ seen totals₀ ahead₀ → (j : ℕ) → j < i → line_ok matrix t read lines j ≡ true

module _ {matrix : ℕ} {kinds firsts seconds lines : List ℕ} {seen : ℕ} {totals₀ places₀ ahead₀ totals places ahead counts highest : List ℕ} {given i : ℕ}
    (g : Going matrix kinds firsts seconds lines seen totals₀ places₀ ahead₀ totals places ahead counts highest given i)
    (r : Readable kinds firsts seconds lines places₀ ahead₀ totals₀ seen) (y : ℕ) (y-is : y ≡ get_or lines i 0) (more : i < length lines) where
  abbrev kind : ℕ
  kind = get_or kinds y 0

  -- the rows that the posting looks in
  abbrev a : ℕ
  a = row_in kind (get_or firsts y 0) (get_or seconds y 0) (get_or firsts y 0)

  abbrev b : ℕ
  b = row_in kind (get_or firsts y 0) (get_or seconds y 0) (get_or seconds y 0)

  pub y_known : Known kinds firsts seconds places₀ ahead₀ y
  y_known = subst (Known kinds firsts seconds places₀ ahead₀) (sym y-is) (r.known i more)

  y_row : (t : Table) → Rows t kinds firsts seconds (length kinds) → Row t y kind a b
  y_row t rows =
      let e = rows y y_known.in_kinds in
      row_is t y kind (get_or firsts y 0) (get_or seconds y 0) e.0 e.1 e.2 y_known.accounts_are_ok

  y_room : y < length places
  y_room = omega (arith, y_known.in_places, g.same_places)

  y_ahead : 8 * y + 8 ≤ length ahead
  y_ahead = omega (arith, y_known.in_ahead, g.same_ahead)

  taken : take (i + 1) lines ≡ take i lines ++ (y ∷ [])
  taken = rw (add-one i, y-is) (take-suc lines i 0 more)

  test_is : (t : Table) (read : List ℕ) → Rows t kinds firsts seconds (length kinds) → NotedIn t read places₀ seen totals₀ ahead₀
      → fits_now matrix y kind a b given counts highest totals places ahead ≡ line_ok matrix t read lines i
  test_is t read rows n =
      line_test matrix t y kind a b (y_row t rows) read (take i lines) places given totals ahead counts highest (g.notes t read rows n) (g.tally t read rows n) y_room y_ahead g.full_totals g.full_counts g.full_highest
      ∙ ap (line_fits matrix t (read ++ take i lines) (take i lines)) y-is

  pub going_next : fits_now matrix y kind a b given counts highest totals places ahead ≡ true
      → Going matrix kinds firsts seconds lines seen totals₀ places₀ ahead₀ (totals_after places y kind a b totals) (places_after places y given) (ahead_after places y a b totals ahead)
      (counted counts kind a b) (reached highest kind a b (get_or (places_after places y given) y 0)) (seen_after places y given) (i + 1)
  going_next fits = record {
    below = omega (arith, more);
    same_places = places_length places y given ∙ g.same_places;
    same_ahead = ahead_length places y a b totals ahead ∙ g.same_ahead;
    full_totals = totals_length places y kind a b totals ∙ g.full_totals;
    full_counts = changed_length counts (λ v. v + 1) (own_class kind a b) ∙ g.full_counts;
    full_highest = changed_length highest (λ v. max v (get_or (places_after places y given) y 0)) (own_class kind a b) ∙ g.full_highest;
    few = let m = seen_most places y given in omega (arith, m, g.few);
    most = totals_most places y kind a b given totals g.most;
    counts_most = changed_most counts (own_class kind a b) i g.counts_most;
    notes = λ t read rows n. subst (λ (l : List ℕ). NotedIn t (read ++ l) (places_after places y given) (seen_after places y given) (totals_after places y kind a b totals) (ahead_after places y a b totals ahead)) (sym taken)
        (line_noted matrix t y kind a b (y_row t rows) read (take i lines) places given totals ahead counts highest (g.notes t read rows n) (g.tally t read rows n) y_room y_ahead g.full_totals g.full_counts g.full_highest);
    tally = λ t read rows n. subst (λ (l : List ℕ). TalliedIn t l (places_after places y given) (counted counts kind a b) (reached highest kind a b (get_or (places_after places y given) y 0))) (sym taken)
        (line_tallied matrix t y kind a b (y_row t rows) read (take i lines) places given totals ahead counts highest (g.notes t read rows n) (g.tally t read rows n) y_room y_ahead g.full_totals g.full_counts g.full_highest);
    fit = λ t read rows n j h. elim (ℕ_discrete j i) [
      | yes e ↦ rw e (sym (test_is t read rows n) ∙ fits)
      | no d ↦ g.fit t read rows n j (omega (arith, h, d))
    ];
  }

  pub going_again : {ok : Bool} {given' : ℕ} {totals' places' ahead' counts' highest' : List ℕ}
      → ok ≡ fits_now matrix y kind a b given counts highest totals places ahead → ok ≡ true → given' ≡ seen_after places y given
      → places' ≡ places_after places y given → totals' ≡ totals_after places y kind a b totals → ahead' ≡ ahead_after places y a b totals ahead
      → counts' ≡ counted counts kind a b → highest' ≡ reached highest kind a b (get_or (places_after places y given) y 0)
      → Going matrix kinds firsts seconds lines seen totals₀ places₀ ahead₀ totals' places' ahead' counts' highest' given' (i + 1)
  going_again is fits n ep et ea c h = rw (n, ep, et, ea, c, h) (going_next (sym is ∙ fits))

  pub going_breaks : {ok : Bool} → ok ≡ fits_now matrix y kind a b given counts highest totals places ahead → ok ≡ false
      → (t : Table) (read : List ℕ) → Rows t kinds firsts seconds (length kinds) → NotedIn t read places₀ seen totals₀ ahead₀ → Broken matrix t read lines i
  going_breaks is breaks t read rows n = record {
    within = more;
    fit = g.fit t read rows n;
    breaks = sym (test_is t read rows n) ∙ sym is ∙ breaks;
  }

pub zeros_at : (n c : ℕ) → ◌≡◌ {A = ℕ} (get_or (replicate n 0) c 0) 0
zeros_at zero c = refl
zeros_at (suc n) zero = refl
zeros_at (suc n) (suc c) = zeros_at n c

-- before the first line
pub going_start : (matrix : ℕ) (kinds firsts seconds lines : List ℕ) (seen : ℕ) (totals places ahead : List ℕ) → length totals ≡ classes → AtMost totals seen
    → Going matrix kinds firsts seconds lines seen totals places ahead totals places ahead (replicate classes 0) (replicate classes 0) seen 0
going_start matrix kinds firsts seconds lines seen totals places ahead full most = record {
  below = omega arith;
  same_places = refl;
  same_ahead = refl;
  full_totals = full;
  full_counts = length-replicate {A = ℕ} classes 0;
  full_highest = length-replicate {A = ℕ} classes 0;
  few = omega arith;
  most = most;
  counts_most = λ c. let z = zero_at c in omega (arith, z);
  notes = λ t read rows n. rw append-nil n;
  tally = λ t read rows n. record { counts = λ c. zero_at c; reaches = λ c x m. absurd m; reached = λ c. inl (zero_at c) };
  fit = λ t read rows n j h. absurd (omega (arith, h));
}
  where
    zero_at : (c : ℕ) → ◌≡◌ {A = ℕ} (get_or (replicate classes 0) c 0) 0
    zero_at c = zeros_at classes c
