-- What a look-up gives: refused, by the first cause of its pairs; or the lines out of the figures gathered, which are those of the board's books.
-- Rests on Blocks, on lookup_pairs for pairs, on machine and whole_board for what arrays show. Assumes nothing.
use Prim.Native.Nat.{ℕ, ◌+◌, ◌*◌, ◌<◌, ◌≤◌}
use mathlib.Core.Path.{◌≡◌, refl, sym, ap, ◌∙◌, subst}
use mathlib.Core.Logic.{inl, inr, ◌≢◌}
use mathlib.Core.Bool.{true, false, cond, not}
use mathlib.Core.List.{List, [], ◌∷◌, ◌++◌}
use native.Mathlib.Omega.{arith}
use lib.Dec.{eqb}
use lib.IntN.{ℤ}
use lib.ListN.{length, drop}
use borrow.Author.Tests.{eq-eqb, ne_eqb}
use Rattle.sets.specs.Masks.{has_bit}
use Rattle.sets.proofs.Truth.{test}
use Rattle.sets.proofs.BelowLaws.{any_from}
use Rattle.posting.specs.Kinds.{accounts}
use Rattle.posting.specs.Records.{numbers_of}
use Rattle.books.specs.Books.{blank, books, numbers}
use Rattle.books.specs.Bounds.{Postable}
use Rattle.books.proofs.Blocks.{length_numbers}
use Rattle.steps.specs.Causes.{Cause, cause}
use Rattle.steps.specs.CauseLists.{first_cause}
use Rattle.site.specs.declared.Setup.{Setup}
use Rattle.site.specs.declared.Site.{Site}
use Rattle.site.specs.Sites.{sites}
use Rattle.masks.specs.SiteMasks.{room}
use Rattle.arrays.specs.declared.Arrays.{Arrays}
use Rattle.arrays.specs.Arrays.{arrays}
use Rattle.views.specs.Views.{record_in, row_of, table_of}
use Rattle.machine.specs.declared.Board.{Board}
use Rattle.machine.specs.declared.Answer.{Answer}
use Rattle.machine.specs.declared.Answer.TheVariants.{Done, Refused}
use Rattle.machine.specs.View.{view, Right}
use Rattle.machine.specs.Soundness.{is_sound}
use Rattle.machine.specs.Calls.{refusal_of}
use Rattle.machine.specs.Figures.{record_of, figures_of, Shown, shown}
use Rattle.machine.proofs.Local.{site_at_lem, site_record}
use Rattle.machine.proofs.Gives.{few_sites}
use Rattle.whole_board.proofs.Showing.{may_post_at}
use Rattle.lookup_pairs.specs.Pairs.{pair_count, site_in, pair_causes, is_named, visited_to, lines_of}
use Rattle.lookup_pairs.specs.Gathered.{named_to, block_of, Within}
use Rattle.lookup_pairs.proofs.PairLaws.{length_lines, lines_same, named_bit, visited_same}
use Rattle.lookup_pairs.proofs.Refusals.{Accepted, is_accepted, none_of}
use Rattle.lookups.specs.Lookups.{visited_of, looking_up}
use Rattle.lookups.specs.Gathering.{lines_at, places_at, numbers_at, Gathered}

-- ---- answers

-- a look-up's answer, count and slice
abbrev pub Gives : Answer → ℕ → List ℤ → Board → List ℕ → List ℤ → Type 0
Gives answer visited slice b pairs out =
    (answer ≡ (looking_up b pairs out).answer) × (visited ≡ (looking_up b pairs out).visited) × (slice ≡ (looking_up b pairs out).slice)

shown_refused : (l : List Cause) (slice figures : List ℤ) → first_cause l ≢ 0 → shown l slice figures ≡ record { answer = Refused (first_cause l); slice = slice }
unfolding shown first_cause
shown_refused [] slice figures d = absurd (d refl)
shown_refused (c ∷ l) slice figures d = elim (test c.applies) [
  | inl t ↦ rw t refl
  | inr f ↦ rw f (shown_refused l slice figures (λ e. d (rw f e)))
]

shown_done : (n room : ℕ) (pairs : List ℕ) (slice figures : List ℤ) → first_cause (pair_causes n room pairs) ≡ 0
    → shown (pair_causes n room pairs) slice figures ≡ record { answer = Done; slice = figures ++ drop (length figures) slice }
unfolding shown
shown_done n room pairs slice figures z = let (no_site_lem, fits) = none_of _ _ z in rw (no_site_lem, fits) refl

pub length_figures : (b : Board) (p : ℕ) → length (figures_of b p) ≡ 64
unfolding figures_of
length_figures b p = length_numbers accounts (books blank b.table (record_of b p))

module _ (b : Board) (pairs : List ℕ) (out : List ℤ) where
  abbrev causes : List Cause
  causes = pair_causes b.setup.n (length out) pairs

  -- by the answer and the slice that are shown
  looked_as : (s : Shown) → shown (cause 6 (not (is_sound b)) ∷ causes) out (lines_of (figures_of b) pairs) ≡ s
      → (answer : Answer) (visited : ℕ) (slice : List ℤ) → answer ≡ s.answer → visited ≡ cond (eqb (refusal_of s.answer) 0) (visited_of b pairs) 0 → slice ≡ s.slice
      → Gives answer visited slice b pairs out
  unfolding looking_up
  looked_as s e answer visited slice ea ev es =
      (ea ∙ ap (λ (x : Shown). x.answer) (sym e), ev ∙ ap (λ (x : Shown). cond (eqb (refusal_of x.answer) 0) (visited_of b pairs) 0) (sym e), es ∙ ap (λ (x : Shown). x.slice) (sym e))

  pub unsound_gives : is_sound b ≡ false → Gives (Refused 6) 0 out b pairs out
  unfolding shown
  unsound_gives e = looked_as (record { answer = Refused 6; slice = out }) (rw e refl) (Refused 6) 0 out refl refl refl

  module _ (sound : is_sound b ≡ true) where
    -- 6 does not apply
    past_six : shown (cause 6 (not (is_sound b)) ∷ causes) out (lines_of (figures_of b) pairs) ≡ shown causes out (lines_of (figures_of b) pairs)
    unfolding shown
    past_six = rw sound refl

    pub refused_gives : (why : ℕ) → why ≡ first_cause causes → why ≢ 0 → Gives (Refused why) 0 out b pairs out
    refused_gives why e d =
        let d' : first_cause causes ≢ 0 = λ z. d (e ∙ z) in
        looked_as (record { answer = Refused (first_cause causes); slice = out }) (past_six ∙ shown_refused causes out (lines_of (figures_of b) pairs) d')
        (Refused why) 0 out (ap Refused e) (rw (ne_eqb (first_cause causes) 0 d') refl) refl

    pub done_gives : first_cause causes ≡ 0 → (visited : ℕ) → visited ≡ visited_of b pairs
        → (left : List ℤ) → left ≡ lines_of (figures_of b) pairs ++ drop (4 * pair_count pairs) out → Gives Done visited left b pairs out
    done_gives z visited ev left el =
        let lines = lines_of (figures_of b) pairs in
        let ok = is_accepted b.setup.n (length out) pairs z in
        let long : length lines ≡ 4 * pair_count pairs = length_lines (figures_of b) pairs (pair_count pairs) (λ i h. (ok.accounts_there i h, omega (arith, length_figures b (site_in pairs i)))) in
        looked_as (record { answer = Done; slice = lines ++ drop (length lines) out }) (past_six ∙ shown_done b.setup.n (length out) pairs out lines z)
        Done visited left refl ev (el ∙ ap (λ (n : ℕ). lines ++ drop n out) (sym long))

-- ---- what arrays show

-- the board shows the records and the books that stand there
module _ (setup : Setup) (a : Arrays) (p : ℕ) (there : p < sites) where
  pub record_shown : lines_at a p ≡ record_of (view setup a) p
  unfolding record_in
  record_shown = ap numbers_of (sym (site_record a p)) ∙ ap (λ (s : Site). numbers_of s.delivered) (sym (site_at_lem setup a p there))

  pub numbers_shown : numbers_at a p ≡ figures_of (view setup a) p
  unfolding figures_of view table_of row_of
  numbers_shown = ap (λ (l : List ℕ). numbers (books blank (table_of a) l)) record_shown

-- ---- a look-up on a board at work

module _ (setup : Setup) (a : Arrays) (few : setup.n ≤ sites) (pairs : List ℕ) (out : List ℤ)
    (why : ℕ) (cause-is : why ≡ first_cause (pair_causes setup.n (length out) pairs)) where
  pub refused_at : is_sound (view setup a) ≡ true → why ≢ 0 → Gives (Refused why) 0 out (view setup a) pairs out
  unfolding view
  refused_at sound d = refused_gives (view setup a) pairs out sound why cause-is d

  module _ (none : why ≡ 0) where
    accepted : Accepted setup.n (length out) pairs
    accepted = is_accepted setup.n (length out) pairs (sym cause-is ∙ none)

    pub pairs_within : Within pairs
    pairs_within i h = (omega (arith, accepted.sites i h, few), accepted.accounts_there i h)

    pub lines_fit : 4 * pair_count pairs ≤ length out
    lines_fit = accepted.fits

    abbrev named : ℕ
    named = named_to (pair_count pairs) pairs

    -- a pair's site is in the mask
    pair_named : (i : ℕ) → i < pair_count pairs → has_bit named (site_in pairs i) ≡ true
    pair_named i h =
        named_bit pairs (pair_count pairs) (site_in pairs i) (pairs_within i h).0
        ∙ any_from (λ j. eqb (site_in pairs i) (site_in pairs j)) (pair_count pairs) i h (eq-eqb (site_in pairs i) (site_in pairs i) refl)

    pub done_at : is_sound (view setup a) ≡ true
        → (mask : ℕ) → mask ≡ named → (visited : ℕ) → visited ≡ visited_to setup.n (has_bit mask) (places_at a)
        → (figures : List ℤ) → Gathered (numbers_at a) mask setup.n figures
        → (left : List ℤ) → left ≡ lines_of (block_of figures) pairs ++ drop (4 * pair_count pairs) out
        → Gives Done visited left (view setup a) pairs out
    unfolding view visited_of is_named
    done_at sound mask em visited ev figures g left el =
        done_gives (view setup a) pairs out sound (sym cause-is ∙ none) visited
        (ev
        ∙ ap (λ (k : ℕ). visited_to setup.n (has_bit k) (places_at a)) em
        ∙ visited_same setup.n (has_bit named) (is_named pairs) (places_at a) (λ p. length (record_of (view setup a) p))
        (λ p h. named_bit pairs (pair_count pairs) p (omega (arith, few)))
        (λ p h. ap length (record_shown setup a p (omega (arith, few)))))
        left
        (el
        ∙ ap (λ (l : List ℤ). l ++ drop (4 * pair_count pairs) out)
        (lines_same (block_of figures) (figures_of (view setup a)) pairs (pair_count pairs)
        (λ i h. g (site_in pairs i) (accepted.sites i h) (ap (λ (k : ℕ). has_bit k (site_in pairs i)) em ∙ pair_named i h) ∙ numbers_shown setup a (site_in pairs i) (pairs_within i h).0)))

-- ---- arrays that show a sound board

-- what a look-up on them asks
pub may_look_up :
    (setup : Setup) (a : Arrays) → Right a → is_sound (view setup a) ≡ true → (setup.n ≤ sites)
    × ((p : ℕ) → p < setup.n → Postable (table_of a) (record_in a p))
may_look_up setup a right sound =
    let few = few_sites setup a right sound in
    (few, may_post_at setup a right.masks_long sound few)

-- the board that they show, by another name
pub gives_on : {b c : Board} (answer : Answer) (visited : ℕ) (slice : List ℤ) (pairs : List ℕ) (out : List ℤ)
    → b ≡ c → Gives answer visited slice b pairs out → Gives answer visited slice c pairs out
gives_on answer visited slice pairs out e g = subst (λ (x : Board). Gives answer visited slice x pairs out) e g
