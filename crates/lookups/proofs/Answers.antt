-- What a look-up means, in the request's words. every_line: an accepted look-up's numbers are those that books would give. equal_lines: equal pairs get equal lines.
-- visited_sum, visited_most: how many places were visited. beyond_stays, refused_stays: what stays of the slice.
-- Rests on Lookup. Assumes nothing.
use Prim.Native.Nat.{ℕ, ◌+◌, ◌*◌, ◌<◌, ◌≤◌}
use mathlib.Core.Path.{◌≡◌, refl, sym, ap, ap₂, ◌∙◌}
use mathlib.Core.Logic.{inl, inr, ◌≢◌}
use mathlib.Core.Bool.{true}
use mathlib.Core.List.{List, ◌++◌}
use native.Mathlib.Decide.{ℕ_discrete}
use native.Mathlib.Omega.{arith}
use lib.IntN.{ℤ, pos}
use lib.ListN.{length, get_or, drop, get_or-append}
use lib.Seq.{get_or-take, get_or-drop, drop_at}
use borrow.Author.Tests.{lt-leb, le-ltb}
use Rattle.sets.proofs.Truth.{test}
use Rattle.steps.specs.CauseLists.{first_cause}
use Rattle.machine.specs.declared.Board.{Board}
use Rattle.machine.specs.declared.Answer.TheVariants.{Done}
use Rattle.machine.specs.Soundness.{is_sound}
use Rattle.machine.specs.Calls.{refusal_of}
use Rattle.machine.specs.Figures.{record_of, figures_of, Shown, shown, showing}
use Rattle.lookup_pairs.specs.Pairs.{pair_count, site_in, account_in, pair_causes, is_named, visited_to, lines_of}
use Rattle.lookup_pairs.proofs.PairLaws.{Whole, length_lines, line_at, visited_less}
use Rattle.lookup_pairs.proofs.Refusals.{Accepted, is_accepted}
use Rattle.lookups.specs.Lookups.{visited_of, looking_up}
use Rattle.lookups.proofs.Lookup.{unsound_gives, refused_gives, done_gives, length_figures}

-- the books of a site of a sound board, in a slice that has room
books_shown : (b : Board) → is_sound b ≡ true → (p : ℕ) → p < b.setup.n → (lent : List ℤ) → 64 ≤ length lent
    → showing b p lent ≡ record { answer = Done; slice = figures_of b p ++ drop 64 lent }
unfolding showing shown
books_shown b sound p there lent fits = rw (sound, lt-leb b.setup.n p there, le-ltb (length lent) 64 fits, length_figures b p) refl

module _ (b : Board) (pairs : List ℕ) (out : List ℤ) where
  -- number j of the line of pair i, in the slice after a look-up
  abbrev pub number_at : (i j : ℕ) → ℤ
  number_at i j = get_or (looking_up b pairs out).slice (4 * i + j) (pos 0)

  -- what is refused leaves the slice as it was, with no place visited
  pub refused_stays : refusal_of (looking_up b pairs out).answer ≢ 0 → ((looking_up b pairs out).slice ≡ out) × ((looking_up b pairs out).visited ≡ 0)
  refused_stays d = elim (test (is_sound b)) [
    | inr f ↦ let gives = unsound_gives b pairs out f in (sym gives.2, sym gives.1)
    | inl t ↦ elim (ℕ_discrete (first_cause (pair_causes b.setup.n (length out) pairs)) 0) [
      | no e ↦ let gives = refused_gives b pairs out t _ refl e in (sym gives.2, sym gives.1)
      | yes e ↦ absurd (d (sym (ap refusal_of (done_gives b pairs out t e _ refl _ refl).0)))
    ]
  ]

  -- an accepted one
  module _ (accepted : refusal_of (looking_up b pairs out).answer ≡ 0) where
    sound : is_sound b ≡ true
    sound = elim (test (is_sound b)) [
      | inl t ↦ t
      | inr f ↦ absurd (omega (arith, ap refusal_of (unsound_gives b pairs out f).0 ∙ accepted))
    ]

    none : first_cause (pair_causes b.setup.n (length out) pairs) ≡ 0
    none = elim (ℕ_discrete (first_cause (pair_causes b.setup.n (length out) pairs)) 0) [
      | yes e ↦ e
      | no d ↦ absurd (d (ap refusal_of (refused_gives b pairs out sound _ refl d).0 ∙ accepted))
    ]

    ok : Accepted b.setup.n (length out) pairs
    ok = is_accepted b.setup.n (length out) pairs none

    filled : (looking_up b pairs out).slice ≡ lines_of (figures_of b) pairs ++ drop (4 * pair_count pairs) out
    filled = sym (done_gives b pairs out sound none _ refl _ refl).2

    whole : Whole (figures_of b) pairs (pair_count pairs)
    whole i h = (ok.accounts_there i h, omega (arith, length_figures b (site_in pairs i)))

    long : length (lines_of (figures_of b) pairs) ≡ 4 * pair_count pairs
    long = length_lines (figures_of b) pairs (pair_count pairs) whole

    number_is : (i j : ℕ) → i < pair_count pairs → j < 4 → number_at i j ≡ get_or (figures_of b (site_in pairs i)) (4 * account_in pairs i + j) (pos 0)
    number_is i j h l =
        let own = figures_of b (site_in pairs i) in
        let k = account_in pairs i in
        ap (λ (x : List ℤ). get_or x (4 * i + j) (pos 0)) filled
        ∙ get_or-append (lines_of (figures_of b) pairs) (drop (4 * pair_count pairs) out) (pos 0) (4 * i + j) (omega (arith, long))
        ∙ line_at (figures_of b) pairs (pair_count pairs) whole i j h l
        ∙ get_or-take 4 (drop (4 * k) own) j (pos 0) l
        ∙ get_or-drop (4 * k) own j (pos 0)

    -- every line equals what books would give: those of its site are shown, and the four numbers of its account are the line's
    pub every_line : (i j : ℕ) → i < pair_count pairs → j < 4 → (lent : List ℤ) → 64 ≤ length lent
        → ((showing b (site_in pairs i) lent).answer ≡ Done) × (number_at i j ≡ get_or (showing b (site_in pairs i) lent).slice (4 * account_in pairs i + j) (pos 0))
    every_line i j h l lent fits =
        let p = site_in pairs i in
        let k = account_in pairs i in
        let shows = books_shown b sound p (ok.sites i h) lent fits in (
          ap (λ (s : Shown). s.answer) shows,
          number_is i j h l
              ∙ sym (get_or-append (figures_of b p) (drop 64 lent) (pos 0) (4 * k + j) (omega (arith, length_figures b p, ok.accounts_there i h)))
              ∙ ap (λ (s : Shown). get_or s.slice (4 * k + j) (pos 0)) (sym shows),
        )

    -- equal pairs get equal lines
    pub equal_lines : (i h j : ℕ) → i < pair_count pairs → h < pair_count pairs → j < 4 → site_in pairs i ≡ site_in pairs h → account_in pairs i ≡ account_in pairs h → number_at i j ≡ number_at h j
    equal_lines i h j li lh l es ea =
        number_is i j li l ∙ ap₂ (λ (p k : ℕ). get_or (figures_of b p) (4 * k + j) (pos 0)) es ea ∙ sym (number_is h j lh l)

    -- the lengths of the records of the sites named, added up
    pub visited_sum : (looking_up b pairs out).visited ≡ visited_to b.setup.n (is_named pairs) (λ p. length (record_of b p))
    unfolding visited_of
    visited_sum = sym (done_gives b pairs out sound none _ refl _ refl).1

    -- at most those of all sites
    pub visited_most : (looking_up b pairs out).visited ≤ visited_to b.setup.n (λ p. true) (λ p. length (record_of b p))
    visited_most = rw visited_sum (visited_less b.setup.n (is_named pairs) (λ p. length (record_of b p)))

    -- what lies beyond the lines stays
    pub beyond_stays : drop (4 * pair_count pairs) (looking_up b pairs out).slice ≡ drop (4 * pair_count pairs) out
    beyond_stays = ap (drop (4 * pair_count pairs)) filled ∙ drop_at (lines_of (figures_of b) pairs) (drop (4 * pair_count pairs) out) (4 * pair_count pairs) long
