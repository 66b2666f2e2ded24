-- What the searches give is what a drain does next: the lowest posting of the pool is ordered, else the lowest site with log left reads.
-- Rests on Drain, Searches and machine's view of the arrays. Assumes nothing.
use Prim.Native.Nat.{ℕ, zero, suc, ◌*◌, ◌<◌, ◌≤◌}
use mathlib.Core.Path.{◌≡◌, refl, ap, subst}
use mathlib.Core.Bool.{Bool, true, false, cond, ◌&&◌}
use mathlib.Core.List.{List, [], ◌∷◌, ◌++◌}
use native.Mathlib.Omega.{arith}
use native.Mathlib.Decide.{ℕ_discrete}
use lib.Dec.{ltb}
use lib.ListN.{length}
use borrow.Author.Tests.{lt-ltb}
use Rattle.sets.specs.Words.{member, members_below, members}
use Rattle.sets.specs.Sets.{words, capacity, has, members_of}
use Rattle.site.specs.declared.Setup.{Setup}
use Rattle.site.specs.declared.Site.{Site}
use Rattle.site.specs.Sites.{sites}
use Rattle.arrays.specs.Layout.{down_at}
use Rattle.arrays.specs.declared.Arrays.{Arrays}
use Rattle.arrays.specs.Arrays.{byte}
use Rattle.machine.specs.declared.Board.{Board}
use Rattle.steps.specs.declared.Cut.TheVariants.{Whole}
use Rattle.steps.specs.declared.Call.TheVariants.{Order, Read}
use Rattle.machine.specs.Boards.{site_at, is_up}
use Rattle.views.specs.Views.{site_of, log_of}
use Rattle.machine.specs.View.{view}
use Rattle.machine.proofs.Local.{site_at_lem}
use Rattle.drain.specs.Drain.{none, event, next_read, next_order}
use Rattle.drain.specs.Firsts.{first_below, reads}
use Rattle.drain.proofs.Searches.{IsFirst, is_first}

-- ---- the members of a set

module _ (ws : List ℕ) where
  no_members : (n : ℕ) → ((i : ℕ) → i < n → member ws i ≡ false) → members_below ws n ≡ []
  unfolding members_below
  no_members zero f = refl
  no_members (suc n) f = rw (no_members n (λ i h. f i (omega arith)), f n (omega arith))

  first_member : (n r : ℕ) → r < n → member ws r ≡ true → ((i : ℕ) → i < r → member ws i ≡ false) → (l : List ℕ) × (members_below ws n ≡ r ∷ l)
  unfolding members_below
  first_member zero r h t f = absurd (omega arith)
  first_member (suc n) r h t f = elim (ℕ_discrete r n) [
    | yes d ↦ ([], rw (← d) (rw (no_members r f, t)))
    | no d ↦
        let (l, e) = first_member n r (omega arith) t f in
        (l ++ cond (member ws n) (n ∷ []) [], rw e)
  ]

module _ (b : Board) where
  -- ---- an order

  module _ (r : ℕ) (e : r ≡ first_below (has b.pool) capacity) where
    lowest_posting : IsFirst (has b.pool) capacity r
    lowest_posting = rw e (is_first (has b.pool) capacity)

    pub order_found : r < capacity → length b.pool.words ≡ words → next_order b (members_of b.pool) ≡ event (Order r)
    unfolding next_order members
    order_found h long =
        let (l, same) = first_member b.pool.words (64 * length b.pool.words) r (omega arith) (lowest_posting.passes h) lowest_posting.fails in
        ap (next_order b) same

    pub order_none : capacity ≤ r → length b.pool.words ≡ words → next_order b (members_of b.pool) ≡ next_read b b.setup.n
    unfolding next_order members
    order_none h long =
        ap (next_order b) (no_members b.pool.words (64 * length b.pool.words) (λ i l. lowest_posting.fails i (omega arith)))

-- ---- a reading

module _ (setup : Setup) (a : Arrays) (few : setup.n ≤ sites) where
  abbrev b : Board
  b = view setup a

  -- site p is up and has log left
  abbrev left : ℕ → Bool
  left p = reads a.counts (byte a.bytes down_at) p

  -- Drain's own test, of a site of the board
  same_test : (p : ℕ) → p < setup.n → (is_up b p && ltb (site_at b p).place b.log.count) ≡ left p
  unfolding reads view log_of site_of
  same_test p h =
      let there : p < sites = omega (arith, h, few) in
      rw (lt-ltb p setup.n h, ap (λ (s : Site). s.place) (site_at_lem setup a p there))

  no_reader : (n : ℕ) → n ≤ setup.n → ((p : ℕ) → p < n → left p ≡ false) → next_read b n ≡ none
  unfolding next_read
  no_reader zero le f = refl
  no_reader (suc n) le f = rw (no_reader n (omega arith) (λ p h. f p (omega arith)), same_test n (omega arith), f n (omega arith))

  last_reader : (n : ℕ) → n < setup.n → left n ≡ true → ((p : ℕ) → p < n → left p ≡ false) → next_read b (suc n) ≡ event (Read n Whole)
  unfolding next_read
  last_reader n h t f = rw (no_reader n (omega arith) f, same_test n h, t)

  first_reader : (n r : ℕ) → n ≤ setup.n → r < n → left r ≡ true → ((p : ℕ) → p < r → left p ≡ false) → next_read b n ≡ event (Read r Whole)
  unfolding next_read
  first_reader zero r le h t f = absurd (omega arith)
  first_reader (suc n) r le h t f = elim (ℕ_discrete r n) [
    | yes d ↦ subst (λ (k : ℕ). next_read b (suc k) ≡ event (Read r Whole)) d (last_reader r (omega arith) t f)
    | no d ↦ rw (first_reader n r (omega arith) (omega arith) t f)
  ]

  module _ (r : ℕ) (e : r ≡ first_below (reads a.counts (byte a.bytes down_at)) setup.n) where
    lowest_reader : IsFirst left setup.n r
    lowest_reader = rw e (is_first left setup.n)

    pub read_found : r < setup.n → next_read b setup.n ≡ event (Read r Whole)
    read_found h = first_reader setup.n r (omega arith) h (lowest_reader.passes h) lowest_reader.fails

    pub read_none : setup.n ≤ r → next_read b setup.n ≡ none
    read_none h = no_reader setup.n (omega arith) (λ p l. lowest_reader.fails p (omega arith))
