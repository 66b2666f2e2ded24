-- The places of a board's sites in counts, store by store; and the counts of a board at work.
-- Rests on machine's QuietParts and View. Assumes nothing.
use Prim.Native.Nat.{ℕ, ◌+◌, ◌<◌, ◌≤◌}
use mathlib.Core.Path.{◌≡◌, refl, sym, ap, ◌∙◌}
use mathlib.Core.Logic.{◌≢◌}
use mathlib.Core.List.{List}
use native.Mathlib.Omega.{arith}
use native.Mathlib.Decide.{dec_lt, ℕ_discrete}
use lib.ListN.{length, get_or, set, length-set, get_or-eq_default}
use lib.Seq.{get_or-set_same, get_or-set_other}
use borrow.Author.Tests.{lt-ltb, le-ltb}
use Rattle.books.specs.Books.{tabulate}
use Rattle.books.proofs.Lists.{length_tabulate}
use Rattle.site.specs.declared.Setup.{Setup}
use Rattle.site.specs.declared.Site.{Site}
use Rattle.site.specs.Sites.{sites, no_site}
use Rattle.arrays.specs.Layout.{place_at, logged_at, counts_long}
use Rattle.arrays.specs.declared.Arrays.{Arrays}
use Rattle.machine.specs.Boards.{site_at}
use Rattle.machine.specs.QuietParts.{place_in, PlacesOf}
use Rattle.views.specs.Views.{site_of, log_of}
use Rattle.machine.specs.View.{view}
use Rattle.machine.proofs.Local.{site_at_lem}

-- the places of the first p sites stand in the counts
abbrev pub PlacesTo : List Site → ℕ → List ℕ → ℕ → Type 0
PlacesTo l logged counts p =
    (length counts ≡ counts_long) × (get_or counts logged_at 0 ≡ logged) × ((q : ℕ) → q < p → get_or counts (place_at q) 0 ≡ (get_or l q no_site).place)

pub place_stored : (l : List Site) (logged : ℕ) (counts : List ℕ) (p : ℕ) → p < sites → PlacesTo l logged counts p
    → PlacesTo l logged (set counts (place_at p) (get_or l p no_site).place) (p + 1)
place_stored l logged counts p h k = (
  length-set counts (place_at p) (get_or l p no_site).place ∙ k.0,
  get_or-set_other counts (place_at p) logged_at (get_or l p no_site).place 0 (λ e. omega arith) ∙ k.1,
  λ q b. elim (ℕ_discrete q p) [
    | yes e ↦ let inside : place_at p < length counts = omega (arith, k.0) in rw e (get_or-set_same counts (place_at p) (get_or l p no_site).place 0 inside)
    | no n ↦ get_or-set_other counts (place_at p) (place_at q) (get_or l p no_site).place 0 (λ e. n (omega arith)) ∙ k.2 q (omega arith)
  ],
)

pub places_all : (l : List Site) (logged : ℕ) (counts : List ℕ) → length l ≡ sites → PlacesTo l logged counts sites → (p : ℕ) → (get_or l p no_site).place ≡ place_in counts p
places_all l logged counts long k p = elim (dec_lt p sites) [
  | yes h ↦ rw (lt-ltb p sites h) (sym (k.2 p h))
  | no h ↦
      let past : length l ≤ p = omega (arith, long) in
      rw (le-ltb p sites (omega arith), get_or-eq_default l no_site past)
]

-- a board at work
pub places_at : (setup : Setup) (a : Arrays) → PlacesOf (view setup a) a.counts
unfolding view site_of log_of
places_at setup a =
    record {
      places = λ p. elim (dec_lt p sites) [
        | yes h ↦ rw (lt-ltb p sites h) (ap (λ (s : Site). s.place) (site_at_lem setup a p h))
        | no h ↦
            let past : length (view setup a).sites ≤ p = omega (arith, length_tabulate sites (site_of a)) in
            rw (le-ltb p sites (omega arith)) (ap (λ (s : Site). s.place) (get_or-eq_default (view setup a).sites no_site past))
      ];
      logged = refl;
    }
