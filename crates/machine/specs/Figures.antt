-- The books of a site, and of all sites, up or down: showing figures from a site's record is no act.
-- Rests on Boards, Soundness and books.
use Rattle.std.specs.Prelude.{ℕ, zero, suc, ◌*◌, cond, not, List, [], ◌∷◌, ◌++◌, ltb, ℤ, length, drop}
use Rattle.posting.specs.Records.{numbers_of}
use Rattle.books.specs.Books.{blank, books, numbers}
use Rattle.machine.specs.declared.Board.{Board}
use Rattle.machine.specs.declared.Answer.{Answer}
use Rattle.machine.specs.declared.Answer.TheVariants.{Done, Refused}
use Rattle.machine.specs.Boards.{site_at}
use Rattle.machine.specs.Soundness.{is_sound}
use Rattle.steps.specs.Causes.{Cause, cause}
use Rattle.machine.specs.Calls.{no_such_site}

-- the numbers of a site's record, in order
abbrev pub record_of : Board → ℕ → List ℕ
record_of b p = numbers_of (site_at b p).delivered

-- the 64 numbers of a site's books: its record posted line by line, from zeros
unfoldable pub figures_of : Board → ℕ → List ℤ
figures_of b p = numbers (books blank b.table (record_of b p))

-- those of the first n sites: the 64 numbers of site s begin at 64s
unfoldable pub figures_of_all : Board → ℕ → List ℤ
figures_of_all b zero = []
figures_of_all b (suc n) = figures_of_all b n ++ figures_of b n

-- an answer, and the lent slice
pub record Shown : Type 0 where
  pub answer : Answer
  pub slice : List ℤ

-- the first cause that applies refuses, and the slice stays; else the figures fill it, and what lies beyond stays
unfoldable pub shown : List Cause → List ℤ → List ℤ → Shown
shown [] slice figures = record { answer = Done; slice = figures ++ drop (length figures) slice }
shown (c ∷ l) slice figures =
    let rest = shown l slice figures in
    cond c.applies (record { answer = Refused c.number; slice = slice }) rest

-- The books of one site.
unfoldable pub showing : Board → ℕ → List ℤ → Shown
showing b site slice =
    shown
    (cause 6 (not (is_sound b))
    ∷ cause 7 (no_such_site b site)
    ∷ cause 16 (ltb (length slice) 64)
    ∷ [])
    slice (figures_of b site)

-- The books of all sites.
unfoldable pub showing_all : Board → List ℤ → Shown
showing_all b slice =
    shown
    (cause 6 (not (is_sound b))
    ∷ cause 16 (ltb (length slice) (64 * b.setup.n))
    ∷ [])
    slice (figures_of_all b b.setup.n)
