-- The figures of the records of all sites, one behind the other.
-- Rests on Lines, books and audit_rule's Handed.
use Rattle.std.specs.Prelude.{ℕ, zero, suc, ◌<◌, ◌≤◌, List, [], ◌++◌, ℤ, length}
use Rattle.books.specs.Books.{books, blank, numbers}
use Rattle.audit_rule.specs.Handed.{table_of, record_of}
use Rattle.audit_rule.specs.Needs.{Rising}
use Rattle.audit_books.specs.Lines.{Postable}

module _ (kinds firsts seconds amounts lines ends : List ℕ) where
  -- of site p, posted from zeros
  abbrev pub numbers_of_site : ℕ → List ℤ
  numbers_of_site p = numbers (books blank (table_of kinds firsts seconds amounts) (record_of lines ends p))

  -- of the first sites: those of site p from 64 p on
  unfoldable pub numbers_of_all : ℕ → List ℤ
  numbers_of_all zero = []
  numbers_of_all (suc p) = numbers_of_all p ++ numbers_of_site p

  -- every record can be posted
  pub record AllPostable : Type 0 where
    pub ends_rise : Rising lines ends
    pub few : length ends ≤ 7
    pub each : (p : ℕ) → p < length ends → Postable kinds firsts seconds amounts (record_of lines ends p)
