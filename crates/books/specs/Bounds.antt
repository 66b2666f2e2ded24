-- How large figures grow, posting by posting, how large they may be so that one posting more overflows no i64, and what may be posted.
-- Rests on Books.
use Rattle.std.specs.Prelude.{◌≡◌, true, ℕ, suc, ◌+◌, ◌*◌, ◌<◌, ◌≤◌, nat_abs, get_or}
use Rattle.sets.specs.Sets.{capacity}
use Rattle.posting.specs.declared.Table.{Table}
use Rattle.posting.specs.declared.Record.{Record}
use Rattle.posting.specs.Kinds.{accounts, fields_ok}
use Rattle.posting.specs.Conflicts.{row, offered}
use Rattle.books.specs.Books.{Books}
use Rattle.books.specs.declared.Figures.{Figures}

-- the largest position after n postings: an opening position of 10^14 and n trades of 10^9
abbrev pub reach : ℕ → ℕ
reach n = 100_000_000_000_000 + n * 1_000_000_000

-- figures after n postings from figures of at most 10^14 either way; each CALL and each NET adds at most a position
pub record After (n : ℕ) (s : Figures) : Type 0 where
  pub position : nat_abs s.position ≤ reach n
  pub rate : nat_abs s.rate ≤ 10_000
  pub called : nat_abs s.called ≤ suc n * reach n
  pub settled : nat_abs s.settled ≤ suc n * reach n

-- figures with room for one posting more: its product and its sums stay below 2^63
pub record Room (s : Figures) : Type 0 where
  pub position : nat_abs s.position ≤ 200_000_000_000_000
  pub rate : nat_abs s.rate ≤ 10_000
  pub called : nat_abs s.called ≤ 4_000_000_000_000_000_000
  pub settled : nat_abs s.settled ≤ 4_000_000_000_000_000_000

-- room on every account
abbrev pub Roomy : Books → Type 0
Roomy s = (k : ℕ) → k < accounts → Room (s k)

-- figures to post from
abbrev pub Opening : Books → Type 0
Opening s = (k : ℕ) → k < accounts → After 0 (s k)

-- a record within the capacity, of postings offered, whose fields are within the rule
pub record Postable (table : Table) (delivered : Record) : Type 0 where
  pub within : delivered.count ≤ capacity
  pub lines : (i : ℕ) → i < delivered.count → offered table (get_or delivered.numbers i 0) ≡ true
  pub rows : (m : ℕ) → offered table m ≡ true → fields_ok (row table m) ≡ true
