-- What the lines of a record need to be posted, and how large figures grow from zeros.
-- Rests on Figures, posting, books and audit_rule's Handed.
use Rattle.std.specs.Prelude.{ℕ, ◌*◌, ◌<◌, ◌≤◌, ◌≡◌, true, List, nat_abs, length, get_or}
use Rattle.posting.specs.Kinds.{fields_ok}
use Rattle.books.specs.declared.Figures.{Figures}
use Rattle.audit_rule.specs.Handed.{posting_at}
use Rattle.audit_books.specs.Figures.{most_lines}

-- figures after n postings from zeros: a TRADE moves a position by at most 10^9, and each CALL and each NET adds at most the position, so that
-- called and settled grow as half of n × n × 10^9
pub record Grown (n : ℕ) (s : Figures) : Type 0 where
  pub position : nat_abs s.position ≤ n * 1_000_000_000
  pub rate : nat_abs s.rate ≤ 10_000
  pub called : 2 * nat_abs s.called ≤ n * n * 1_000_000_000
  pub settled : 2 * nat_abs s.settled ≤ n * n * 1_000_000_000

-- each line's posting is there, within its kind's row
pub record Postable (kinds firsts seconds amounts lines : List ℕ) : Type 0 where
  pub few : length lines ≤ most_lines
  pub firsts_long : length firsts ≡ length kinds
  pub seconds_long : length seconds ≡ length kinds
  pub amounts_long : length amounts ≡ length kinds
  pub known : (i : ℕ) → i < length lines → get_or lines i 0 < length kinds
  pub lawful : (i : ℕ) → i < length lines → fields_ok (posting_at kinds firsts seconds amounts (get_or lines i 0)) ≡ true
