-- How long the slices are that files are read into.
-- Rests on nothing of the repository.
use Rattle.std.specs.Prelude.{ℕ, ◌≡◌, List, length}

-- a place for every number up to 65,535
pub record Room (kinds firsts seconds amounts wheres : List ℕ) : Type 0 where
  pub kinds_all : length kinds ≡ 65_536
  pub firsts_all : length firsts ≡ 65_536
  pub seconds_all : length seconds ≡ 65_536
  pub amounts_all : length amounts ≡ 65_536
  pub wheres_all : length wheres ≡ 65_536
