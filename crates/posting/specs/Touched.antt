-- Whether a posting touches any account, and the rows by which the code looks postings up. What conflicts is defined without it.
-- Rests on Kinds and Conflicts.
use Rattle.std.specs.Prelude.{ℕ, Bool, cond, ◌||◌, eqb, ltb}
use Rattle.posting.specs.declared.Posting.{Posting}
use Rattle.posting.specs.Kinds.{accounts, nets_all}
use Rattle.posting.specs.Conflicts.{touches}

-- it touches some account
unfoldable pub touches_some : Posting → Bool
touches_some p = nets_all p || (ltb p.a accounts || ltb p.b accounts)

-- a row stands for an account; the row of all is behind them
abbrev pub every_row : ℕ
every_row = accounts

-- a posting stands in a row: it touches the account, or, in the row of all, some account
unfoldable pub stands_in : Posting → ℕ → Bool
stands_in p line = cond (eqb line every_row) (touches_some p) (touches p line)
