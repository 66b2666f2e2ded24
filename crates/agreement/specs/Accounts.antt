-- One account: two sites that hold the same postings touching it show the same four numbers for it (document 02, W12).
-- Rests on machine's definitions, and on same_books for what two records hold of an account. The proof is in proofs/Proved and proofs/Drained.
use Rattle.std.specs.Prelude.{ℕ, ◌<◌, ◌≡◌}
use Rattle.posting.specs.Kinds.{accounts}
use Rattle.machine.specs.declared.Board.{Board}
use Rattle.machine.specs.Figures.{record_of, figures_of}
use Rattle.same_books.specs.Accounts.{SameTouching, number_of}

-- Of n sites, up or down. Nothing is asked of what is in flight, of other accounts, or of the order in the records.
abbrev pub AccountsAgree : ℕ → Board → Type 0
AccountsAgree n b =
    (k p q : ℕ) → k < accounts → p < n → q < n → SameTouching b.table k (record_of b p) (record_of b q)
    → (i : ℕ) → i < 4 → number_of (figures_of b p) k i ≡ number_of (figures_of b q) k i
