-- The books agree: demand 3 of a list of calls, clause by clause, in the words of document 01, "The lists of demand 3".
-- Rests on machine's definitions, which the public methods promise, and on Lists for lists of numbers. The proof is in proofs/Proved.
use Rattle.std.specs.Prelude.{ℕ, ◌+◌, ◌*◌, ◌<◌, ◌≤◌, ◌≡◌, false, List, [], ◌++◌, pos, length, get_or}
use Rattle.sets.specs.Sets.{has}
use Rattle.posting.specs.Conflicts.{no_posting, row, conflict}
use Rattle.books.specs.Books.{blank, books, numbers, total}
use Rattle.machine.specs.declared.Board.{Board}
use Rattle.steps.specs.declared.Call.{Call}
use Rattle.machine.specs.Runs.{running, NothingLeft}
use Rattle.machine.specs.History.{accepted_calls, offers, orders, brought_down, naming, actions}
use Rattle.machine.specs.Figures.{record_of, figures_of}
use Rattle.broadcast.specs.Lists.{In, share, OneOrder}

-- most receipts, log entries and log readings for a posting
abbrev pub ceiling_of : ℕ → ℕ
ceiling_of n = 2 * (n * n) + n + 1

-- ---- demand 3, whole

-- Of a list of calls from a board `start` of n sites, where `matrix` tells which kinds conflict; b is the board that it ends on. `done` is what was
-- accepted of it; posting m is the one of the mth offer of `done`. A site that is down counts like one that is up.
pub record BooksAgree (n matrix : ℕ) (start : Board) (calls done : List Call) (b : Board) : Type 0 where
  -- The table's rows are the postings offered, in the order of their offers, and no other is delivered.
  pub rows : (m : ℕ) → m < length (offers done) → row b.table m ≡ get_or (offers done) m no_posting
  pub only_offered : (p x : ℕ) → p < n → In x (record_of b p) → x < length (offers done)
  -- 1 to 3: all sites' records have one order.
  pub order : List ℕ
  pub one_order : OneOrder (conflict matrix b.table) n (record_of b) order
  -- 4. All 64 numbers of a site's books equal those of its share, posted in that order from zeros.
  pub same_books : (p : ℕ) → p < n → figures_of b p ≡ numbers (books blank b.table (share (record_of b p) order))
  -- So any two sites, up or down, that hold the same postings show the same 64 numbers.
  pub same_numbers : (p q : ℕ) → p < n → q < n → ((x : ℕ) → In x (record_of b p) → In x (record_of b q))
      → ((x : ℕ) → In x (record_of b q) → In x (record_of b p)) → figures_of b p ≡ figures_of b q
  -- At every site positions plus settled sums, over all accounts, come to 0.
  pub comes_to_zero : (p : ℕ) → p < n → total (books blank b.table (record_of b p)) ≡ pos 0
  -- 5. Each posting offered is named by at most 2n² + n + 1 accepted receipts, orders and readings; and all together have that many per offer.
  pub ceiling : (m : ℕ) → m < length (offers done) → naming m [] done ≤ ceiling_of n
  pub total : actions done ≤ ceiling_of n * length (offers done)
  -- 6. When none is left to do, the sites still up have the same postings, among them all that those sites offered.
  pub same_postings : NothingLeft b → (p q x : ℕ) → p < n → q < n → brought_down p done ≡ false → brought_down q done ≡ false → In x (record_of b p) → In x (record_of b q)
  pub all_are_offered : NothingLeft b → (p m : ℕ) → p < n → brought_down p done ≡ false
      → m < length (offers done) → brought_down (get_or (offers done) m no_posting).owner done ≡ false → In m (record_of b p)
  -- Then all of them show the same figures.
  pub same_figures : NothingLeft b → (p q : ℕ) → p < n → q < n → brought_down p done ≡ false → brought_down q done ≡ false → figures_of b p ≡ figures_of b q
  -- 7. If no two offered postings conflict, the log was never used: no order was accepted, and the pool was empty on every board of the run.
  pub never_used : ((x y : ℕ) → x < length (offers done) → y < length (offers done) → conflict matrix b.table x y ≡ false)
      → (orders done ≡ []) × ((before after : List Call) → calls ≡ before ++ after → (m : ℕ) → has (running start before).pool m ≡ false)

-- of every list of calls from a board, with the board that it ends on
abbrev pub BooksAgreeAfter : ℕ → ℕ → Board → List Call → Type 0
BooksAgreeAfter n matrix start calls = BooksAgree n matrix start calls (accepted_calls start calls) (running start calls)

-- ---- beside it: uniform agreement

-- When none is left to do, what is in the record of any site, up or down, is in the record of every site that is up.
abbrev pub Uniform : ℕ → List Call → Board → Type 0
Uniform n done b = NothingLeft b → (p q x : ℕ) → p < n → q < n → brought_down q done ≡ false → In x (record_of b p) → In x (record_of b q)
