-- Records that have one order stand for the same books, from any opening figures: a record's books are those of its share of the order, and two
-- that hold the same postings of an account show the same figures for it. Rests on broadcast's lists and exchanges, and on books. Assumes nothing.
use Prim.Native.Nat.{ℕ, ◌<◌}
use mathlib.Core.Path.{◌≡◌, refl, sym, ap, ◌∙◌}
use mathlib.Core.Logic.{inl, inr}
use mathlib.Core.Bool.{Bool, true, false}
use mathlib.Core.List.{List, [], ◌∷◌}
use lib.IntN.{pos}
use lib.ListN.{get_or}
use Rattle.sets.proofs.Truth.{test}
use Rattle.posting.specs.declared.Table.{Table}
use Rattle.posting.specs.Kinds.{accounts, has_fixed_pairs}
use Rattle.posting.proofs.KindLaws.{Fields}
use Rattle.posting.specs.Conflicts.{row, touches, conflict}
use Rattle.books.specs.declared.Figures.{Figures}
use Rattle.books.specs.Books.{Books, post, books, four, numbers}
use Rattle.books.proofs.Lines.{Exchange, no_conflict_exchange, books_skip}
use Rattle.books.proofs.Blocks.{numbers_at, numbers_same}
use Rattle.broadcast.specs.Lists.{In, Exchanges, keep, share, OneOrder}
use Rattle.broadcast.specs.Deliveries.{fold}
use Rattle.broadcast.proofs.Lists.{share_same}
use Rattle.broadcast.proofs.Exchange.{fold-exchanges}
use Rattle.same_books.specs.Accounts.{SameTouching, number_of}

module _ (table : Table) where
  -- books are a fold, so exchanges leave them
  books_fold : (l : List ℕ) (s : Books) → books s table l ≡ fold (λ x. post (row table x)) l s
  unfolding books
  books_fold [] s = refl
  books_fold (x ∷ l) s = books_fold l (post (row table x) s)

  pub exchanged_books : {c : ℕ → ℕ → Bool} {l r : List ℕ} → ((x y : ℕ) → In x l → In y l → c x y ≡ false → Exchange table x y)
      → Exchanges c l r → (opening : Books) → books opening table l ≡ books opening table r
  exchanged_books {c} {l} {r} free e opening = books_fold l opening ∙ fold-exchanges (λ x. post (row table x)) free e opening ∙ sym (books_fold r opening)

  -- the figures of an account come from the postings that touch it
  books_touching : (k : ℕ) (l : List ℕ) (s : Books) → books s table l k ≡ books s table (keep (λ x. touches (row table x) k) l) k
  unfolding books
  books_touching k [] s = refl
  books_touching k (x ∷ l) s = elim (test (touches (row table x) k)) [
    | inl t ↦ rw t (books_touching k l (post (row table x) s))
    | inr f ↦ rw f (books_skip table x l s k f ∙ books_touching k l s)
  ]

-- ---- records of n sites

-- what stands in one record and does not conflict may be exchanged
abbrev pub Free : Table → (ℕ → ℕ → Bool) → ℕ → (ℕ → List ℕ) → Type 0
Free table c n records = (p x y : ℕ) → p < n → In x (records p) → In y (records p) → c x y ≡ false → Exchange table x y

-- so it is with postings whose fields are within their rows, under a matrix that has the fixed pairs
pub lawful_free : (table : Table) (matrix : ℕ) → has_fixed_pairs matrix ≡ true → (n : ℕ) (records : ℕ → List ℕ)
    → ((p x : ℕ) → p < n → In x (records p) → Fields (row table x)) → Free table (conflict matrix table) n records
lawful_free table matrix fixed n records lawful p x y lt ix iy = no_conflict_exchange matrix fixed table x y (lawful p x lt ix) (lawful p y lt iy)

module _ (table : Table) {c : ℕ → ℕ → Bool} {n : ℕ} {records : ℕ → List ℕ} {order : List ℕ}
    (one : OneOrder c n records order) (free : Free table c n records) (opening : Books) where
  -- A record's books are those of its share.
  pub same_books : (p : ℕ) → p < n → books opening table (records p) ≡ books opening table (share (records p) order)
  same_books p lt = exchanged_books table (λ x y. free p x y lt) (one.becomes_share p lt) opening

  -- One account: the postings that touch it stand in the same order in both shares.
  pub same_account : (k p q : ℕ) → p < n → q < n → SameTouching table k (records p) (records q)
      → books opening table (records p) k ≡ books opening table (records q) k
  same_account k p q lp lq same =
      ap (λ (s : Books). s k) (same_books p lp)
      ∙ books_touching table k (share (records p) order) opening
      ∙ ap (λ (l : List ℕ). books opening table l k) (share_same (λ x. touches (row table x) k) (records p) (records q) same order)
      ∙ sym (books_touching table k (share (records q) order) opening)
      ∙ ap (λ (s : Books). s k) (sym (same_books q lq))

  -- As numbers, of which account k has four.
  pub same_four : (k p q i : ℕ) → k < accounts → i < 4 → p < n → q < n → SameTouching table k (records p) (records q)
      → number_of (numbers (books opening table (records p))) k i ≡ number_of (numbers (books opening table (records q))) k i
  same_four k p q i lk li lp lq same =
      numbers_at accounts (books opening table (records p)) k i lk li
      ∙ ap (λ (s : Figures). get_or (four s) i (pos 0)) (same_account k p q lp lq same)
      ∙ sym (numbers_at accounts (books opening table (records q)) k i lk li)

  -- With the same postings that holds of every account.
  pub same_numbers : (p q : ℕ) → p < n → q < n → ((x : ℕ) → In x (records p) → In x (records q)) → ((x : ℕ) → In x (records q) → In x (records p))
      → numbers (books opening table (records p)) ≡ numbers (books opening table (records q))
  same_numbers p q lp lq forth back =
      numbers_same accounts (books opening table (records p)) (books opening table (records q)) (λ k lt. same_account k p q lp lq (λ x t. (forth x, back x)))
