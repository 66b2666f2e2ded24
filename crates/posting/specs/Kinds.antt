-- The kinds of posting, the field rule of refusal 9, and the matrix over kinds of refusals 4 and 5.
-- Rests on the declared Posting, and on sets for bits.
use Rattle.std.specs.Prelude.{ℕ, ◌+◌, ◌*◌, Bool, false, cond, not, ◌&&◌, ◌||◌, List, [], ◌∷◌, eqb, ltb, leb, get_or}
use Rattle.std.specs.Bool.{beq}
use Rattle.sets.specs.Below.{all_below}
use Rattle.sets.specs.Masks.{has_bit}
use Rattle.posting.specs.declared.Posting.{Posting}

-- ---- kinds and fields

abbrev pub trade : ℕ
trade = 0

abbrev pub rate : ℕ
rate = 1

abbrev pub call : ℕ
call = 2

abbrev pub net : ℕ
net = 3

abbrev pub kinds : ℕ
kinds = 4

-- accounts are 0 to 15
abbrev pub accounts : ℕ
accounts = 16

-- a kind's row of the table: TRADE a ≠ b, amount 1 to 1,000,000,000; RATE b = a, amount 0 to 10,000; CALL and NET b = a, amount 0
unfoldable pub in_row : ℕ → ℕ → ℕ → ℕ → Bool
in_row kind a b amount =
    cond (eqb kind trade) (not (eqb a b) && (leb 1 amount && leb amount 1_000_000_000))
    (cond (eqb kind rate) (eqb b a && leb amount 10_000)
    (cond (eqb kind call) (eqb b a && eqb amount 0)
    (cond (eqb kind net) (eqb b a && eqb amount 0)
    false)))

-- what stands in place of both accounts where every account is meant
abbrev pub every_account : ℕ
every_account = 255

-- a NET with both accounts 255
unfoldable pub net_of_all : ℕ → ℕ → ℕ → Bool
net_of_all kind a b = eqb kind net && (eqb a every_account && eqb b every_account)

-- the posting nets every account
abbrev pub nets_all : Posting → Bool
nets_all p = net_of_all p.kind p.a p.b

-- both are accounts, or both are 255 of a NET
unfoldable pub accounts_ok : ℕ → ℕ → ℕ → Bool
accounts_ok kind a b = net_of_all kind a b || (ltb a accounts && ltb b accounts)

-- the accounts may stand for the kind, and all is within the kind's row; refusal 9 otherwise
unfoldable pub fields_ok : Posting → Bool
fields_ok p = accounts_ok p.kind p.a p.b && in_row p.kind p.a p.b p.amount

-- ---- the matrix

-- the matrix says yes for kinds i and j: row i, column j is bit 4 i + j; what is no kind gets no
unfoldable pub matrix_entry : ℕ → ℕ → ℕ → Bool
matrix_entry matrix i j = ltb i kinds && (ltb j kinds && has_bit matrix (4 * i + j))

-- all pairs of kinds pass
unfoldable pub all_pairs : (ℕ → ℕ → Bool) → Bool
all_pairs p = all_below (λ i. all_below (p i) kinds) kinds

-- row i, column j is as row j, column i
unfoldable pub turned_alike : ℕ → ℕ → ℕ → Bool
turned_alike matrix i j = beq (matrix_entry matrix i j) (matrix_entry matrix j i)

-- all entries are as their turned ones; refusal 4 otherwise
unfoldable pub symmetric : ℕ → Bool
symmetric matrix = all_pairs (turned_alike matrix)

-- 0-2, 0-3, 1-1, 1-2, 2-3, both ways round: the pairs of kinds that don't commute on a shared account
unfoldable pub fixed_pairs : List (List ℕ)
fixed_pairs =
    (0 ∷ 0 ∷ 1 ∷ 1 ∷ [])
    ∷ (0 ∷ 1 ∷ 1 ∷ 0 ∷ [])
    ∷ (1 ∷ 1 ∷ 0 ∷ 1 ∷ [])
    ∷ (1 ∷ 0 ∷ 1 ∷ 0 ∷ [])
    ∷ []

-- kinds i and j are a fixed pair
unfoldable pub fixed_pair : ℕ → ℕ → Bool
fixed_pair i j = eqb (get_or (get_or fixed_pairs i []) j 0) 1

-- if kinds i and j are a fixed pair, the matrix says yes for them
unfoldable pub pair_ok : ℕ → ℕ → ℕ → Bool
pair_ok matrix i j = not (fixed_pair i j) || matrix_entry matrix i j

-- the matrix says yes for every fixed pair; refusal 5 otherwise
unfoldable pub has_fixed_pairs : ℕ → Bool
has_fixed_pairs matrix = all_pairs (pair_ok matrix)
