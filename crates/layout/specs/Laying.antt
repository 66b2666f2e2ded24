-- What a board has laid out on flat arrays: what each function makes of its array.
-- Proof machinery: Laid in machine's proofs says that the arrays then show the board. Rests on arrays and index, on site, posting and sets.
use Rattle.std.specs.Prelude.{ℕ, zero, suc, ◌+◌, ◌*◌, ◌<◌, ◌≤◌, ◌≡◌, true, List, [], ◌∷◌, get_or, set}
use Rattle.std.proofs.lemmas.List.Edits.{sets}
use Rattle.sets.specs.declared.Set.{Set}
use Rattle.sets.specs.Sets.{capacity, set_of}
use Rattle.posting.specs.declared.Posting.{Posting}
use Rattle.posting.specs.declared.Table.{Table}
use Rattle.posting.specs.declared.Record.{Record}
use Rattle.posting.specs.Kinds.{kinds, accounts_ok}
use Rattle.posting.specs.Conflicts.{row, no_posting}
use Rattle.posting.specs.Records.{contains}
use Rattle.site.specs.declared.Site.{Site}
use Rattle.site.specs.declared.Tally.{Tally}
use Rattle.site.specs.Sites.{sites, no_set, no_site, no_tally}
use Rattle.arrays.specs.Layout.{pool_slot, have_of, count_at, logged_at, down_at, log_at}
use Rattle.arrays.specs.Arrays.{storing}
use Rattle.index.specs.Index.{indexing}

-- f 0, f 1 to f (n - 1), one after another
unfoldable pub up_to : {A : Type 0} → (ℕ → A → A) → A → ℕ → A
up_to f a zero = a
up_to f a (suc n) = f n (up_to f a n)

-- ---- sets

-- the sets of a site, in the order of their slots; of a posting, the union of its tally and its entry
abbrev pub set_no : Site → ℕ → Set
set_no s k = get_or (s.seen ∷ s.held ∷ s.stepped ∷ s.finished ∷ s.got ∷ []) k no_set

abbrev pub pair_no : Set → Set → ℕ → Set
pair_no union entry k = get_or (union ∷ entry ∷ []) k no_set

unfoldable pub site_sets : List ℕ → ℕ → Site → List ℕ
site_sets ws p s = up_to (λ k l. storing l (k * sites + p) (set_no s k)) ws 5

unfoldable pub posting_sets : List ℕ → ℕ → Set → Set → List ℕ
posting_sets ws m union entry = up_to (λ k l. storing l (5 * sites + 1 + k * capacity + m) (pair_no union entry k)) ws 2

-- what a record has
abbrev pub record_set : Record → Set
record_set r = set_of (contains r)

-- the sites below n, what their records have, the postings below n, and those of the index
abbrev pub sites_sets : List ℕ → List Site → ℕ → List ℕ
sites_sets ws ss n = up_to (λ p l. site_sets l p (get_or ss p no_site)) ws n

abbrev pub have_sets : List ℕ → List Site → ℕ → List ℕ
have_sets ws ss n = up_to (λ p l. storing l (have_of p) (record_set (get_or ss p no_site).delivered)) ws n

abbrev pub postings_sets : List ℕ → List Tally → List Set → ℕ → List ℕ
postings_sets ws ts es n = up_to (λ m l. posting_sets l m (get_or ts m no_tally).union (get_or es m no_set)) ws n

abbrev pub indexed_to : List ℕ → Table → ℕ → List ℕ
indexed_to ws t n = up_to (λ m l. indexing l m (row t m).kind (row t m).a (row t m).b) ws n

-- the rows offered have kinds and accounts
pub record Ranged (t : Table) : Type 0 where
  pub count : t.count ≤ capacity
  pub kinds : (m : ℕ) → m < t.count → (row t m).kind < kinds
  pub accounts : (m : ℕ) → m < t.count → accounts_ok (row t m).kind (row t m).a (row t m).b ≡ true

-- all sets
unfoldable pub laying_sets : List ℕ → Table → List Site → List Tally → Set → List Set → List ℕ
laying_sets ws t ss ts pool es =
    indexed_to (storing (postings_sets (have_sets (sites_sets ws ss sites) ss sites) ts es capacity) pool_slot pool) t t.count

-- ---- counts

abbrev pub count_no : ℕ → ℕ → ℕ → ℕ
count_no place delivered k = get_or (place ∷ delivered ∷ []) k 0

unfoldable pub site_counts : List ℕ → ℕ → ℕ → ℕ → List ℕ
site_counts cs p place delivered = up_to (λ k l. set l (2 + k * sites + p) (count_no place delivered k)) cs 2

abbrev pub sites_counts : List ℕ → List Site → ℕ → List ℕ
sites_counts cs ss n = up_to (λ p l. site_counts l p (get_or ss p no_site).place (get_or ss p no_site).delivered.count) cs n

unfoldable pub laying_counts : List ℕ → ℕ → ℕ → List Site → List ℕ
laying_counts cs count logged ss = sites_counts (set (set cs count_at count) logged_at logged) ss sites

-- ---- bytes

-- the masks of a site and the numbers of its record; the bytes of a row and the masks of its tally
abbrev pub column_no : Site → ℕ → List ℕ
column_no s k = get_or (s.heard ∷ s.good ∷ s.delivered.numbers ∷ []) k []

abbrev pub byte_no : Posting → Tally → ℕ → ℕ
byte_no r t k = get_or (r.owner ∷ r.kind ∷ r.a ∷ r.b ∷ t.heard ∷ t.has ∷ []) k 0

unfoldable pub site_bytes : List ℕ → ℕ → Site → List ℕ
site_bytes bs p s = up_to (λ k l. sets l (1 + 7 * capacity + k * (sites * capacity) + p * capacity) (column_no s k)) bs 3

unfoldable pub posting_bytes : List ℕ → ℕ → Posting → Tally → List ℕ
posting_bytes bs m r t = up_to (λ k l. set l (1 + k * capacity + m) (byte_no r t k)) bs 6

abbrev pub sites_bytes : List ℕ → List Site → ℕ → List ℕ
sites_bytes bs ss n = up_to (λ p l. site_bytes l p (get_or ss p no_site)) bs n

abbrev pub postings_bytes : List ℕ → List Posting → List Tally → ℕ → List ℕ
postings_bytes bs rs ts n = up_to (λ m l. posting_bytes l m (get_or rs m no_posting) (get_or ts m no_tally)) bs n

unfoldable pub laying_bytes : List ℕ → ℕ → List Posting → List Site → List Tally → List ℕ → List ℕ
laying_bytes bs down rs ss ts log =
    sites_bytes (postings_bytes (sets (set bs down_at down) (log_at 0) log) rs ts capacity) ss sites

-- ---- amounts

abbrev pub laying_amounts : List ℕ → List Posting → ℕ → List ℕ
laying_amounts amounts rs n = up_to (λ m l. set l m (get_or rs m no_posting).amount) amounts n
