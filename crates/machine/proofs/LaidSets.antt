-- The sets of a board laid out on words that are all 0: which set stands in which slot, the index, and what the records have.
-- In order: slots of a grid; sites, what their records have, postings, the index; the sets of all of it. Rests on Laying and Grid. Assumes nothing.
use Prim.Native.Nat.{ℕ, zero, suc, ◌+◌, ◌*◌, ◌<◌, ◌≤◌}
use mathlib.Core.Path.{◌≡◌, refl, ap, ◌∙◌}
use mathlib.Core.Logic.{◌⊎◌, inl, inr, ◌≢◌}
use mathlib.Core.List.{List}
use native.Mathlib.Omega.{arith}
use native.Mathlib.Numerals.{add-one}
use lib.ListN.{length, get_or, replicate, length-replicate}
use lib.Seq.{set-get_or}
use Rattle.sets.specs.declared.Set.{Set}
use Rattle.sets.proofs.WordLaws.{collect_shape}
use Rattle.sets.specs.Sets.{words, capacity, of_words, empty_set, has}
use Rattle.posting.specs.declared.Table.{Table}
use Rattle.posting.specs.Kinds.{kinds}
use Rattle.posting.specs.Conflicts.{row, no_posting, table_with}
use Rattle.posting.specs.Records.{contains}
use Rattle.site.specs.declared.Site.{Site}
use Rattle.site.specs.declared.Tally.{Tally}
use Rattle.site.specs.Sites.{sites, no_set, no_site, no_tally}
use Rattle.sets.proofs.SetLaws.{has_set_of}
use Rattle.arrays.specs.Layout.{pool_slot, union_of, entry_of, kind_of, have_of, slots, shown_slots, index_rows, kind_slots, sets_long}
use Rattle.arrays.specs.Arrays.{slot_set, storing, has_in}
use Rattle.arrays.proofs.Slots.{part_ext, slot_zero, slot_other, slot_same, long_stored, has_slot}
use Rattle.index.specs.Index.{indexing, Indexed}
use Rattle.index.proofs.Indexed.{indexed_offer, indexed_empty, long_indexed, slot_indexed_other}
use Rattle.machine.specs.declared.Board.{Board}
use Rattle.machine.specs.Boards.{site_at, tally_at, entry_at}
use Rattle.layout.specs.Laying.{up_to, set_no, pair_no, site_sets, posting_sets, record_set, sites_sets, have_sets, postings_sets, indexed_to, Ranged, laying_sets}
use Rattle.machine.proofs.Shapes.{SiteShape, BoardShape}
use Rattle.layout.proofs.Grid.{up_single, up_keeps, grid_long, grid_keeps, grid_shows}

-- ---- slots of a grid: its sets stand in them, and the others stay

module _ (kinds count : ℕ) (slot : ℕ → ℕ → ℕ) (value : ℕ → ℕ → Set)
    (long : (k p : ℕ) → k < kinds → p < count → length (value k p).words ≡ words) where
  abbrev laid : List ℕ → List ℕ
  laid ws = up_to (λ p l. up_to (λ k r. storing r (slot k p) (value k p)) l kinds) ws count

  laid_long : (ws : List ℕ) → length (laid ws) ≡ length ws
  unfolding storing
  laid_long ws = grid_long words kinds count (λ k p. words * slot k p) (λ k p. (value k p).words) ws

  laid_keeps : (ws : List ℕ) (other : ℕ) → ((k p : ℕ) → k < kinds → p < count → slot k p ≢ other) → slot_set (laid ws) other ≡ slot_set ws other
  unfolding storing slot_set
  laid_keeps ws other out =
      ap of_words
      (part_ext (laid ws) ws (words * other) words (λ i b c.
      grid_keeps words kinds count (λ k p. words * slot k p) (λ k p. (value k p).words) long ws i
      (λ k p hk hp u v. out k p hk hp (omega arith))))

  module _ (fits : (k p : ℕ) → k < kinds → p < count → slot k p < slots)
      (apart : (k p j q : ℕ) → k < kinds → p < count → j < kinds → q < count → slot k p ≡ slot j q → (k ≡ j) × (p ≡ q)) where
    laid_shows : (ws : List ℕ) → length ws ≡ sets_long → (k p : ℕ) → k < kinds → p < count → slot_set (laid ws) (slot k p) ≡ value k p
    unfolding storing slot_set
    laid_shows ws e k p hk hp =
        ap of_words
        (grid_shows words kinds count (λ j q. words * slot j q) (λ j q. (value j q).words) long sets_long
        (λ j q hj hq. let h = fits j q hj hq in omega arith)
        (λ j q i r x hj hq hi hr b c u v. let same : slot j q ≡ slot i r = omega arith in apart j q i r hj hq hi hr same) ws e k p hk hp)

-- ---- sites

set_long : (s : Site) → SiteShape s → (k : ℕ) → k < 5 → length (set_no s k).words ≡ words
set_long s h zero l = h.seen.long
set_long s h (suc zero) l = h.held.long
set_long s h (suc (suc zero)) l = h.stepped.long
set_long s h (suc (suc (suc zero))) l = h.finished.long
set_long s h (suc (suc (suc (suc zero)))) l = h.got.long
set_long s h (suc (suc (suc (suc (suc k))))) l = absurd (omega arith)

module _ (ss : List Site) (shapes : (p : ℕ) → p < sites → SiteShape (get_or ss p no_site)) (ws : List ℕ) where
  abbrev site_slot : ℕ → ℕ → ℕ
  site_slot k p = k * sites + p

  abbrev site_set : ℕ → ℕ → Set
  site_set k p = set_no (get_or ss p no_site) k

  site_set_long : (k p : ℕ) → k < 5 → p < sites → length (site_set k p).words ≡ words
  site_set_long k p hk hp = set_long (get_or ss p no_site) (shapes p hp) k hk

  sites_long : length (sites_sets ws ss sites) ≡ length ws
  unfolding site_sets
  sites_long = laid_long 5 sites site_slot site_set site_set_long ws

  sites_keep : (other : ℕ) → 5 * sites ≤ other → slot_set (sites_sets ws ss sites) other ≡ slot_set ws other
  unfolding site_sets
  sites_keep other h = laid_keeps 5 sites site_slot site_set site_set_long ws other (λ k p hk hp e. omega arith)

  sites_show : length ws ≡ sets_long → (k p : ℕ) → k < 5 → p < sites → slot_set (sites_sets ws ss sites) (k * sites + p) ≡ set_no (get_or ss p no_site) k
  unfolding site_sets
  sites_show e =
      laid_shows 5 sites site_slot site_set site_set_long (λ k p hk hp. omega arith)
      (λ k p j q hk hp hj hq s. (omega arith, omega arith)) ws e

  -- what the records have
  abbrev have_slot : ℕ → ℕ → ℕ
  have_slot k p = have_of p

  abbrev have_set : ℕ → ℕ → Set
  have_set k p = record_set (get_or ss p no_site).delivered

  have_set_long : (k p : ℕ) → k < 1 → p < sites → length (have_set k p).words ≡ words
  have_set_long k p hk hp = (collect_shape words (contains (get_or ss p no_site).delivered) capacity).long

  singly : up_to (λ p l. up_to (λ k r. storing r (have_slot k p) (have_set k p)) l 1) ws sites ≡ have_sets ws ss sites
  singly = up_single (λ p l. storing l (have_of p) (record_set (get_or ss p no_site).delivered)) ws sites

  have_long : length (have_sets ws ss sites) ≡ length ws
  have_long = rw (← singly) (laid_long 1 sites have_slot have_set have_set_long ws)

  have_keep : (other : ℕ) → other < have_of 0 → slot_set (have_sets ws ss sites) other ≡ slot_set ws other
  have_keep other h = rw (← singly) (laid_keeps 1 sites have_slot have_set have_set_long ws other (λ k p hk hp e. omega arith))

  have_show : length ws ≡ sets_long → (p : ℕ) → p < sites → slot_set (have_sets ws ss sites) (have_of p) ≡ record_set (get_or ss p no_site).delivered
  have_show e p hp =
      rw (← singly)
      (laid_shows 1 sites have_slot have_set have_set_long (λ k q hk hq. omega arith)
      (λ k q j r hk hq hj hr s. (omega arith, omega arith)) ws e 0 p (omega arith) hp)

-- ---- postings

module _ (ts : List Tally) (es : List Set) (unions : (m : ℕ) → m < capacity → length (get_or ts m no_tally).union.words ≡ words)
    (entries : (m : ℕ) → m < capacity → length (get_or es m no_set).words ≡ words) (ws : List ℕ) where
  abbrev pair_slot : ℕ → ℕ → ℕ
  pair_slot k m = 5 * sites + 1 + k * capacity + m

  abbrev pair_set : ℕ → ℕ → Set
  pair_set k m = pair_no (get_or ts m no_tally).union (get_or es m no_set) k

  pair_set_long : (k m : ℕ) → k < 2 → m < capacity → length (pair_set k m).words ≡ words
  pair_set_long zero m hk hm = unions m hm
  pair_set_long (suc zero) m hk hm = entries m hm
  pair_set_long (suc (suc k)) m hk hm = absurd (omega arith)

  postings_long : length (postings_sets ws ts es capacity) ≡ length ws
  unfolding posting_sets
  postings_long = laid_long 2 capacity pair_slot pair_set pair_set_long ws

  postings_keep : (other : ℕ) → (other < union_of 0) ⊎ (shown_slots ≤ other) → slot_set (postings_sets ws ts es capacity) other ≡ slot_set ws other
  unfolding posting_sets
  postings_keep other (inl h) = laid_keeps 2 capacity pair_slot pair_set pair_set_long ws other (λ k m hk hm e. omega arith)
  postings_keep other (inr h) = laid_keeps 2 capacity pair_slot pair_set pair_set_long ws other (λ k m hk hm e. omega arith)

  postings_show : length ws ≡ sets_long → (k m : ℕ) → k < 2 → m < capacity → slot_set (postings_sets ws ts es capacity) (pair_slot k m) ≡ pair_set k m
  unfolding posting_sets
  postings_show e =
      laid_shows 2 capacity pair_slot pair_set pair_set_long (λ k m hk hm. omega arith)
      (λ k m j q hk hm hj hq s. (omega arith, omega arith)) ws e

-- ---- the index

module _ (t : Table) (ranged : Ranged t) (ws : List ℕ) where
  abbrev enters : ℕ → List ℕ → List ℕ
  enters m l = indexing l m (row t m).kind (row t m).a (row t m).b

  index_long : (n : ℕ) → length (indexed_to ws t n) ≡ length ws
  index_long n = up_keeps enters (λ r. length r ≡ length ws) n (λ m r h e. long_indexed r m (row t m).kind (row t m).a (row t m).b ∙ e) ws refl

  index_keep : (other : ℕ) → (other < shown_slots) ⊎ (shown_slots + kind_slots ≤ other) → slot_set (indexed_to ws t t.count) other ≡ slot_set ws other
  index_keep other out =
      up_keeps enters (λ r. slot_set r other ≡ slot_set ws other) t.count
      (λ m r h e.
      let fits : m < capacity = omega (arith, ranged.count) in
      slot_indexed_other r m (row t m).kind (row t m).a (row t m).b fits (ranged.kinds m h) (ranged.accounts m h) other out ∙ e)
      ws refl

  module _ (long : length ws ≡ sets_long) (rows : length t.rows ≡ capacity) (none : (line k : ℕ) → line < index_rows → k < kinds → slot_set ws (kind_of line k) ≡ empty_set) where
    abbrev upto : ℕ → Table
    upto n = record { count = n; rows = t.rows }

    one_more : (n : ℕ) → table_with (upto n) (row t n) ≡ upto (suc n)
    unfolding row
    one_more n = rw (add-one, set-get_or t.rows n no_posting)

    index_right : (n : ℕ) → n ≤ t.count → Indexed (indexed_to ws t n) (upto n)
    unfolding up_to
    index_right zero h = indexed_empty ws (upto 0) none refl
    index_right (suc n) h =
        let room : n < capacity = omega (arith, ranged.count) in
        let m : n < t.count = omega arith in
        rw (← one_more n)
        (indexed_offer (index_right n (omega arith)) (index_long n ∙ long) (row t n) room rows (ranged.kinds n m) (ranged.accounts n m))

-- ---- all of it

-- what stands in the slots of a board
pub record SetsLaid (b : Board) (ws : List ℕ) : Type 0 where
  pub long : length ws ≡ sets_long
  pub site : (k p : ℕ) → k < 5 → p < sites → slot_set ws (k * sites + p) ≡ set_no (site_at b p) k
  pub pool : slot_set ws pool_slot ≡ b.pool
  pub union : (m : ℕ) → m < capacity → slot_set ws (union_of m) ≡ (tally_at b m).union
  pub entry : (m : ℕ) → m < capacity → slot_set ws (entry_of m) ≡ entry_at b m
  pub indexed : Indexed ws b.table
  pub have : (p x : ℕ) → p < sites → x < capacity → has_in ws (have_of p) x ≡ contains (site_at b p).delivered x

module _ (b : Board) (shape : BoardShape b) (ranged : Ranged b.table) where
  abbrev zeros : List ℕ
  zeros = replicate sets_long 0

  abbrev of_sites : List ℕ
  of_sites = sites_sets zeros b.sites sites

  abbrev of_records : List ℕ
  of_records = have_sets of_sites b.sites sites

  abbrev of_postings : List ℕ
  of_postings = postings_sets of_records b.tallies b.entries capacity

  abbrev of_pool : List ℕ
  of_pool = storing of_postings pool_slot b.pool

  abbrev of_all : List ℕ
  of_all = indexed_to of_pool b.table b.table.count

  unions : (m : ℕ) → m < capacity → length (tally_at b m).union.words ≡ words
  unions m h = (shape.each_union m h).long

  entries : (m : ℕ) → m < capacity → length (entry_at b m).words ≡ words
  entries m h = (shape.each_entry m h).long

  long_1 : length of_sites ≡ sets_long
  long_1 = sites_long b.sites shape.each_site zeros ∙ length-replicate {A = ℕ} sets_long 0

  long_2 : length of_records ≡ sets_long
  long_2 = have_long b.sites shape.each_site of_sites ∙ long_1

  long_3 : length of_postings ≡ sets_long
  long_3 = postings_long b.tallies b.entries unions entries of_records ∙ long_2

  long_4 : length of_pool ≡ sets_long
  long_4 = long_stored of_postings pool_slot b.pool ∙ long_3

  -- slots that neither postings nor pool nor index have
  kept : (slot : ℕ) → (slot < pool_slot) ⊎ (shown_slots ≤ slot) → slot_set of_pool slot ≡ slot_set of_records slot
  kept slot (inl h) =
      slot_other of_postings pool_slot b.pool shape.pool.long slot (λ e. omega arith)
      ∙ postings_keep b.tallies b.entries unions entries of_records slot (inl (omega arith))
  kept slot (inr h) =
      slot_other of_postings pool_slot b.pool shape.pool.long slot (λ e. omega arith)
      ∙ postings_keep b.tallies b.entries unions entries of_records slot (inr h)

  index_none : (line k : ℕ) → line < index_rows → k < kinds → slot_set of_pool (kind_of line k) ≡ empty_set
  index_none line k hl hk =
      kept (kind_of line k) (inr (omega arith))
      ∙ have_keep b.sites shape.each_site of_sites (kind_of line k) (omega arith)
      ∙ sites_keep b.sites shape.each_site zeros (kind_of line k) (omega arith)
      ∙ slot_zero sets_long (kind_of line k)

  shown : (slot : ℕ) → slot < shown_slots → slot_set of_all slot ≡ slot_set of_pool slot
  shown slot h = index_keep b.table ranged of_pool slot (inl h)

  posting_shown : (k m : ℕ) → k < 2 → m < capacity → slot_set of_all (5 * sites + 1 + k * capacity + m) ≡ pair_no (tally_at b m).union (entry_at b m) k
  posting_shown k m hk hm =
      shown (5 * sites + 1 + k * capacity + m) (omega arith)
      ∙ slot_other of_postings pool_slot b.pool shape.pool.long (5 * sites + 1 + k * capacity + m) (λ e. omega arith)
      ∙ postings_show b.tallies b.entries unions entries of_records long_2 k m hk hm

  pub sets_laid : SetsLaid b (laying_sets zeros b.table b.sites b.tallies b.pool b.entries)
  unfolding laying_sets
  sets_laid =
      record {
        long = index_long b.table ranged of_pool b.table.count ∙ long_4;
        site = λ k p hk hp.
            shown (k * sites + p) (omega arith)
            ∙ kept (k * sites + p) (inl (omega arith))
            ∙ have_keep b.sites shape.each_site of_sites (k * sites + p) (omega arith)
            ∙ sites_show b.sites shape.each_site zeros (length-replicate {A = ℕ} sets_long 0) k p hk hp;
        pool = shown pool_slot (omega arith) ∙ slot_same of_postings pool_slot b.pool shape.pool.long (omega arith) long_3;
        union = λ m h. posting_shown 0 m (omega arith) h;
        entry = λ m h. posting_shown 1 m (omega arith) h;
        indexed = index_right b.table ranged of_pool long_4 shape.rows index_none b.table.count (omega arith);
        have = λ p x hp hx.
            has_slot of_all (have_of p) x hx
            ∙ ap (λ (s : Set). has s x)
            (index_keep b.table ranged of_pool (have_of p) (inr (omega arith)) ∙ kept (have_of p) (inr (omega arith))
            ∙ have_show b.sites shape.each_site of_sites long_1 p hp)
            ∙ has_set_of (contains (site_at b p).delivered) x hx;
      }
