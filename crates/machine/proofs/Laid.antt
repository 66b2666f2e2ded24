-- A sound board laid out on arrays of zeros: the arrays show it, and what stands beside it is right.
-- In order: one number stored; the counts, the bytes and the amounts; ranged; laid_shown, laid_right. Rests on LaidSets and View. Assumes nothing.
use Prim.Native.Nat.{ℕ, zero, suc, ◌+◌, ◌*◌, ◌<◌, ◌≤◌}
use mathlib.Core.Path.{◌≡◌, refl, sym, ap, ◌∙◌}
use mathlib.Core.Logic.{◌⊎◌, inl, inr}
use mathlib.Core.Bool.{true}
use mathlib.Core.List.{List, [], ◌∷◌}
use native.Mathlib.Omega.{arith}
use lib.ListN.{length, get_or, set, replicate, length-set, length-replicate}
use lib.Seq.{sets, get_or-set_same, get_or-set_other, length-sets}
use Rattle.sets.specs.Sets.{capacity}
use Rattle.posting.specs.declared.Record.{Record}
use Rattle.posting.specs.Kinds.{kinds, accounts}
use Rattle.posting.proofs.KindLaws.{Fields, fields, row_kind}
use Rattle.posting.specs.Conflicts.{row, no_posting}
use Rattle.posting.proofs.ConflictLaws.{below_offered}
use Rattle.posting.specs.Records.{contains}
use Rattle.books.proofs.Lists.{is_tabulate}
use Rattle.site.specs.Sites.{sites, no_set, no_site, no_tally}
use Rattle.flight.specs.Flights.{words_from}
use Rattle.arrays.specs.Layout.{entry_of, count_at, logged_at, place_at, delivered_at, counts_long, down_at, log_at, heard_at, good_at, record_at, bytes_long, sets_long}
use Rattle.arrays.specs.declared.Arrays.{Arrays}
use Rattle.arrays.specs.Arrays.{arrays, slot_set, byte, zeros}
use Rattle.arrays.proofs.Slots.{part_ext}
use Rattle.machine.specs.declared.Board.{Board}
use Rattle.machine.specs.Boards.{site_at, tally_at}
use Rattle.machine.specs.Soundness.{is_sound}
use Rattle.views.specs.Views.{record_in, site_of, tally_of, row_of, table_of, log_of}
use Rattle.machine.specs.View.{view, Right}
use Rattle.layout.specs.Laying.{up_to, count_no, site_counts, sites_counts, laying_counts, column_no, byte_no, site_bytes, posting_bytes, sites_bytes, postings_bytes, laying_bytes, laying_amounts, laying_sets, Ranged}
use Rattle.machine.proofs.Shapes.{BoardShape}
use Rattle.machine.proofs.SoundFacts.{Sound}
use Rattle.machine.proofs.SoundTest.{sound_facts}
use Rattle.layout.proofs.Grid.{up_single, grid_long, grid_keeps, grid_shows, sets_other, part_stored}
use Rattle.machine.proofs.LaidSets.{SetsLaid, sets_laid}

-- one number read
only : (l : List ℕ) (i v : ℕ) → words_from l i 1 ≡ v ∷ [] → get_or l i 0 ≡ v
unfolding words_from
only l i v e = ap (λ (r : List ℕ). get_or r 0 0) e

-- ---- counts

pub record CountsLaid (b : Board) (cs : List ℕ) : Type 0 where
  pub long : length cs ≡ counts_long
  pub count : get_or cs count_at 0 ≡ b.table.count
  pub logged : get_or cs logged_at 0 ≡ b.log.count
  pub place : (p : ℕ) → p < sites → get_or cs (place_at p) 0 ≡ (site_at b p).place
  pub delivered : (p : ℕ) → p < sites → get_or cs (delivered_at p) 0 ≡ (site_at b p).delivered.count

module _ (b : Board) where
  abbrev count_place : ℕ → ℕ → ℕ
  count_place k p = 2 + k * sites + p

  abbrev count_value : ℕ → ℕ → List ℕ
  count_value k p = count_no (site_at b p).place (site_at b p).delivered.count k ∷ []

  abbrev counted : List ℕ
  counted = set (set (replicate counts_long 0) count_at b.table.count) logged_at b.log.count

  once_long : length (set (replicate counts_long 0) count_at b.table.count) ≡ counts_long
  once_long = length-set (replicate counts_long 0) count_at b.table.count ∙ length-replicate {A = ℕ} counts_long 0

  counted_long : length counted ≡ counts_long
  counted_long = length-set (set (replicate counts_long 0) count_at b.table.count) logged_at b.log.count ∙ once_long

  count_kept : (i : ℕ) → i < 2 → get_or (sites_counts counted b.sites sites) i 0 ≡ get_or counted i 0
  unfolding site_counts
  count_kept i h = grid_keeps 1 2 sites count_place count_value (λ k p hk hp. refl) counted i (λ k p hk hp u v. omega arith)

  count_shown : (k p : ℕ) → k < 2 → p < sites → get_or (sites_counts counted b.sites sites) (count_place k p) 0 ≡ count_no (site_at b p).place (site_at b p).delivered.count k
  unfolding site_counts
  count_shown k p hk hp =
      only (sites_counts counted b.sites sites) (count_place k p) (count_no (site_at b p).place (site_at b p).delivered.count k)
      (grid_shows 1 2 sites count_place count_value (λ j q hj hq. refl) counts_long (λ j q hj hq. omega arith)
      (λ j q i r x hj hq hi hr s t u v. (omega arith, omega arith)) counted counted_long k p hk hp)

  pub counts_laid : CountsLaid b (laying_counts (replicate counts_long 0) b.table.count b.log.count b.sites)
  unfolding laying_counts site_counts
  counts_laid =
      let first : count_at < length (set (replicate counts_long 0) count_at b.table.count) = omega (arith, once_long) in
      let zeros : count_at < length (replicate {A = ℕ} counts_long 0) = omega (arith, length-replicate {A = ℕ} counts_long 0) in
      let second : logged_at < length (set (replicate counts_long 0) count_at b.table.count) = omega (arith, once_long) in
      record {
        long = grid_long 1 2 sites count_place count_value counted ∙ counted_long;
        count =
            count_kept count_at (omega arith)
            ∙ get_or-set_other (set (replicate counts_long 0) count_at b.table.count) logged_at count_at b.log.count 0 (λ e. omega arith)
            ∙ get_or-set_same (replicate counts_long 0) count_at b.table.count 0 zeros;
        logged =
            count_kept logged_at (omega arith) ∙ get_or-set_same (set (replicate counts_long 0) count_at b.table.count) logged_at b.log.count 0 second;
        place = λ p h. count_shown 0 p (omega arith) h;
        delivered = λ p h. count_shown 1 p (omega arith) h;
      }

-- ---- bytes

pub record BytesLaid (b : Board) (bs : List ℕ) : Type 0 where
  pub long : length bs ≡ bytes_long
  pub down : byte bs down_at ≡ b.down
  pub posting : (k m : ℕ) → k < 6 → m < capacity → byte bs (1 + k * capacity + m) ≡ byte_no (row b.table m) (tally_at b m) k
  pub log : words_from bs (log_at 0) capacity ≡ b.log.numbers
  pub site : (k p : ℕ) → k < 3 → p < sites → words_from bs (1 + 7 * capacity + k * (sites * capacity) + p * capacity) capacity ≡ column_no (site_at b p) k

module _ (b : Board) (shape : BoardShape b) where
  abbrev posting_place : ℕ → ℕ → ℕ
  posting_place k m = 1 + k * capacity + m

  abbrev posting_value : ℕ → ℕ → List ℕ
  posting_value k m = byte_no (get_or b.table.rows m no_posting) (tally_at b m) k ∷ []

  abbrev site_place : ℕ → ℕ → ℕ
  site_place k p = 1 + 7 * capacity + k * (sites * capacity) + p * capacity

  abbrev site_value : ℕ → ℕ → List ℕ
  site_value k p = column_no (site_at b p) k

  abbrev of_down : List ℕ
  of_down = set (replicate bytes_long 0) down_at b.down

  abbrev of_log : List ℕ
  of_log = sets of_down (log_at 0) b.log.numbers

  abbrev of_postings : List ℕ
  of_postings = postings_bytes of_log b.table.rows b.tallies capacity

  abbrev of_all : List ℕ
  of_all = sites_bytes of_postings b.sites sites

  column_long : (k p : ℕ) → k < 3 → p < sites → length (site_value k p) ≡ capacity
  column_long zero p hk hp = (shape.each_site p hp).heard
  column_long (suc zero) p hk hp = (shape.each_site p hp).good
  column_long (suc (suc zero)) p hk hp = (shape.each_site p hp).delivered
  column_long (suc (suc (suc k))) p hk hp = absurd (omega arith)

  down_long : length of_down ≡ bytes_long
  down_long = length-set (replicate bytes_long 0) down_at b.down ∙ length-replicate {A = ℕ} bytes_long 0

  log_long : length of_log ≡ bytes_long
  log_long = length-sets of_down (log_at 0) b.log.numbers ∙ down_long

  postings_long : length of_postings ≡ bytes_long
  unfolding posting_bytes
  postings_long = grid_long 1 6 capacity posting_place posting_value of_log ∙ log_long

  -- what stands before the bytes of sites, and beside those of postings
  before_sites : (i : ℕ) → i < heard_at 0 0 → get_or of_all i 0 ≡ get_or of_postings i 0
  unfolding site_bytes
  before_sites i h = grid_keeps capacity 3 sites site_place site_value column_long of_postings i (λ k p hk hp u v. omega arith)

  beside_postings : (i : ℕ) → (i < 1) ⊎ (log_at 0 ≤ i) → get_or of_postings i 0 ≡ get_or of_log i 0
  unfolding posting_bytes
  beside_postings i (inl h) = grid_keeps 1 6 capacity posting_place posting_value (λ k m hk hm. refl) of_log i (λ k m hk hm u v. omega arith)
  beside_postings i (inr h) = grid_keeps 1 6 capacity posting_place posting_value (λ k m hk hm. refl) of_log i (λ k m hk hm u v. omega arith)

  posting_byte : (k m : ℕ) → k < 6 → m < capacity → get_or of_all (posting_place k m) 0 ≡ byte_no (row b.table m) (tally_at b m) k
  unfolding posting_bytes row
  posting_byte k m hk hm =
      before_sites (posting_place k m) (omega arith)
      ∙ only of_postings (posting_place k m) (byte_no (row b.table m) (tally_at b m) k)
      (grid_shows 1 6 capacity posting_place posting_value (λ j q hj hq. refl) bytes_long (λ j q hj hq. omega arith)
      (λ j q i r x hj hq hi hr s t u v. (omega arith, omega arith)) of_log log_long k m hk hm)

  site_part : (k p : ℕ) → k < 3 → p < sites → words_from of_all (site_place k p) capacity ≡ column_no (site_at b p) k
  unfolding site_bytes
  site_part k p hk hp =
      grid_shows capacity 3 sites site_place site_value column_long bytes_long (λ j q hj hq. omega arith)
      (λ j q i r x hj hq hi hr s t u v. (omega arith, omega arith)) of_postings postings_long k p hk hp

  pub bytes_laid : BytesLaid b (laying_bytes (replicate bytes_long 0) b.down b.table.rows b.sites b.tallies b.log.numbers)
  unfolding laying_bytes site_bytes
  bytes_laid =
      let inside : down_at < length (replicate {A = ℕ} bytes_long 0) = omega (arith, length-replicate {A = ℕ} bytes_long 0) in
      let room : log_at 0 + capacity ≤ length of_down = omega (arith, down_long) in
      record {
        long = grid_long capacity 3 sites site_place site_value of_postings ∙ postings_long;
        down =
            before_sites down_at (omega arith) ∙ beside_postings down_at (inl (omega arith))
            ∙ sets_other b.log.numbers of_down (log_at 0) down_at (λ u v. omega arith)
            ∙ get_or-set_same (replicate bytes_long 0) down_at b.down 0 inside;
        posting = posting_byte;
        log =
            part_ext of_all of_log (log_at 0) capacity (λ i u v. before_sites i (omega arith) ∙ beside_postings i (inr u))
            ∙ part_stored b.log.numbers of_down (log_at 0) capacity shape.log room;
        site = site_part;
      }

-- ---- amounts

module _ (b : Board) where
  abbrev amount_value : ℕ → ℕ → List ℕ
  amount_value k m = (get_or b.table.rows m no_posting).amount ∷ []

  abbrev amounts_of : List ℕ
  amounts_of = laying_amounts (replicate capacity 0) b.table.rows capacity

  singly : up_to (λ m l. up_to (λ k r. sets r m (amount_value k m)) l 1) (replicate capacity 0) capacity ≡ amounts_of
  singly = up_single (λ m l. set l m (get_or b.table.rows m no_posting).amount) (replicate capacity 0) capacity

  pub amounts_long : length amounts_of ≡ capacity
  amounts_long = rw (← singly) (grid_long 1 1 capacity (λ k m. m) amount_value (replicate capacity 0) ∙ length-replicate {A = ℕ} capacity 0)

  pub amount_laid : (m : ℕ) → m < capacity → get_or amounts_of m 0 ≡ (row b.table m).amount
  unfolding row
  amount_laid m h =
      only amounts_of m (row b.table m).amount
      (rw (← singly)
      (grid_shows 1 1 capacity (λ k q. q) amount_value (λ j q hj hq. refl) capacity (λ j q hj hq. omega arith)
      (λ j q i r x hj hq hi hr s t u v. (omega arith, omega arith)) (replicate capacity 0) (length-replicate {A = ℕ} capacity 0) 0 m (omega arith) h))

-- ---- all of it

-- the rows of a sound board have kinds and accounts
pub sound_ranged : (b : Board) → BoardShape b → is_sound b ≡ true → Ranged b.table
sound_ranged b shape sound =
    record {
      count = facts.count;
      kinds = λ m h. row_kind _ _ _ _ (of_row m h).within;
      accounts = λ m h. (of_row m h).accounts_are_ok;
    }
  where
    facts : Sound b
    facts = sound_facts b shape.flight.masks.long sound

    of_row : (m : ℕ) → m < b.table.count → Fields (row b.table m)
    of_row m h = fields (row b.table m) (facts.fields m (below_offered b.table m h (omega (arith, facts.count))))

module _ (b : Board) (shape : BoardShape b) (ws cs bs rs : List ℕ) (s : SetsLaid b ws) (c : CountsLaid b cs) (y : BytesLaid b bs)
    (amounts : (m : ℕ) → m < capacity → get_or rs m 0 ≡ (row b.table m).amount) where
  abbrev all : Arrays
  all = arrays ws cs bs rs b.flight.masks b.flight.good b.flight.carried

  part : (i k p : ℕ) → i ≡ 1 + 7 * capacity + k * (sites * capacity) + p * capacity → k < 3 → p < sites → words_from bs i capacity ≡ column_no (site_at b p) k
  part i k p e hk hp = rw e (y.site k p hk hp)

  record_shown : (p : ℕ) → p < sites → record_in all p ≡ (site_at b p).delivered
  unfolding record_in
  record_shown p h = rw (c.delivered p h, part (record_at p 0) 2 p (omega arith) (omega arith) h)

  site_shown : (p : ℕ) → p < sites → site_of all p ≡ site_at b p
  unfolding site_of
  site_shown p h =
      rw (
        s.site 0 p (omega arith) h,
        s.site 1 p (omega arith) h,
        s.site 2 p (omega arith) h,
        s.site 3 p (omega arith) h,
        s.site 4 p (omega arith) h,
        part (heard_at p 0) 0 p (omega arith) (omega arith) h,
        part (good_at p 0) 1 p (omega arith) (omega arith) h,
        c.place p h,
        record_shown p h,
      )

  tally_shown : (m : ℕ) → m < capacity → tally_of all m ≡ tally_at b m
  unfolding tally_of
  tally_shown m h = rw (y.posting 4 m (omega arith) h, y.posting 5 m (omega arith) h, s.union m h)

  row_shown : (m : ℕ) → m < capacity → row_of all m ≡ row b.table m
  unfolding row_of
  row_shown m h =
      rw (
        y.posting 0 m (omega arith) h,
        y.posting 1 m (omega arith) h,
        y.posting 2 m (omega arith) h,
        y.posting 3 m (omega arith) h,
        amounts m h,
      )

  table_shown : table_of all ≡ b.table
  unfolding table_of row
  table_shown = rw (c.count, sym (is_tabulate capacity (row_of all) no_posting b.table.rows shape.rows (λ m h. sym (row_shown m h))))

  log_shown : log_of all ≡ b.log
  unfolding log_of
  log_shown = rw (c.logged, y.log)

  pub laid_shown : view b.setup all ≡ b
  unfolding view
  laid_shown =
      rw (
        y.down,
        table_shown,
        sym (is_tabulate sites (site_of all) no_site b.sites shape.sites_long (λ p h. sym (site_shown p h))),
        sym (is_tabulate capacity (tally_of all) no_tally b.tallies shape.tallies_long (λ m h. sym (tally_shown m h))),
        s.pool,
        sym (is_tabulate capacity (λ m. slot_set ws (entry_of m)) no_set b.entries shape.entries_long (λ m h. sym (s.entry m h))),
        log_shown,
      )

  pub laid_right : length rs ≡ capacity → Right all
  laid_right long =
      record {
        sets_have_length = s.long;
        counts_have_length = c.long;
        bytes_have_length = y.long;
        amounts_long = long;
        masks_long = shape.flight.masks.long;
        indexed = rw table_shown s.indexed;
        have = λ p x hp hx. s.have p x hp hx ∙ ap (λ (r : Record). contains r x) (sym (record_shown p hp));
      }

-- the arrays that lay_out makes of zeros
pub laid_out :
    (b : Board) → BoardShape b → is_sound b ≡ true → (z : Arrays) (ws cs bs rs : List ℕ) → z ≡ zeros
    → ws ≡ laying_sets z.sets b.table b.sites b.tallies b.pool b.entries → cs ≡ laying_counts z.counts b.table.count b.log.count b.sites
    → bs ≡ laying_bytes z.bytes b.down b.table.rows b.sites b.tallies b.log.numbers → rs ≡ laying_amounts z.amounts b.table.rows capacity
    → let d = arrays ws cs bs rs b.flight.masks b.flight.good b.flight.carried in (view b.setup d ≡ b) × Right d
laid_out b shape sound z ws cs bs rs ez ew ec eb er =
    let s : SetsLaid b ws = rw (ew, ez) (sets_laid b shape (sound_ranged b shape sound)) in
    let c : CountsLaid b cs = rw (ec, ez) (counts_laid b) in
    let y : BytesLaid b bs = rw (eb, ez) (bytes_laid b shape) in
    let amounts : (m : ℕ) → m < capacity → get_or rs m 0 ≡ (row b.table m).amount = λ m h. rw (er, ez) (amount_laid b m h) in
    let long : length rs ≡ capacity = rw (er, ez) (amounts_long b) in
    (laid_shown b shape ws cs bs rs s c y amounts, laid_right b shape ws cs bs rs s c y amounts long)
