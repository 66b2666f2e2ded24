-- An event about posting m at site p: what it may change of the board shown, and that all else stays.
-- In order: elsewhere_refl, elsewhere_then; site_at_lem, tally_at_lem, entry_at_lem, row_at; view_local; receipt_shown; indexed_same, right_local, right_long.
-- Rests on View, on Placed for a step carried out. Assumes nothing.
use Prim.Native.Nat.{ℕ, ◌^◌, ◌<◌}
use mathlib.Core.Path.{◌≡◌, refl, sym, ap, ◌∙◌}
use mathlib.Core.Logic.{◌≢◌}
use mathlib.Core.List.{List}
use native.Mathlib.Decide.{ℕ_discrete}
use lib.ListN.{length, set}
use lib.Seq.{set-set}
use Rattle.sets.specs.declared.Set.{Set}
use Rattle.sets.specs.Sets.{capacity, with_if}
use Rattle.posting.specs.declared.Table.{Table}
use Rattle.posting.specs.Kinds.{kinds}
use Rattle.posting.specs.Conflicts.{row, no_posting}
use Rattle.posting.specs.Records.{contains}
use Rattle.books.specs.Books.{tabulate}
use Rattle.books.proofs.Lists.{get_d_tabulate, changed_both}
use Rattle.site.specs.declared.Setup.{Setup}
use Rattle.site.specs.declared.Site.{Site}
use Rattle.site.specs.declared.Tally.{Tally}
use Rattle.site.specs.declared.Sends.{Sends}
use Rattle.site.specs.declared.Stepped.{Stepped}
use Rattle.site.specs.Sites.{sites, no_set, no_site, no_tally}
use Rattle.site.specs.ByMask.{step_of}
use Rattle.flight.specs.Flights.{cells, flight_of, taking_from, sending_to, good_taken, set_taken, taking_out}
use Rattle.flight.specs.ByMask.{good_sent, set_sent}
use Rattle.steps.specs.declared.Cut.{Cut}
use Rattle.steps.specs.Cuts.{sites_to, after_delivery_to, down_after}
use Rattle.steps.specs.ByMask.{enters, entered}
use Rattle.arrays.specs.Layout.{pool_slot, entry_of, index_rows, kind_of, have_of, sets_long, counts_long, bytes_long, down_at}
use Rattle.arrays.specs.declared.Arrays.{Arrays}
use Rattle.arrays.specs.Arrays.{slot_set, has_in, byte}
use Rattle.arrays.proofs.Slots.{has_slot}
use Rattle.index.specs.Index.{Indexed}
use Rattle.flat.specs.Flat.{Flat, flat, cut_cause}
use Rattle.machine.specs.declared.Board.{Board}
use Rattle.machine.specs.Boards.{site_at, tally_at, entry_at, board_flight, board_down}
use Rattle.machine.specs.Calls.{carried_out}
use Rattle.views.specs.Views.{record_in, site_of, tally_of, row_of, table_of, log_of}
use Rattle.machine.specs.View.{view, Right}
use Rattle.machine.proofs.Placed.{board_parts, part_to, carried_parts}

-- what it may change
pub record Local : Type 0 where
  pub site : Site
  pub tally : Tally
  pub entry : Set
  pub pool : Set
  pub down : ℕ

abbrev pub local_of : Arrays → ℕ → ℕ → Local
local_of a p m =
    record {
      site = site_of a p;
      tally = tally_of a m;
      entry = slot_set a.sets (entry_of m);
      pool = slot_set a.sets pool_slot;
      down = byte a.bytes down_at;
    }

-- all else is the same
pub record Elsewhere (p m : ℕ) (a d : Arrays) : Type 0 where
  pub other_sites : (q : ℕ) → q < sites → q ≢ p → site_of d q ≡ site_of a q
  pub other_tallies : (q : ℕ) → q < capacity → q ≢ m → tally_of d q ≡ tally_of a q
  pub other_entries : (q : ℕ) → q < capacity → q ≢ m → slot_set d.sets (entry_of q) ≡ slot_set a.sets (entry_of q)
  pub same_table : table_of d ≡ table_of a
  pub same_log : log_of d ≡ log_of a
  pub same_index : (line kind : ℕ) → line < index_rows → kind < kinds → slot_set d.sets (kind_of line kind) ≡ slot_set a.sets (kind_of line kind)
  pub other_have : (q : ℕ) → q < sites → q ≢ p → slot_set d.sets (have_of q) ≡ slot_set a.sets (have_of q)

-- A receipt on the arrays does what its step says: refused by its cut it changes nothing; else the arrays show the step carried out, and stay right.
pub record Follows (setup : Setup) (a : Arrays) (form m from to : ℕ) (cut : Cut) (s : Stepped) (r : Flat) : Type 0 where
  pub refused : cut_cause setup a.bytes s.sends.to cut ≢ 0 → r ≡ flat (cut_cause setup a.bytes s.sends.to cut) a
  pub answer : cut_cause setup a.bytes s.sends.to cut ≡ 0 → r.answer ≡ 0
  pub shown :
      cut_cause setup a.bytes s.sends.to cut ≡ 0
      → view setup r.arrays ≡ carried_out (board_flight (view setup a) (taking_out (view setup a).flight form m from to)) to m (step_of m s) cut
  pub right : cut_cause setup a.bytes s.sends.to cut ≡ 0 → Right r.arrays

-- ---- all else stays

pub elsewhere_refl : (p m : ℕ) (a : Arrays) → Elsewhere p m a a
elsewhere_refl p m a =
    record {
      other_sites = λ q h n. refl;
      other_tallies = λ q h n. refl;
      other_entries = λ q h n. refl;
      same_table = refl;
      same_log = refl;
      same_index = λ account kind h k. refl;
      other_have = λ q h n. refl;
    }

pub elsewhere_then : {p m : ℕ} {a d e : Arrays} → Elsewhere p m a d → Elsewhere p m d e → Elsewhere p m a e
elsewhere_then x y =
    record {
      other_sites = λ q h n. y.other_sites q h n ∙ x.other_sites q h n;
      other_tallies = λ q h n. y.other_tallies q h n ∙ x.other_tallies q h n;
      other_entries = λ q h n. y.other_entries q h n ∙ x.other_entries q h n;
      same_table = y.same_table ∙ x.same_table;
      same_log = y.same_log ∙ x.same_log;
      same_index = λ account kind h k. y.same_index account kind h k ∙ x.same_index account kind h k;
      other_have = λ q h n. y.other_have q h n ∙ x.other_have q h n;
    }

-- ---- what a board shown has

module _ (setup : Setup) (a : Arrays) where
  pub site_at_lem : (q : ℕ) → q < sites → site_at (view setup a) q ≡ site_of a q
  unfolding view
  site_at_lem q h = get_d_tabulate sites (site_of a) no_site q h

  pub tally_at_lem : (q : ℕ) → q < capacity → tally_at (view setup a) q ≡ tally_of a q
  unfolding view
  tally_at_lem q h = get_d_tabulate capacity (tally_of a) no_tally q h

  pub entry_at_lem : (q : ℕ) → q < capacity → entry_at (view setup a) q ≡ slot_set a.sets (entry_of q)
  unfolding view
  entry_at_lem q h = get_d_tabulate capacity (λ m. slot_set a.sets (entry_of m)) no_set q h

pub row_at : (a : Arrays) (q : ℕ) → q < capacity → row (table_of a) q ≡ row_of a q
unfolding row table_of
row_at a q h = get_d_tabulate capacity (row_of a) no_posting q h

-- ---- the board shown after an event

-- one value of a function changes
pub table_changed :
    {A : Type 0} (n : ℕ) (f g : ℕ → A) (d : A) (p : ℕ) → p < n → ((q : ℕ) → q < n → q ≢ p → g q ≡ f q)
    → tabulate n g ≡ set (tabulate n f) p (g p)
table_changed n f g d p h same =
    sym (changed_both n f g d p p h (λ k b u v. sym (same k b u))) ∙ set-set (tabulate n f) p (g p) (g p)

-- the board shown, but for what the event may change
abbrev pub shown_after : Setup → Arrays → Arrays → ℕ → ℕ → Board
shown_after setup a d p m =
    record {
      setup = setup;
      down = byte d.bytes down_at;
      table = (view setup a).table;
      sites = set (view setup a).sites p (site_of d p);
      tallies = set (view setup a).tallies m (tally_of d m);
      flight = flight_of d.masks d.good d.carried;
      pool = slot_set d.sets pool_slot;
      entries = set (view setup a).entries m (slot_set d.sets (entry_of m));
      log = (view setup a).log;
    }

pub view_local : (setup : Setup) {p m : ℕ} {a d : Arrays} → p < sites → m < capacity → Elsewhere p m a d → view setup d ≡ shown_after setup a d p m
unfolding view
view_local setup {p} {m} {a} {d} hp hm x =
    rw (
      x.same_table,
      x.same_log,
      table_changed sites (site_of a) (site_of d) no_site p hp x.other_sites,
      table_changed capacity (tally_of a) (tally_of d) no_tally m hm x.other_tallies,
      table_changed capacity (λ q. slot_set a.sets (entry_of q)) (λ q. slot_set d.sets (entry_of q)) no_set m hm x.other_entries,
    )

-- ---- a receipt

-- what a step sends as far as its cut lets it go
abbrev pub sent_to : Stepped → Cut → Sends
sent_to s cut =
    record { form = s.sends.form; to = sites_to s.sends.to cut; good = s.sends.good; carried = s.sends.carried }

-- site `to` receives, and takes step s, on the arrays
pub record Received (a d : Arrays) (form m from to : ℕ) (s : Stepped) (cut : Cut) : Type 0 where
  pub elsewhere : Elsewhere to m a d
  pub site : site_of d to ≡ after_delivery_to s.site s.delivers m cut
  pub tally : tally_of d m ≡ s.tally
  pub masks : d.masks ≡ sending_to (taking_from a.masks form m from to) s.sends.form m to (sites_to s.sends.to cut)
  pub good : d.good ≡ good_sent (good_taken a.good form m from to) s.sends.form m to (sites_to s.sends.to cut) s.sends.good
  pub carried :
      d.carried ≡ set_sent (set_taken a.carried form m from) s.sends.form m to (sites_to s.sends.to cut) s.sends.carried
  pub pool : slot_set d.sets pool_slot ≡ with_if (slot_set a.sets pool_slot) m (enters (sent_to s cut))
  pub entry : slot_set d.sets (entry_of m) ≡ entered (slot_set a.sets (entry_of m)) (sent_to s cut)
  pub down : byte d.bytes down_at ≡ down_after (byte a.bytes down_at) to cut

module _ (setup : Setup) (a d : Arrays) (form m from to : ℕ) (s : Stepped) (cut : Cut) where
  abbrev taken_out : Board
  taken_out = board_flight (view setup a) (taking_out (view setup a).flight form m from to)

  abbrev parts : Board
  parts =
      board_down
      (board_parts taken_out to m (part_to s (sites_to s.sends.to cut) cut) (site_of d to) d.masks d.good d.carried
      (slot_set d.sets pool_slot) (slot_set d.sets (entry_of m)))
      (byte d.bytes down_at)

  tallied : tally_of d m ≡ s.tally → shown_after setup a d to m ≡ parts
  unfolding view
  tallied e = rw e

  carried_out_lem : m < capacity → to < sites → s.sends.to < 2 ^ sites → Received a d form m from to s cut → parts ≡ carried_out taken_out to m (step_of m s) cut
  unfolding view taking_out
  carried_out_lem hm ht fit r =
      carried_parts taken_out to m s fit ht cut (sites_to s.sends.to cut) (site_of d to) d.masks d.good d.carried (enters (sent_to s cut))
      (slot_set d.sets pool_slot) (slot_set d.sets (entry_of m)) (byte d.bytes down_at) refl r.site r.masks r.good r.carried refl
      r.pool (r.entry ∙ ap (λ (x : Set). entered x (sent_to s cut)) (sym (entry_at_lem setup a m hm))) r.down

pub receipt_shown :
    (setup : Setup) {a d : Arrays} {form m from to : ℕ} {s : Stepped} {cut : Cut} → m < capacity → to < sites → s.sends.to < 2 ^ sites
    → Received a d form m from to s cut
    → view setup d ≡ carried_out (board_flight (view setup a) (taking_out (view setup a).flight form m from to)) to m (step_of m s) cut
receipt_shown setup {a} {d} {form} {m} {from} {to} {s} {cut} hm ht fit r =
    view_local setup ht hm r.elsewhere ∙ tallied setup a d form m from to s cut r.tally ∙ carried_out_lem setup a d form m from to s cut hm ht fit r

-- ---- what stands beside the board

pub indexed_same :
    {ws vs : List ℕ} {t u : Table} → Indexed ws t
    → ((line kind : ℕ) → line < index_rows → kind < kinds → slot_set vs (kind_of line kind) ≡ slot_set ws (kind_of line kind)) → u ≡ t → Indexed vs u
indexed_same x same e =
    record {
      shape = λ a k h b. rw (same a k h b) (x.shape a k h b);
      lists = λ a k y h b c. rw (same a k h b, e) (x.lists a k y h b c);
    }

-- the arrays have their lengths
pub record Long (a : Arrays) : Type 0 where
  pub sets_have_length : length a.sets ≡ sets_long
  pub counts_have_length : length a.counts ≡ counts_long
  pub bytes_have_length : length a.bytes ≡ bytes_long
  pub amounts_long : length a.amounts ≡ capacity
  pub masks_long : length a.masks ≡ cells

pub right_long : {a : Arrays} → Right a → Long a
right_long r =
    record {
      sets_have_length = r.sets_have_length;
      counts_have_length = r.counts_have_length;
      bytes_have_length = r.bytes_have_length;
      amounts_long = r.amounts_long;
      masks_long = r.masks_long;
    }

-- the record of a site is its record of postings delivered
pub site_record : (a : Arrays) (q : ℕ) → (site_of a q).delivered ≡ record_in a q
unfolding site_of
site_record a q = refl

pub right_local :
    {p m : ℕ} {a d : Arrays} → Right a → Elsewhere p m a d → Long d → slot_set d.sets (have_of p) ≡ slot_set a.sets (have_of p)
    → record_in d p ≡ record_in a p → Right d
right_local {p} {m} {a} {d} r x l have same =
    record {
      sets_have_length = l.sets_have_length;
      counts_have_length = l.counts_have_length;
      bytes_have_length = l.bytes_have_length;
      amounts_long = l.amounts_long;
      masks_long = l.masks_long;
      indexed = indexed_same r.indexed x.same_index x.same_table;
      have = λ q y hq hy. kept q y hq hy;
    }
  where
    other_record : (q : ℕ) → q < sites → q ≢ p → record_in d q ≡ record_in a q
    other_record q h n = sym (site_record d q) ∙ ap (λ (s : Site). s.delivered) (x.other_sites q h n) ∙ site_record a q

    kept : (q y : ℕ) → q < sites → y < capacity → has_in d.sets (have_of q) y ≡ contains (record_in d q) y
    kept q y hq hy = rw (has_slot d.sets (have_of q) y hy) (elim (ℕ_discrete q p) [
      | yes e ↦ rw (e, have, same) (sym (has_slot a.sets (have_of p) y hy) ∙ rw e at (r.have q y hq hy))
      | no n ↦ rw (x.other_have q hq n, other_record q hq n) (sym (has_slot a.sets (have_of q) y hy) ∙ r.have q y hq hy)
    ])
