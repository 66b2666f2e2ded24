-- Every call, accepted or refused, keeps a board sound and in shape; so does a run of any list of calls; an accepted start begins so.
-- Rests on Kept. Assumes nothing.
use Prim.Native.Nat.{ℕ, zero, suc, ◌+◌, ◌*◌, ◌^◌, ◌<◌, ◌≤◌}
use mathlib.Core.Path.{◌≡◌, refl, sym, ap, ◌∙◌}
use mathlib.Core.Logic.{◌⊎◌, inl, inr, ◌≢◌}
use mathlib.Core.Bool.{Bool, true, false, cond, not, ◌&&◌, ◌||◌}
use mathlib.Core.List.{List, [], ◌∷◌, ◌++◌}
use native.Mathlib.Omega.{arith}
use native.Mathlib.Decide.{ℕ_discrete}
use lib.Dec.{eqb, ltb, leb}
use lib.Seq.{get_or-set_other}
use lib.ListN.{length, get_or, set, take, length-set, replicate, length-replicate, get_or-replicate}
use lib.Bits.{or_lt}
use lib.Pow.{pow-lt, pow_pos}
use borrow.Author.Tests.{eqb-true, eq-eqb, ne_eqb, eqb-false}
use Rattle.sets.specs.declared.Set.{Set}
use Rattle.sets.proofs.Truth.{test, never, not_so, and_left, and_right, or_cases, or_left, or_right, not_flips}
use Rattle.sets.specs.Masks.{has_bit}
use Rattle.sets.specs.Numbers.{listed}
use Rattle.sets.proofs.NumberLaws.{listed_last}
use Rattle.sets.specs.Words.{member}
use Rattle.sets.proofs.WordLaws.{empty_shape, member_empty, member_remove, remove_shape}
use Rattle.sets.specs.Sets.{capacity, words, has, without, empty_set, Shape}
use Rattle.posting.specs.declared.Posting.{Posting}
use Rattle.posting.specs.declared.Table.{Table}
use Rattle.posting.specs.Kinds.{fields_ok}
use Rattle.posting.specs.Conflicts.{no_posting, row, offered, table_with}
use Rattle.posting.proofs.ConflictLaws.{offered_below, below_offered}
use Rattle.posting.specs.Records.{numbers_of, contains, append}
use Rattle.posting.proofs.RecordLaws.{Places, append_places, numbers_append, append_room, empty_places}
use Rattle.site.specs.declared.Site.{Site}
use Rattle.site.specs.declared.Tally.{Tally}
use Rattle.site.specs.Sites.{sites, plus}
use Rattle.site.specs.Sends.{FIRST, SECOND, THIRD, forms, Step}
use Rattle.site.specs.Steps.{owner_of, on_offer, on_first, on_second, on_third, on_deliver, on_entry}
use Rattle.flight.specs.Flights.{in_flight, is_cell, message_in, carried_by, good_to, taking_out}
use Rattle.flight.proofs.CellLaws.{cell_range}
use Rattle.flight.proofs.CarriedLaws.{set_shape_in}
use Rattle.flight.proofs.FlightLaws.{taking_shape, empty_flight_shape, empty_in_flight}
use Rattle.machine.specs.declared.Board.{Board}
use Rattle.steps.specs.declared.Cut.{Cut}
use Rattle.steps.specs.declared.Call.{Call}
use Rattle.steps.specs.declared.Call.TheVariants.{Offer, Receive, Order, Read, Crash}
use Rattle.machine.specs.Boards.{site_at, tally_at, entry_at, logged_at, board_table, board_flight}
use Rattle.machine.specs.Calls.{carried_out, receipt_of}
use Rattle.machine.specs.Runs.{taking, accepted, running}
use Rattle.machine.proofs.Shapes.{SiteShape, BoardShape}
use Rattle.machine.proofs.SoundFacts.{Offers, MaskSound, RecordSound, SiteSound, TallySound, CellSound, EntrySound, Sound}
use Rattle.machine.proofs.SoundTest.{sound_facts, facts_sound}
use Rattle.invariants.proofs.SiteSound.{append_sound}
use Rattle.invariants.proofs.StepSound.{StepSound, offer_step_lem, first_step, second_step, third_step, deliver_step, entry_step}
use Rattle.invariants.proofs.Grow.{Grows, table_grows, new_row, offered_old, offers_grow, record_grow, site_grow, tally_grow, site_longer}
use Rattle.invariants.proofs.Room.{listed_offered, record_room, listed_at}
use Rattle.invariants.proofs.FlightSound.{FlightSound, MessageSound, flight_facts, facts_flight, taken_sound}
use Rattle.invariants.proofs.Judged.{Acts, OfferTaken, ReceiptTaken, OrderTaken, ReadTaken, CrashTaken, offer_taken, receipt_taken, order_taken, read_taken, crash_taken, refused_same, read_step, offer_step, next_logged}
use Rattle.invariants.proofs.Blank.{Blank, append_past, taking_unloaded, receipt_record}
use Rattle.invariants.proofs.Kept.{Ready, cells_below, out_shape, out_sound, out_blank}
use Rattle.machine.proofs.Facts.{setup_sites}

-- sound and in shape; and, of a clean board, cells that hold nothing live are blank
pub record GoodIf (clean : Bool) (b : Board) : Type 0 where
  pub shape : BoardShape b
  pub sound : Sound b
  pub blank : clean ≡ true → Blank b

abbrev pub Good : Board → Type 0
Good b = GoodIf true b

pub good_sites : {clean : Bool} (b : Board) → GoodIf clean b → b.setup.n ≤ sites
good_sites b g = (setup_sites b.setup g.sound.setup).1

pub good_flight : {clean : Bool} (b : Board) → GoodIf clean b → FlightSound b.table b.setup.n b.flight
good_flight b g = flight_facts b (cells_below b g.shape g.sound.each_cell) g.sound.each_cell

-- a place before the count holds a number of the record
pub at_listed : (l : List ℕ) (count i : ℕ) → i < count → count ≤ length l → listed (get_or l i 0) (take count l) ≡ true
unfolding listed
at_listed [] count i h k = absurd (omega arith)
at_listed (x ∷ l) zero i h k = absurd (omega arith)
at_listed (x ∷ l) (suc count) zero h k = or_left (eqb x x) (listed x (take count l)) (eq-eqb x x refl)
at_listed (x ∷ l) (suc count) (suc i) h k = or_right (eqb (get_or l i 0) x) (listed (get_or l i 0) (take count l)) (at_listed l count i (omega arith) (omega arith))

-- ---- a posting more in the table

module _ {clean : Bool} (b : Board) (g : GoodIf clean b) (posting : Posting) (room : b.table.count < capacity) (owner : posting.owner < b.setup.n) (fields : fields_ok posting ≡ true) where
  abbrev more : Table
  more = table_with b.table posting

  grows : Grows b.table more
  grows = table_grows b.table posting

  -- a row of the longer table
  row_cases : (P : Posting → Type 0) → P posting → ((m : ℕ) → offered b.table m ≡ true → P (row b.table m)) → (m : ℕ) → offered more m ≡ true → P (row more m)
  row_cases P new old m o = elim (ℕ_discrete m b.table.count) [
    | yes e ↦ rw (e, new_row b.table posting (omega (arith, g.shape.rows, room))) new
    | no d ↦ let k = offered_old b.table posting m d o in rw (grows.same m k) (old m k)
  ]

  table_blank : clean ≡ true → Blank (board_table b more)
  unfolding row
  table_blank e = record {
    sites_past = (g.blank e).sites_past;
    rows_past = λ m le. rows m le;
    records_past = (g.blank e).records_past;
    log_past = (g.blank e).log_past;
    unloaded = (g.blank e).unloaded;
  }
    where
      rows : (m : ℕ) → b.table.count + 1 ≤ m → row more m ≡ no_posting
      rows m le = let d : m ≢ b.table.count = λ e. omega arith in get_or-set_other b.table.rows b.table.count m posting no_posting d ∙ (g.blank e).rows_past m (omega arith)

  table_shape : BoardShape (board_table b more)
  table_shape = record {
    rows = length-set b.table.rows b.table.count posting ∙ g.shape.rows;
    sites_long = g.shape.sites_long;
    tallies_long = g.shape.tallies_long;
    entries_long = g.shape.entries_long;
    each_site = g.shape.each_site;
    each_union = g.shape.each_union;
    each_entry = g.shape.each_entry;
    flight = g.shape.flight;
    pool = g.shape.pool;
    log = g.shape.log;
  }

  same_owner : (m : ℕ) → offered b.table m ≡ true → owner_of more m ≡ owner_of b.table m
  same_owner m o = ap (λ (r : Posting). r.owner) (grows.same m o)

  table_sound : Sound (board_table b more)
  table_sound = record {
    setup = g.sound.setup;
    count = omega (arith, room);
    owners = row_cases (λ r. r.owner < b.setup.n) owner g.sound.owners;
    fields = row_cases (λ r. fields_ok r ≡ true) fields g.sound.fields;
    down = g.sound.down;
    each_site = λ p lt. site_grow b.table more grows b.setup.n b.log.count (site_at b p) (g.sound.each_site p lt);
    each_tally = λ m lt. tally_grow b.table more grows b.setup.n m (tally_at b m) (g.sound.each_tally m lt);
    each_cell = λ form m from hform hm hf.
        let i = g.sound.each_cell form m from hform hm hf in
        record {
          below = i.below;
          named = λ to k. grows.more m (i.named to k);
          sender = i.sender;
          to_owner = λ to k e. i.to_owner to k e ∙ sym (same_owner m (i.named to k));
          carries = λ to k e. offers_grow b.table more grows (carried_by b.flight m from) (i.carries to k e);
        };
    pool = offers_grow b.table more grows b.pool g.sound.pool;
    log = record_grow b.table more grows b.log g.sound.log;
    each_entry = λ m lt.
        let i = g.sound.each_entry m lt in
        record {
          apart = i.apart;
          finished = λ k. rw (same_owner m (named m k)) (i.finished k);
          carries = λ k. offers_grow b.table more grows (entry_at b m) (i.carries k);
        };
  }
    where
      named : (m : ℕ) → (has b.pool m ≡ true) ⊎ (listed m (numbers_of b.log) ≡ true) → offered b.table m ≡ true
      named m k = elim k [
        | inl h ↦ g.sound.pool m h
        | inr h ↦ listed_offered b.table b.log g.sound.log g.shape.log m h
      ]

-- ---- a message less in flight

module _ {clean : Bool} (b : Board) (g : GoodIf clean b) (form m from to : ℕ) (hm : m < capacity) (hf : from < sites) where
  taken_good : GoodIf clean (board_flight b (taking_out b.flight form m from to))
  taken_good =
      let after = board_flight b (taking_out b.flight form m from to) in
      let flight = taken_sound b.table b.setup.n b.flight form m from to g.shape.flight hm hf (good_flight b g) in
      record {
        shape = record {
          rows = g.shape.rows;
          sites_long = g.shape.sites_long;
          tallies_long = g.shape.tallies_long;
          entries_long = g.shape.entries_long;
          each_site = g.shape.each_site;
          each_union = g.shape.each_union;
          each_entry = g.shape.each_entry;
          flight = taking_shape b.flight g.shape.flight form m from to;
          pool = g.shape.pool;
          log = g.shape.log;
        };
        blank = λ e. record {
          sites_past = (g.blank e).sites_past;
          rows_past = (g.blank e).rows_past;
          records_past = (g.blank e).records_past;
          log_past = (g.blank e).log_past;
          unloaded = taking_unloaded b.flight g.shape.flight (g.blank e).unloaded form m from to hm hf;
        };
        sound = record {
          setup = g.sound.setup;
          count = g.sound.count;
          owners = g.sound.owners;
          fields = g.sound.fields;
          down = g.sound.down;
          each_site = g.sound.each_site;
          each_tally = g.sound.each_tally;
          each_cell = facts_flight after (good_sites b g) flight;
          pool = g.sound.pool;
          log = g.sound.log;
          each_entry = λ x lt. let i = g.sound.each_entry x lt in record { apart = i.apart; finished = i.finished; carries = i.carries };
        };
      }

-- ---- the calls

module _ {clean : Bool} (b : Board) (g : GoodIf clean b) where
  shape : BoardShape b
  shape = g.shape

  offer_good : (site kind account other amount : ℕ) (cut : Cut) → OfferTaken b site kind account other amount cut → GoodIf clean (taking b (Offer site kind account other amount cut)).board
  unfolding taking
  offer_good site kind account other amount cut k =
      let posting : Posting = record { owner = site; kind = kind; a = account; b = other; amount = amount } in
      let t = table_with b.table posting in
      let on = board_table b t in
      let m = b.table.count in
      let lt : m < capacity = k.room in
      let sound = table_sound b g posting k.room k.acts.there k.fields in
      let shaped = table_shape b g posting k.room k.acts.there k.fields in
      let ready : Ready on site m = record { shape = shaped; sound = sound; site = k.acts.there; posting = lt } in
      let few = good_sites b g in
      let o = below_offered t m (omega arith) lt in
      let step = offer_step_lem t b.setup.n b.log.count (site_at b site) (sound.each_site site k.acts.there) (shape.each_site site (omega (arith, k.acts.there)))
      (tally_at b m) m (sound.each_tally m lt) (shape.each_union m lt) b.setup site refl o in
      let blank = table_blank b g posting k.room k.acts.there k.fields in
      rw k.board (record {
        shape = out_shape on site m (offer_step b site) cut ready step;
        sound = out_sound on site m (offer_step b site) cut ready step;
        blank = λ e. out_blank on site m (offer_step b site) cut ready step (unfold on_offer in refl) (blank e);
      })

  receipt_good : (form m from to : ℕ) (cut : Cut) → ReceiptTaken b form m from to cut → GoodIf clean (taking b (Receive form m from to cut)).board
  unfolding taking
  receipt_good form m from to cut k =
      let few = good_sites b g in
      let message = (good_flight b g).each form m from to k.coming in
      let lt = (offered_below b.table m message.named).1 in
      let hf : from < sites = omega (arith, k.sender) in
      let on = board_flight b (taking_out b.flight form m from to) in
      let after = taken_good b g form m from to lt hf in
      let ready : Ready on to m = record { shape = after.shape; sound = after.sound; site = k.acts.there; posting = lt } in
      let step = receipt_step g few message lt in
      rw k.board (record {
        shape = out_shape on to m (receipt_of b form m from to) cut ready step;
        sound = out_sound on to m (receipt_of b form m from to) cut ready step;
        blank = λ e. out_blank on to m (receipt_of b form m from to) cut ready step (receipt_record b form m from to) (after.blank e);
      })
    where
      receipt_step : (g : GoodIf clean b) → b.setup.n ≤ sites → MessageSound b.table b.setup.n b.flight form m from to → m < capacity
          → StepSound b.table b.setup.n b.log.count m to (site_at b to).finished (receipt_of b form m from to)
      receipt_step g few message lt =
          let site_ok = g.sound.each_site to k.acts.there in
          let site_shape = shape.each_site to (omega (arith, k.acts.there)) in
          let tally_ok = g.sound.each_tally m lt in
          let union = shape.each_union m lt in
          let o = message.named in
          let t = b.table in
          let n = b.setup.n in
          let logged = b.log.count in
          unfold receipt_of in elim (test (eqb form FIRST)) [
            | inl e ↦ rw e (first_step t n logged (site_at b to) site_ok site_shape (tally_at b m) m tally_ok union b.setup to refl o)
            | inr e ↦ rw e (elim (test (eqb form SECOND)) [
              | inl d ↦ rw d (second_step t n logged (site_at b to) site_ok site_shape (tally_at b m) m tally_ok union b.setup to from
                  (has_bit (good_to b.flight m from) to) k.sender o (g.sound.owners m o))
              | inr d ↦ rw d (elim (test (eqb form THIRD)) [
                | inl c ↦ rw c (third_step t n logged (site_at b to) site_ok site_shape (tally_at b m) m tally_ok union b.setup to from (carried_by b.flight m from)
                    refl k.sender o (message.to_owner (eqb-true form THIRD c)) (message.carries (eqb-true form THIRD c)) (set_shape_in b.flight.carried shape.flight.carried m from))
                | inr c ↦ rw c (deliver_step t n logged (site_at b to) site_ok site_shape (tally_at b m) m tally_ok union b.setup to refl o)
              ])
            ])
          ]

  read_good : (site : ℕ) (cut : Cut) → ReadTaken b site cut → GoodIf clean (taking b (Read site cut)).board
  unfolding taking
  read_good site cut k =
      let few = good_sites b g in
      let m = next_logged b site in
      let o = g.sound.log.named (site_at b site).place k.left in
      let lt = (offered_below b.table m o).1 in
      let ready : Ready b site m = record { shape = shape; sound = g.sound; site = k.acts.there; posting = lt } in
      let step = entry_step b.table b.setup.n b.log.count (site_at b site) (g.sound.each_site site k.acts.there) (shape.each_site site (omega (arith, k.acts.there)))
      (tally_at b m) m (g.sound.each_tally m lt) (shape.each_union m lt) site (entry_at b m) o
      ((g.sound.each_entry m lt).carries (inr (logged g))) (omega (arith, k.left)) in
      rw k.board (record {
        shape = out_shape b site m (read_step b site) cut ready step;
        sound = out_sound b site m (read_step b site) cut ready step;
        blank = λ e. out_blank b site m (read_step b site) cut ready step (unfold on_entry in refl) (g.blank e);
      })
    where
      logged : GoodIf clean b → listed (next_logged b site) (numbers_of b.log) ≡ true
      logged g = unfold numbers_of in at_listed b.log.numbers b.log.count (site_at b site).place k.left (omega (arith, g.sound.log.within, shape.log))

  order_good : (m : ℕ) → OrderTaken b m → GoodIf clean (taking b (Order m)).board
  unfolding taking
  order_good m k =
      let o = g.sound.pool m k.pooled in
      let lt = (offered_below b.table m o).1 in
      let lacks : contains b.log m ≡ false = not_so (contains b.log m) (λ h. (g.sound.each_entry m lt).apart k.pooled (unfold contains in h)) in
      let room = record_room b.table b.log g.sound.log shape.log m o lacks in
      let longer : (append b.log m).count ≡ b.log.count + 1 = ap (λ r. r.count) (append_room b.log m room lt) in
      let in-log : (x : ℕ) → listed x (numbers_of (append b.log m)) ≡ (listed x (numbers_of b.log) || eqb x m) = λ x.
      ap (listed x) (numbers_append b.log m room lt shape.log) ∙ listed_last x (numbers_of b.log) m in
      let in-pool : (x : ℕ) → has (without b.pool m) x ≡ (has b.pool x && not (eqb x m)) = λ x. member_remove b.pool.words m x in
      let before : (x : ℕ) → (has (without b.pool m) x ≡ true) ⊎ (listed x (numbers_of (append b.log m)) ≡ true) → (has b.pool x ≡ true) ⊎ (listed x (numbers_of b.log) ≡ true) = λ x h.
      elim h [
        | inl p ↦ inl (and_left (has b.pool x) (not (eqb x m)) (sym (in-pool x) ∙ p))
        | inr l ↦ elim (or_cases (listed x (numbers_of b.log)) (eqb x m) (sym (in-log x) ∙ l)) [
          | inl q ↦ inr q
          | inr q ↦ inl (rw (eqb-true x m q) k.pooled)
        ]
      ] in
      rw k.board (record {
        shape = record {
          rows = shape.rows;
          sites_long = shape.sites_long;
          tallies_long = shape.tallies_long;
          entries_long = shape.entries_long;
          each_site = shape.each_site;
          each_union = shape.each_union;
          each_entry = shape.each_entry;
          flight = shape.flight;
          pool = remove_shape b.pool.words m shape.pool;
          log = append_places b.log m shape.log;
        };
        sound = record {
          setup = g.sound.setup;
          count = g.sound.count;
          owners = g.sound.owners;
          fields = g.sound.fields;
          down = g.sound.down;
          each_site = λ p lp. site_longer b.table b.setup.n b.log.count (append b.log m).count (site_at b p) (omega arith) (g.sound.each_site p lp);
          each_tally = g.sound.each_tally;
          each_cell = λ form x from hform hm hf. let i = g.sound.each_cell form x from hform hm hf in
              record { below = i.below; named = i.named; sender = i.sender; to_owner = i.to_owner; carries = i.carries };
          pool = λ x h. g.sound.pool x (and_left (has b.pool x) (not (eqb x m)) (sym (in-pool x) ∙ h));
          log = append_sound b.table b.log m shape.log o lacks g.sound.log;
          each_entry = λ x lx. let i = g.sound.each_entry x lx in record {
            apart = λ p l. elim (or_cases (listed x (numbers_of b.log)) (eqb x m) (sym (in-log x) ∙ l)) [
              | inl q ↦ i.apart (and_left (has b.pool x) (not (eqb x m)) (sym (in-pool x) ∙ p)) q
              | inr q ↦ never q (not_flips (eqb x m) (and_right (has b.pool x) (not (eqb x m)) (sym (in-pool x) ∙ p)))
            ];
            finished = λ h. i.finished (before x h);
            carries = λ h. i.carries (before x h);
          };
        };
        blank = λ e. record {
          sites_past = (g.blank e).sites_past;
          rows_past = (g.blank e).rows_past;
          records_past = (g.blank e).records_past;
          log_past = append_past b.log m (g.blank e).log_past;
          unloaded = (g.blank e).unloaded;
        };
      })

  crash_good : (site : ℕ) → CrashTaken b site → GoodIf clean (taking b (Crash site)).board
  unfolding taking
  crash_good site k =
      rw k.board (record {
        shape = record {
          rows = shape.rows;
          sites_long = shape.sites_long;
          tallies_long = shape.tallies_long;
          entries_long = shape.entries_long;
          each_site = shape.each_site;
          each_union = shape.each_union;
          each_entry = shape.each_entry;
          flight = shape.flight;
          pool = shape.pool;
          log = shape.log;
        };
        sound = record {
          setup = g.sound.setup;
          count = g.sound.count;
          owners = g.sound.owners;
          fields = g.sound.fields;
          down = or_lt b.setup.n b.down (2 ^ site) g.sound.down (pow-lt k.there);
          each_site = g.sound.each_site;
          each_tally = g.sound.each_tally;
          each_cell = λ form x from hform hm hf. let i = g.sound.each_cell form x from hform hm hf in
              record { below = i.below; named = i.named; sender = i.sender; to_owner = i.to_owner; carries = i.carries };
          pool = g.sound.pool;
          log = g.sound.log;
          each_entry = λ x lx. let i = g.sound.each_entry x lx in record { apart = i.apart; finished = i.finished; carries = i.carries };
        };
        blank = λ e. record {
          sites_past = (g.blank e).sites_past;
          rows_past = (g.blank e).rows_past;
          records_past = (g.blank e).records_past;
          log_past = (g.blank e).log_past;
          unloaded = (g.blank e).unloaded;
        };
      })

-- ---- every call, and a run

pub call_good : {clean : Bool} (b : Board) → GoodIf clean b → (c : Call) → GoodIf clean (taking b c).board
call_good {clean = clean} b g c = elim (test (accepted (taking b c).answer)) [
  | inl t ↦ taken c t
  | inr t ↦ rw (refused_same b c t) g
]
  where
    taken : (c : Call) → accepted (taking b c).answer ≡ true → GoodIf clean (taking b c).board
    taken (Offer site kind account other amount cut) t = offer_good b g site kind account other amount cut (offer_taken b site kind account other amount cut (unfold taking in t))
    taken (Receive form m from to cut) t = receipt_good b g form m from to cut (receipt_taken b form m from to cut (unfold taking in t))
    taken (Order m) t = order_good b g m (order_taken b m (unfold taking in t))
    taken (Read site cut) t = read_good b g site cut (read_taken b site cut (unfold taking in t))
    taken (Crash site) t = crash_good b g site (crash_taken b site (unfold taking in t))

pub run_good : {clean : Bool} (b : Board) (l : List Call) → GoodIf clean b → GoodIf clean (running b l)
unfolding running
run_good b [] g = g
run_good b (c ∷ l) g = run_good (taking b c).board l (call_good b g c)
