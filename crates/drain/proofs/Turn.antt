-- Drain's loop on a board at work: its invariant, a turn of each kind, and its ends, from the results of the code's calls.
-- Rests on Loop and Nexts, on machine's law of a call on the arrays of a sound board. Assumes nothing.
use Rattle.std.proofs.Common.{Some, None}
use Prim.Native.Nat.{ℕ, ◌+◌, ◌*◌, ◌<◌, ◌≤◌}
use mathlib.Core.Path.{◌≡◌, sym, ap, ◌∙◌, subst}
use mathlib.Core.Logic.{◌≢◌}
use mathlib.Core.Bool.{true, false}
use native.Mathlib.Nat.{sub-zero}
use native.Mathlib.Omega.{arith}
use lib.ListN.{length, get_or, take, drop}
use Rattle.sets.specs.Sets.{words, capacity, has, members_of}
use Rattle.posting.specs.declared.Table.{Table}
use Rattle.site.specs.declared.Setup.{Setup}
use Rattle.site.specs.Sites.{sites}
use Rattle.site.specs.Sends.{forms}
use Rattle.flight.specs.Flights.{pairs, cells, cell_at, lowest_from, Found, message}
use Rattle.steps.specs.declared.Cut.TheVariants.{Whole}
use Rattle.steps.specs.declared.Call.{Call}
use Rattle.steps.specs.declared.Call.TheVariants.{Receive, Order, Read}
use Rattle.arrays.specs.Layout.{pool_slot, count_at, down_at}
use Rattle.arrays.specs.declared.Arrays.{Arrays}
use Rattle.arrays.specs.Arrays.{slot_set, byte}
use Rattle.arrays.proofs.Slots.{slot_long}
use Rattle.flat.specs.Flat.{Flat, flat, flat_receive, flat_order, flat_read, flat_perform, LogFits}
use Rattle.machine.specs.declared.Board.{Board}
use Rattle.machine.specs.Soundness.{is_sound}
use Rattle.machine.specs.Runs.{taking}
use Rattle.machine.specs.QuietParts.{up_byte}
use Rattle.views.specs.Views.{table_of}
use Rattle.machine.specs.View.{view, Right}
use Rattle.machine.proofs.SoundTest.{facts_sound}
use Rattle.machine.proofs.Gives.{Gives, few_sites}
use Rattle.machine.proofs.Performed.{perform_gives, log_fits}
use Rattle.invariants.proofs.Reached.{GoodIf, good_sites}
use Rattle.drain.specs.declared.Ending.{Ending}
use Rattle.drain.specs.declared.Ending.TheVariants.{Quiet, Spent}
use Rattle.drain.specs.declared.Drained.{Drained}
use Rattle.drain.specs.Firsts.{first_below, reads, floor_after}
use Rattle.drain.specs.Drain.{event, ending_of, next_order, next_read, next_event, draining}
use Rattle.drain.proofs.Nexts.{order_found, order_none, read_found, read_none}
use Rattle.drain.proofs.Floor.{floor_left}
use Rattle.drain.proofs.Offered.{Stands, first_cell, in_form, form_done}
use Rattle.drain.proofs.Loop.{Floor, Left, Going, one_more, message_next, message_low, other_next, other_low, receive_low, receive_in_form, order_low, read_low, ends_quiet, ends_spent}

-- how many postings are offered
abbrev pub offered_in : Arrays → ℕ
offered_in a = get_or a.counts count_at 0

pub few_offered : (setup : Setup) (a : Arrays) → GoodIf false (view setup a) → offered_in a ≤ capacity
unfolding view table_of
few_offered setup a g = g.sound.count

-- ---- the loop's invariant: the arrays are right, the board that they show is one on the way, and the search is to begin at the floor

pub record Working (setup : Setup) (board : Board) (limit : ℕ) (a : Arrays) (count floor floor-form end : ℕ) : Type 0 where
  pub right : Right a
  pub going : Going board limit (view setup a) count floor
  pub stands : Stands (offered_in a) floor-form floor end

pub at_start : (setup : Setup) (limit : ℕ) (a : Arrays) → Right a → GoodIf false (view setup a) → Working setup (view setup a) limit a 0 0 0 (offered_in a * sites)
at_start setup limit a ok g = record {
  right = ok;
  going = record { within = omega arith; good = g; same = rw sub-zero; low = λ k h. absurd (omega arith) };
  stands = first_cell (offered_in a) (few_offered setup a g);
}

-- what the contract says of an end
abbrev pub Ends : Setup → Board → ℕ → Arrays → ℕ → Ending → Type 0
Ends setup board limit a count ending =
    let end = draining limit limit 0 board in
    (view setup a ≡ end.board) × ((count ≡ end.count) × ((ending ≡ end.ending) × (Right a × (ending_of ending ≡ ending_of end.ending))))

module _ (setup : Setup) (board : Board) (limit : ℕ) (a : Arrays) (count floor floor-form end : ℕ) (w : Working setup board limit a count floor floor-form end) where
  abbrev b : Board
  b = view setup a

  abbrev g : GoodIf false b
  g = w.going.good

  sound : is_sound b ≡ true
  sound = facts_sound b g.shape (good_sites b g) g.sound

  pub few : setup.n ≤ sites
  few = few_sites setup a w.right sound

  -- what a read requires
  pub fits : (setup.n ≤ sites) × LogFits a.counts a.bytes
  fits = (few, log_fits setup a w.right sound)

  -- of a form the search is done where the postings offered end
  pub passes_on :
      (up form k last : ℕ) → Stands (offered_in a) form k last → form < forms → last ≤ k → let next = (form + 1) * pairs in
      lowest_from k (drop k (take cells a.masks)) up ≡ lowest_from next (drop next (take cells a.masks)) up
  unfolding view table_of
  passes_on = form_done b g.sound

  -- an event leaves the table as it was
  offered_same : (after : Arrays) (x : Board) → view setup after ≡ x → x.table ≡ b.table → offered_in a ≡ offered_in after
  unfolding view table_of
  offered_same after x e t = sym (ap (λ (y : Board). y.table.count) e ∙ ap (λ (y : Table). y.count) t)

  -- an event done
  turn :
      (c : Call) → next_event b ≡ event c → count ≢ limit → (next form last : ℕ) → Left b (taking b c).board next → Stands (offered_in a) form next last
      → (why : ℕ) (after : Arrays) → flat why after ≡ flat_perform setup a c → Working setup board limit after (count + 1) next form last
  turn c e d next form last left stands why after p =
      let gives = subst (λ (r : Flat). Gives setup r (taking b c)) (sym p) (perform_gives setup a w.right sound c) in
      record {
        right = gives.right;
        going = one_more board limit b count floor w.going c e d (view setup after) gives.shown next (subst (λ (x : Board). Floor x next) (sym gives.shown) left.0);
        stands = subst (λ (n : ℕ). Stands n form next last) (offered_same after (taking b c).board gives.shown left.1) stands;
      }

  ends : (ending : Ending) → draining limit limit 0 board ≡ record { board = b; limit = limit; count = count; ending = ending } → Ends setup board limit a count ending
  ends ending e =
      let same = ap (λ (x : Drained). x.ending) (sym e) in
      (ap (λ (x : Drained). x.board) (sym e), (ap (λ (x : Drained). x.count) (sym e), (same, (w.right, ap ending_of same))))

  spent : (c : Call) → next_event b ≡ event c → count ≡ limit → Ends setup board limit a count Spent
  spent c e l = ends Spent (w.going.same ∙ ends_spent b g limit count c e l)

  module _ (up : ℕ) (masked : up ≡ up_byte setup.n (byte a.bytes down_at)) where
    -- where the search stopped: at the cell of the message found, or behind all
    abbrev Stopped : ℕ → ℕ → Found → Type 0
    Stopped k last None = Stands (offered_in a) forms cells last
    Stopped k last (Some m) = (k ≡ cell_at m.form m.posting m.from) × Stands (offered_in a) m.form k last

    -- what it found from the floor on
    abbrev pub Sought : ℕ → ℕ → Found → Type 0
    Sought k last found = (found ≡ lowest_from floor (drop floor (take cells a.masks)) up) × Stopped k last found

    pub sought_as : (k last : ℕ) (found : Found) → Sought k last found → (j : ℕ) (other : Found) → j ≡ k → other ≡ found → Sought j last other
    sought_as k last found s j other e f = subst (λ (i : ℕ). Sought i last other) (sym e) (subst (λ (x : Found). Sought k last x) (sym f) s)

    -- ---- a message was found

    module _ (form m from to k last : ℕ) (found : Sought k last (message form m from to)) where
      receives : next_event b ≡ event (Receive form m from to Whole)
      unfolding view
      receives = message_next b g floor w.going.low up masked form m from to (sym found.0)

      below : Floor b (cell_at form m from)
      unfolding view
      below = message_low b g floor w.going.low up masked form m from to (sym found.0)

      pub receive_spent : count ≡ limit → Ends setup board limit a count Spent
      receive_spent = spent (Receive form m from to Whole) receives

      pub receive_turn :
          count ≢ limit → (why : ℕ) (after : Arrays) → flat why after ≡ flat_receive setup a form m from to Whole
          → (next : ℕ) → next ≡ floor_after k form m to → Working setup board limit after (count + 1) next form last
      unfolding flat_perform
      receive_turn d why after p next e =
          let is : next ≡ floor_left form m from to = e ∙ ap (λ (j : ℕ). floor_after j form m to) found.1.0 in
          let left = subst (Left b (taking b (Receive form m from to Whole)).board) (sym is) (receive_low b g form m from to receives below) in
          let among = subst (λ (j : ℕ). (form * pairs ≤ j) × (j ≤ (form + 1) * pairs)) (sym is) (receive_in_form b g form m from to receives) in
          turn (Receive form m from to Whole) receives d next form last left (in_form (offered_in a) form k last found.1.1 next among.0 among.1) why after p

    -- ---- none was found

    module _ (last : ℕ) (found : Sought cells last None) (first : ℕ) (pooled : first ≡ first_below (has (slot_set a.sets pool_slot)) capacity) where
      others : next_event b ≡ next_order b (members_of b.pool)
      unfolding view
      others = other_next b g floor w.going.low up masked (sym found.0)

      all_low : Floor b cells
      unfolding view
      all_low = other_low b g floor w.going.low up masked (sym found.0)

      long : length b.pool.words ≡ words
      unfolding view
      long = slot_long a.sets pool_slot

      module _ (some : first < capacity) where
        orders : next_event b ≡ event (Order first)
        unfolding view
        orders = others ∙ order_found b first pooled some long

        pub order_spent : count ≡ limit → Ends setup board limit a count Spent
        order_spent = spent (Order first) orders

        pub order_turn :
            count ≢ limit → (why : ℕ) (after : Arrays) → flat why after ≡ flat_order a first → Working setup board limit after (count + 1) cells forms last
        unfolding flat_perform
        order_turn d why after p = turn (Order first) orders d cells forms last (order_low b g first orders all_low) found.1 why after p

      module _ (dry : capacity ≤ first) (reader : ℕ) (e : reader ≡ first_below (reads a.counts (byte a.bytes down_at)) setup.n) where
        log_next : next_event b ≡ next_read b setup.n
        unfolding view
        log_next = others ∙ order_none b first pooled dry long

        pub quiet : setup.n ≤ reader → Ends setup board limit a count Quiet
        quiet h = ends Quiet (w.going.same ∙ ends_quiet b g limit count (log_next ∙ read_none setup a few reader e h))

        module _ (h : reader < setup.n) where
          readers : next_event b ≡ event (Read reader Whole)
          readers = log_next ∙ read_found setup a few reader e h

          pub read_spent : count ≡ limit → Ends setup board limit a count Spent
          read_spent = spent (Read reader Whole) readers

          pub read_turn :
              count ≢ limit → (why : ℕ) (after : Arrays) → flat why after ≡ flat_read setup a reader Whole → Working setup board limit after (count + 1) cells forms last
          unfolding flat_perform
          read_turn d why after p = turn (Read reader Whole) readers d cells forms last (read_low b g reader readers all_low) found.1 why after p
