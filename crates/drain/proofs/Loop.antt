-- Drain's loop on a board by value: one event more, and the ends; which event is next, from the results of the code's search; and the floor that an
-- event leaves. Rests on NextEvent and Floor, on machine's laws and on invariants. Assumes nothing.
use Rattle.std.proofs.Common.{None}
use Prim.Native.Nat.{ℕ, zero, suc, ◌+◌, ◌*◌, ◌-◌, ◌^◌, ◌<◌, ◌≤◌}
use mathlib.Core.Path.{◌≡◌, refl, sym, ap, ◌∙◌, subst}
use mathlib.Core.Logic.{◌⊎◌, inl, inr, ◌≢◌}
use mathlib.Core.Bool.{Bool, true, false}
use native.Mathlib.Omega.{arith}
use lib.ListN.{take, drop}
use lib.Pow.{pow_mono}
use Rattle.sets.proofs.Truth.{not_so}
use Rattle.sets.specs.Sets.{capacity, members_of}
use Rattle.site.specs.Sites.{sites}
use Rattle.site.specs.Steps.{owner_of}
use Rattle.flight.specs.Flights.{pairs, cells, cell_at, taking_out, lowest_from, lowest_in, lowest, Found, message}
use Rattle.flight.specs.ByMask.{sending_mask}
use Rattle.flight.proofs.FloorLaws.{NoneBelow, floor_search, message_floor, nothing_floor}
use Rattle.site.specs.declared.Setup.{Setup}
use Rattle.arrays.specs.declared.Arrays.{Arrays}
use Rattle.machine.specs.declared.Board.{Board}
use Rattle.machine.specs.View.{view}
use Rattle.steps.specs.declared.Cut.TheVariants.{Whole}
use Rattle.steps.specs.declared.Call.{Call}
use Rattle.steps.specs.declared.Call.TheVariants.{Receive, Order, Read}
use Rattle.machine.specs.Boards.{site_at, tally_at, entry_at, board_flight}
use Rattle.machine.specs.Calls.{reading}
use Rattle.machine.specs.Runs.{taking, is_quiet, up_mask}
use Rattle.machine.specs.ByMask.{placed}
use Rattle.machine.specs.QuietParts.{up_byte}
use Rattle.machine.proofs.QuietPartLaws.{up_byte_lem}
use Rattle.machine.proofs.Facts.{Placed, message_placed}
use Rattle.machine.proofs.Placed.{whole_is, receipt, receipt_fits, receipt_is, read_whole}
use Rattle.invariants.proofs.Judged.{ReceiptTaken, ReadTaken, receipt_taken, order_taken, read_taken, next_logged}
use Rattle.invariants.proofs.Reached.{GoodIf, good_sites, good_flight, call_good}
use Rattle.drain.specs.declared.Ending.{Ending}
use Rattle.drain.specs.declared.Ending.TheVariants.{Quiet, Spent}
use Rattle.drain.specs.declared.Drained.{Drained}
use Rattle.drain.specs.Drain.{Next, none, event, next_order, next_after, next_event, draining}
use Rattle.drain.proofs.Floor.{floor_left, floor_in_form, receipt_above, passed_floor}
use Rattle.drain.proofs.NextEvent.{next_accepted, next_none, quiet_next, not_none}

-- ---- one event more, and the ends

abbrev ended : Board → ℕ → ℕ → Ending → Drained
ended b limit count ending = record { board = b; limit = limit; count = count; ending = ending }

pub draining_none : (left limit count : ℕ) (b : Board) → next_event b ≡ none → draining (suc left) limit count b ≡ ended b limit count Quiet
unfolding draining
draining_none left limit count b e = ap (λ (r : Next). elim r [ none ↦ ended b limit count Quiet | event c ↦ draining left limit (count + 1) (taking b c).board ]) e

pub draining_event : (left limit count : ℕ) (b : Board) (c : Call) → next_event b ≡ event c → draining (suc left) limit count b ≡ draining left limit (count + 1) (taking b c).board
unfolding draining
draining_event left limit count b c e = ap (λ (r : Next). elim r [ none ↦ ended b limit count Quiet | event c ↦ draining left limit (count + 1) (taking b c).board ]) e

spent_end : (limit count : ℕ) (b : Board) → is_quiet b ≡ false → draining zero limit count b ≡ ended b limit count Spent
unfolding draining
spent_end limit count b f = rw f

quiet_end : (limit count : ℕ) (b : Board) → is_quiet b ≡ true → draining zero limit count b ≡ ended b limit count Quiet
unfolding draining
quiet_end limit count b t = rw t

module _ {clean : Bool} (b : Board) (g : GoodIf clean b) (limit count : ℕ) where
  -- nothing is next: quiet, whatever is left of the limit
  pub ends_quiet : next_event b ≡ none → draining (limit - count) limit count b ≡ ended b limit count Quiet
  ends_quiet e = go (limit - count)
    where
      go : (left : ℕ) → draining left limit count b ≡ ended b limit count Quiet
      go zero = quiet_end limit count b (next_none b g e)
      go (suc left) = draining_none left limit count b e

  -- an event is next, and the limit is used up
  pub ends_spent : (c : Call) → next_event b ≡ event c → count ≡ limit → draining (limit - count) limit count b ≡ ended b limit count Spent
  ends_spent c e l =
      let z : limit - count ≡ 0 = omega (arith, l) in
      let not-quiet : is_quiet b ≡ false = not_so (is_quiet b) (λ q. not_none (sym (quiet_next b g q) ∙ e)) in
      rw z (spent_end limit count b not-quiet)

  -- an event is next, and is done
  pub goes_on : (c : Call) → next_event b ≡ event c → count ≢ limit → count ≤ limit → (after : Board) → after ≡ (taking b c).board
      → draining (limit - count) limit count b ≡ draining (limit - (count + 1)) limit (count + 1) after
  goes_on c e d le after a =
      let s : limit - count ≡ suc (limit - (count + 1)) = omega (arith, d, le) in
      rw (s, a) (draining_event (limit - (count + 1)) limit count b c e)

-- ---- which event is next

pub next_message : (b : Board) (form m from to : ℕ) → lowest b.flight (up_mask b) ≡ message form m from to → next_event b ≡ event (Receive form m from to Whole)
unfolding next_event next_after
next_message b form m from to e = rw e

pub next_other : (b : Board) → lowest b.flight (up_mask b) ≡ None → next_event b ≡ next_order b (members_of b.pool)
unfolding next_event next_after
next_other b e = rw e

-- no cell below the floor has a message for a site that is up
abbrev pub Floor : Board → ℕ → Type 0
Floor b floor = NoneBelow b.flight.masks (up_byte b.setup.n b.down) floor

-- from the results of the search from the floor on
module _ {clean : Bool} (b : Board) (g : GoodIf clean b) (floor : ℕ) (low : Floor b floor) (up : ℕ) (masked : up ≡ up_byte b.setup.n b.down) where
  abbrev sought : Found
  sought = lowest_from floor (drop floor (take cells b.flight.masks)) up

  from_all : sought ≡ lowest_in b.flight.masks (up_byte b.setup.n b.down)
  from_all = rw masked (sym (floor_search b.flight.masks (up_byte b.setup.n b.down) floor low))

  searched : sought ≡ lowest b.flight (up_mask b)
  searched = from_all ∙ rw (up_byte_lem b (good_sites b g))

  up_small : up_byte b.setup.n b.down < 2 ^ sites
  unfolding up_mask
  up_small = omega (arith, up_byte_lem b (good_sites b g), pow_mono (good_sites b g))

  module _ (form m from to : ℕ) (e : sought ≡ message form m from to) where
    pub message_next : next_event b ≡ event (Receive form m from to Whole)
    message_next = next_message b form m from to (sym searched ∙ e)

    -- the cell of what was found is a floor
    pub message_low : Floor b (cell_at form m from)
    message_low = message_floor b.flight.masks (up_byte b.setup.n b.down) up_small form m from to (sym from_all ∙ e)

  pub other_next : sought ≡ None → next_event b ≡ next_order b (members_of b.pool)
  other_next e = next_other b (sym searched ∙ e)

  -- where nothing was found all cells are below one
  pub other_low : sought ≡ None → Floor b cells
  other_low e = nothing_floor b.flight.masks (up_byte b.setup.n b.down) up_small (sym from_all ∙ e)

-- ---- the loop's invariant: the board is sound, what is left to do from it is what the drain does, and the floor is one

pub record Going (board : Board) (limit : ℕ) (b : Board) (count floor : ℕ) : Type 0 where
  pub within : count ≤ limit
  pub good : GoodIf false b
  pub same : draining limit limit 0 board ≡ draining (limit - count) limit count b
  pub low : Floor b floor

-- one event more
pub one_more : (board : Board) (limit : ℕ) (b : Board) (count floor : ℕ) → Going board limit b count floor → (c : Call) → next_event b ≡ event c → count ≢ limit
    → (after : Board) → after ≡ (taking b c).board → (next : ℕ) → Floor after next → Going board limit after (count + 1) next
one_more board limit b count floor k c e d after a next low = record {
  within = omega (arith, k.within, d);
  good = rw a (call_good b k.good c);
  same = k.same ∙ goes_on b k.good limit count c e d k.within after a;
  low = low;
}

-- ---- the floor that an event leaves, and the postings offered, which it leaves as they were

abbrev pub Left : Board → Board → ℕ → Type 0
Left b after floor = Floor after floor × (after.table ≡ b.table)

module _ {clean : Bool} (b : Board) (g : GoodIf clean b) where
  module _ (form m from to : ℕ) (next : next_event b ≡ event (Receive form m from to Whole)) where
    received : ReceiptTaken b form m from to Whole
    received = receipt_taken b form m from to Whole (unfold taking in (next_accepted b g (Receive form m from to Whole) next).0)

    at : Placed form m from to
    at = message_placed b form m from to received.coming

    receive_does : (taking b (Receive form m from to Whole)).board ≡ placed (board_flight b (taking_out b.flight form m from to)) to m (receipt b form m from to)
    unfolding taking
    receive_does =
        let message = (good_flight b g).each form m from to received.coming in
        let owner : owner_of b.table m < 7 = omega (arith, good_sites b g, g.sound.owners m message.named) in
        let is = receipt_is b form m from to (good_sites b g) at.from_below owner in
        received.board ∙ rw (sym is) (whole_is (board_flight b (taking_out b.flight form m from to)) to m (receipt b form m from to) (receipt_fits b form m from to))

    pub receive_low : Floor b (cell_at form m from) → Left b (taking b (Receive form m from to Whole)).board (floor_left form m from to)
    unfolding placed sending_mask taking_out
    receive_low low =
        let s = (receipt b form m from to).sends in
        let above = receipt_above form m from to at b.setup b.table (site_at b to) (tally_at b m) _ _ in
        subst (λ (x : Board). Left b x (floor_left form m from to)) (sym receive_does) (passed_floor form m from to b.flight.masks s above (up_byte b.setup.n b.down) low, refl)

    pub receive_in_form : (form * pairs ≤ floor_left form m from to) × (floor_left form m from to ≤ (form + 1) * pairs)
    receive_in_form = floor_in_form form m from to at

  pub order_low : (m : ℕ) → next_event b ≡ event (Order m) → Floor b cells → Left b (taking b (Order m)).board cells
  unfolding taking
  order_low m next low = subst (λ (x : Board). Left b x cells) (sym (order_taken b m (unfold taking in (next_accepted b g (Order m) next).0)).board) (low, refl)

  pub read_low : (p : ℕ) → next_event b ≡ event (Read p Whole) → Floor b cells → Left b (taking b (Read p Whole)).board cells
  unfolding taking
  read_low p next low = go (read_taken b p Whole (unfold taking in (next_accepted b g (Read p Whole) next).0))
    where
      go : ReadTaken b p Whole → Left b (reading b p Whole).board cells
      go k =
          let place : (site_at b p).place < capacity = omega (arith, k.left, g.sound.log.within) in
          subst (λ (x : Board). Left b x cells) (sym (k.board ∙ read_whole b p (next_logged b p) (entry_at b (next_logged b p)) place)) (low, refl)

-- ---- what a drain hands back

pub next_cases : (x : Next) → (x ≡ none) ⊎ ((c : Call) × (x ≡ event c))
next_cases none = inl refl
next_cases (event c) = inr (c, refl)

draining_limit : (left limit count : ℕ) (b : Board) → (draining left limit count b).limit ≡ limit
unfolding draining
draining_limit zero limit count b = refl
draining_limit (suc left) limit count b = elim (next_cases (next_event b)) [
  | inl e ↦ rw (draining_none left limit count b e)
  | inr e ↦ rw (draining_event left limit count b e.0 e.1) (draining_limit left limit (count + 1) (taking b e.0).board)
]

-- from its parts, on a board at work that shows b
pub handed_back :
    (setup : Setup) (a d : Arrays) (b after : Board) (limit count : ℕ) (ending : Ending) → view setup a ≡ b → after ≡ view setup d
    → view setup d ≡ (draining limit limit 0 (view setup a)).board → count ≡ (draining limit limit 0 (view setup a)).count
    → ending ≡ (draining limit limit 0 (view setup a)).ending
    → record { board = after; limit = limit; count = count; ending = ending } ≡ draining limit limit 0 b
handed_back setup a d b after limit count ending v e0 e1 e2 e3 =
    rw (e0, e1, e2, e3, v) (ap (λ (l : ℕ). record { board = (draining limit limit 0 b).board; limit = l; count = (draining limit limit 0 b).count; ending = (draining limit limit 0 b).ending })
    (sym (draining_limit limit limit 0 b)))
