-- A step carried out, by mask: whole or cut, the board is the one that the code leaves; and the step of a receipt, by mask.
-- Rests on Sent, on the laws of site. Assumes nothing.
use Prim.Native.Nat.{ℕ, ◌^◌, ◌<◌, ◌≤◌}
use mathlib.Core.Path.{◌≡◌, refl, sym, ap, ◌∙◌}
use mathlib.Core.Bool.{Bool, true, false, cond}
use mathlib.Core.List.{List}
use native.Mathlib.Omega.{arith}
use lib.Dec.{eqb}
use lib.ListN.{length, take, set}
use lib.Seq.{set-get_or, take-nil}
use lib.Count.{ones}
use Rattle.sets.specs.declared.Set.{Set}
use Rattle.sets.specs.Masks.{has_bit}
use Rattle.sets.specs.Sets.{capacity, with_if}
use Rattle.site.specs.declared.Site.{Site}
use Rattle.site.specs.declared.Tally.{Tally}
use Rattle.site.specs.declared.Sends.{Sends}
use Rattle.site.specs.declared.Stepped.{Stepped}
use Rattle.site.specs.Sites.{sites, no_tally, plus, site_delivered}
use Rattle.site.specs.Sends.{FIRST, SECOND, THIRD, Step}
use Rattle.site.specs.Steps.{owner_of, on_first, on_second, on_third, on_deliver, on_entry}
use Rattle.site.specs.ByMask.{send_of, sends_of, step_of, read_site, delivering_entry, first_by_mask, second_by_mask, third_by_mask, deliver_by_mask}
use Rattle.site.proofs.ByMaskLaws.{only_site_lem, first_is, second_is, third_is, deliver_is, delivers_is, entry_is, entry_delivers_is}
use Rattle.site.proofs.Firsts.{mask_length, first_fits, first_take}
use Rattle.site.proofs.Fits as fits
use Rattle.flight.specs.Flights.{good_to, carried_by, sending_all, flight_of, sending_to}
use Rattle.flight.specs.ByMask.{good_sent, set_sent, sending_mask}
use Rattle.machine.specs.declared.Board.{Board}
use Rattle.steps.specs.declared.Cut.{Cut}
use Rattle.steps.specs.declared.Cut.TheVariants.{Whole, After}
use Rattle.machine.specs.Boards.{site_at, tally_at, entry_at, board_down}
use Rattle.machine.specs.Calls.{carried_out, receipt_of, pooling, entering}
use Rattle.steps.specs.Cuts.{cut_to, sites_to, after_delivery_to, entry_to, down_after}
use Rattle.steps.specs.ByMask.{receipt_by_mask, after_delivery, cut_step, enters, entered}
use Rattle.machine.specs.ByMask.{placed}
use Rattle.machine.proofs.Sent.{sent_mask, pool_mask, entry_mask}

module _ (b : Board) (p m : ℕ) (s : Stepped) (fit : s.sends.to < 2 ^ sites) where
  -- as many sends as the mask has sites
  pub sends_length : length (step_of m s).sends ≡ ones s.sends.to
  unfolding sends_of
  sends_length = mask_length sites s.sends.to (send_of m s.sends) fit

  pub whole_is : carried_out b p m (step_of m s) Whole ≡ placed b p m s
  unfolding carried_out placed
  whole_is =
      let x = s.sends in
      rw (delivers_is m s, sent_mask m x.form x.good x.carried x.to b.flight p fit, pool_mask m x fit b.pool, entry_mask m x fit b.entries)

  cut_sends : (j : ℕ) → sends_of m (cut_step s j).sends ≡ take j (sends_of m s.sends)
  unfolding sends_of send_of
  cut_sends j = first_take sites s.sends.to j (send_of m s.sends) (omega arith)

  pub cut_is : (j : ℕ) → carried_out b p m (step_of m s) (After j) ≡ board_down (placed b p m (cut_step s j)) (plus b.down p)
  unfolding carried_out placed
  cut_is j =
      let x = (cut_step s j).sends in
      let first = first_fits sites s.sends.to j (omega arith) in
      rw (sym (cut_sends j), sent_mask m x.form x.good x.carried x.to b.flight p first, pool_mask m x first b.pool, entry_mask m x first b.entries)

-- the same board from the results of the code's calls
module _ (b : Board) (p m : ℕ) (s : Stepped) where
  abbrev pub board_parts : Site → List ℕ → List ℕ → List ℕ → Set → Set → Board
  board_parts site masks good carried pool entry =
      record {
        setup = b.setup;
        down = b.down;
        table = b.table;
        sites = set b.sites p site;
        tallies = set b.tallies m s.tally;
        flight = flight_of masks good carried;
        pool = pool;
        entries = set b.entries m entry;
        log = b.log;
      }

  pub placed_law :
      (site : Site) (masks good carried : List ℕ) (so : Bool) (pool entry : Set) → let x = s.sends in
      site ≡ after_delivery s m → masks ≡ sending_to b.flight.masks x.form m p x.to
      → good ≡ good_sent b.flight.good x.form m p x.to x.good
      → carried ≡ set_sent b.flight.carried x.form m p x.to x.carried
      → so ≡ enters x → pool ≡ with_if b.pool m so → entry ≡ entered (entry_at b m) x
      → board_parts site masks good carried pool entry ≡ placed b p m s
  unfolding placed sending_mask
  placed_law site masks good carried so pool entry e0 e1 e2 e3 e4 e5 e6 = rw (e6, e5, e4, e3, e2, e1, e0)

-- ---- a step whole or cut

-- a step carried out as far as its cut lets it go
pub carried_law : (b : Board) (p m : ℕ) (s : Stepped) → s.sends.to < 2 ^ sites → p < 7 → (cut : Cut)
    → board_down (placed b p m (cut_to s cut)) (down_after b.down p cut) ≡ carried_out b p m (step_of m s) cut
carried_law b p m s fit h Whole = unfold placed in refl ∙ sym (whole_is b p m s fit)
carried_law b p m s fit h (After j) = rw (only_site_lem p h) (sym (cut_is b p m s fit j))

-- the step with a mask of receivers and what is delivered worked out apart: it is the step cut
abbrev pub part_to : Stepped → ℕ → Cut → Stepped
part_to s reached cut =
    let sends : Sends = record { form = s.sends.form; to = reached; good = s.sends.good; carried = s.sends.carried } in
    record { site = s.site; tally = s.tally; sends = sends; delivers = (cut_to s cut).delivers }

part_is : (s : Stepped) (reached : ℕ) (cut : Cut) → reached ≡ sites_to s.sends.to cut → part_to s reached cut ≡ cut_to s cut
part_is s reached Whole e = rw e refl
part_is s reached (After j) e = rw e refl

part_delivered : (s : Stepped) (reached m : ℕ) (cut : Cut) → after_delivery_to s.site s.delivers m cut ≡ after_delivery (part_to s reached cut) m
part_delivered s reached m Whole = refl
part_delivered s reached m (After j) = refl

-- the board from the results of the code's calls
module _ (b : Board) (p m : ℕ) (s : Stepped) (fit : s.sends.to < 2 ^ sites) (h : p < 7) (cut : Cut) where
  pub carried_parts :
      (reached : ℕ) (site : Site) (masks good carried : List ℕ) (so : Bool) (pool entry : Set) (down : ℕ)
      → let part = part_to s reached cut in let x = part.sends in
      reached ≡ sites_to s.sends.to cut → site ≡ after_delivery_to s.site s.delivers m cut
      → masks ≡ sending_to b.flight.masks x.form m p x.to
      → good ≡ good_sent b.flight.good x.form m p x.to x.good
      → carried ≡ set_sent b.flight.carried x.form m p x.to x.carried
      → so ≡ enters x → pool ≡ with_if b.pool m so → entry ≡ entered (entry_at b m) x → down ≡ down_after b.down p cut
      → board_down (board_parts b p m part site masks good carried pool entry) down ≡ carried_out b p m (step_of m s) cut
  carried_parts reached site masks good carried so pool entry down e e0 e1 e2 e3 e4 e5 e6 dn =
      ap (λ (y : Board). board_down y down) (parts ∙ ap (λ (y : Stepped). placed b p m y) (part_is s reached cut e))
      ∙ ap (λ (k : ℕ). board_down (placed b p m (cut_to s cut)) k) dn
      ∙ carried_law b p m s fit h cut
    where
      parts : let part = part_to s reached cut in board_parts b p m part site masks good carried pool entry ≡ placed b p m part
      parts = placed_law b p m (part_to s reached cut) site masks good carried so pool entry (e0 ∙ part_delivered s reached m cut) e1 e2 e3 e4 e5 e6

-- ---- the step of a receipt

module _ (b : Board) (form m from to : ℕ) where
  abbrev good : Bool
  good = has_bit (good_to b.flight m from) to

  abbrev carried : Set
  carried = carried_by b.flight m from

  abbrev site : Site
  site = site_at b to

  abbrev tally : Tally
  tally = tally_at b m

  abbrev pub receipt : Stepped
  receipt = receipt_by_mask b.setup b.table site tally form m from to good carried

  abbrev one : Stepped
  one = first_by_mask b.setup b.table site tally m

  abbrev two : Stepped
  two = second_by_mask b.setup b.table site tally m from good

  abbrev three : Stepped
  three = third_by_mask b.setup site tally m from carried

  abbrev four : Stepped
  four = deliver_by_mask b.setup b.table site tally to m

  pub receipt_fits : receipt.sends.to < 2 ^ sites
  unfolding receipt_by_mask
  receipt_fits =
      fits.either (eqb form FIRST) one (cond (eqb form SECOND) two (cond (eqb form THIRD) three four)) (fits.first_fits b.setup b.table site tally m)
      (fits.either (eqb form SECOND) two (cond (eqb form THIRD) three four) (fits.second_fits b.setup b.table site tally m from good)
      (fits.either (eqb form THIRD) three four (fits.third_fits b.setup b.table site tally m from carried)
      (fits.deliver_fits b.setup b.table site tally m to)))

  step_either : (e : Bool) (x y : Stepped) (u v : Step) → step_of m x ≡ u → step_of m y ≡ v → step_of m (cond e x y) ≡ cond e u v
  step_either true x y u v p q = p
  step_either false x y u v p q = q

  pub receipt_is : b.setup.n ≤ 7 → from < 7 → owner_of b.table m < 7 → step_of m receipt ≡ receipt_of b form m from to
  unfolding receipt_by_mask receipt_of
  receipt_is hn hf ho =
      let u = on_first b.setup b.table site tally m in
      let v = on_second b.setup b.table site tally m from good in
      let w = on_third b.setup site tally m from carried in
      let z = on_deliver b.setup b.table site tally to m in
      step_either (eqb form FIRST) one (cond (eqb form SECOND) two (cond (eqb form THIRD) three four)) u (cond (eqb form SECOND) v (cond (eqb form THIRD) w z))
      (first_is b.setup b.table site tally m hn)
      (step_either (eqb form SECOND) two (cond (eqb form THIRD) three four) v (cond (eqb form THIRD) w z)
      (second_is b.setup b.table site tally m from hf good ho)
      (step_either (eqb form THIRD) three four w z (third_is b.setup b.table site tally m from hf carried hn)
      (deliver_is b.setup b.table site tally m to hn)))

-- ---- a read

-- the board with site p changed, and the sites that are down
abbrev pub board_read : Board → ℕ → Site → ℕ → Board
board_read b p site down =
    record {
      setup = b.setup;
      down = down;
      table = b.table;
      sites = set b.sites p site;
      tallies = b.tallies;
      flight = b.flight;
      pool = b.pool;
      entries = b.entries;
      log = b.log;
    }

module _ (b : Board) (p m : ℕ) (carried : Set) (place : (site_at b p).place < capacity) where
  abbrev step : Step
  step = on_entry (site_at b p) (tally_at b m) m carried

  pub read_whole : carried_out b p m step Whole ≡ board_read b p (site_delivered (read_site (site_at b p)) (delivering_entry (read_site (site_at b p)).delivered carried m)) b.down
  unfolding carried_out sending_all pooling entering on_entry
  read_whole = rw (sym (entry_delivers_is (site_at b p) (tally_at b m) m carried place), set-get_or b.tallies m no_tally)

  pub read_cut : (j : ℕ) → carried_out b p m step (After j) ≡ board_read b p (read_site (site_at b p)) (plus b.down p)
  unfolding carried_out sending_all pooling entering on_entry
  read_cut j = rw (take-nil j, entry_is b.setup b.table (site_at b p) (tally_at b m) m carried place, set-get_or b.tallies m no_tally)

-- the site moves on, and delivers if its step is not cut
pub entry_carried :
    (b : Board) (p m : ℕ) (carried : Set) → (site_at b p).place < capacity → p < 7 → (cut : Cut) (next after : Site) (down : ℕ)
    → next ≡ read_site (site_at b p) → after ≡ entry_to next carried m cut → down ≡ down_after b.down p cut
    → board_read b p after down ≡ carried_out b p m (on_entry (site_at b p) (tally_at b m) m carried) cut
entry_carried b p m carried place h Whole next after down e0 e1 e2 = rw (e2, e1, e0) (sym (read_whole b p m carried place))
entry_carried b p m carried place h (After j) next after down e0 e1 e2 =
    rw (e2, e1, e0, only_site_lem p h) (sym (read_cut b p m carried place j))
