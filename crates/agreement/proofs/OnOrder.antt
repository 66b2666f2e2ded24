-- An order is the theory's event: the entry moves from the pool to the log's end. A crash is the theory's: the site is down.
-- Rests on Ground and invariants. Assumes nothing.
use Prim.Native.Nat.{ℕ, zero, suc, ◌+◌, ◌^◌, ◌<◌, ◌≤◌}
use mathlib.Core.Path.{◌≡◌, refl, sym, ap, ◌∙◌}
use mathlib.Core.Logic.{◌⊎◌, inl, inr, ◌≢◌}
use mathlib.Core.Bool.{Bool, true, false, cond, not, ◌&&◌, ◌||◌, and-false, and-true, or-false}
use mathlib.Core.List.{List, [], ◌∷◌, ◌++◌}
use native.Mathlib.Omega.{arith}
use native.Mathlib.Decide.{ℕ_discrete}
use lib.Dec.{eqb, ltb}
use lib.Count.{ones}
use borrow.Author.Tests.{eq-eqb, ne_eqb}
use Rattle.sets.proofs.Truth.{test, never, not_so}
use Rattle.sets.proofs.MaskLaws.{has_bit_set}
use Rattle.sets.specs.Numbers.{listed}
use Rattle.sets.proofs.WordLaws.{member_remove}
use Rattle.sets.specs.Sets.{capacity, has, without}
use Rattle.posting.specs.Conflicts.{offered}
use Rattle.posting.proofs.ConflictLaws.{offered_below}
use Rattle.posting.specs.Records.{numbers_of, contains, append}
use Rattle.posting.proofs.RecordLaws.{numbers_append}
use Rattle.site.specs.declared.Setup.{Setup}
use Rattle.site.specs.Sites.{plus}
use Rattle.machine.specs.declared.Board.{Board}
use Rattle.machine.specs.Boards.{is_down, board_pool, board_down}
use Rattle.invariants.proofs.Judged.{OrderTaken, CrashTaken}
use Rattle.invariants.proofs.Room.{record_room}
use Rattle.invariants.proofs.Reached.{Good}
use Rattle.broadcast.specs.Machine.{World, State, down}
use Rattle.broadcast.specs.Machine as theory
use Rattle.broadcast.specs.Runs.{Event, Allowed, does, on_order}
use Rattle.agreement.proofs.Casts.{eqb_turned}
use Rattle.agreement.proofs.Flown.{cond_and}
use Rattle.agreement.proofs.Shows.{OracleShows, Shows}
use Rattle.agreement.proofs.Ground.{W, Seen, is_up, lost_ones, same_n}

module _ (last : Board) (g : Good last) (b : Board) (s : State) (k : Seen last g b s) where
  abbrev w : World
  w = W last g

  module _ (m : ℕ) (t : OrderTaken b m) where
    pub order_allowed : Allowed w s (Event.order m)
    order_allowed = k.shows.oracle.pool_is m ∙ t.pooled

    named : offered b.table m ≡ true
    named = k.good.sound.pool m t.pooled

    -- what is in the pool is not in the log yet
    not_logged : contains b.log m ≡ false
    unfolding contains
    not_logged = not_so (listed m (numbers_of b.log)) (λ h. (k.good.sound.each_entry m (offered_below b.table m named).1).apart t.pooled h)

    log_now : numbers_of (append b.log m) ≡ numbers_of b.log ++ m ∷ []
    log_now = numbers_append b.log m (record_room b.table b.log k.good.sound.log k.good.shape.log m named not_logged)
        (offered_below b.table m named).1 k.good.shape.log

    pub order_shows : Shows w (board_pool b (without b.pool m) b.entries (append b.log m)) (does w s (Event.order m))
    unfolding on_order theory.append
    order_shows = record {
      offers = k.shows.offers;
      up = k.shows.up;
      each_site = λ p lt. let i = k.shows.each_site p lt in record {
        seen_is = i.seen_is;
        held_is = i.held_is;
        stepped_is = i.stepped_is;
        heard_is = i.heard_is;
        agreed_is = i.agreed_is;
        got_is = i.got_is;
        finished_is = i.finished_is;
        place_is = i.place_is;
        delivered_is = i.delivered_is;
      };
      each_tally = k.shows.each_tally;
      flight = k.shows.flight;
      oracle = record {
        pool_is = λ x. cond_and (eqb m x) (s.oracle.pool x) ∙ rw (k.shows.oracle.pool_is x, eqb_turned m x) (sym (member_remove b.pool.words m x));
        entry_is = k.shows.oracle.entry_is;
        log_is = ap (λ (l : List ℕ). l ++ m ∷ []) k.shows.oracle.log_is ∙ sym log_now;
      };
    }

  module _ (p : ℕ) (t : CrashTaken b p) where
    lp : p < w.n
    lp = rw (← same_n last g b s k) t.there

    pub crash_allowed : Allowed w s (Event.crash p)
    crash_allowed = (
      lp,
      is_up last g b s k p lp t.up,
      let f : b.setup.f ≡ last.setup.f = ap (λ (v : Setup). v.f) k.earlier.same_setup in
          rw (lost_ones last g b s k, ← f) t.crashes,
    )

    pub crash_shows : Shows w (board_down b (plus b.down p)) (does w s (Event.crash p))
    unfolding down
    crash_shows = record {
      offers = k.shows.offers;
      up = λ q lq. elim (ℕ_discrete q p) [
        | yes e ↦ rw (eq-eqb p q (sym e)) (sym (ap not (has_bit_set b.down p q ∙ or_yes (is_down b q) (eqb q p) (eq-eqb q p e))))
        | no d ↦ rw (ne_eqb p q (λ e. d (sym e))) (k.shows.up q lq ∙ ap not (sym (has_bit_set b.down p q ∙ or_not (is_down b q) (eqb q p) (ne_eqb q p d))))
      ];
      each_site = k.shows.each_site;
      each_tally = k.shows.each_tally;
      flight = k.shows.flight;
      oracle = k.shows.oracle;
    }
      where
        or_yes : (d c : Bool) → c ≡ true → (d || c) ≡ true
        or_yes true c e = refl
        or_yes false c e = e

        or_not : (d c : Bool) → c ≡ false → (d || c) ≡ d
        or_not true c e = refl
        or_not false c e = e
