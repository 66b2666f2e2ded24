-- The ways out of a receipt: refused, not in flight, or what its form does; and that a message in flight has a place.
-- Rests on Flat and Ways. Assumes nothing.
use Prim.Native.Nat.{ℕ, ◌<◌}
use mathlib.Core.Path.{◌≡◌, sym, ap, ◌∙◌}
use mathlib.Core.Logic.{◌≢◌}
use mathlib.Core.Bool.{Bool, true, false, ◌&&◌}
use mathlib.Core.List.{List}
use lib.Dec.{ltb}
use borrow.Author.Tests.{eq-eqb, ne_eqb, ltb-true}
use Rattle.sets.specs.Masks.{has_bit}
use Rattle.sets.proofs.Truth.{and_left, and_right}
use Rattle.sets.specs.Sets.{capacity}
use Rattle.site.specs.declared.Setup.{Setup}
use Rattle.site.specs.Sites.{sites}
use Rattle.site.specs.Sends.{FIRST, SECOND, THIRD, forms}
use Rattle.flight.specs.Flights.{is_pair, is_cell, receivers_in, message_in}
use Rattle.steps.specs.declared.Cut.{Cut}
use Rattle.steps.specs.CauseLists.{first_cause, message_causes}
use Rattle.arrays.specs.Layout.{down_at}
use Rattle.arrays.specs.declared.Arrays.{Arrays}
use Rattle.arrays.specs.Arrays.{byte}
use Rattle.flat.specs.Flat.{Flat, flat, flat_first, flat_second, flat_third, flat_deliver, flat_receive}
use Rattle.flat.proofs.Ways.{is_refused}

-- a message in flight has a place
pub in_place : (masks : List ℕ) (form m from to : ℕ) → message_in masks form m from to ≡ true → (m < capacity) × (from < sites) × (to < sites)
unfolding message_in
in_place masks form m from to t =
    let bit = has_bit (receivers_in masks form m from) to in
    let pair = and_right (ltb form forms) (is_pair m from) (and_left (is_cell form m from) (ltb to sites && bit) t) in (
      ltb-true m capacity (and_left (ltb m capacity) (ltb from sites) pair),
      ltb-true from sites (and_right (ltb m capacity) (ltb from sites) pair),
      ltb-true to sites (and_left (ltb to sites) bit (and_right (is_cell form m from) (ltb to sites && bit) t)),
    )

module _ (setup : Setup) (a : Arrays) (form m from to : ℕ) (cut : Cut) (why : ℕ) (is : why ≡ first_cause (message_causes setup.n (byte a.bytes down_at) from to)) where
  abbrev received : Flat
  received = flat_receive setup a form m from to cut

  pub receive_refused : why ≢ 0 → flat why a ≡ received
  unfolding flat_receive
  receive_refused d = is_refused why _ is a _ d

  module _ (z : why ≡ 0) where
    passed : first_cause (message_causes setup.n (byte a.bytes down_at) from to) ≡ 0
    passed = sym is ∙ z

    pub receive_none : message_in a.masks form m from to ≡ false → flat 11 a ≡ received
    unfolding flat_receive
    receive_none f = rw (passed, f)

    module _ (t : message_in a.masks form m from to ≡ true) where
      pub is_first : form ≡ FIRST → received ≡ flat_first setup a m from to cut
      unfolding flat_receive
      is_first e = rw (passed, t, eq-eqb form FIRST e)

      pub is_second : form ≡ SECOND → received ≡ flat_second setup a m from to cut
      unfolding flat_receive
      is_second e = rw (passed, t, e)

      pub is_third : form ≡ THIRD → received ≡ flat_third setup a m from to cut
      unfolding flat_receive
      is_third e = rw (passed, t, e)

      pub is_deliver : form ≢ FIRST → form ≢ SECOND → form ≢ THIRD → received ≡ flat_deliver setup a m from to cut
      unfolding flat_receive
      is_deliver d0 d1 d2 = rw (passed, t, ne_eqb form FIRST d0, ne_eqb form SECOND d1, ne_eqb form THIRD d2)
