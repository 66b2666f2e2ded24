-- The ways out of DELIVER: consumed, refused, and done.
-- Rests on Flat and Ways. Assumes nothing.
use Prim.Native.Nat.{ℕ}
use mathlib.Core.Path.{◌≡◌, sym, ap, ◌∙◌}
use mathlib.Core.Logic.{◌≢◌}
use mathlib.Core.Bool.{Bool, true, false}
use mathlib.Core.List.{List}
use Rattle.masks.specs.SiteMasks.{relay_to}
use Rattle.site.specs.declared.Setup.{Setup}
use Rattle.site.specs.Sends.{DELIVER}
use Rattle.flight.specs.Flights.{taking_from, sending_to}
use Rattle.steps.specs.declared.Cut.{Cut}
use Rattle.steps.specs.Cuts.{sites_to}
use Rattle.arrays.specs.Layout.{got_of, owner_at}
use Rattle.arrays.specs.declared.Arrays.{Arrays}
use Rattle.arrays.specs.Arrays.{arrays, has_in, adding, byte, marked}
use Rattle.delivery.specs.Delivery.{Laid, laid, with_laid}
use Rattle.flat.specs.Flat.{Flat, flat, cut_cause, consumed, delivered_to, flat_deliver}
use Rattle.flat.proofs.Ways.{is_refused, goes_on}

-- ---- DELIVER

module _ (setup : Setup) (a : Arrays) (m from to : ℕ) (cut : Cut) (known : Bool) (is_Known : known ≡ has_in a.sets (got_of to) m) where
  pub deliver_known : known ≡ true → flat_deliver setup a m from to cut ≡ consumed setup a DELIVER m from to cut
  unfolding flat_deliver
  deliver_known t = rw (sym is_Known, t)

  abbrev receivers : ℕ
  receivers = relay_to setup.n to (byte a.bytes (owner_at m))

  module _ (new : known ≡ false) (all why : ℕ) (is_all : all ≡ receivers) (is-why : why ≡ cut_cause setup a.bytes all cut) where
    cause : why ≡ cut_cause setup a.bytes receivers cut
    cause = is-why ∙ ap (λ (x : ℕ). cut_cause setup a.bytes x cut) is_all

    pub deliver_refused : why ≢ 0 → flat why a ≡ flat_deliver setup a m from to cut
    unfolding flat_deliver
    deliver_refused n = rw (sym is_Known, new) (is_refused why _ cause a _ n)

    abbrev sent : List ℕ
    sent = sending_to (taking_from a.masks DELIVER m from to) DELIVER m to (sites_to receivers cut)

    abbrev done : Laid → Flat
    done d = flat 0 (arrays d.sets d.counts d.bytes a.amounts sent a.good a.carried)

    abbrev relayed : List ℕ → List ℕ → Laid
    relayed sets bytes = delivered_to (laid sets a.counts bytes) to m cut

    pub deliver_done :
        (out : ℕ) (added down taken masks : List ℕ) (after : Arrays) → why ≡ 0 → out ≡ sites_to all cut → added ≡ adding a.sets (got_of to) m
        → taken ≡ taking_from a.masks DELIVER m from to → masks ≡ sending_to taken DELIVER m to out → down ≡ marked a.bytes to cut
        → after ≡ with_laid (arrays added a.counts down a.amounts masks a.good a.carried) (relayed added down)
        → flat 0 after ≡ flat_deliver setup a m from to cut
    unfolding flat_deliver
    deliver_done out added down taken masks after z eo ea et em ed is =
        let added-to = ap (λ (x : List ℕ). relayed x down) ea in
        let marked-down = ap (λ (x : List ℕ). relayed (adding a.sets (got_of to) m) x) ed in
        rw (is, em, et, eo, is_all, sym is_Known, new) (ap done (added-to ∙ marked-down) ∙ goes_on why _ cause a _ z)
