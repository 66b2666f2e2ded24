-- The ways out of FIRST: refused, and done.
-- Rests on Flat and Ways. Assumes nothing.
use Prim.Native.Nat.{ℕ}
use mathlib.Core.Path.{◌≡◌, ap, ◌∙◌}
use mathlib.Core.Logic.{◌≢◌}
use mathlib.Core.Bool.{Bool}
use mathlib.Core.List.{List}
use Rattle.sets.specs.declared.Set.{Set}
use Rattle.sets.specs.Sets.{with}
use Rattle.masks.specs.SiteMasks.{every_site}
use Rattle.site.specs.declared.Setup.{Setup}
use Rattle.site.specs.Sends.{FIRST, SECOND}
use Rattle.site.specs.Steps.{alone}
use Rattle.flight.specs.Flights.{taking_from, sending_to, saying}
use Rattle.steps.specs.declared.Cut.{Cut}
use Rattle.steps.specs.Cuts.{sites_to}
use Rattle.arrays.specs.Layout.{seen_of}
use Rattle.arrays.specs.declared.Arrays.{Arrays}
use Rattle.arrays.specs.Arrays.{arrays, slot_set, storing, marked}
use Rattle.index.specs.Index.{conflicts_in}
use Rattle.flat.specs.Flat.{flat, cut_cause, flat_first}
use Rattle.flat.proofs.Ways.{is_refused, goes_on}

module _ (setup : Setup) (a : Arrays) (m from to : ℕ) (cut : Cut) (all why : ℕ) (is_all : all ≡ every_site setup.n) (is-why : why ≡ cut_cause setup a.bytes all cut) where
  cause : why ≡ cut_cause setup a.bytes (every_site setup.n) cut
  cause = is-why ∙ ap (λ (x : ℕ). cut_cause setup a.bytes x cut) is_all

  pub first_refused : why ≢ 0 → flat why a ≡ flat_first setup a m from to cut
  unfolding flat_first
  first_refused n = is_refused why _ cause a _ n

  pub first_done :
      (receivers : ℕ) (against old seen : Set) (so : Bool) (sets bytes taken masks good : List ℕ) → why ≡ 0
      → against ≡ conflicts_in a.sets a.bytes setup.matrix m → old ≡ slot_set a.sets (seen_of to) → seen ≡ with old m
      → so ≡ alone seen against m → receivers ≡ sites_to all cut → sets ≡ storing a.sets (seen_of to) seen
      → taken ≡ taking_from a.masks FIRST m from to → masks ≡ sending_to taken SECOND m to receivers
      → good ≡ saying a.good m to receivers so → bytes ≡ marked a.bytes to cut
      → flat 0 (arrays sets a.counts bytes a.amounts masks good a.carried) ≡ flat_first setup a m from to cut
  unfolding flat_first
  first_done receivers against old seen so sets bytes taken masks good z ec eo es ea er ew et em eg eb =
      rw (eb, eg, em, et, ew, er, ea, es, eo, ec, is_all) (goes_on why _ cause a _ z)
