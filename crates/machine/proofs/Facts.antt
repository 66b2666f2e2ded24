-- What the code of a call uses of a sound board: few sites, messages with places in the arrays, an owner that is a site, log entries with places.
-- And what the tests of a call say where they pass. Rests on SoundTest. Assumes nothing.
use Prim.Native.Nat.{ℕ, ◌*◌, ◌<◌, ◌≤◌}
use mathlib.Core.Path.{◌≡◌}
use mathlib.Core.Logic.{inl, inr}
use mathlib.Core.Bool.{true, ◌&&◌}
use native.Mathlib.Omega.{arith}
use lib.Dec.{ltb, leb}
use lib.ListN.{length}
use borrow.Author.Tests.{ltb-true, leb-true, leb-false}
use Rattle.sets.proofs.Truth.{test, and_left, and_right}
use Rattle.sets.specs.Masks.{has_bit}
use Rattle.sets.specs.Sets.{capacity}
use Rattle.posting.specs.declared.Posting.{Posting}
use Rattle.posting.specs.Kinds.{fields_ok}
use Rattle.posting.proofs.ConflictLaws.{offered_below}
use Rattle.site.specs.declared.Setup.{Setup}
use Rattle.site.specs.Sites.{sites}
use Rattle.site.specs.Sends.{forms}
use Rattle.site.specs.Steps.{owner_of}
use Rattle.flight.specs.Flights.{cells, is_pair, is_cell, receivers_in, message_in, in_flight}
use Rattle.machine.specs.declared.Board.{Board}
use Rattle.machine.specs.Boards.{logged_at}
use Rattle.machine.specs.Soundness.{setup_ok, is_sound}
use Rattle.steps.specs.CauseLists.{first_cause, site_causes, offer_causes}
use Rattle.machine.proofs.SoundFacts.{of_all, Sound}
use Rattle.machine.proofs.SoundTest.{sound_facts}

pub setup_sites : (setup : Setup) → setup_ok setup ≡ true → (3 ≤ setup.n) × (setup.n ≤ sites) × (2 * setup.f < setup.n)
unfolding setup_ok
setup_sites setup h =
    let all = of_all _ h in
    let n = setup.n in
    (leb-true 3 n (and_left (leb 3 n) (leb n 7) all.0), leb-true n 7 (and_right (leb 3 n) (leb n 7) all.0), ltb-true (2 * setup.f) n all.1.0)

-- a message has a place
pub record Placed (form m from to : ℕ) : Type 0 where
  pub form_below : form < forms
  pub posting_below : m < capacity
  pub from_below : from < sites
  pub to_below : to < sites

pub message_placed : (b : Board) (form m from to : ℕ) → in_flight b.flight form m from to ≡ true → Placed form m from to
unfolding in_flight message_in
message_placed b form m from to t =
    let bit = has_bit (receivers_in b.flight.masks form m from) to in
    let cell = and_left (is_cell form m from) (ltb to sites && bit) t in
    let pair = and_right (ltb form forms) (is_pair m from) cell in
    record {
      form_below = ltb-true form forms (and_left (ltb form forms) (is_pair m from) cell);
      posting_below = ltb-true m capacity (and_left (ltb m capacity) (ltb from sites) pair);
      from_below = ltb-true from sites (and_right (ltb m capacity) (ltb from sites) pair);
      to_below = ltb-true to sites (and_left (ltb to sites) bit (and_right (is_cell form m from) (ltb to sites && bit) t));
    }

module _ (b : Board) (long : length b.flight.masks ≡ cells) (sound : is_sound b ≡ true) where
  facts : Sound b
  facts = sound_facts b long sound

  pub few : b.setup.n ≤ sites
  few = (setup_sites b.setup facts.setup).1

  pub message_owner : (form m from to : ℕ) → in_flight b.flight form m from to ≡ true → owner_of b.table m < sites
  unfolding in_flight message_in
  message_owner form m from to t =
      let at = message_placed b form m from to t in
      let bit = has_bit (receivers_in b.flight.masks form m from) to in
      let held = and_right (ltb to sites) bit (and_right (is_cell form m from) (ltb to sites && bit) t) in
      let named = (facts.each_cell form m from at.form_below at.posting_below at.from_below).named to held in
      omega (arith, few, facts.owners m named)

  -- the log's entries, and a site's place in it
  pub log_within : b.log.count ≤ capacity
  log_within = facts.log.within

  pub logged_below : (i : ℕ) → i < b.log.count → logged_at b i < capacity
  logged_below i h = (offered_below b.table (logged_at b i) (facts.log.named i h)).1

-- ---- what tests that passed say

module _ (n down : ℕ) where
  pub site_there : (p why : ℕ) → why ≡ first_cause (site_causes n down p) → why ≡ 0 → p < n
  unfolding first_cause
  site_there p why e z = elim (test (leb n p)) [
    | inl t ↦ let k : why ≡ 7 = rw t at e in absurd (omega (arith, k, z))
    | inr f ↦ leb-false n p f
  ]

pub offer_room : (posting : Posting) (count why : ℕ) → why ≡ first_cause (offer_causes posting count) → why ≡ 0 → count < capacity
unfolding first_cause
offer_room posting count why e z = elim (test (fields_ok posting)) [
  | inl t ↦ elim (test (leb capacity count)) [
    | inl u ↦ let k : why ≡ 10 = rw (t, u) at e in absurd (omega (arith, k, z))
    | inr f ↦ leb-false capacity count f
  ]
  | inr f ↦ let k : why ≡ 9 = rw f at e in absurd (omega (arith, k, z))
]
