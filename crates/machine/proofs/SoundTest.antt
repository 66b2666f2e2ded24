-- The test is_sound says just the facts of Sound, on a board in shape.
-- Rests on Boards, Soundness, Shapes and SoundFacts, on flight. Assumes nothing.
use Prim.Native.Nat.{ℕ, zero, suc, ◌+◌, ◌*◌, ◌/◌, ◌%◌, ◌^◌, ◌<◌, ◌≤◌}
use mathlib.Core.Path.{◌≡◌, refl, sym, ◌∙◌}
use mathlib.Core.Logic.{◌⊎◌, inl, inr}
use mathlib.Core.Bool.{Bool, true, false, not, ◌&&◌, ◌||◌}
use mathlib.Core.List.{List, [], ◌∷◌}
use native.Mathlib.Omega.{arith}
use native.Mathlib.Decide.{ℕ_discrete}
use native.Mathlib.Nat.{zero-add}
use lib.Dec.{eqb, ltb, leb}
use lib.ListN.{length, get_or}
use lib.Pow.{pow_pos, pow-lt}
use borrow.Author.Tests.{ltb-true, lt-ltb, leb-true, le-leb, eqb-true, eq-eqb, ne_eqb}
use Rattle.sets.specs.declared.Set.{Set}
use Rattle.sets.proofs.Truth.{test, never, not_so, and_left, and_right, and_intro, or_cases, or_left, or_right, not_flips}
use Rattle.sets.specs.Below.{all_below, all_of}
use Rattle.sets.proofs.BelowLaws.{all_at, all_from}
use Rattle.sets.specs.Masks.{has_bit}
use Rattle.sets.proofs.MaskLaws.{has_bit_zero, has_bit_pow, bits_ext}
use Rattle.sets.specs.Numbers.{listed}
use Rattle.sets.specs.Sets.{capacity, has, subset, Shape}
use Rattle.posting.specs.Kinds.{fields_ok}
use Rattle.posting.specs.Conflicts.{row, offered}
use Rattle.posting.proofs.ConflictLaws.{offered_below, below_offered}
use Rattle.posting.specs.Records.{numbers_of}
use Rattle.site.specs.Sites.{sites}
use Rattle.site.specs.Sends.{THIRD, forms}
use Rattle.site.specs.Steps.{owner_of}
use Rattle.flight.specs.Flights.{receivers_in, cells, cell_at, carried_by}
use Rattle.flight.proofs.CellLaws.{cell_in, cell_below}
use Rattle.flight.proofs.CarriedLaws.{set_shape_in}
use Rattle.machine.specs.declared.Board.{Board}
use Rattle.machine.specs.Boards.{site_at, tally_at, entry_at}
use Rattle.machine.specs.Soundness.{setup_ok, row_ok, offered_set, site_ok, tally_ok, cell_ok, cells_ok, entry_ok, is_sound}
use Rattle.machine.proofs.Shapes.{BoardShape}
use Rattle.machine.proofs.SoundFacts.{AllTrue, of_all, to_all, CellSound, EntrySound, Sound, no_bits, set_facts, facts_set, record_facts, facts_record, site_facts, facts_site, tally_facts, facts_tally}

-- ---- cells, by number and by form, posting and sender

module _ (form m from : ℕ) (hform : form < forms) (hm : m < capacity) (hf : from < sites) where
  cell_form : cell_at form m from / (capacity * sites) ≡ form
  cell_form = rw (cell_in form m from hform hm hf) (omega arith)

  cell_posting : cell_at form m from / sites % capacity ≡ m
  cell_posting = rw (cell_in form m from hform hm hf) (omega arith)

  cell_sender : cell_at form m from % sites ≡ from
  cell_sender = rw (cell_in form m from hform hm hf) (omega arith)

module _ (b : Board) (all : Set) where
  cells_at : (k : ℕ) (l : List ℕ) → cells_ok b all k l ≡ true → (i : ℕ) → i < length l → cell_ok b all (k + i) (get_or l i 0) ≡ true
  unfolding cells_ok
  cells_at k [] h i lt = absurd (omega arith)
  cells_at k (mask ∷ l) h zero lt =
      let e : k + zero ≡ k = omega arith in
      rw e (and_left (cell_ok b all k mask) (cells_ok b all (suc k) l) h)
  cells_at k (mask ∷ l) h (suc i) lt =
      let e : k + suc i ≡ suc k + i = omega arith in
      rw e (cells_at (suc k) l (and_right (cell_ok b all k mask) (cells_ok b all (suc k) l) h) i (omega arith))

  all_cells : (k : ℕ) (l : List ℕ) → ((i : ℕ) → i < length l → cell_ok b all (k + i) (get_or l i 0) ≡ true) → cells_ok b all k l ≡ true
  unfolding cells_ok
  all_cells k [] h = refl
  all_cells k (mask ∷ l) h =
      let e : k + zero ≡ k = omega arith in
      and_intro (cell_ok b all k mask) (cells_ok b all (suc k) l) (rw e at (h zero (omega arith)))
      (all_cells (suc k) l (λ i lt. let d : k + suc i ≡ suc k + i = omega arith in rw d at (h (suc i) (omega arith))))

-- what a cell's test says, with form, posting and sender apart
module _ (b : Board) where
  abbrev third_ok : ℕ → ℕ → ℕ → ℕ → Bool
  third_ok form m from mask = not (eqb form THIRD) || (eqb mask (2 ^ owner_of b.table m) && subset (carried_by b.flight m from) (offered_set b))

  abbrev cell_tests : ℕ → ℕ → ℕ → ℕ → List Bool
  cell_tests form m from mask =
      offered b.table m ∷ ltb from b.setup.n ∷ ltb mask (2 ^ b.setup.n) ∷ third_ok form m from mask ∷ []

  cell_ok_lem : (form m from mask : ℕ) → form < forms → m < capacity → from < sites
      → cell_ok b (offered_set b) (cell_at form m from) mask ≡ (eqb mask 0 || all_of (cell_tests form m from mask))
  unfolding cell_ok
  cell_ok_lem form m from mask hform hm hf = rw (cell_form form m from hform hm hf, cell_posting form m from hform hm hf, cell_sender form m from hform hm hf)

  module _ (form m from : ℕ) (hform : form < forms) (hm : m < capacity) (hf : from < sites) where
    abbrev mask : ℕ
    mask = receivers_in b.flight.masks form m from

    cell_facts : cell_ok b (offered_set b) (cell_at form m from) mask ≡ true → CellSound b form m from
    cell_facts h = elim (or_cases (eqb mask 0) (all_of (cell_tests form m from mask)) (sym (cell_ok_lem form m from mask hform hm hf) ∙ h)) [
      | inl e ↦
          let z = eqb-true mask 0 e in
          let none : (to : ℕ) → has_bit mask to ≡ true → ⊥ = λ to k. never (rw z at k) (has_bit_zero to) in
          record {
            below = rw z (pow_pos b.setup.n);
            named = λ to k. absurd (none to k);
            sender = λ to k. absurd (none to k);
            to_owner = λ to k. absurd (none to k);
            carries = λ to k. absurd (none to k);
          }
      | inr e ↦
          let tests = of_all (cell_tests form m from mask) e in
          let third : form ≡ THIRD → (eqb mask (2 ^ owner_of b.table m) && subset (carried_by b.flight m from) (offered_set b)) ≡ true = λ d.
          elim (or_cases (not (eqb form THIRD)) (eqb mask (2 ^ owner_of b.table m) && subset (carried_by b.flight m from) (offered_set b)) tests.1.1.1.0) [
            | inl k ↦ absurd (never (eq-eqb form THIRD d) (not_flips (eqb form THIRD) k))
            | inr k ↦ k
          ] in
          record {
            below = ltb-true mask (2 ^ b.setup.n) tests.1.1.0;
            named = λ to k. tests.0;
            sender = λ to k. ltb-true from b.setup.n tests.1.0;
            to_owner = λ to k d.
                let same = eqb-true mask (2 ^ owner_of b.table m) (and_left (eqb mask (2 ^ owner_of b.table m)) (subset (carried_by b.flight m from) (offered_set b)) (third d)) in
                eqb-true to (owner_of b.table m) (sym (has_bit_pow (owner_of b.table m) to) ∙ (rw same at k));
            carries = λ to k d. set_facts b (carried_by b.flight m from)
                (and_right (eqb mask (2 ^ owner_of b.table m)) (subset (carried_by b.flight m from) (offered_set b)) (third d));
          }
    ]

    facts_cell : Shape (carried_by b.flight m from) → (offered b.table m ≡ true → owner_of b.table m < b.setup.n) → CellSound b form m from
        → cell_ok b (offered_set b) (cell_at form m from) mask ≡ true
    facts_cell shape owner i = cell_ok_lem form m from mask hform hm hf ∙ go (ℕ_discrete mask 0)
      where
        -- some receiver of a mask that is not 0
        some : (mask ≡ 0 → ⊥) → (to : ℕ) × (has_bit mask to ≡ true)
        some d = search_bit b.setup.n (λ none. d (no_bits b.setup.n mask i.below none))
          where
            search_bit : (n : ℕ) → (((r : ℕ) → r < n → has_bit mask r ≡ false) → ⊥) → (to : ℕ) × (has_bit mask to ≡ true)
            search_bit zero h = absurd (h (λ r lt. absurd (omega arith)))
            search_bit (suc n) h = elim (test (has_bit mask n)) [
              | inl t ↦ (n, t)
              | inr t ↦ search_bit n (λ none. h (λ r lt. elim (ℕ_discrete r n) [ yes e ↦ rw e t | no d ↦ none r (omega arith) ]))
            ]

        go : Dec (mask ≡ 0) → (eqb mask 0 || all_of (cell_tests form m from mask)) ≡ true
        go (yes e) = or_left (eqb mask 0) (all_of (cell_tests form m from mask)) (eq-eqb mask 0 e)
        go (no d) =
            let (to, k) = some d in
            or_right (eqb mask 0) (all_of (cell_tests form m from mask)) (to_all (cell_tests form m from mask)
            (i.named to k, (lt-ltb from b.setup.n (i.sender to k), (lt-ltb mask (2 ^ b.setup.n) i.below, (third (ℕ_discrete form THIRD) to k, tt)))))
          where
            third : Dec (form ≡ THIRD) → (to : ℕ) → has_bit mask to ≡ true → third_ok form m from mask ≡ true
            third (no n) to k = or_left (not (eqb form THIRD)) (eqb mask (2 ^ owner_of b.table m) && subset (carried_by b.flight m from) (offered_set b)) (rw (ne_eqb form THIRD n))
            third (yes t) to k = or_right (not (eqb form THIRD)) (eqb mask (2 ^ owner_of b.table m) && subset (carried_by b.flight m from) (offered_set b))
                (and_intro (eqb mask (2 ^ owner_of b.table m)) (subset (carried_by b.flight m from) (offered_set b)) (eq-eqb mask (2 ^ owner_of b.table m) one)
                (facts_set b (carried_by b.flight m from) shape (i.carries to k t)))
              where
                -- the only receiver is the owner
                one : mask ≡ 2 ^ owner_of b.table m
                one = bits_ext b.setup.n mask (2 ^ owner_of b.table m) i.below (pow-lt (owner (i.named to k))) (λ r lt. same r ∙ sym (has_bit_pow (owner_of b.table m) r))
                  where
                    same : (r : ℕ) → has_bit mask r ≡ eqb r (owner_of b.table m)
                    same r = elim (test (has_bit mask r)) [
                      | inl u ↦ u ∙ sym (eq-eqb r (owner_of b.table m) (i.to_owner r u t))
                      | inr u ↦ u ∙ sym (ne_eqb r (owner_of b.table m) (λ e. never (rw (e ∙ sym (i.to_owner to k t)) k) u))
                    ]

  -- ---- entries

  abbrev entry_tests : ℕ → List Bool
  entry_tests m =
      not (has b.pool m && listed m (numbers_of b.log)) ∷ has (site_at b (owner_of b.table m)).finished m ∷ subset (entry_at b m) (offered_set b) ∷ []

  entry_facts : (m : ℕ) → entry_ok b (offered_set b) m ≡ true → EntrySound b m
  unfolding entry_ok
  entry_facts m h = record {
    apart = λ p l. never (and_intro pooled logged p l) (not_flips (pooled && logged) (tests (inl p)).0);
    finished = λ k. (tests k).1.0;
    carries = λ k. set_facts b (entry_at b m) (tests k).1.1.0;
  }
    where
      pooled : Bool
      pooled = has b.pool m

      logged : Bool
      logged = listed m (numbers_of b.log)

      tests : (pooled ≡ true) ⊎ (logged ≡ true) → AllTrue (entry_tests m)
      tests k = elim (or_cases (not (pooled || logged)) (all_of (entry_tests m)) h) [
        | inl e ↦ absurd (never (elim k [ inl p ↦ or_left pooled logged p | inr l ↦ or_right pooled logged l ]) (not_flips (pooled || logged) e))
        | inr e ↦ of_all (entry_tests m) e
      ]

  facts_entry : (m : ℕ) → Shape (entry_at b m) → EntrySound b m → entry_ok b (offered_set b) m ≡ true
  unfolding entry_ok
  facts_entry m shape i = elim (test (has b.pool m || listed m (numbers_of b.log))) [
    | inl k ↦
        let some = or_cases (has b.pool m) (listed m (numbers_of b.log)) k in
        or_right (not (has b.pool m || listed m (numbers_of b.log))) (all_of (entry_tests m)) (to_all (entry_tests m) (
          rw (not_so (has b.pool m && listed m (numbers_of b.log)) (λ e. i.apart (and_left (has b.pool m) (listed m (numbers_of b.log)) e) (and_right (has b.pool m) (listed m (numbers_of b.log)) e))),
          (i.finished some, (facts_set b (entry_at b m) shape (i.carries some), tt)),
        ))
    | inr k ↦ or_left (not (has b.pool m || listed m (numbers_of b.log))) (all_of (entry_tests m)) (rw k)
  ]

-- ---- all of it

module _ (b : Board) where
  abbrev tests : List Bool
  tests =
      setup_ok b.setup
      ∷ leb b.table.count capacity
      ∷ all_below (row_ok b) b.table.count
      ∷ ltb b.down (2 ^ b.setup.n)
      ∷ all_below (λ p. site_ok b (offered_set b) (site_at b p)) b.setup.n
      ∷ all_below (λ m. tally_ok b (offered_set b) m (tally_at b m)) capacity
      ∷ cells_ok b (offered_set b) 0 b.flight.masks
      ∷ subset b.pool (offered_set b)
      ∷ Rattle.machine.specs.Soundness.record_ok b b.log
      ∷ all_below (entry_ok b (offered_set b)) capacity
      ∷ []

  pub sound_facts : length b.flight.masks ≡ cells → is_sound b ≡ true → Sound b
  unfolding is_sound
  sound_facts long h =
      let all = of_all tests h in
      let row_at : (m : ℕ) → offered b.table m ≡ true → row_ok b m ≡ true = λ m o. all_at (row_ok b) b.table.count m all.1.1.0 (offered_below b.table m o).0 in
      record {
        setup = all.0;
        count = leb-true b.table.count capacity all.1.0;
        owners = λ m o. ltb-true (owner_of b.table m) b.setup.n (and_left (ltb (owner_of b.table m) b.setup.n) (fields_ok (row b.table m)) (row_at m o));
        fields = λ m o. and_right (ltb (owner_of b.table m) b.setup.n) (fields_ok (row b.table m)) (row_at m o);
        down = ltb-true b.down (2 ^ b.setup.n) all.1.1.1.0;
        each_site = λ p lt. site_facts b (site_at b p) (all_at (λ p. site_ok b (offered_set b) (site_at b p)) b.setup.n p all.1.1.1.1.0 lt);
        each_tally = λ m lt. tally_facts b m (tally_at b m) (all_at (λ m. tally_ok b (offered_set b) m (tally_at b m)) capacity m all.1.1.1.1.1.0 lt);
        each_cell = λ form m from hform hm hf.
            let k : cell_at form m from < length b.flight.masks = omega (arith, long, cell_below form m from hform hm hf) in
            cell_facts b form m from hform hm hf (rw zero-add at (cells_at b (offered_set b) 0 b.flight.masks all.1.1.1.1.1.1.0 (cell_at form m from) k));
        pool = set_facts b b.pool all.1.1.1.1.1.1.1.0;
        log = record_facts b b.log all.1.1.1.1.1.1.1.1.0;
        each_entry = λ m lt. entry_facts b m (all_at (entry_ok b (offered_set b)) capacity m all.1.1.1.1.1.1.1.1.1.0 lt);
      }

  pub facts_sound : BoardShape b → b.setup.n ≤ sites → Sound b → is_sound b ≡ true
  unfolding is_sound
  facts_sound shape few i =
      to_all tests (
        i.setup,
        (
          le-leb b.table.count capacity i.count,
          (
            all_from (row_ok b) b.table.count (λ m lt.
                let o = below_offered b.table m lt (omega (arith, i.count)) in
                and_intro (ltb (owner_of b.table m) b.setup.n) (fields_ok (row b.table m)) (lt-ltb (owner_of b.table m) b.setup.n (i.owners m o)) (i.fields m o)),
            (
              lt-ltb b.down (2 ^ b.setup.n) i.down,
              (
                all_from (λ p. site_ok b (offered_set b) (site_at b p)) b.setup.n (λ p lt. facts_site b (site_at b p) (shape.each_site p (omega arith)) (i.each_site p lt)),
                (
                  all_from (λ m. tally_ok b (offered_set b) m (tally_at b m)) capacity (λ m lt. facts_tally b m (tally_at b m) (shape.each_union m lt) (i.each_tally m lt)),
                  (
                    all_cells b (offered_set b) 0 b.flight.masks each,
                    (
                      facts_set b b.pool shape.pool i.pool,
                      (
                        facts_record b b.log i.log,
                        (all_from (entry_ok b (offered_set b)) capacity (λ m lt. facts_entry b m (shape.each_entry m lt) (i.each_entry m lt)), tt),
                      ),
                    ),
                  ),
                ),
              ),
            ),
          ),
        ),
      )
    where
      each : (k : ℕ) → k < length b.flight.masks → cell_ok b (offered_set b) (0 + k) (get_or b.flight.masks k 0) ≡ true
      each k lt =
          let form = k / (capacity * sites) in
          let m = k / sites % capacity in
          let from = k % sites in
          let hm : m < capacity = omega arith in
          let hf : from < sites = omega arith in
          let hform : form < forms = omega (arith, shape.flight.masks.long) in
          let e : cell_at form m from ≡ k = rw (cell_in form m from hform hm hf) (omega arith) in
          rw (zero-add, ← e) (facts_cell b form m from hform hm hf (set_shape_in b.flight.carried shape.flight.carried m from) (λ o. i.owners m o) (i.each_cell form m from hform hm hf))
