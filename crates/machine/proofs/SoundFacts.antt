-- Soundness as facts, one for each cause of refusal 6, and that the test is_sound says just these.
-- Rests on Shapes and machine's definitions. Assumes nothing.
use Prim.Native.Nat.{ℕ, ◌^◌, ◌<◌, ◌≤◌}
use mathlib.Core.Path.{◌≡◌, refl, sym, ◌∙◌}
use mathlib.Core.Logic.{◌⊎◌, inl, inr}
use mathlib.Core.Bool.{Bool, true, false, ◌&&◌, ◌||◌}
use mathlib.Core.List.{List, [], ◌∷◌}
use native.Mathlib.Omega.{arith}
use lib.Dec.{eqb, ltb}
use lib.ListN.{get_or}
use lib.Pow.{pow_pos}
use borrow.Author.Tests.{ltb-true, lt-ltb, leb-true, le-leb, eqb-true, eq-eqb}
use Rattle.sets.specs.declared.Set.{Set}
use Rattle.sets.proofs.Truth.{test, never, not_so, and_left, and_right, and_intro, or_cases, or_left, or_right}
use Rattle.sets.specs.Below.{all_of}
use Rattle.sets.proofs.BelowLaws.{all_at, all_from}
use Rattle.sets.specs.Masks.{has_bit}
use Rattle.sets.proofs.MaskLaws.{has_bit_zero, bits_ext}
use Rattle.sets.specs.Numbers.{listed, distinct}
use Rattle.sets.proofs.WordLaws.{member_collect, subset_member, member_subset, empty_member, member_none}
use Rattle.sets.specs.Sets.{words, capacity, has, subset, is_empty_set, Shape}
use Rattle.posting.specs.declared.Record.{Record}
use Rattle.posting.specs.declared.Table.{Table}
use Rattle.posting.specs.Kinds.{fields_ok}
use Rattle.posting.specs.Conflicts.{row, offered}
use Rattle.posting.proofs.ConflictLaws.{offered_below}
use Rattle.posting.specs.Records.{numbers_of}
use Rattle.site.specs.declared.Site.{Site}
use Rattle.site.specs.declared.Tally.{Tally}
use Rattle.site.specs.Sites.{sites, heard_for, good_for}
use Rattle.site.specs.Sends.{THIRD, forms}
use Rattle.site.specs.Steps.{owner_of}
use Rattle.flight.specs.Flights.{receivers_in, carried_by}
use Rattle.machine.specs.declared.Board.{Board}
use Rattle.machine.specs.Boards.{site_at, tally_at, entry_at}
use Rattle.machine.specs.Soundness.{setup_ok, offered_set, mask_ok, record_ok, site_ok, tally_ok}
use Rattle.machine.proofs.Shapes.{SiteShape}

-- ---- tests of a list, as facts

abbrev pub AllTrue : List Bool → Type 0
AllTrue [] = Unit {0}
AllTrue (b ∷ l) = (b ≡ true) × AllTrue l

pub of_all : (l : List Bool) → all_of l ≡ true → AllTrue l
unfolding all_of
of_all [] h = tt
of_all (b ∷ l) h = (and_left b (all_of l) h, of_all l (and_right b (all_of l) h))

pub to_all : (l : List Bool) → AllTrue l → all_of l ≡ true
unfolding all_of
to_all [] h = refl
to_all (b ∷ l) h = and_intro b (all_of l) h.0 (to_all l h.1)

-- ---- the facts

-- a set names only postings offered
abbrev pub Offers : Table → Set → Type 0
Offers t s = (x : ℕ) → has s x ≡ true → offered t x ≡ true

-- a mask kept for posting m names only sites below n, and none where m is not offered
pub record MaskSound (t : Table) (n m mask : ℕ) : Type 0 where
  pub below : mask < 2 ^ n
  pub named : (r : ℕ) → has_bit mask r ≡ true → offered t m ≡ true

pub record RecordSound (t : Table) (r : Record) : Type 0 where
  pub within : r.count ≤ capacity
  pub named : (i : ℕ) → i < r.count → offered t (get_or r.numbers i 0) ≡ true
  pub once : distinct (numbers_of r) ≡ true

pub record SiteSound (t : Table) (n logged : ℕ) (s : Site) : Type 0 where
  pub seen : Offers t s.seen
  pub held : Offers t s.held
  pub stepped : Offers t s.stepped
  pub finished : Offers t s.finished
  pub got : Offers t s.got
  pub heard : (m : ℕ) → m < capacity → MaskSound t n m (heard_for s m)
  pub good : (m : ℕ) → m < capacity → MaskSound t n m (good_for s m)
  pub delivered : RecordSound t s.delivered
  pub place : s.place ≤ logged

pub record TallySound (t : Table) (n m : ℕ) (y : Tally) : Type 0 where
  pub heard_ok : MaskSound t n m y.heard
  pub has_ok : MaskSound t n m y.has
  pub union_ok : Offers t y.union
  pub union_named : (x : ℕ) → has y.union x ≡ true → offered t m ≡ true

-- a cell of what is in flight
pub record CellSound (b : Board) (form m from : ℕ) : Type 0 where
  pub below : receivers_in b.flight.masks form m from < 2 ^ b.setup.n
  pub named : (to : ℕ) → has_bit (receivers_in b.flight.masks form m from) to ≡ true → offered b.table m ≡ true
  pub sender : (to : ℕ) → has_bit (receivers_in b.flight.masks form m from) to ≡ true → from < b.setup.n
  pub to_owner : (to : ℕ) → has_bit (receivers_in b.flight.masks form m from) to ≡ true → form ≡ THIRD → to ≡ owner_of b.table m
  pub carries : (to : ℕ) → has_bit (receivers_in b.flight.masks form m from) to ≡ true → form ≡ THIRD → Offers b.table (carried_by b.flight m from)

-- a posting of pool or log
pub record EntrySound (b : Board) (m : ℕ) : Type 0 where
  pub apart : has b.pool m ≡ true → listed m (numbers_of b.log) ≡ true → ⊥
  pub finished : (has b.pool m ≡ true) ⊎ (listed m (numbers_of b.log) ≡ true) → has (site_at b (owner_of b.table m)).finished m ≡ true
  pub carries : (has b.pool m ≡ true) ⊎ (listed m (numbers_of b.log) ≡ true) → Offers b.table (entry_at b m)

pub record Sound (b : Board) : Type 0 where
  pub setup : setup_ok b.setup ≡ true
  pub count : b.table.count ≤ capacity
  pub owners : (m : ℕ) → offered b.table m ≡ true → owner_of b.table m < b.setup.n
  pub fields : (m : ℕ) → offered b.table m ≡ true → fields_ok (row b.table m) ≡ true
  pub down : b.down < 2 ^ b.setup.n
  pub each_site : (p : ℕ) → p < b.setup.n → SiteSound b.table b.setup.n b.log.count (site_at b p)
  pub each_tally : (m : ℕ) → m < capacity → TallySound b.table b.setup.n m (tally_at b m)
  pub each_cell : (form m from : ℕ) → form < forms → m < capacity → from < sites → CellSound b form m from
  pub pool : Offers b.table b.pool
  pub log : RecordSound b.table b.log
  pub each_entry : (m : ℕ) → m < capacity → EntrySound b m

-- ---- masks

pub mask_facts : (t : Table) (n m mask : ℕ) → (eqb mask 0 || (offered t m && ltb mask (2 ^ n))) ≡ true → MaskSound t n m mask
mask_facts t n m mask h = elim (or_cases (eqb mask 0) (offered t m && ltb mask (2 ^ n)) h) [
  | inl e ↦ let z = eqb-true mask 0 e in record { below = rw z (pow_pos n); named = λ r k. absurd (never (rw z at k) (has_bit_zero r)) }
  | inr e ↦ record { below = ltb-true mask (2 ^ n) (and_right (offered t m) (ltb mask (2 ^ n)) e); named = λ r k. and_left (offered t m) (ltb mask (2 ^ n)) e }
]

-- a mask without a bit is 0
pub no_bits : (n mask : ℕ) → mask < 2 ^ n → ((r : ℕ) → r < n → has_bit mask r ≡ false) → mask ≡ 0
no_bits n mask lt h = bits_ext n mask 0 lt (pow_pos n) (λ k l. h k l ∙ sym (has_bit_zero k))

pub facts_mask : (t : Table) (n m mask : ℕ) → MaskSound t n m mask → (eqb mask 0 || (offered t m && ltb mask (2 ^ n))) ≡ true
facts_mask t n m mask i = elim (test (offered t m)) [
  | inl o ↦ or_right (eqb mask 0) (offered t m && ltb mask (2 ^ n)) (and_intro (offered t m) (ltb mask (2 ^ n)) o (lt-ltb mask (2 ^ n) i.below))
  | inr o ↦ or_left (eqb mask 0) (offered t m && ltb mask (2 ^ n)) (eq-eqb mask 0
      (no_bits n mask i.below (λ r l. not_so (has_bit mask r) (λ k. never (i.named r k) o))))
]

-- ---- sets

module _ (b : Board) where
  -- the set of what is offered
  pub offered_in : (x : ℕ) → has (offered_set b) x ≡ true → offered b.table x ≡ true
  offered_in x h = and_right (ltb x capacity) (offered b.table x) (sym (member_collect words (offered b.table) capacity x (omega arith)) ∙ h)

  pub in_offered : (x : ℕ) → offered b.table x ≡ true → has (offered_set b) x ≡ true
  in_offered x h =
      member_collect words (offered b.table) capacity x (omega arith)
      ∙ and_intro (ltb x capacity) (offered b.table x) (lt-ltb x capacity (offered_below b.table x h).1) h

  pub set_facts : (s : Set) → subset s (offered_set b) ≡ true → Offers b.table s
  set_facts s h x k = offered_in x (subset_member s.words (offered_set b).words h x k)

  pub facts_set : (s : Set) → Shape s → Offers b.table s → subset s (offered_set b) ≡ true
  facts_set s shape h = member_subset s.words (offered_set b).words shape (λ x k. in_offered x (h x k))

  -- ---- records, sites, tallies

  pub record_facts : (r : Record) → record_ok b r ≡ true → RecordSound b.table r
  unfolding record_ok
  record_facts r h =
      let all = of_all _ h in
      record {
        within = leb-true r.count capacity all.0;
        named = λ i lt. all_at (λ i. offered b.table (get_or r.numbers i 0)) r.count i all.1.0 lt;
        once = all.1.1.0;
      }

  pub facts_record : (r : Record) → RecordSound b.table r → record_ok b r ≡ true
  unfolding record_ok
  facts_record r i = to_all _ (le-leb r.count capacity i.within, (all_from (λ i. offered b.table (get_or r.numbers i 0)) r.count i.named, (i.once, tt)))

  pub site_facts : (s : Site) → site_ok b (offered_set b) s ≡ true → SiteSound b.table b.setup.n b.log.count s
  unfolding site_ok
  site_facts s h =
      let all = of_all _ h in
      record {
        seen = set_facts s.seen all.0;
        held = set_facts s.held all.1.0;
        stepped = set_facts s.stepped all.1.1.0;
        finished = set_facts s.finished all.1.1.1.0;
        got = set_facts s.got all.1.1.1.1.0;
        heard = λ m lt. mask_facts b.table b.setup.n m (heard_for s m) (all_at (λ m. mask_ok b m (heard_for s m)) capacity m all.1.1.1.1.1.0 lt);
        good = λ m lt. mask_facts b.table b.setup.n m (good_for s m) (all_at (λ m. mask_ok b m (good_for s m)) capacity m all.1.1.1.1.1.1.0 lt);
        delivered = record_facts s.delivered all.1.1.1.1.1.1.1.0;
        place = leb-true s.place b.log.count all.1.1.1.1.1.1.1.1.0;
      }

  pub facts_site : (s : Site) → SiteShape s → SiteSound b.table b.setup.n b.log.count s → site_ok b (offered_set b) s ≡ true
  unfolding site_ok
  facts_site s h i =
      to_all _ (
        facts_set s.seen h.seen i.seen,
        (
          facts_set s.held h.held i.held,
          (
            facts_set s.stepped h.stepped i.stepped,
            (
              facts_set s.finished h.finished i.finished,
              (
                facts_set s.got h.got i.got,
                (
                  all_from (λ m. mask_ok b m (heard_for s m)) capacity (λ m lt. facts_mask b.table b.setup.n m (heard_for s m) (i.heard m lt)),
                  (
                    all_from (λ m. mask_ok b m (good_for s m)) capacity (λ m lt. facts_mask b.table b.setup.n m (good_for s m) (i.good m lt)),
                    (
                      facts_record s.delivered i.delivered,
                      (le-leb s.place b.log.count i.place, tt),
                    ),
                  ),
                ),
              ),
            ),
          ),
        ),
      )

  pub tally_facts : (m : ℕ) (y : Tally) → tally_ok b (offered_set b) m y ≡ true → TallySound b.table b.setup.n m y
  unfolding tally_ok
  tally_facts m y h =
      let all = of_all _ h in
      let none : is_empty_set y.union ≡ true → (x : ℕ) → has y.union x ≡ true → ⊥ = λ e x k. never k (empty_member y.union.words e x) in
      record {
        heard_ok = mask_facts b.table b.setup.n m y.heard all.0;
        has_ok = mask_facts b.table b.setup.n m y.has all.1.0;
        union_ok = λ x k. elim (or_cases (is_empty_set y.union) (offered b.table m && subset y.union (offered_set b)) all.1.1.0) [
          | inl e ↦ absurd (none e x k)
          | inr e ↦ set_facts y.union (and_right (offered b.table m) (subset y.union (offered_set b)) e) x k
        ];
        union_named = λ x k. elim (or_cases (is_empty_set y.union) (offered b.table m && subset y.union (offered_set b)) all.1.1.0) [
          | inl e ↦ absurd (none e x k)
          | inr e ↦ and_left (offered b.table m) (subset y.union (offered_set b)) e
        ];
      }

  pub facts_tally : (m : ℕ) (y : Tally) → Shape y.union → TallySound b.table b.setup.n m y → tally_ok b (offered_set b) m y ≡ true
  unfolding tally_ok
  facts_tally m y shape i =
      to_all _
      (facts_mask b.table b.setup.n m y.heard i.heard_ok, (facts_mask b.table b.setup.n m y.has i.has_ok, (union, tt)))
    where
      union : (is_empty_set y.union || (offered b.table m && subset y.union (offered_set b))) ≡ true
      union = elim (test (offered b.table m)) [
        | inl o ↦ or_right (is_empty_set y.union) (offered b.table m && subset y.union (offered_set b))
            (and_intro (offered b.table m) (subset y.union (offered_set b)) o (facts_set y.union shape i.union_ok))
        | inr o ↦ or_left (is_empty_set y.union) (offered b.table m && subset y.union (offered_set b))
            (member_none y.union.words shape (λ x. not_so (has y.union x) (λ k. never (i.union_named x k) o)))
      ]
