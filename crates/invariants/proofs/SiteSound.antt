-- A site with some of its parts changed stays sound and in shape; a record stays so when a posting is delivered.
-- Rests on machine. Assumes nothing.
use Prim.Native.Nat.{ℕ, zero, suc, ◌+◌, ◌*◌, ◌^◌, ◌<◌, ◌≤◌}
use mathlib.Core.Path.{◌≡◌, refl, sym, ap, ◌∙◌}
use mathlib.Core.Logic.{◌⊎◌, inl, inr}
use mathlib.Core.Bool.{Bool, true, false, cond, ◌&&◌, ◌||◌}
use mathlib.Core.List.{List, [], ◌∷◌}
use native.Mathlib.Omega.{arith}
use native.Mathlib.Decide.{ℕ_discrete, dec_lt}
use lib.Dec.{eqb, ltb}
use lib.ListN.{length, get_or, set, length-set}
use lib.Seq.{get_or-set_same, get_or-set_other}
use lib.Bits.{bit_or, or_lt}
use lib.Pow.{pow-lt}
use borrow.Author.Tests.{eqb-true, eq-eqb}
use Rattle.sets.specs.declared.Set.{Set}
use Rattle.sets.proofs.Truth.{test, never, not_so, and_left, and_right, or_cases}
use Rattle.sets.specs.Masks.{has_bit}
use Rattle.sets.proofs.MaskLaws.{has_bit_set}
use Rattle.sets.specs.Numbers.{listed, distinct}
use Rattle.sets.proofs.NumberLaws.{distinct_last}
use Rattle.sets.specs.Words.{member, insert, insert_if, union, intersect}
use Rattle.sets.proofs.WordLaws.{member_insert, member_insert_if, member_union, member_intersect, insert_shape, union_shape, intersect_shape, empty_shape}
use Rattle.sets.specs.Sets.{words, capacity, has, with, with_if, join, meet, empty_set, Shape}
use Rattle.posting.specs.declared.Table.{Table}
use Rattle.posting.specs.declared.Record.{Record}
use Rattle.posting.specs.Conflicts.{offered}
use Rattle.posting.proofs.ConflictLaws.{offered_below}
use Rattle.posting.specs.Records.{numbers_of, contains, append}
use Rattle.posting.proofs.RecordLaws.{Places, append_full, append_room, append_places, numbers_append}
use Rattle.site.specs.declared.Site.{Site}
use Rattle.site.specs.Sites.{heard_for, good_for, plus, plus_if, site_seen, site_heard, site_stepped, site_finished, site_got, site_place, site_delivered}
use Rattle.site.specs.Steps.{delivering, delivering_all}
use Rattle.machine.proofs.Shapes.{SiteShape}
use Rattle.machine.proofs.SoundFacts.{Offers, MaskSound, RecordSound, SiteSound}

-- ---- sets

module _ (t : Table) where
  pub offers_with : (s : Set) (m : ℕ) → Shape s → offered t m ≡ true → Offers t s → Offers t (with s m)
  offers_with s m shape o i x h =
      let lt : m < 64 * length s.words = omega (arith, shape.long, (offered_below t m o).1) in
      elim (or_cases (has s x) (eqb x m) (sym (member_insert s.words m x lt) ∙ h)) [ inl k ↦ i x k | inr k ↦ rw (eqb-true x m k) o ]

  pub offers_with_if : (s : Set) (m : ℕ) (so : Bool) → Shape s → offered t m ≡ true → Offers t s → Offers t (with_if s m so)
  unfolding insert_if
  offers_with_if s m true shape o i = offers_with s m shape o i
  offers_with_if s m false shape o i = i

  pub offers_join : (s u : Set) → Offers t s → Offers t u → Offers t (join s u)
  offers_join s u i j x h = elim (or_cases (has s x) (has u x) (sym (member_union s.words u.words x) ∙ h)) [ inl k ↦ i x k | inr k ↦ j x k ]

  pub offers_meet : (s u : Set) → Offers t s → Offers t (meet s u)
  offers_meet s u i x h = i x (and_left (has s x) (has u x) (sym (member_intersect s.words u.words x) ∙ h))

pub shape_with_if : (s : Set) (m : ℕ) (so : Bool) → Shape s → Shape (with_if s m so)
unfolding insert_if
shape_with_if s m true h = insert_shape s.words m h
shape_with_if s m false h = h

-- ---- masks

pub mask_plus : (t : Table) (n m mask p : ℕ) → p < n → offered t m ≡ true → MaskSound t n m mask → MaskSound t n m (plus mask p)
mask_plus t n m mask p lt o i = record { below = or_lt n mask (2 ^ p) i.below (pow-lt lt); named = λ r h. o }

pub mask_plus_if : (t : Table) (n m mask p : ℕ) (so : Bool) → p < n → offered t m ≡ true → MaskSound t n m mask → MaskSound t n m (plus_if mask p so)
mask_plus_if t n m mask p true lt o i = mask_plus t n m mask p lt o i
mask_plus_if t n m mask p false lt o i = i

-- ---- records

module _ (t : Table) where
  pub append_sound : (r : Record) (m : ℕ) → Places r → offered t m ≡ true → contains r m ≡ false → RecordSound t r → RecordSound t (append r m)
  append_sound r m places o lacks i = elim (dec_lt r.count capacity) [
    | yes room ↦
        let lt = (offered_below t m o).1 in
        rw (append_room r m room lt) (record {
          within = omega arith;
          named = λ k h. elim (ℕ_discrete k r.count) [
            | yes e ↦ rw (e, get_or-set_same r.numbers r.count m 0 (omega (arith, places))) o
            | no d ↦ rw (get_or-set_other r.numbers r.count k m 0 d) (i.named k (omega arith))
          ];
          once = rw (← append_room r m room lt) (rw (numbers_append r m room lt places) (distinct_last (numbers_of r) m i.once (unfold contains in lacks)));
        })
    | no full ↦ rw (append_full r m (omega arith)) i
  ]

  pub delivering_sound : (r : Record) (m : ℕ) → Places r → offered t m ≡ true → RecordSound t r → RecordSound t (delivering r m)
  unfolding delivering
  delivering_sound r m places o i = elim (test (contains r m)) [
    | inl k ↦ rw k i
    | inr k ↦ rw k (append_sound r m places o k i)
  ]

pub delivering_places : (r : Record) (m : ℕ) → Places r → Places (delivering r m)
unfolding delivering
delivering_places r m h = elim (test (contains r m)) [ inl k ↦ rw k h | inr k ↦ rw k (append_places r m h) ]

-- every number of a list is offered
abbrev pub AllOffered : Table → List ℕ → Type 0
AllOffered t [] = Unit {0}
AllOffered t (m ∷ l) = (offered t m ≡ true) × AllOffered t l

pub delivering_all_sound : (t : Table) (r : Record) (l : List ℕ) → Places r → AllOffered t l → RecordSound t r → RecordSound t (delivering_all r l)
unfolding delivering_all
delivering_all_sound t r [] places o i = i
delivering_all_sound t r (m ∷ l) places o i =
    delivering_all_sound t (delivering r m) l (delivering_places r m places) o.1 (delivering_sound t r m places o.0 i)

pub delivering_all_places : (r : Record) (l : List ℕ) → Places r → Places (delivering_all r l)
unfolding delivering_all
delivering_all_places r [] h = h
delivering_all_places r (m ∷ l) h = delivering_all_places (delivering r m) l (delivering_places r m h)

-- ---- sites

module _ (t : Table) (n logged : ℕ) (s : Site) (i : SiteSound t n logged s) where
  pub site_seen_lem : (seen : Set) → Offers t seen → SiteSound t n logged (site_seen s seen)
  site_seen_lem seen h = record {
    seen = h;
    held = i.held;
    stepped = i.stepped;
    finished = i.finished;
    got = i.got;
    heard = i.heard;
    good = i.good;
    delivered = i.delivered;
    place = i.place;
  }

  pub site_heard_lem : (m heard good : ℕ) → SiteShape s → m < capacity → MaskSound t n m heard → MaskSound t n m good → SiteSound t n logged (site_heard s m heard good)
  site_heard_lem m heard good shape lt h g = record {
    seen = i.seen;
    held = i.held;
    stepped = i.stepped;
    finished = i.finished;
    got = i.got;
    heard = λ x l. elim (ℕ_discrete x m) [
      | yes e ↦ rw (e, get_or-set_same s.heard m heard 0 (omega (arith, shape.heard))) h
      | no d ↦ rw (get_or-set_other s.heard m x heard 0 d) (i.heard x l)
    ];
    good = λ x l. elim (ℕ_discrete x m) [
      | yes e ↦ rw (e, get_or-set_same s.good m good 0 (omega (arith, shape.good))) g
      | no d ↦ rw (get_or-set_other s.good m x good 0 d) (i.good x l)
    ];
    delivered = i.delivered;
    place = i.place;
  }

  pub site_stepped_lem : (seen stepped held : Set) → Offers t seen → Offers t stepped → Offers t held → SiteSound t n logged (site_stepped s seen stepped held)
  site_stepped_lem seen stepped held h k g = record {
    seen = h;
    held = g;
    stepped = k;
    finished = i.finished;
    got = i.got;
    heard = i.heard;
    good = i.good;
    delivered = i.delivered;
    place = i.place;
  }

  pub site_finished_lem : (finished : Set) → Offers t finished → SiteSound t n logged (site_finished s finished)
  site_finished_lem finished h = record {
    seen = i.seen;
    held = i.held;
    stepped = i.stepped;
    finished = h;
    got = i.got;
    heard = i.heard;
    good = i.good;
    delivered = i.delivered;
    place = i.place;
  }

  pub site_got_lem : (got : Set) → Offers t got → SiteSound t n logged (site_got s got)
  site_got_lem got h = record {
    seen = i.seen;
    held = i.held;
    stepped = i.stepped;
    finished = i.finished;
    got = h;
    heard = i.heard;
    good = i.good;
    delivered = i.delivered;
    place = i.place;
  }

  pub site_place_lem : (place : ℕ) → place ≤ logged → SiteSound t n logged (site_place s place)
  site_place_lem place h = record {
    seen = i.seen;
    held = i.held;
    stepped = i.stepped;
    finished = i.finished;
    got = i.got;
    heard = i.heard;
    good = i.good;
    delivered = i.delivered;
    place = h;
  }

  pub site_delivered_lem : (r : Record) → RecordSound t r → SiteSound t n logged (site_delivered s r)
  site_delivered_lem r h = record {
    seen = i.seen;
    held = i.held;
    stepped = i.stepped;
    finished = i.finished;
    got = i.got;
    heard = i.heard;
    good = i.good;
    delivered = h;
    place = i.place;
  }
