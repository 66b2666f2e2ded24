-- The theory's small steps, beside what they are at a site: its sets, what it has heard, its record.
-- Rests on Shows, invariants and broadcast. Assumes nothing.
use Prim.Native.Nat.{ℕ, zero, suc, ◌+◌, ◌-◌, ◌*◌, ◌^◌, ◌<◌, ◌≤◌}
use mathlib.Core.Path.{◌≡◌, refl, sym, ap, ◌∙◌}
use mathlib.Core.Logic.{◌⊎◌, inl, inr, ◌≢◌}
use mathlib.Core.Bool.{Bool, true, false, cond, not, ◌&&◌, ◌||◌, or-false, and-false, and-true}
use mathlib.Core.List.{List, [], ◌∷◌, ◌++◌}
use native.Mathlib.Omega.{arith}
use native.Mathlib.Numerals.{add-one}
use native.Mathlib.Decide.{ℕ_discrete}
use lib.Dec.{eqb, ltb, leb}
use lib.ListN.{length, get_or, set}
use lib.Seq.{get_or-set_same, get_or-set_other}
use borrow.Author.Tests.{eq-eqb, ne_eqb, eqb-true}
use Rattle.sets.specs.declared.Set.{Set}
use Rattle.sets.proofs.Truth.{test, never, not_so, both_ways}
use Rattle.sets.specs.Masks.{has_bit}
use Rattle.sets.proofs.MaskLaws.{has_bit_set}
use Rattle.sets.specs.Numbers.{listed}
use Rattle.sets.specs.Words.{member, insert_if}
use Rattle.sets.proofs.WordLaws.{member_insert, member_insert_if}
use Rattle.sets.specs.Sets.{capacity, has, with, with_if, Shape}
use Rattle.posting.specs.declared.Record.{Record}
use Rattle.posting.specs.declared.Table.{Table}
use Rattle.posting.specs.Conflicts.{offered}
use Rattle.posting.proofs.ConflictLaws.{offered_below}
use Rattle.posting.specs.Records.{numbers_of, contains, append}
use Rattle.posting.proofs.RecordLaws.{Places, numbers_append}
use Rattle.site.specs.declared.Site.{Site}
use Rattle.site.specs.Sites.{heard_for, good_for, plus, plus_if, site_seen, site_heard, site_stepped, site_finished, site_got, site_place, site_delivered}
use Rattle.site.specs.Steps.{delivering, delivering_all}
use Rattle.machine.proofs.Shapes.{SiteShape}
use Rattle.machine.proofs.SoundFacts.{RecordSound}
use Rattle.invariants.proofs.SiteSound.{AllOffered, delivering_sound, delivering_places}
use Rattle.invariants.proofs.Room.{record_room}
use Rattle.broadcast.specs.Lists.{mem}
use Rattle.broadcast.specs.Deliveries.{deliver_all}
use Rattle.broadcast.specs.Deliveries as lists
use Rattle.broadcast.specs.Machine.{World, State, Cut, whole, part, at2, at3, join, see, step, joins, hear_second, finish, get, deliver_at, advance}
use Rattle.agreement.proofs.Casts.{eqb_turned}
use Rattle.agreement.proofs.Shows.{SiteShows, SiteShowsIn}

-- ---- Boolean tests at one place

pub cond_or : (c o : Bool) → cond c true o ≡ (o || c)
cond_or true true = refl
cond_or true false = refl
cond_or false o = sym (or-false o)

-- m joins the set of site p: as the theory has it, and as the words have it
pub join_is : (q : ℕ → ℕ → Bool) (s : Set) (p m x : ℕ) → Shape s → m < capacity → q p x ≡ has s x → join q p m p x ≡ has (with s m) x
join_is q s p m x shape lt e =
    rw (eq-eqb p p refl, e) (cond_or (eqb m x) (has s x) ∙ ap (λ (b : Bool). has s x || b) (eqb_turned m x)
    ∙ sym (member_insert s.words m x (omega (arith, shape.long))))

pub join_other : (q : ℕ → ℕ → Bool) (p m a x : ℕ) → a ≢ p → join q p m a x ≡ q a x
join_other q p m a x d = rw (ne_eqb p a (λ e. d (sym e)))

module _ (w : World) (s : State) where
  -- ---- m joins seen at p

  pub see_own : (m p : ℕ) (site : Site) → SiteShape site → m < capacity → SiteShowsIn w s p site → SiteShowsIn w (see w s m p) p (site_seen site (with site.seen m))
  unfolding see
  see_own m p site shape lt i = record {
    seen_is = λ x. join_is s.sets.seen site.seen p m x shape.seen lt (i.seen_is x);
    held_is = i.held_is;
    stepped_is = i.stepped_is;
    heard_is = i.heard_is;
    agreed_is = i.agreed_is;
    got_is = i.got_is;
    finished_is = i.finished_is;
    place_is = i.place_is;
    delivered_is = i.delivered_is;
  }

  pub see_other : (m p q : ℕ) (site : Site) → q ≢ p → SiteShowsIn w s q site → SiteShowsIn w (see w s m p) q site
  unfolding see
  see_other m p q site d i = record {
    seen_is = λ x. join_other s.sets.seen p m q x d ∙ i.seen_is x;
    held_is = i.held_is;
    stepped_is = i.stepped_is;
    heard_is = i.heard_is;
    agreed_is = i.agreed_is;
    got_is = i.got_is;
    finished_is = i.finished_is;
    place_is = i.place_is;
    delivered_is = i.delivered_is;
  }

  -- ---- p hears SECOND m from r

  pub hear_own : (m r p : ℕ) (good : Bool) (site : Site) → SiteShape site → m < capacity → s.seconds.good m r p ≡ good
      → (has_bit (heard_for site m) r ≡ false) → (has_bit (good_for site m) r ≡ false)
      → SiteShowsIn w s p site → SiteShowsIn w (hear_second w s m r p) p (site_heard site m (plus (heard_for site m) r) (plus_if (good_for site m) r good))
  unfolding hear_second
  hear_own m r p good site shape lt e fresh none i = record {
    seen_is = i.seen_is;
    held_is = i.held_is;
    stepped_is = i.stepped_is;
    heard_is = λ x a la. elim (ℕ_discrete x m) [
      | yes d ↦ rw (d, eq-eqb m m refl, eq-eqb p p refl, get_or-set_same site.heard m (plus (heard_for site m) r) 0 (omega (arith, shape.heard)))
          (rw (and-true (eqb r a), i.heard_is m a la, eqb_turned r a) (cond_or (eqb a r) (has_bit (heard_for site m) a)) ∙ sym (has_bit_set (heard_for site m) r a))
      | no d ↦ rw (ne_eqb m x (λ k. d (sym k)), get_or-set_other site.heard m x (plus (heard_for site m) r) 0 d) (i.heard_is x a la)
    ];
    agreed_is = λ x a la. elim (ℕ_discrete x m) [
      | yes d ↦ rw (d, eq-eqb m m refl, eq-eqb p p refl, get_or-set_same site.good m (plus_if (good_for site m) r good) 0 (omega (arith, shape.good)), and-true (eqb r a), e, i.agreed_is m a la, eqb_turned r a) (told good a)
      | no d ↦ rw (ne_eqb m x (λ k. d (sym k)), get_or-set_other site.good m x (plus_if (good_for site m) r good) 0 d) (i.agreed_is x a la)
    ];
    got_is = i.got_is;
    finished_is = i.finished_is;
    place_is = i.place_is;
    delivered_is = i.delivered_is;
  }
    where
      told : (g : Bool) (a : ℕ) → cond (eqb a r) g (has_bit (good_for site m) a) ≡ has_bit (plus_if (good_for site m) r g) a
      told true a = cond_or (eqb a r) (has_bit (good_for site m) a) ∙ sym (has_bit_set (good_for site m) r a)
      told false a = elim (ℕ_discrete a r) [ yes d ↦ rw (eq-eqb a r d) (sym (rw d none)) | no d ↦ rw (ne_eqb a r d) ]

  pub hear_other : (m r p q : ℕ) (site : Site) → q ≢ p → SiteShowsIn w s q site → SiteShowsIn w (hear_second w s m r p) q site
  unfolding hear_second
  hear_other m r p q site d i = record {
    seen_is = i.seen_is;
    held_is = i.held_is;
    stepped_is = i.stepped_is;
    heard_is = λ x a la. rw (ne_eqb p q (λ e. d (sym e)), and-false (eqb r a), and-false (eqb m x)) (i.heard_is x a la);
    agreed_is = λ x a la. rw (ne_eqb p q (λ e. d (sym e)), and-false (eqb r a), and-false (eqb m x)) (i.agreed_is x a la);
    got_is = i.got_is;
    finished_is = i.finished_is;
    place_is = i.place_is;
    delivered_is = i.delivered_is;
  }

  -- ---- p steps m

  pub step_own : (m p : ℕ) (so : Bool) (site : Site) → SiteShape site → m < capacity → joins w s m p ≡ so → SiteShowsIn w s p site
      → SiteShowsIn w (step w s m p) p (site_stepped site site.seen (with site.stepped m) (with_if site.held m so))
  unfolding step
  step_own m p so site shape lt e i = record {
    seen_is = i.seen_is;
    held_is = λ x. rw (eq-eqb p p refl, e, i.held_is x) (holds so x);
    stepped_is = λ x. join_is s.sets.stepped site.stepped p m x shape.stepped lt (i.stepped_is x);
    heard_is = i.heard_is;
    agreed_is = i.agreed_is;
    got_is = i.got_is;
    finished_is = i.finished_is;
    place_is = i.place_is;
    delivered_is = i.delivered_is;
  }
    where
      holds : (b : Bool) (x : ℕ) → cond (eqb m x && b) true (has site.held x) ≡ has (with_if site.held m b) x
      holds true x = rw (and-true (eqb m x)) (cond_or (eqb m x) (has site.held x) ∙ ap (λ (v : Bool). has site.held x || v) (eqb_turned m x)
          ∙ sym (unfold insert_if in member_insert site.held.words m x (omega (arith, shape.held.long))))
      holds false x = rw (and-false (eqb m x)) (unfold insert_if in refl)

  pub step_other : (m p q : ℕ) (site : Site) → q ≢ p → SiteShowsIn w s q site → SiteShowsIn w (step w s m p) q site
  unfolding step
  step_other m p q site d i = record {
    seen_is = i.seen_is;
    held_is = λ x. rw (ne_eqb p q (λ e. d (sym e))) (i.held_is x);
    stepped_is = λ x. join_other s.sets.stepped p m q x d ∙ i.stepped_is x;
    heard_is = i.heard_is;
    agreed_is = i.agreed_is;
    got_is = i.got_is;
    finished_is = i.finished_is;
    place_is = i.place_is;
    delivered_is = i.delivered_is;
  }

  -- ---- m is finished by its owner p

  pub finish_own : (m p : ℕ) (site : Site) → SiteShape site → m < capacity → SiteShowsIn w s p site → SiteShowsIn w (finish w s m) p (site_finished site (with site.finished m))
  unfolding finish
  finish_own m p site shape lt i = record {
    seen_is = i.seen_is;
    held_is = i.held_is;
    stepped_is = i.stepped_is;
    heard_is = i.heard_is;
    agreed_is = i.agreed_is;
    got_is = i.got_is;
    finished_is = λ x o. rw (i.finished_is x o) (cond_or (eqb m x) (has site.finished x) ∙ ap (λ (b : Bool). has site.finished x || b) (eqb_turned m x)
        ∙ sym (member_insert site.finished.words m x (omega (arith, shape.finished.long))));
    place_is = i.place_is;
    delivered_is = i.delivered_is;
  }

  pub finish_other : (m q : ℕ) (site : Site) → w.owner m ≢ q → SiteShowsIn w s q site → SiteShowsIn w (finish w s m) q site
  unfolding finish
  finish_other m q site d i = record {
    seen_is = i.seen_is;
    held_is = i.held_is;
    stepped_is = i.stepped_is;
    heard_is = i.heard_is;
    agreed_is = i.agreed_is;
    got_is = i.got_is;
    finished_is = λ x o. rw (ne_eqb m x (λ e. d (ap w.owner e ∙ o))) (i.finished_is x o);
    place_is = i.place_is;
    delivered_is = i.delivered_is;
  }

  -- ---- p gets DELIVER m

  pub get_own : (m p : ℕ) (site : Site) → SiteShape site → m < capacity → SiteShowsIn w s p site → SiteShowsIn w (get w s m p) p (site_got site (with site.got m))
  unfolding get
  get_own m p site shape lt i = record {
    seen_is = i.seen_is;
    held_is = i.held_is;
    stepped_is = i.stepped_is;
    heard_is = i.heard_is;
    agreed_is = i.agreed_is;
    got_is = λ x. join_is s.delivers.got site.got p m x shape.got lt (i.got_is x);
    finished_is = i.finished_is;
    place_is = i.place_is;
    delivered_is = i.delivered_is;
  }

  pub get_other : (m p q : ℕ) (site : Site) → q ≢ p → SiteShowsIn w s q site → SiteShowsIn w (get w s m p) q site
  unfolding get
  get_other m p q site d i = record {
    seen_is = i.seen_is;
    held_is = i.held_is;
    stepped_is = i.stepped_is;
    heard_is = i.heard_is;
    agreed_is = i.agreed_is;
    got_is = λ x. join_other s.delivers.got p m q x d ∙ i.got_is x;
    finished_is = i.finished_is;
    place_is = i.place_is;
    delivered_is = i.delivered_is;
  }

-- ---- delivery

-- membership as the theory tests it, and as records do
pub mem_listed : (x : ℕ) (l : List ℕ) → mem x l ≡ listed x l
unfolding listed
mem_listed x [] = refl
mem_listed x (y ∷ l) = ap (λ (b : Bool). eqb x y || b) (mem_listed x l)

pub delivering_is : (t : Table) (r : Record) (m : ℕ) → Places r → RecordSound t r → offered t m ≡ true → numbers_of (delivering r m) ≡ lists.deliver (numbers_of r) m
unfolding delivering lists.deliver contains
delivering_is t r m places i o = elim (test (listed m (numbers_of r))) [
  | inl k ↦ rw (k, mem_listed m (numbers_of r) ∙ k)
  | inr k ↦ rw (k, mem_listed m (numbers_of r) ∙ k) (numbers_append r m (record_room t r i places m o (unfold contains in k)) (offered_below t m o).1 places)
]

pub delivering_all_is : (t : Table) (r : Record) (l : List ℕ) → Places r → RecordSound t r → AllOffered t l → numbers_of (delivering_all r l) ≡ deliver_all (numbers_of r) l
unfolding delivering_all
delivering_all_is t r [] places i o = refl
delivering_all_is t r (m ∷ l) places i o =
    delivering_all_is t (delivering r m) l (delivering_places r m places) (delivering_sound t r m places o.0 i) o.1
    ∙ ap (λ (v : List ℕ). deliver_all v l) (delivering_is t r m places i o.0)
