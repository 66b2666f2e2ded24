-- Each step of a site leaves what belongs to it sound and in shape, sends only what is sound, and delivers only what is offered.
-- Rests on SiteSound. Assumes nothing.
use Prim.Native.Nat.{ℕ, zero, suc, ◌+◌, ◌-◌, ◌*◌, ◌^◌, ◌<◌, ◌≤◌}
use mathlib.Core.Path.{◌≡◌, refl, sym, ap, ◌∙◌}
use mathlib.Core.Logic.{◌⊎◌, inl, inr}
use mathlib.Core.Bool.{Bool, true, false, cond, ◌&&◌, ◌||◌}
use mathlib.Core.List.{List, [], ◌∷◌, ◌++◌}
use native.Mathlib.Omega.{arith}
use native.Mathlib.Decide.{ℕ_discrete}
use lib.Dec.{eqb, ltb, leb}
use lib.ListN.{length, take, length-set}
use lib.Bits.{bit_and}
use lib.Count.{ones}
use borrow.Author.Tests.{eqb-true, eq-eqb, ne_eqb}
use Rattle.sets.specs.declared.Set.{Set}
use Rattle.sets.proofs.Truth.{test, never, and_left, and_right, or_left, or_right, or_neither}
use Rattle.sets.specs.Masks.{has_bit}
use Rattle.sets.specs.Numbers.{listed}
use Rattle.sets.specs.Words.{member, members}
use Rattle.sets.proofs.WordLaws.{member_insert, insert_shape, union_shape, intersect_shape, listed_members}
use Rattle.sets.specs.Sets.{capacity, has, with, with_if, join, meet, members_of, Shape}
use Rattle.posting.specs.declared.Table.{Table}
use Rattle.posting.specs.Conflicts.{offered, conflict_set}
use Rattle.posting.proofs.ConflictLaws.{offered_below, conflict_set_shape}
use Rattle.site.specs.declared.Setup.{Setup}
use Rattle.site.specs.declared.Site.{Site}
use Rattle.site.specs.declared.Tally.{Tally}
use Rattle.site.specs.Sites.{heard_for, good_for, plus, plus_if, site_heard, site_delivered}
use Rattle.site.specs.Sends.{Send, first, second, third, deliver, entry, to_all, to_others, Step}
use Rattle.site.specs.Steps.{owner_of, alone, quorum, majority, no_step, on_offer, on_first, step_second, on_second, step_third, tallied, on_third, on_deliver, on_entry, delivered_site, delivering_all}
use Rattle.machine.proofs.Shapes.{SiteShape}
use Rattle.machine.proofs.SoundFacts.{Offers, MaskSound, RecordSound, SiteSound, TallySound}
use Rattle.invariants.proofs.SiteSound.{offers_with, offers_with_if, offers_join, offers_meet, shape_with_if, mask_plus, mask_plus_if, AllOffered, delivering_all_sound, delivering_all_places, site_seen_lem, site_heard_lem, site_stepped_lem, site_finished_lem, site_got_lem, site_place_lem, site_delivered_lem}

pub all_are_offered : (t : Table) (m : ℕ) → offered t m ≡ true → (l : List ℕ) → ((x : ℕ) → listed x l ≡ true → offered t x ≡ true) → AllOffered t (l ++ (m ∷ []))
unfolding listed
all_are_offered t m o [] h = (o, tt)
all_are_offered t m o (x ∷ l) h = (h x (or_left (eqb x x) (listed x l) (eq-eqb x x refl)), all_are_offered t m o l (λ y k. h y (or_right (eqb y x) (listed y l) k)))

module _ (t : Table) (n : ℕ) where
  -- a send of site p that a sound board may hold; a pool entry comes from the owner, which has finished it now and not before
  abbrev pub SendSound : ℕ → Set → Site → Send → Type 0
  SendSound p before site (first m to) = (offered t m ≡ true) × (to < n)
  SendSound p before site (second m to good) = (offered t m ≡ true) × (to < n)
  SendSound p before site (third m to carried) = (offered t m ≡ true) × (to ≡ owner_of t m) × (to < n) × Offers t carried × Shape carried
  SendSound p before site (deliver m to) = (offered t m ≡ true) × (to < n)
  SendSound p before site (entry m carried) =
      (offered t m ≡ true) × (p ≡ owner_of t m) × (has before m ≡ false) × (has site.finished m ≡ true) × Offers t carried × Shape carried

  abbrev pub AllSends : (Send → Type 0) → List Send → Type 0
  AllSends P [] = Unit {0}
  AllSends P (s ∷ l) = P s × AllSends P l

  pub all_append : (P : Send → Type 0) (l r : List Send) → AllSends P l → AllSends P r → AllSends P (l ++ r)
  all_append P [] r h k = k
  all_append P (s ∷ l) r h k = (h.0, all_append P l r h.1 k)

  pub all_take : (P : Send → Type 0) (j : ℕ) (l : List Send) → AllSends P l → AllSends P (take j l)
  all_take P zero l h = tt
  all_take P (suc j) [] h = tt
  all_take P (suc j) (s ∷ l) h = (h.0, all_take P j l h.1)

  pub all_to_all : (P : Send → Type 0) (k : ℕ) (send : ℕ → Send) → ((to : ℕ) → to < k → P (send to)) → AllSends P (to_all k send)
  unfolding to_all
  all_to_all P zero send h = tt
  all_to_all P (suc k) send h = all_append P (to_all k send) (send k ∷ []) (all_to_all P k send (λ to lt. h to (omega arith))) (h k (omega arith), tt)

  pub all_to_others : (P : Send → Type 0) (k p : ℕ) (send : ℕ → Send) → ((to : ℕ) → to < k → P (send to)) → AllSends P (to_others k p send)
  unfolding to_others
  all_to_others P zero p send h = tt
  all_to_others P (suc k) p send h = all_append P (to_others k p send) (cond (eqb k p) [] (send k ∷ [])) (all_to_others P k p send (λ to lt. h to (omega arith))) (one (eqb k p))
    where
      one : (b : Bool) → AllSends P (cond b [] (send k ∷ []))
      one true = tt
      one false = (h k (omega arith), tt)

  pub record StepSound (logged m p : ℕ) (before : Set) (step : Step) : Type 0 where
    pub site_ok : SiteSound t n logged step.site
    pub site_shape : SiteShape step.site
    pub tally_ok : TallySound t n m step.tally
    pub union_shape_ok : Shape step.tally.union
    pub sends_ok : AllSends (SendSound p before step.site) step.sends
    pub delivers_ok : AllOffered t step.delivers
    pub finished_stays : (x : ℕ) → has before x ≡ true → has step.site.finished x ≡ true

  -- once it has delivered
  pub delivered_ok : (logged m p : ℕ) (before : Set) (step : Step) → StepSound logged m p before step → SiteSound t n logged (delivered_site step)
  delivered_ok logged m p before step i =
      site_delivered_lem t n logged step.site i.site_ok (delivering_all step.site.delivered step.delivers)
      (delivering_all_sound t step.site.delivered step.delivers i.site_shape.delivered i.delivers_ok i.site_ok.delivered)

  pub delivered_shape : (logged m p : ℕ) (before : Set) (step : Step) → StepSound logged m p before step → SiteShape (delivered_site step)
  delivered_shape logged m p before step i = record {
    seen = i.site_shape.seen;
    held = i.site_shape.held;
    stepped = i.site_shape.stepped;
    finished = i.site_shape.finished;
    got = i.site_shape.got;
    heard = i.site_shape.heard;
    good = i.site_shape.good;
    delivered = delivering_all_places step.site.delivered step.delivers i.site_shape.delivered;
  }

  module _ (logged : ℕ) (site : Site) (i : SiteSound t n logged site) (shape : SiteShape site) (tally : Tally) (m : ℕ)
      (j : TallySound t n m tally) (union : Shape tally.union) where
    -- a step that changes nothing
    pub no_step_lem : (p : ℕ) → StepSound logged m p site.finished (no_step site tally)
    no_step_lem p = record {
      site_ok = i;
      site_shape = shape;
      tally_ok = j;
      union_shape_ok = union;
      sends_ok = tt;
      delivers_ok = tt;
      finished_stays = λ x h. h;
    }

    pub offer_step_lem : (setup : Setup) (p : ℕ) → setup.n ≡ n → offered t m ≡ true → StepSound logged m p site.finished (on_offer setup site tally m)
    unfolding on_offer
    offer_step_lem setup p e o = record {
      site_ok = i;
      site_shape = shape;
      tally_ok = j;
      union_shape_ok = union;
      sends_ok = all_to_all (SendSound p site.finished site) setup.n (λ to. first m to) (λ to lt. (o, rw (← e) lt));
      delivers_ok = tt;
      finished_stays = λ x h. h;
    }

    pub first_step : (setup : Setup) (p : ℕ) → setup.n ≡ n → offered t m ≡ true → StepSound logged m p site.finished (on_first setup t site tally m)
    unfolding on_first
    first_step setup p e o =
        let seen = with site.seen m in
        record {
          site_ok = site_seen_lem t n logged site i seen (offers_with t site.seen m shape.seen o i.seen);
          site_shape = record {
            seen = insert_shape site.seen.words m shape.seen;
            held = shape.held;
            stepped = shape.stepped;
            finished = shape.finished;
            got = shape.got;
            heard = shape.heard;
            good = shape.good;
            delivered = shape.delivered;
          };
          tally_ok = j;
          union_shape_ok = union;
          sends_ok = all_to_all (SendSound p site.finished (Rattle.site.specs.Sites.site_seen site seen)) setup.n (λ to. second m to (alone seen (conflict_set setup.matrix t m) m)) (λ to lt. (o, rw (← e) lt));
          delivers_ok = tt;
          finished_stays = λ x h. h;
        }

    pub step_second_lem : (setup : Setup) (p : ℕ) → offered t m ≡ true → owner_of t m < n → StepSound logged m p site.finished (step_second setup t site tally m)
    unfolding step_second
    step_second_lem setup p o own =
        let conflicts = conflict_set setup.matrix t m in
        let seen = with site.seen m in
        let joins = majority setup (bit_and (good_for site m) (heard_for site m)) && alone seen conflicts m in
        let held = with_if site.held m joins in
        let held_ok = offers_with_if t site.held m joins shape.held o i.held in
        record {
          site_ok = site_stepped_lem t n logged site i seen (with site.stepped m) held (offers_with t site.seen m shape.seen o i.seen)
              (offers_with t site.stepped m shape.stepped o i.stepped) held_ok;
          site_shape = record {
            seen = insert_shape site.seen.words m shape.seen;
            held = shape_with_if site.held m joins shape.held;
            stepped = insert_shape site.stepped.words m shape.stepped;
            finished = shape.finished;
            got = shape.got;
            heard = shape.heard;
            good = shape.good;
            delivered = shape.delivered;
          };
          tally_ok = j;
          union_shape_ok = union;
          sends_ok = (
            (o, refl, own, offers_meet t held conflicts held_ok, intersect_shape held.words conflicts.words (shape_with_if site.held m joins shape.held) (conflict_set_shape setup.matrix t m)),
            tt,
          );
          delivers_ok = tt;
          finished_stays = λ x h. h;
        }

    pub deliver_step : (setup : Setup) (p : ℕ) → setup.n ≡ n → offered t m ≡ true → StepSound logged m p site.finished (on_deliver setup t site tally p m)
    unfolding on_deliver
    deliver_step setup p e o = elim (test (has site.got m)) [
      | inl k ↦ rw k (no_step_lem p)
      | inr k ↦ rw k (record {
        site_ok = site_got_lem t n logged site i (with site.got m) (offers_with t site.got m shape.got o i.got);
        site_shape = record {
          seen = shape.seen;
          held = shape.held;
          stepped = shape.stepped;
          finished = shape.finished;
          got = insert_shape site.got.words m shape.got;
          heard = shape.heard;
          good = shape.good;
          delivered = shape.delivered;
        };
        tally_ok = j;
        union_shape_ok = union;
        sends_ok = relays (eqb p (owner_of t m));
        delivers_ok = (o, tt);
        finished_stays = λ x h. h;
      })
    ]
      where
        relays : (b : Bool) → AllSends (SendSound p site.finished (Rattle.site.specs.Sites.site_got site (with site.got m))) (cond b [] (to_others setup.n p (λ to. deliver m to)))
        relays true = tt
        relays false = all_to_others (SendSound p site.finished (Rattle.site.specs.Sites.site_got site (with site.got m))) setup.n p (λ to. deliver m to) (λ to lt. (o, rw (← e) lt))

    pub entry_step : (p : ℕ) (carried : Set) → offered t m ≡ true → Offers t carried → site.place + 1 ≤ logged → StepSound logged m p site.finished (on_entry site tally m carried)
    unfolding on_entry
    entry_step p carried o c lt = record {
      site_ok = site_place_lem t n logged site i (site.place + 1) lt;
      site_shape = record {
        seen = shape.seen;
        held = shape.held;
        stepped = shape.stepped;
        finished = shape.finished;
        got = shape.got;
        heard = shape.heard;
        good = shape.good;
        delivered = shape.delivered;
      };
      tally_ok = j;
      union_shape_ok = union;
      sends_ok = tt;
      delivers_ok = all_are_offered t m o (members_of carried) (λ x h. c x (sym (listed_members carried.words x) ∙ h));
      finished_stays = λ x h. h;
    }

  module _ (logged : ℕ) (site : Site) (i : SiteSound t n logged site) (shape : SiteShape site) (tally : Tally) (m : ℕ)
      (j : TallySound t n m tally) (union : Shape tally.union) where
    -- SECOND m: late, heard, or the (n - f)th
    pub second_step : (setup : Setup) (p from : ℕ) (good : Bool) → from < n → offered t m ≡ true → owner_of t m < n
        → StepSound logged m p site.finished (on_second setup t site tally m from good)
    unfolding on_second
    second_step setup p from good lt o own =
        cases (has_bit (heard_for site m) from || (leb (quorum setup) (ones (heard_for site m)) || has site.stepped m)) (leb (quorum setup) (ones (plus (heard_for site m) from)))
      where
        after : Site
        after = site_heard site m (plus (heard_for site m) from) (plus_if (good_for site m) from good)

        below : m < capacity
        below = (offered_below t m o).1

        after_ok : SiteSound t n logged after
        after_ok = site_heard_lem t n logged site i m (plus (heard_for site m) from) (plus_if (good_for site m) from good) shape below
            (mask_plus t n m (heard_for site m) from lt o (i.heard m below)) (mask_plus_if t n m (good_for site m) from good lt o (i.good m below))

        after_shape : SiteShape after
        after_shape = record {
          seen = shape.seen;
          held = shape.held;
          stepped = shape.stepped;
          finished = shape.finished;
          got = shape.got;
          heard = length-set site.heard m (plus (heard_for site m) from) ∙ shape.heard;
          good = length-set site.good m (plus_if (good_for site m) from good) ∙ shape.good;
          delivered = shape.delivered;
        }

        cases : (late last : Bool) → StepSound logged m p site.finished (cond late (no_step site tally) (cond last (step_second setup t after tally m) (no_step after tally)))
        cases true last = no_step_lem logged site i shape tally m j union p
        cases false false = no_step_lem logged after after_ok after_shape tally m j union p
        cases false true = step_second_lem logged after after_ok after_shape tally m j union setup p o own

    -- THIRD m at its owner, the (n - f)th: m was not finished before
    third_end : (setup : Setup) (p : ℕ) → setup.n ≡ n → offered t m ≡ true → p ≡ owner_of t m → has site.finished m ≡ false → StepSound logged m p site.finished (step_third setup site tally m)
    unfolding step_third
    third_end setup p e o own fresh = record {
      site_ok = site_finished_lem t n logged site i (with site.finished m) (offers_with t site.finished m shape.finished o i.finished);
      site_shape = record {
        seen = shape.seen;
        held = shape.held;
        stepped = shape.stepped;
        finished = insert_shape site.finished.words m shape.finished;
        got = shape.got;
        heard = shape.heard;
        good = shape.good;
        delivered = shape.delivered;
      };
      tally_ok = j;
      union_shape_ok = union;
      sends_ok = ends (majority setup (bit_and tally.has tally.heard));
      delivers_ok = tt;
      finished_stays = λ x h. has_with x ∙ or_left (has site.finished x) (eqb x m) h;
    }
      where
        done : Site
        done = Rattle.site.specs.Sites.site_finished site (with site.finished m)

        has_with : (x : ℕ) → has (with site.finished m) x ≡ (has site.finished x || eqb x m)
        has_with x = member_insert site.finished.words m x (omega (arith, shape.finished.long, (offered_below t m o).1))

        ends : (b : Bool) → AllSends (SendSound p site.finished done) (cond b (to_all setup.n (λ to. deliver m to)) (entry m tally.union ∷ []))
        ends true = all_to_all (SendSound p site.finished done) setup.n (λ to. deliver m to) (λ to lt. (o, rw (← e) lt))
        ends false = ((o, own, fresh, has_with m ∙ or_right (has site.finished m) (eqb m m) (eq-eqb m m refl), j.union_ok, union), tt)

  module _ (logged : ℕ) (site : Site) (i : SiteSound t n logged site) (shape : SiteShape site) (tally : Tally) (m : ℕ)
      (j : TallySound t n m tally) (union : Shape tally.union) where
    pub third_step : (setup : Setup) (p from : ℕ) (carried : Set) → setup.n ≡ n → from < n → offered t m ≡ true → p ≡ owner_of t m → Offers t carried → Shape carried
        → StepSound logged m p site.finished (on_third setup site tally m from carried)
    unfolding on_third
    third_step setup p from carried e lt o own c shape-c =
        cases (has_bit tally.heard from || (leb (quorum setup) (ones tally.heard) || has site.finished m)) refl (leb (quorum setup) (ones (plus tally.heard from)))
      where
        after : Tally
        after = tallied tally m from carried

        after_ok : TallySound t n m after
        after_ok = record {
          heard_ok = mask_plus t n m tally.heard from lt o j.heard_ok;
          has_ok = mask_plus_if t n m tally.has from (has carried m) lt o j.has_ok;
          union_ok = offers_join t tally.union carried j.union_ok c;
          union_named = λ x k. o;
        }

        after_shape : Shape after.union
        after_shape = union_shape tally.union.words carried.words union shape-c

        cases : (late : Bool) → (has_bit tally.heard from || (leb (quorum setup) (ones tally.heard) || has site.finished m)) ≡ late → (last : Bool)
            → StepSound logged m p site.finished (cond late (no_step site tally) (cond last (step_third setup site after m) (no_step site after)))
        cases true h last = no_step_lem logged site i shape tally m j union p
        cases false h false = no_step_lem logged site i shape after m after_ok after_shape p
        cases false h true =
            let rest = (or_neither (has_bit tally.heard from) (leb (quorum setup) (ones tally.heard) || has site.finished m) h).1 in
            third_end logged site i shape after m after_ok after_shape setup p e o own (or_neither (leb (quorum setup) (ones tally.heard)) (has site.finished m) rest).1
