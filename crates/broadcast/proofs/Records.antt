-- What a site's record says of the log (R1 to R4): no posting twice, all that the site has read, and of what did not come by
-- DELIVER, only what it has read, in the log's order. Rests on Lists, Machine, Runs, Late, Steps, Tests, Counts, Tallies, Ending and Safety. Assumes nothing.
use Prim.Native.Nat.{ℕ, suc, ◌-◌, ◌<◌, ◌≤◌}
use mathlib.Core.Path.{◌≡◌, refl, sym, ap, ◌∙◌}
use mathlib.Core.Logic.{◌⊎◌, inl, inr}
use mathlib.Core.Bool.{Bool, true, false, cond, ◌&&◌}
use mathlib.Core.List.{List, [], ◌∷◌, ◌++◌, append_assoc, append-nil}
use native.Mathlib.Omega.{arith}
use lib.Dec.{eqb, leb}
use lib.ListN.{length, take, drop, get_or, length-append, take-append-drop}
use lib.Seq.{take-suc, take-append-le}
use Rattle.broadcast.specs.Lists.{In, NoRepeat, Before, mem}
use Rattle.broadcast.specs.Deliveries.{Ahead, members, deliver, deliver_all}
use Rattle.broadcast.specs.Machine.{World, Oracle, Sites, State, Cut, whole, part, at2, entry_of, expand, down, down_if, send_first, take_first, see, send_second, hear_second, take_second, hear_third, take_third, finish, take_deliver, get, deliver_at, append, advance}
use Rattle.broadcast.specs.Runs.{heard_of, late_second, late_third, on_offer, on_first, on_second, on_third, on_deliver, on_order, on_read, count_third, conclude, relay, arrive, Event, offer, first, second, third, order, read, crash, Allowed, does, blank, Reached, start, next}
use Rattle.broadcast.proofs.Late.{third_in_time}
use Rattle.broadcast.proofs.Steps.{conclude_entry_other, after_count_second, after_conclude, after_relay}
use Rattle.broadcast.proofs.Tests.{test, nope, either, and_l, from, stays, eqb-true, eqb_yes, eqb_no, at2_true, not-false}
use Rattle.broadcast.proofs.Counts.{count_mono, majority_more, more_majority}
use Rattle.broadcast.proofs.Lists.{mem_in, not_in, in_one, in_left, in_right, in_cases, before_append, before_join, norepeat_snoc, ahead_part, ahead_last, deliver_old, deliver_new, deliver_cases, deliver_all_old, deliver_all_cases, members_in, members_ext}
use Rattle.broadcast.proofs.Tallies.{Tallies}
use Rattle.broadcast.proofs.Ending.{won}
use Rattle.broadcast.proofs.Safety.{Safe, safe}

-- A record after the postings of a list were read; `fast` tells what may also have come by DELIVER.
pub record Read (fast : ℕ → Bool) (l r : List ℕ) : Type 0 where
  pub once : NoRepeat r
  pub all : (x : ℕ) → In x l → In x r
  pub order : (y : ℕ) → In y r → fast y ≡ false → In y l × ((x : ℕ) → Ahead x y l → Before x y r)

module _ (fast : ℕ → Bool) where
  read_next : (l r : List ℕ) (z : ℕ) → Read fast l r → Read fast (l ++ (z ∷ [])) (deliver r z)
  unfolding deliver
  read_next l r z i = elim (test (mem z r)) [
    | inl t ↦ rw t (record {
      once = i.once;
      all = λ x m. elim (in_cases x l (z ∷ []) m) [ inl k ↦ i.all x k | inr k ↦ rw (in_one k) (mem_in z r t) ];
      order = λ y m f. let (a, b) = i.order y m f in (in_left y l (z ∷ []) a, λ x h. b x (ahead_part x y l (z ∷ []) a h));
    })
    | inr t ↦ rw t (record {
      once = norepeat_snoc z r i.once (not_in z r t);
      all = λ x m. elim (in_cases x l (z ∷ []) m) [ inl k ↦ in_left x r (z ∷ []) (i.all x k) | inr k ↦ in_right x r (z ∷ []) k ];
      order = λ y m f. elim (in_cases y r (z ∷ []) m) [
        | inl k ↦ let (a, b) = i.order y k f in
            (in_left y l (z ∷ []) a, λ x h. before_append x y r (z ∷ []) (b x (ahead_part x y l (z ∷ []) a h)))
        | inr k ↦ (in_right y l (z ∷ []) k, λ x h. before_join x y r (z ∷ []) (i.all x (ahead_last x y l (rw (in_one k) (rw (in_one k) at h)))) k)
      ];
    })
  ]

  pub read_all : (l r g : List ℕ) → Read fast l r → Read fast (l ++ g) (deliver_all r g)
  read_all l r [] i = rw append-nil i
  read_all l r (z ∷ g) i = rw append_assoc at (read_all (l ++ (z ∷ [])) (deliver r z) g (read_next l r z i))

  -- a posting comes by DELIVER
  pub read_fast : (l r : List ℕ) (z : ℕ) → fast z ≡ true → Read fast l r → Read fast l (deliver r z)
  unfolding deliver
  read_fast l r z fz i = elim (test (mem z r)) [
    | inl t ↦ rw t i
    | inr t ↦ rw t (record {
      once = norepeat_snoc z r i.once (not_in z r t);
      all = λ x m. in_left x r (z ∷ []) (i.all x m);
      order = λ y m f. elim (in_cases y r (z ∷ []) m) [
        | inl k ↦ let (a, b) = i.order y k f in (a, λ x h. before_append x y r (z ∷ []) (b x h))
        | inr k ↦ absurd (nope fz (rw (in_one k) at f))
      ];
    })
  ]

pub read_more : (fast fast' : ℕ → Bool) (l r : List ℕ) → ((x : ℕ) → fast x ≡ true → fast' x ≡ true) → Read fast l r → Read fast' l r
read_more fast fast' l r up i = record {
  once = i.once;
  all = i.all;
  order = λ y m f. i.order y m (not-false (fast y) (λ t. nope (up y t) f));
}

-- What a site holds: `log` is what all entries deliver, `place` what those entries deliver that the site has gone past.
pub record Recorded (fast : ℕ → Bool) (log place : List ℕ) (up : Bool) (got : ℕ → Bool) (r : List ℕ) : Type 0 where
  -- what it has read
  pub done : List ℕ
  pub rest : List ℕ
  pub split : log ≡ done ++ rest
  pub reads : Read fast done r
  -- R2
  pub came : (x : ℕ) → In x r → (got x ≡ true) ⊎ In x done
  -- R3: a site that is up has delivered all that it read and got
  pub all_read : up ≡ true → done ≡ place
  pub all_got : up ≡ true → (x : ℕ) → got x ≡ true → In x r

module _ (w : World) where
  -- a list of entries, one more at its end
  pub expand_append : (entry : ℕ → ℕ → Bool) (l g : List ℕ) → expand w entry (l ++ g) ≡ expand w entry l ++ expand w entry g
  expand_append entry [] g = refl
  expand_append entry (m ∷ l) g = simp (expand_append entry l g, append_assoc)

  pub entry_ext : (e e' : ℕ → ℕ → Bool) (m : ℕ) → ((x : ℕ) → e' m x ≡ e m x) → entry_of w e' m ≡ entry_of w e m
  unfolding entry_of
  entry_ext e e' m h = rw (members_ext (e' m) (e m) w.bound (λ x _. h x))

  pub expand_ext : (e e' : ℕ → ℕ → Bool) (l : List ℕ) → ((m : ℕ) → In m l → entry_of w e' m ≡ entry_of w e m) → expand w e' l ≡ expand w e l
  expand_ext e e' [] h = refl
  expand_ext e e' (m ∷ l) h = rw (h m (inl refl), expand_ext e e' l (λ x k. h x (inr k)))

  -- what an entry delivers: its posting, or one of its set; and what a list of entries does
  pub entry_in : (entry : ℕ → ℕ → Bool) (m x : ℕ) → In x (entry_of w entry m) → (x ≡ m) ⊎ (entry m x ≡ true)
  unfolding entry_of
  entry_in entry m x h = elim (in_cases x (members (entry m) w.bound) (m ∷ []) h) [
    | inl k ↦ inr (members_in (entry m) x w.bound k).1
    | inr k ↦ inl (in_one k)
  ]

  pub in_expand : (entry : ℕ → ℕ → Bool) (m x : ℕ) (log : List ℕ) → In m log → In x (entry_of w entry m) → In x (expand w entry log)
  in_expand entry m x [] x3 h = elim x3 [ ]
  in_expand entry m x (y ∷ l) (inl e) h = in_left x (entry_of w entry y) (expand w entry l) (rw (← e) h)
  in_expand entry m x (y ∷ l) (inr k) h = in_right x (entry_of w entry y) (expand w entry l) (in_expand entry m x l k h)

  pub expand_in : (entry : ℕ → ℕ → Bool) (log : List ℕ) (x : ℕ) → In x (expand w entry log) → In x log ⊎ ((m : ℕ) × In m log × (entry m x ≡ true))
  expand_in entry [] x h = elim h [ ]
  expand_in entry (m ∷ l) x h = elim (in_cases x (entry_of w entry m) (expand w entry l) h) [
    | inl k ↦ elim (entry_in entry m x k) [ inl e ↦ inl (inl e) | inr q ↦ inr (m, inl refl, q) ]
    | inr k ↦ elim (expand_in entry l x k) [ inl q ↦ inl (inr q) | inr q ↦ inr (q.0, inr q.1, q.2) ]
  ]

  abbrev pub RecordedIn : (ℕ → Bool) → (ℕ → ℕ → Bool) → Oracle → Sites → ℕ → Type 0
  RecordedIn fast got o v p = Recorded fast (expand w o.entry o.log) (expand w o.entry (take (v.place p) o.log)) (v.up p) (got p) (v.delivered p)

  pub record Records (fast : ℕ → Bool) (got : ℕ → ℕ → Bool) (o : Oracle) (v : Sites) : Type 0 where
    pub places : (p : ℕ) → v.place p ≤ length o.log
    pub each : (p : ℕ) → RecordedIn fast got o v p

  abbrev pub RecordsOf : State → Type 0
  RecordsOf s = Records (won w s.thirds) s.delivers.got s.oracle s.sites

  -- a site goes down
  down_one : (fast : ℕ → Bool) (log place place' : List ℕ) (up : Bool) (got got' : ℕ → Bool) (r : List ℕ) → ((x : ℕ) → got x ≡ true → got' x ≡ true)
      → Recorded fast log place up got r → Recorded fast log place' false got' r
  down_one fast log place place' up got got' r more i = record {
    done = i.done;
    rest = i.rest;
    split = i.split;
    reads = i.reads;
    came = λ x m. elim (i.came x m) [ inl g ↦ inl (more x g) | inr k ↦ inr k ];
    all_read = λ h. absurd (nope h refl);
    all_got = λ h. absurd (nope h refl);
  }

  -- the site that b marks gets DELIVER m
  arrive_one : (b : Bool) (m : ℕ) (fast : ℕ → Bool) (log place : List ℕ) (up : Bool) (got : ℕ → Bool) (r : List ℕ) → fast m ≡ true
      → Recorded fast log place up got r
      → Recorded fast log place up (λ x. cond (b && eqb m x) true (got x)) (cond b (deliver r m) r)
  arrive_one false m fast log place up got r fm i = i
  arrive_one true m fast log place up got r fm i = record {
    done = i.done;
    rest = i.rest;
    split = i.split;
    reads = read_fast fast i.done r m fm i.reads;
    came = λ x k. elim (deliver_cases r m x k) [
      | inl h ↦ elim (i.came x h) [ inl g ↦ inl (stays (eqb m x) (got x) g) | inr d ↦ inr d ]
      | inr h ↦ inl (rw (eqb_yes m x (sym h)))
    ];
    all_read = i.all_read;
    all_got = λ u x h. elim (from (eqb m x) true (got x) h) [
      | inl k ↦ rw (← eqb-true m x k.0) (deliver_new r m)
      | inr k ↦ deliver_old r m x (i.all_got u x k)
    ];
  }

  -- the site that b marks goes down, whatever it got
  cut_one : (b : Bool) (fast : ℕ → Bool) (log place : List ℕ) (up : Bool) (got got' : ℕ → Bool) (r : List ℕ) → ((x : ℕ) → got x ≡ true → got' x ≡ true)
      → (b ≡ false → (x : ℕ) → got' x ≡ true → got x ≡ true) → Recorded fast log place up got r → Recorded fast log place (cond b false up) got' r
  cut_one true fast log place up got got' r more same i = down_one fast log place place up got got' r more i
  cut_one false fast log place up got got' r more same i = record {
    done = i.done;
    rest = i.rest;
    split = i.split;
    reads = i.reads;
    came = λ x m. elim (i.came x m) [ inl g ↦ inl (more x g) | inr k ↦ inr k ];
    all_read = i.all_read;
    all_got = λ u x h. i.all_got u x (same refl x h);
  }

  -- the site that b marks reads the next entry
  read_place : (b : Bool) (place n : ℕ) → (b ≡ true → place < n) → place ≤ n → cond b (suc place) place ≤ n
  read_place true place n lt le = lt refl
  read_place false place n lt le = le

  read_one : {fast : ℕ → Bool} (b : Bool) (entry : ℕ → ℕ → Bool) (log : List ℕ) (here place : ℕ) (up : Bool) (got : ℕ → Bool) (r : List ℕ)
      → (b ≡ true → (here ≡ place) × (up ≡ true) × (here < length log))
      → Recorded fast (expand w entry log) (expand w entry (take place log)) up got r
      → Recorded fast (expand w entry log) (expand w entry (take (cond b (suc place) place) log)) up got
      (cond b (deliver_all r (entry_of w entry (get_or log here 0))) r)
  read_one false entry log here place up got r at i = i
  read_one {fast} true entry log here place up got r at i =
      let (e, u, lt) = at refl in
      let one = entry_of w entry (get_or log here 0) in
      let past : expand w entry (take here log) ≡ i.done = rw e (sym (i.all_read u)) in
      let grown : expand w entry (take (suc place) log) ≡ i.done ++ one =
      rw (← e) (simp (take-suc log here 0 lt, expand_append, append-nil, past)) in
      record {
        done = expand w entry (take (suc place) log);
        rest = expand w entry (drop (suc place) log);
        split = ap (expand w entry) (sym (take-append-drop (suc place) log)) ∙ expand_append entry (take (suc place) log) (drop (suc place) log);
        reads = rw grown (read_all fast i.done r one i.reads);
        came = λ x m. elim (deliver_all_cases r one x m) [
          | inl k ↦ elim (i.came x k) [ inl g ↦ inl g | inr d ↦ inr (rw grown (in_left x i.done one d)) ]
          | inr k ↦ inr (rw grown (in_right x i.done one k))
        ];
        all_read = λ h. refl;
        all_got = λ h x g. deliver_all_old r one x (i.all_got h x g);
      }

  -- the site that b marks goes past the next entry, and down
  skip_one : {fast : ℕ → Bool} (b : Bool) (entry : ℕ → ℕ → Bool) (log : List ℕ) (place : ℕ) (up : Bool) (got : ℕ → Bool) (r : List ℕ)
      → Recorded fast (expand w entry log) (expand w entry (take place log)) up got r
      → Recorded fast (expand w entry log) (expand w entry (take (cond b (suc place) place) log)) (cond b false up) got r
  skip_one {fast} true entry log place up got r i = down_one fast (expand w entry log) (expand w entry (take place log)) (expand w entry (take (suc place) log)) up got got r (λ x h. h) i
  skip_one false entry log place up got r i = i

  -- the small steps
  module _ (s : State) (i : RecordsOf s) where
    records_down : (p : ℕ) → RecordsOf (down w s p)
    unfolding down
    records_down p = record {
      places = i.places;
      each = λ a. elim (test (eqb p a)) [
        | inl e ↦ rw e (down_one _ _ _ _ _ _ _ _ (λ x h. h) (i.each a))
        | inr e ↦ rw e (i.each a)
      ];
    }

    records_down_if : (c : Cut) (p : ℕ) → RecordsOf (down_if w c s p)
    records_down_if whole p = i
    records_down_if (part out) p = records_down p

    -- a THIRD is heard for the first time: more may come by DELIVER
    records_hear_third : Tallies w s.sets s.thirds → (m r : ℕ) → s.thirds.heard m r ≡ false → RecordsOf (hear_third w s m r)
    unfolding hear_third
    records_hear_third j m r fresh = record {
      places = i.places;
      each = λ a. record {
        done = (i.each a).done;
        rest = (i.each a).rest;
        split = (i.each a).split;
        reads = read_more (won w s.thirds) (won w (hear_third w s m r).thirds) (i.each a).done (s.sites.delivered a) more (i.each a).reads;
        came = (i.each a).came;
        all_read = (i.each a).all_read;
        all_got = (i.each a).all_got;
      };
    }
      where
        keeps : (x q : ℕ) → s.thirds.has x q ≡ true → (hear_third w s m r).thirds.has x q ≡ true
        keeps x q h = elim (test (at2 m r x q)) [
          | inl u ↦ let e = at2_true m r x q u in absurd (nope (j.has_heard x q h) (rw (e.0, e.1) at fresh))
          | inr u ↦ rw u h
        ]

        more : (x : ℕ) → won w s.thirds x ≡ true → won w (hear_third w s m r).thirds x ≡ true
        more x h =
            let many = majority_more (λ q. s.thirds.has x q) w.n h in
            let grows = count_mono (λ q. s.thirds.has x q) (λ q. (hear_third w s m r).thirds.has x q) w.n (λ q _. keeps x q) in
            more_majority (λ q. (hear_third w s m r).thirds.has x q) w.n (omega arith)

    -- m is finished: the log's entries stay
    records_conclude : (m : ℕ) (c : Cut) → ¬ In m s.oracle.log → RecordsOf (conclude w s m c)
    records_conclude m c not-log =
        after_conclude w s (λ t. ((x y : ℕ) → eqb m x ≡ false → t.oracle.entry x y ≡ s.oracle.entry x y) → RecordsOf t) m c
        (λ sent pool entry other. record {
          places = i.places;
          each = λ a.
              let old = i.each a in
              let log = s.oracle.log in
              let past = take (s.sites.place a) log in
              let same : (l : List ℕ) → ((x : ℕ) → In x l → In x log) → expand w entry l ≡ expand w s.oracle.entry l = λ l sub.
              expand_ext s.oracle.entry entry l (λ x k. entry_ext s.oracle.entry entry x (λ y. other x y (eqb_no m x (λ e. not-log (rw e (sub x k)))))) in
              record {
                done = old.done;
                rest = old.rest;
                split = same log (λ x k. k) ∙ old.split;
                reads = old.reads;
                came = old.came;
                all_read = λ u. old.all_read u ∙ sym (same past (λ x k. rw (take-append-drop (s.sites.place a) log) at (in_left x past (drop (s.sites.place a) log) k)));
                all_got = old.all_got;
              };
        })
        (λ x y. conclude_entry_other w s m c x y)

    -- an entry joins the log
    records_append : (m : ℕ) → RecordsOf (append w s m)
    unfolding append
    records_append m = record {
      places = λ p. omega (arith, i.places p, length-append s.oracle.log (m ∷ []));
      each = λ a.
          let old = i.each a in
          record {
            done = old.done;
            rest = old.rest ++ expand w s.oracle.entry (m ∷ []);
            split = simp (expand_append, old.split, append_assoc);
            reads = old.reads;
            came = old.came;
            all_read = λ u. old.all_read u ∙ ap (expand w s.oracle.entry) (sym (take-append-le (s.sites.place a) s.oracle.log (m ∷ []) (i.places a)));
            all_got = old.all_got;
          };
    }

    -- DELIVER m is got at p and m is delivered there; or p goes down, whether it has delivered m or not
    records_get : (m r p : ℕ) → won w s.thirds m ≡ true → RecordsOf (take_deliver w (deliver_at w (get w s m p) p (m ∷ []) whole) m r p)
    unfolding take_deliver deliver_at get
    records_get m r p fast = record {
      places = i.places;
      each = λ a. arrive_one (eqb p a) m _ _ _ (s.sites.up a) (s.delivers.got a) (s.sites.delivered a) fast (i.each a);
    }

  module _ (s : State) (i : RecordsOf s) where
    records_cut : (m r p : ℕ) (c : Cut) → won w s.thirds m ≡ true → RecordsOf (down w (take_deliver w (deliver_at w (get w s m p) p (m ∷ []) c) m r p) p)
    records_cut m r p whole fast = records_down _ (records_get s i m r p fast) p
    records_cut m r p (part out) fast = unfold take_deliver deliver_at get down in record {
      places = i.places;
      each = λ a. cut_one (eqb p a) _ _ _ (s.sites.up a) (s.delivers.got a) (λ x. cond (at2 p m a x) true (s.delivers.got a x)) (s.sites.delivered a)
          (λ x h. stays (at2 p m a x) (s.delivers.got a x) h)
          (λ e x h. elim (from (at2 p m a x) true (s.delivers.got a x) h) [ inl u ↦ absurd (nope (and_l (eqb p a) (eqb m x) u.0) e) | inr o ↦ o ])
          (i.each a);
    }

  module _ (s : State) (i : RecordsOf s) where
    records_relay : (m p : ℕ) (c : Cut) → RecordsOf (relay w s m p c)
    records_relay m p c = after_relay w s RecordsOf m p c (λ _. i)

    relay_won : (m p : ℕ) (c : Cut) → won w s.thirds m ≡ true → won w (relay w s m p c).thirds m ≡ true
    relay_won m p c fast = after_relay w s (λ t. won w t.thirds m ≡ true) m p c (λ _. fast)

    records_arrive : (m r p : ℕ) (c : Cut) → won w s.thirds m ≡ true → RecordsOf (down_if w c (take_deliver w (arrive w s m p c) m r p) p)
    unfolding arrive
    records_arrive m r p whole fast = records_get _ (records_relay m p whole) m r p (relay_won m p whole fast)
    records_arrive m r p (part out) fast = records_cut _ (records_relay m p (part out)) m r p _ (relay_won m p (part out) fast)

    -- a reading at p, whole or cut
    records_read : (p : ℕ) (c : Cut) → s.sites.up p ≡ true → s.sites.place p < length s.oracle.log → RecordsOf (on_read w s p c)
    records_read p whole up lt = unfold on_read deliver_at advance in record {
      places = λ a. read_place (eqb p a) (s.sites.place a) (length s.oracle.log) (λ e. rw (← eqb-true p a e) lt) (i.places a);
      each = λ a. read_one (eqb p a) s.oracle.entry s.oracle.log (s.sites.place p) (s.sites.place a) (s.sites.up a) (s.delivers.got a) (s.sites.delivered a)
          (λ e. (ap s.sites.place (eqb-true p a e), rw (← eqb-true p a e) up, lt)) (i.each a);
    }
    records_read p (part out) up lt = unfold on_read deliver_at advance down in record {
      places = λ a. read_place (eqb p a) (s.sites.place a) (length s.oracle.log) (λ e. rw (← eqb-true p a e) lt) (i.places a);
      each = λ a. skip_one (eqb p a) s.oracle.entry s.oracle.log (s.sites.place a) (s.sites.up a) (s.delivers.got a) (s.sites.delivered a) (i.each a);
    }

  -- the events
  module _ (s : State) (j : Safe w s) (i : RecordsOf s) where
    records_second : (m r p : ℕ) (c : Cut) → RecordsOf (on_second w s m r p c)
    unfolding on_second take_second hear_second
    records_second m r p c =
        records_down_if _ (either RecordsOf (late_second w s m r p) _ _ (λ _. i) (λ _. after_count_second w _ RecordsOf m p c (λ _ _ _. i))) c p

    records_third : (m r : ℕ) (c : Cut) → s.thirds.sent m r ≡ true → RecordsOf (on_third w s m r c)
    unfolding on_third
    records_third m r c here =
        records_down_if _ (taken _ (either RecordsOf (late_third w s m r) _ _ (λ _. i) (λ t.
        let (fresh, open-m) = third_in_time w s m r t in
        counted (hear_third w s m r) (records_hear_third s i j.tallies m r fresh) (unfold hear_third in λ h. nope (j.ending.log_slow m h).done open-m)))) c (w.owner m)
      where
        taken : (t : State) → RecordsOf t → RecordsOf (take_third w t m r)
        taken t h = unfold take_third in h

        counted : (t : State) → RecordsOf t → ¬ In m t.oracle.log → RecordsOf (count_third w t m c)
        counted t h not-log = unfold count_third in either RecordsOf (leb (w.n - w.f) (heard_of w t m)) _ _
            (λ _. records_conclude (finish w t m) (unfold finish in h) m c (unfold finish in not-log)) (λ _. h)

    records_deliver : (m r p : ℕ) (c : Cut) → s.delivers.sent m r p ≡ true → RecordsOf (on_deliver w s m r p c)
    unfolding on_deliver
    records_deliver m r p c here =
        either (λ t. RecordsOf (down_if w c (take_deliver w t m r p) p)) (s.delivers.got p m) _ _
        (λ _. records_down_if (take_deliver w s m r p) (unfold take_deliver in i) c p)
        (λ _. records_arrive s i m r p c (j.ending.sent_fast m r p here).most)

    records_does : (e : Event) → Allowed w s e → RecordsOf (does w s e)
    records_does (offer m c) ok = unfold on_offer in records_down_if (send_first w s m c) (unfold send_first in i) c (w.owner m)
    records_does (first m r p c) ok =
        unfold on_first in records_down_if (send_second w (see w (take_first w s m r p) m p) m p c) (unfold send_second see take_first in i) c p
    records_does (second m r p c) ok = records_second m r p c
    records_does (third m r c) ok = records_third m r c ok.0
    records_does (Event.deliver m r p c) ok = records_deliver m r p c ok.0
    records_does (order m) ok = unfold on_order in records_append s i m
    records_does (read p c) ok = records_read s i p c ok.1 ok.2
    records_does (crash p) ok = records_down s i p

  records_blank : RecordsOf blank
  unfolding blank
  records_blank = record {
    places = λ p. omega arith;
    each = λ p. record {
      done = [];
      rest = [];
      split = refl;
      reads = record { once = tt; all = λ x m. m; order = λ y m. absurd m };
      came = λ x m. absurd m;
      all_read = λ h. refl;
      all_got = λ h x g. absurd (nope g refl);
    };
  }

  pub records : {es : List Event} {s : State} → Reached w es s → RecordsOf s
  records start = records_blank
  records (next {es} {s} r e ok) = records_does s (safe w r) (records r) e ok
