-- The machine: what n sites hold, what is in flight, and what each step of the algorithm (document 003, Figure 1) does to that.
-- Rests on Deliveries and Counts. A set is a Boolean function; sites, postings and senders are numbers.
use Rattle.std.specs.Prelude.{ℕ, suc, ◌*◌, ◌<◌, ◌≡◌, Bool, true, false, cond, not, ◌&&◌, ◌||◌, List, [], ◌∷◌, ◌++◌, eqb, ltb}
use Rattle.broadcast.specs.Deliveries.{members, deliver_all}
use Rattle.broadcast.specs.Counts.{nowhere, majority}

-- What no step changes: n sites, of which f may fail, the postings' owners, and which postings conflict.
pub record World : Type 0 where
  pub n : ℕ
  pub f : ℕ
  pub few : 2 * f < n
  -- posting numbers are below it
  pub bound : ℕ
  pub owner : ℕ → ℕ
  pub owned : (m : ℕ) → owner m < n
  pub conflict : ℕ → ℕ → Bool
  pub symmetric : (x y : ℕ) → conflict x y ≡ conflict y x
  pub irreflexive : (x : ℕ) → conflict x x ≡ false

-- The sets of a site: site, posting. (held is Figure 1's possibleRB.)
pub record Sets : Type 0 where
  pub seen : ℕ → ℕ → Bool
  pub held : ℕ → ℕ → Bool
  pub stepped : ℕ → ℕ → Bool

-- SECOND: posting, sender, receiver. In flight, and that it says GOOD; heard, and that it said GOOD.
pub record Seconds : Type 0 where
  pub sent : ℕ → ℕ → ℕ → Bool
  pub good : ℕ → ℕ → ℕ → Bool
  pub heard : ℕ → ℕ → ℕ → Bool
  pub agreed : ℕ → ℕ → ℕ → Bool

-- THIRD, to the posting's owner: posting, sender. In flight, and the set that it carries; heard, and that the set had the posting;
-- the union of the sets heard: posting, member.
pub record Thirds : Type 0 where
  pub sent : ℕ → ℕ → Bool
  pub carried : ℕ → ℕ → ℕ → Bool
  pub heard : ℕ → ℕ → Bool
  pub has : ℕ → ℕ → Bool
  pub union : ℕ → ℕ → Bool

-- DELIVER: posting, sender, receiver. In flight; and received: site, posting.
pub record Delivers : Type 0 where
  pub sent : ℕ → ℕ → ℕ → Bool
  pub got : ℕ → ℕ → Bool

-- The atomic broadcast: the postings whose entry is in the pool, the log's postings in order, and the set of a posting's entry.
pub record Oracle : Type 0 where
  pub pool : ℕ → Bool
  pub entry : ℕ → ℕ → Bool
  pub log : List ℕ

-- What else belongs to a site: up or down, how much of the log it has read, and its record.
pub record Sites : Type 0 where
  pub up : ℕ → Bool
  pub place : ℕ → ℕ
  pub delivered : ℕ → List ℕ

pub record State : Type 0 where
  pub offered : ℕ → Bool
  -- FIRST in flight: posting, sender, receiver
  pub firsts : ℕ → ℕ → ℕ → Bool
  pub sets : Sets
  pub seconds : Seconds
  pub thirds : Thirds
  -- by their owners
  pub finished : ℕ → Bool
  pub delivers : Delivers
  pub oracle : Oracle
  pub sites : Sites

-- a state with one part exchanged
abbrev pub set_sets : State → Sets → State
set_sets s v = record { offered = s.offered; firsts = s.firsts; sets = v; seconds = s.seconds; thirds = s.thirds; finished = s.finished; delivers = s.delivers; oracle = s.oracle; sites = s.sites }

abbrev pub set_firsts : State → (ℕ → ℕ → ℕ → Bool) → State
set_firsts s v = record { offered = s.offered; firsts = v; sets = s.sets; seconds = s.seconds; thirds = s.thirds; finished = s.finished; delivers = s.delivers; oracle = s.oracle; sites = s.sites }

abbrev pub set_seconds : State → Seconds → State
set_seconds s v = record { offered = s.offered; firsts = s.firsts; sets = s.sets; seconds = v; thirds = s.thirds; finished = s.finished; delivers = s.delivers; oracle = s.oracle; sites = s.sites }

abbrev pub set_thirds : State → Thirds → State
set_thirds s v = record { offered = s.offered; firsts = s.firsts; sets = s.sets; seconds = s.seconds; thirds = v; finished = s.finished; delivers = s.delivers; oracle = s.oracle; sites = s.sites }

abbrev pub set_finished : State → (ℕ → Bool) → State
set_finished s v = record { offered = s.offered; firsts = s.firsts; sets = s.sets; seconds = s.seconds; thirds = s.thirds; finished = v; delivers = s.delivers; oracle = s.oracle; sites = s.sites }

abbrev pub set_delivers : State → Delivers → State
set_delivers s v = record { offered = s.offered; firsts = s.firsts; sets = s.sets; seconds = s.seconds; thirds = s.thirds; finished = s.finished; delivers = v; oracle = s.oracle; sites = s.sites }

abbrev pub set_oracle : State → Oracle → State
set_oracle s v = record { offered = s.offered; firsts = s.firsts; sets = s.sets; seconds = s.seconds; thirds = s.thirds; finished = s.finished; delivers = s.delivers; oracle = v; sites = s.sites }

abbrev pub set_sites : State → Sites → State
set_sites s v = record { offered = s.offered; firsts = s.firsts; sets = s.sets; seconds = s.seconds; thirds = s.thirds; finished = s.finished; delivers = s.delivers; oracle = s.oracle; sites = v }

abbrev pub set_offered : State → (ℕ → Bool) → State
set_offered s v = record { offered = v; firsts = s.firsts; sets = s.sets; seconds = s.seconds; thirds = s.thirds; finished = s.finished; delivers = s.delivers; oracle = s.oracle; sites = s.sites }

-- How much of a step goes through: all of it; or it is cut, a part of its sends goes out, nothing is delivered, and the site is down.
pub data Cut : Type 0 where
  whole : Cut
  part : (ℕ → Bool) → Cut

-- a send to site t goes out (a pool entry counts as sent to the owner itself)
abbrev pub goes : Cut → ℕ → Bool
goes whole t = true
goes (part out) t = out t

abbrev pub lasts : Cut → Bool
lasts whole = true
lasts (part out) = false

-- tests at one place
abbrev pub at2 : ℕ → ℕ → ℕ → ℕ → Bool
at2 i j a b = eqb i a && eqb j b

abbrev pub at3 : ℕ → ℕ → ℕ → ℕ → ℕ → ℕ → Bool
at3 i j k a b c = eqb i a && (eqb j b && eqb k c)

-- m joins a set of postings; posting m joins the set of site p
abbrev pub with : (ℕ → Bool) → ℕ → ℕ → Bool
with q m x = cond (eqb m x) true (q x)

abbrev pub join : (ℕ → ℕ → Bool) → ℕ → ℕ → ℕ → ℕ → Bool
join q p m a x = cond (at2 p m a x) true (q a x)

-- messages of posting m from r to the sites of a test are sent; the one to p leaves the flight
abbrev pub send : (ℕ → ℕ → ℕ → Bool) → ℕ → ℕ → (ℕ → Bool) → ℕ → ℕ → ℕ → Bool
send q m r to x a b = cond (at2 m r x a && to b) true (q x a b)

abbrev pub take : (ℕ → ℕ → ℕ → Bool) → ℕ → ℕ → ℕ → ℕ → ℕ → ℕ → Bool
take q m r p x a b = cond (at3 m r p x a b) false (q x a b)

module _ (w : World) where
  -- a set has no posting that conflicts with m
  unfoldable pub clear : (ℕ → Bool) → ℕ → Bool
  clear q m = nowhere (λ x. q x && w.conflict m x) w.bound

  -- all sites, as far as the cut lets a send to them go out
  abbrev pub to_all : Cut → ℕ → Bool
  to_all c t = ltb t w.n && goes c t

  -- all sites but p, likewise
  abbrev pub to_others : ℕ → Cut → ℕ → Bool
  to_others p c t = not (eqb p t) && to_all c t

  -- Line 4. To gbroadcast m: its owner sends FIRST to all.
  unfoldable pub send_first : State → ℕ → Cut → State
  send_first s m c = set_offered (set_firsts s (send s.firsts m (w.owner m) (to_all c))) (with s.offered m)

  -- FIRST m from r to p leaves the flight.
  unfoldable pub take_first : State → ℕ → ℕ → ℕ → State
  take_first s m r p = set_firsts s (take s.firsts m r p)

  -- Line 6. m joins seen at p.
  unfoldable pub see : State → ℕ → ℕ → State
  see s m p = set_sets s (record { seen = join s.sets.seen p m; held = s.sets.held; stepped = s.sets.stepped })

  -- Lines 7 to 9. p sends SECOND to all: GOOD if its seen has no posting that conflicts with m, else BAD.
  unfoldable pub send_second : State → ℕ → ℕ → Cut → State
  send_second s m p c =
      set_seconds s
      (record {
        sent = send s.seconds.sent m p (to_all c);
        good = λ x a b. cond (at2 m p x a && to_all c b) (clear (s.sets.seen p) m) (s.seconds.good x a b);
        heard = s.seconds.heard;
        agreed = s.seconds.agreed;
      })

  -- Line 10. SECOND m from r is heard at p, with its verdict.
  unfoldable pub hear_second : State → ℕ → ℕ → ℕ → State
  hear_second s m r p =
      set_seconds s
      (record {
        sent = s.seconds.sent;
        good = s.seconds.good;
        heard = λ x a b. cond (at3 m r p x a b) true (s.seconds.heard x a b);
        agreed = λ x a b. cond (at3 m r p x a b) (s.seconds.good m r p) (s.seconds.agreed x a b);
      })

  -- SECOND m from r to p leaves the flight, with its verdict.
  unfoldable pub take_second : State → ℕ → ℕ → ℕ → State
  take_second s m r p =
      set_seconds s
      (record {
        sent = take s.seconds.sent m r p;
        good = take s.seconds.good m r p;
        heard = s.seconds.heard;
        agreed = s.seconds.agreed;
      })

  -- Lines 12, 13. m may join held at p: more than half of the sites said GOOD, and seen has no posting that conflicts with m.
  abbrev pub joins : State → ℕ → ℕ → Bool
  joins s m p = majority (λ r. s.seconds.agreed m r p) w.n && clear (s.sets.seen p) m

  -- Lines 13, 14. p steps m: m joins stepped, and held if it may.
  unfoldable pub step : State → ℕ → ℕ → State
  step s m p =
      set_sets s
      (record {
        seen = s.sets.seen;
        held = λ a x. cond (at2 p m a x && joins s m p) true (s.sets.held a x);
        stepped = join s.sets.stepped p m;
      })

  -- Line 15. p sends THIRD to m's owner, carrying held's share of C(m).
  unfoldable pub send_third : State → ℕ → ℕ → Cut → State
  send_third s m p c =
      set_thirds s
      (record {
        sent = λ x a. cond (at2 m p x a && goes c (w.owner m)) true (s.thirds.sent x a);
        carried = λ x a y. cond (at2 m p x a && goes c (w.owner m)) (s.sets.held p y && (eqb m y || w.conflict m y)) (s.thirds.carried x a y);
        heard = s.thirds.heard;
        has = s.thirds.has;
        union = s.thirds.union;
      })

  -- Lines 16 to 18. THIRD m from r is heard by m's owner: whether its set has m; the union takes the set in.
  unfoldable pub hear_third : State → ℕ → ℕ → State
  hear_third s m r =
      set_thirds s
      (record {
        sent = s.thirds.sent;
        carried = s.thirds.carried;
        heard = λ x a. cond (at2 m r x a) true (s.thirds.heard x a);
        has = λ x a. cond (at2 m r x a) (s.thirds.carried m r m) (s.thirds.has x a);
        union = λ x y. s.thirds.union x y || eqb m x && s.thirds.carried m r y;
      })

  -- THIRD m from r leaves the flight, with its set.
  unfoldable pub take_third : State → ℕ → ℕ → State
  take_third s m r =
      set_thirds s
      (record {
        sent = λ x a. cond (at2 m r x a) false (s.thirds.sent x a);
        carried = λ x a y. cond (at2 m r x a) false (s.thirds.carried x a y);
        heard = s.thirds.heard;
        has = s.thirds.has;
        union = s.thirds.union;
      })

  -- m is finished by its owner.
  unfoldable pub finish : State → ℕ → State
  finish s m = set_finished s (with s.finished m)

  -- Line 19. p sends DELIVER m to the sites of a test.
  unfoldable pub send_deliver : State → ℕ → ℕ → (ℕ → Bool) → State
  send_deliver s m p to = set_delivers s (record { sent = send s.delivers.sent m p to; got = s.delivers.got })

  -- Line 20. The entry of m, with the union of the carried sets, goes into the pool.
  unfoldable pub enter_pool : State → ℕ → Cut → State
  enter_pool s m c =
      set_oracle s
      (record {
        pool = λ x. cond (eqb m x && goes c (w.owner m)) true (s.oracle.pool x);
        entry = λ x y. cond (eqb m x && goes c (w.owner m)) (s.thirds.union m y) (s.oracle.entry x y);
        log = s.oracle.log;
      })

  -- DELIVER m from r to p leaves the flight.
  unfoldable pub take_deliver : State → ℕ → ℕ → ℕ → State
  take_deliver s m r p = set_delivers s (record { sent = take s.delivers.sent m r p; got = s.delivers.got })

  -- Line 21. p has got DELIVER m.
  unfoldable pub get : State → ℕ → ℕ → State
  get s m p = set_delivers s (record { sent = s.delivers.sent; got = join s.delivers.got p m })

  -- Lines 21 and 23 to 25. The postings of a list are delivered at p, each only if absent; where the step is cut, none is.
  unfoldable pub deliver_at : State → ℕ → List ℕ → Cut → State
  deliver_at s p l c =
      set_sites s
      (record {
        up = s.sites.up;
        place = s.sites.place;
        delivered = λ a. cond (lasts c && eqb p a) (deliver_all (s.sites.delivered a) l) (s.sites.delivered a);
      })

  -- The atomic broadcast moves m's entry from the pool to the log's end.
  unfoldable pub append : State → ℕ → State
  append s m =
      set_oracle s
      (record {
        pool = λ x. cond (eqb m x) false (s.oracle.pool x);
        entry = s.oracle.entry;
        log = s.oracle.log ++ (m ∷ []);
      })

  -- p has read one entry more.
  unfoldable pub advance : State → ℕ → State
  advance s p =
      set_sites s
      (record {
        up = s.sites.up;
        place = λ a. cond (eqb p a) (suc (s.sites.place a)) (s.sites.place a);
        delivered = s.sites.delivered;
      })

  -- what the entry of m delivers: its set in rising number, then m
  unfoldable pub entry_of : (ℕ → ℕ → Bool) → ℕ → List ℕ
  entry_of entry m = members (entry m) w.bound ++ (m ∷ [])

  -- what all entries of a log deliver, in order
  abbrev pub expand : (ℕ → ℕ → Bool) → List ℕ → List ℕ
  expand entry [] = []
  expand entry (m ∷ l) = entry_of entry m ++ expand entry l

  -- Site p goes down.
  unfoldable pub down : State → ℕ → State
  down s p =
      set_sites s
      (record {
        up = λ a. cond (eqb p a) false (s.sites.up a);
        place = s.sites.place;
        delivered = s.sites.delivered;
      })

  -- a cut step leaves its site down
  abbrev pub down_if : Cut → State → ℕ → State
  down_if c s p = cond (lasts c) s (down s p)
