-- The events, whole and cut, as compositions of the machine's steps; when one may happen; what a run reaches.
-- Rests on Machine. The order of the events is Figure 1's; document 01, "What a site does", has the same in words.
use Rattle.std.specs.Prelude.{ℕ, ◌-◌, ◌+◌, ◌<◌, ◌≤◌, ◌≡◌, Bool, true, false, cond, not, ◌||◌, List, [], ◌∷◌, eqb, leb, get_or, length}
use Rattle.broadcast.specs.Counts.{bit, count, majority}
use Rattle.broadcast.specs.Machine.{World, State, Cut, whole, part, to_all, to_others, down_if, down, send_first, take_first, see, send_second, hear_second, take_second, step, send_third, hear_third, take_third, finish, send_deliver, enter_pool, take_deliver, get, deliver_at, append, advance, entry_of}

module _ (w : World) where
  -- how many sites p has heard for m in the second round, and m's owner in the third
  abbrev pub heard_at : State → ℕ → ℕ → ℕ
  heard_at s m p = count (λ r. s.seconds.heard m r p) w.n

  abbrev pub heard_of : State → ℕ → ℕ
  heard_of s m = count (λ r. s.thirds.heard m r) w.n

  -- a SECOND or THIRD without effect: its sender was heard, or n - f were heard, or the step is done
  abbrev pub late_second : State → ℕ → ℕ → ℕ → Bool
  late_second s m r p = s.seconds.heard m r p || (leb (w.n - w.f) (heard_at s m p) || s.sets.stepped p m)

  abbrev pub late_third : State → ℕ → ℕ → Bool
  late_third s m r = s.thirds.heard m r || (leb (w.n - w.f) (heard_of s m) || s.finished m)

  -- Offer m.
  unfoldable pub on_offer : State → ℕ → Cut → State
  on_offer s m c = down_if w c (send_first w s m c) (w.owner m)

  -- FIRST m from r at p.
  unfoldable pub on_first : State → ℕ → ℕ → ℕ → Cut → State
  on_first s m r p c = down_if w c (send_second w (see w (take_first w s m r p) m p) m p c) p

  -- SECOND m has been heard at p: where this is the (n - f)th, p steps m and sends THIRD.
  unfoldable pub count_second : State → ℕ → ℕ → Cut → State
  count_second s m p c = cond (leb (w.n - w.f) (heard_at s m p)) (send_third w (step w (see w s m p) m p) m p c) s

  -- SECOND m from r at p.
  unfoldable pub on_second : State → ℕ → ℕ → ℕ → Cut → State
  on_second s m r p c =
      down_if w c (take_second w (cond (late_second s m r p) s (count_second (hear_second w s m r p) m p c)) m r p) p

  -- m is finished: DELIVER goes to all if the sets of more than half of the sites had m, else the entry goes into the pool.
  unfoldable pub conclude : State → ℕ → Cut → State
  conclude s m c =
      cond (majority (λ r. s.thirds.has m r) w.n) (send_deliver w s m (w.owner m) (to_all w c)) (enter_pool w s m c)

  -- THIRD m has been heard by its owner: where this is the (n - f)th, m is finished.
  unfoldable pub count_third : State → ℕ → Cut → State
  count_third s m c = cond (leb (w.n - w.f) (heard_of s m)) (conclude (finish w s m) m c) s

  -- THIRD m from r at m's owner.
  unfoldable pub on_third : State → ℕ → ℕ → Cut → State
  on_third s m r c =
      down_if w c (take_third w (cond (late_third s m r) s (count_third (hear_third w s m r) m c)) m r) (w.owner m)

  -- The reliable broadcast: a site other than the owner sends DELIVER m to all but itself.
  unfoldable pub relay : State → ℕ → ℕ → Cut → State
  relay s m p c = cond (eqb p (w.owner m)) s (send_deliver w s m p (to_others w p c))

  -- DELIVER m is at p for the first time: p relays it, then delivers.
  unfoldable pub arrive : State → ℕ → ℕ → Cut → State
  arrive s m p c = deliver_at w (get w (relay s m p c) m p) p (m ∷ []) c

  -- DELIVER m from r at p: the first receipt counts, a later one has no effect.
  unfoldable pub on_deliver : State → ℕ → ℕ → ℕ → Cut → State
  on_deliver s m r p c = down_if w c (take_deliver w (cond (s.delivers.got p m) s (arrive s m p c)) m r p) p

  -- Order m.
  unfoldable pub on_order : State → ℕ → State
  on_order s m = append w s m

  -- the posting of the entry that p reads next
  abbrev pub next_at : State → ℕ → ℕ
  next_at s p = get_or s.oracle.log (s.sites.place p) 0

  -- Read at p: the log's next entry is delivered.
  unfoldable pub on_read : State → ℕ → Cut → State
  on_read s p c = down_if w c (deliver_at w (advance w s p) p (entry_of w s.oracle.entry (next_at s p)) c) p

  -- how many sites are down
  abbrev pub lost : State → ℕ
  lost s = count (λ p. not (s.sites.up p)) w.n

  -- if the step is cut, one crash more is allowed
  abbrev pub MayCut : State → Cut → Type 0
  MayCut s whole = Unit {0}
  MayCut s (part out) = lost s < w.f

pub data Event : Type 0 where
  offer : ℕ → Cut → Event
  first : ℕ → ℕ → ℕ → Cut → Event
  second : ℕ → ℕ → ℕ → Cut → Event
  third : ℕ → ℕ → Cut → Event
  deliver : ℕ → ℕ → ℕ → Cut → Event
  order : ℕ → Event
  read : ℕ → Cut → Event
  crash : ℕ → Event

-- a message to a site p that is up, from a site r
pub record Receipt (w : World) (s : State) (r p : ℕ) (c : Cut) : Type 0 where
  pub sender : r < w.n
  pub receiver : p < w.n
  pub up : s.sites.up p ≡ true
  pub may_cut : MayCut w s c

-- Which events may happen.
abbrev pub Allowed : World → State → Event → Type 0
Allowed w s (offer m c) = (m < w.bound) × (s.offered m ≡ false) × (s.sites.up (w.owner m) ≡ true) × MayCut w s c
Allowed w s (first m r p c) = (s.firsts m r p ≡ true) × Receipt w s r p c
Allowed w s (second m r p c) = (s.seconds.sent m r p ≡ true) × Receipt w s r p c
Allowed w s (third m r c) = (s.thirds.sent m r ≡ true) × Receipt w s r (w.owner m) c
Allowed w s (deliver m r p c) = (s.delivers.sent m r p ≡ true) × Receipt w s r p c
Allowed w s (order m) = s.oracle.pool m ≡ true
Allowed w s (read p c) = (p < w.n) × (s.sites.up p ≡ true) × (s.sites.place p < length s.oracle.log) × MayCut w s c
Allowed w s (crash p) = (p < w.n) × (s.sites.up p ≡ true) × (lost w s < w.f)

-- What an event does.
abbrev pub does : World → State → Event → State
does w s (offer m c) = on_offer w s m c
does w s (first m r p c) = on_first w s m r p c
does w s (second m r p c) = on_second w s m r p c
does w s (third m r c) = on_third w s m r c
does w s (deliver m r p c) = on_deliver w s m r p c
does w s (order m) = on_order w s m
does w s (read p c) = on_read w s p c
does w s (crash p) = down w s p

-- Nothing offered, nothing sent, all sites up.
unfoldable pub blank : State
blank =
    record {
      offered = λ x. false;
      firsts = λ x a b. false;
      sets = record { seen = λ p x. false; held = λ p x. false; stepped = λ p x. false };
      seconds = record { sent = λ x a b. false; good = λ x a b. false; heard = λ x a b. false; agreed = λ x a b. false };
      thirds = record { sent = λ x a. false; carried = λ x a y. false; heard = λ x a. false; has = λ x a. false; union = λ x y. false };
      finished = λ x. false;
      delivers = record { sent = λ x a b. false; got = λ p x. false };
      oracle = record { pool = λ x. false; entry = λ x y. false; log = [] };
      sites = record { up = λ p. true; place = λ p. 0; delivered = λ p. [] };
    }

-- The events of a run, the last one first, and the state that it reaches.
pub data Reached (w : World) : List Event → State → Type 0 where
  start : Reached w [] blank
  next : {es : List Event} {s : State} → Reached w es s → (e : Event) → Allowed w s e → Reached w (e ∷ es) (does w s e)

-- Nothing is left to do: no message to a site that is up, no entry in the pool, and all sites that are up have read the whole log.
pub record Quiet (w : World) (s : State) : Type 0 where
  pub no_first : (m r p : ℕ) → r < w.n → p < w.n → s.sites.up p ≡ true → s.firsts m r p ≡ false
  pub no_second : (m r p : ℕ) → r < w.n → p < w.n → s.sites.up p ≡ true → s.seconds.sent m r p ≡ false
  pub no_third : (m r : ℕ) → r < w.n → s.sites.up (w.owner m) ≡ true → s.thirds.sent m r ≡ false
  pub no_deliver : (m r p : ℕ) → r < w.n → p < w.n → s.sites.up p ≡ true → s.delivers.sent m r p ≡ false
  pub no_pool : (m : ℕ) → s.oracle.pool m ≡ false
  pub all_read : (p : ℕ) → p < w.n → s.sites.up p ≡ true → length s.oracle.log ≤ s.sites.place p

-- A receipt or an order names its posting, a reading the posting of the entry read.
abbrev pub names : World → State → Event → ℕ → Bool
names w s (offer m c) x = false
names w s (first m r p c) x = eqb m x
names w s (second m r p c) x = eqb m x
names w s (third m r c) x = eqb m x
names w s (deliver m r p c) x = eqb m x
names w s (order m) x = eqb m x
names w s (read p c) x = eqb (next_at w s p) x
names w s (crash p) x = false

-- how many receipts, orders and readings of a run name posting x
unfoldable pub spent : {w : World} {es : List Event} {s : State} → Reached w es s → ℕ → ℕ
spent start x = 0
spent {w} (next {es} {s} r e ok) x = bit (names w s e x) + spent r x
