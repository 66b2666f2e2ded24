-- What is in flight, and the pool, after a message was taken out and the sends of a step went out, as the theory sees it.
-- Rests on Shows, Casts and flight's laws. Assumes nothing.
use Prim.Native.Nat.{ℕ, zero, suc, ◌^◌, ◌<◌, ◌≤◌}
use mathlib.Core.Path.{◌≡◌, refl, sym, ap, ◌∙◌}
use mathlib.Core.Logic.{◌⊎◌, inl, inr, ◌≢◌}
use mathlib.Core.Bool.{Bool, true, false, cond, not, ◌&&◌, ◌||◌, or-false, and-false, and-true}
use mathlib.Core.List.{List, [], ◌∷◌}
use native.Mathlib.Omega.{arith}
use native.Mathlib.Decide.{ℕ_discrete}
use lib.Dec.{eqb, ltb}
use borrow.Author.Tests.{eq-eqb, ne_eqb, eqb-true, lt-ltb}
use Rattle.sets.specs.declared.Set.{Set}
use Rattle.sets.proofs.Truth.{test, never, not_so}
use Rattle.sets.specs.Masks.{has_bit}
use Rattle.sets.proofs.WordLaws.{member_empty}
use Rattle.sets.specs.Sets.{words, capacity, has, empty_set, Shape}
use Rattle.site.specs.Sites.{sites}
use Rattle.site.specs.Sends.{FIRST, SECOND, THIRD, DELIVER, forms, Send}
use Rattle.flight.specs.declared.Flight.{Flight}
use Rattle.flight.specs.Flights.{in_flight, good_to, carried_by, sending_all, taking_out}
use Rattle.flight.specs.Shapes.{Shape as FlightShape}
use Rattle.flight.specs.ByMask.{sending_mask}
use Rattle.flight.proofs.CellLaws.{same_cell}
use Rattle.flight.proofs.FlightLaws.{mask_in_flight, mask_good, mask_carried, taking_in_flight, taking_good, taking_carried}
use Rattle.broadcast.specs.Machine.{World, State, at2, at3, send, take}
use Rattle.agreement.proofs.Casts.{Cast, eqb_turned}
use Rattle.agreement.proofs.Seen.{cond_or}
use Rattle.agreement.proofs.Shows.{FlightShows}

-- ---- tests at one place, both ways round

pub at2_is : (m p x a : ℕ) → at2 m p x a ≡ (eqb x m && eqb a p)
at2_is m p x a = rw (eqb_turned m x, eqb_turned p a)

regroup : (u v t : Bool) → (u && (v && t)) ≡ ((u && v) && t)
regroup true v t = refl
regroup false v t = refl

pub at3_is : (m r p x a b : ℕ) → at3 m r p x a b ≡ ((eqb x m && eqb a r) && eqb b p)
at3_is m r p x a b = rw (eqb_turned m x, eqb_turned r a, eqb_turned p b) (regroup (eqb x m) (eqb a r) (eqb b p))

pub cond_and : (c o : Bool) → cond c false o ≡ (o && not c)
cond_and true true = refl
cond_and true false = refl
cond_and false o = sym (and-true o)

-- a message of one form taken out, in the theory and in the masks
pub take_is : (q : ℕ → ℕ → ℕ → Bool) (o : Bool) (m r p x a b : ℕ) → q x a b ≡ o → take q m r p x a b ≡ (o && not ((eqb x m && eqb a r) && eqb b p))
take_is q o m r p x a b e =
    rw (e, eqb_turned m x, eqb_turned r a, eqb_turned p b) (ap (λ (c : Bool). cond c false o) (regroup (eqb x m) (eqb a r) (eqb b p)) ∙ cond_and ((eqb x m && eqb a r) && eqb b p) o)

-- messages of one form sent
pub send_is : (q : ℕ → ℕ → ℕ → Bool) (o : Bool) (m p : ℕ) (to : ℕ → Bool) (x a b : ℕ) (t : Bool) → q x a b ≡ o → to b ≡ t → send q m p to x a b ≡ (o || (eqb x m && eqb a p) && t)
send_is q o m p to x a b t e d = rw (e, d, at2_is m p x a) (cond_or ((eqb x m && eqb a p) && t) o)

-- ---- the flight after a step

module _ (flight : Flight) (shape : FlightShape flight) (p form m : ℕ) (so : Bool) (load : Set) (sends : List Send) (reaches : ℕ → Bool)
    (c : Cast flight p form m so load sends reaches) (hp : p < sites) (hm : m < capacity) (hform : form < forms) where
  pub cast_in_flight : (f x a b : ℕ) → b < sites → in_flight (sending_all flight p sends) f x a b ≡ (in_flight flight f x a b || (eqb f form && (eqb x m && eqb a p)) && reaches b)
  cast_in_flight f x a b lb =
      ap (λ (g : Flight). in_flight g f x a b) c.is ∙ mask_in_flight flight shape p form m c.mask so load hp hm hform f x a b
      ∙ rw (lt-ltb b sites lb, c.bits b lb)

  pub cast_good : (x a b : ℕ) → b < sites → has_bit (good_to (sending_all flight p sends) x a) b
      ≡ cond (eqb form SECOND && ((eqb x m && eqb a p) && reaches b)) so (has_bit (good_to flight x a) b)
  cast_good x a b lb =
      ap (λ (g : Flight). has_bit (good_to g x a) b) c.is ∙ mask_good flight shape p form m c.mask so load hp hm x a b
      ∙ rw (c.bits b lb)

  pub cast_carried : (x a : ℕ) → Shape load → carried_by (sending_all flight p sends) x a
      ≡ cond (eqb form THIRD && not (eqb c.mask 0) && (eqb x m && eqb a p)) load (carried_by flight x a)
  cast_carried x a sh = ap (λ (g : Flight). carried_by g x a) c.is ∙ mask_carried flight shape p form m c.mask so load hp hm sh x a

-- ---- a receipt: message (form0, m) from r to p taken out, then messages of `form` about m sent by p

-- what is in flight then, of form f
abbrev pub Flown : ℕ → ℕ → ℕ → ℕ → ℕ → (ℕ → Bool) → ℕ → Bool → ℕ → ℕ → ℕ → Bool
Flown form0 form m r p reaches f o x a b =
    (o && not ((eqb f form0 && (eqb x m && eqb a r)) && eqb b p)) || (eqb f form && (eqb x m && eqb a p)) && reaches b

module _ (form0 form m r p : ℕ) (reaches : ℕ → Bool) (f : ℕ) (o : Bool) (x a b : ℕ) where
  pub flown_same : eqb f form0 ≡ false → eqb f form ≡ false → Flown form0 form m r p reaches f o x a b ≡ o
  flown_same e d = rw (e, d) (or-false (o && true) ∙ and-true o)

  pub flown_taken : eqb f form0 ≡ true → eqb f form ≡ false → Flown form0 form m r p reaches f o x a b ≡ (o && not ((eqb x m && eqb a r) && eqb b p))
  flown_taken e d = rw (e, d) (or-false (o && not ((eqb x m && eqb a r) && eqb b p)))

  pub flown_sent : eqb f form0 ≡ false → eqb f form ≡ true → Flown form0 form m r p reaches f o x a b ≡ (o || (eqb x m && eqb a p) && reaches b)
  flown_sent e d = rw (e, d) (ap (λ (v : Bool). v || (eqb x m && eqb a p) && reaches b) (and-true o))

  pub flown_both : eqb f form0 ≡ true → eqb f form ≡ true
      → Flown form0 form m r p reaches f o x a b ≡ ((o && not ((eqb x m && eqb a r) && eqb b p)) || (eqb x m && eqb a p) && reaches b)
  flown_both e d = rw (e, d)

-- nothing is sent
pub flown_none : (form0 m r p f : ℕ) (o : Bool) (x a b : ℕ) → eqb f form0 ≡ false → Flown form0 f m r p (λ v. false) f o x a b ≡ o
flown_none form0 m r p f o x a b e = rw (e, and-false (eqb f f && (eqb x m && eqb a p))) (or-false (o && true) ∙ and-true o)

module _ (w : World) (few : w.n ≤ sites) (flight : Flight) (shape : FlightShape flight) (form0 m r p : ℕ) (hm : m < capacity) (hr : r < sites) (hp : p < sites)
    (form : ℕ) (so : Bool) (load : Set) (sends : List Send) (reaches : ℕ → Bool) (shaped : FlightShape (taking_out flight form0 m r p))
    (c : Cast (taking_out flight form0 m r p) p form m so load sends reaches) (hform : form < forms) (load_shape : Shape load) where
  abbrev after : Flight
  after = sending_all (taking_out flight form0 m r p) p sends

  pub flown_in : (f x a b : ℕ) → b < sites → in_flight after f x a b ≡ Flown form0 form m r p reaches f (in_flight flight f x a b) x a b
  flown_in f x a b lb =
      cast_in_flight (taking_out flight form0 m r p) shaped p form m so load sends reaches c hp hm hform f x a b lb
      ∙ ap (λ (v : Bool). v || (eqb f form && (eqb x m && eqb a p)) && reaches b) (taking_in_flight flight shape form0 m r p f x a b)

  pub flown_good : (x a b : ℕ) → b < sites → has_bit (good_to after x a) b
      ≡ cond (eqb form SECOND && ((eqb x m && eqb a p) && reaches b)) so (cond (eqb form0 SECOND && (eqb x m && eqb a r && eqb b p)) false (has_bit (good_to flight x a) b))
  flown_good x a b lb =
      cast_good (taking_out flight form0 m r p) shaped p form m so load sends reaches c hp hm hform x a b lb
      ∙ ap (λ (v : Bool). cond (eqb form SECOND && ((eqb x m && eqb a p) && reaches b)) so v) (taking_good flight shape form0 m r p hm hr x a b)

  pub flown_carried : (x a : ℕ) → carried_by after x a
      ≡ cond (eqb form THIRD && not (eqb c.mask 0) && (eqb x m && eqb a p)) load (cond (eqb form0 THIRD && (eqb x m && eqb a r)) empty_set (carried_by flight x a))
  flown_carried x a =
      cast_carried (taking_out flight form0 m r p) shaped p form m so load sends reaches c hp hm hform x a load_shape
      ∙ ap (λ (v : Set). cond (eqb form THIRD && not (eqb c.mask 0) && (eqb x m && eqb a p)) load v) (taking_carried flight shape form0 m r p hm hr x a)

  -- the theory's functions after the step, each by what it is at one place
  pub record Moves (firsts sent good : ℕ → ℕ → ℕ → Bool) (thirds : ℕ → ℕ → Bool) (carried : ℕ → ℕ → ℕ → Bool) (delivers : ℕ → ℕ → ℕ → Bool)
      (firsts' sent' good' : ℕ → ℕ → ℕ → Bool) (thirds' : ℕ → ℕ → Bool) (carried' : ℕ → ℕ → ℕ → Bool) (delivers' : ℕ → ℕ → ℕ → Bool) : Type 0 where
    pub firsts_moves : (x a b : ℕ) → firsts' x a b ≡ Flown form0 form m r p reaches FIRST (firsts x a b) x a b
    pub seconds_move : (x a b : ℕ) → sent' x a b ≡ Flown form0 form m r p reaches SECOND (sent x a b) x a b
    pub good_moves : (x a b : ℕ) → good' x a b
        ≡ cond (eqb form SECOND && ((eqb x m && eqb a p) && reaches b)) so (cond (eqb form0 SECOND && (eqb x m && eqb a r && eqb b p)) false (good x a b))
    pub thirds_move : (x a : ℕ) → thirds' x a ≡ Flown form0 form m r p reaches THIRD (thirds x a) x a (w.owner x)
    pub carried_moves : (x a y : ℕ) → carried' x a y
        ≡ cond (eqb form THIRD && not (eqb c.mask 0) && (eqb x m && eqb a p)) (has load y) (cond (eqb form0 THIRD && (eqb x m && eqb a r)) false (carried x a y))
    pub delivers_move : (x a b : ℕ) → delivers' x a b ≡ Flown form0 form m r p reaches DELIVER (delivers x a b) x a b

  cond_has : (u v : Bool) (l e s : Set) (y : ℕ) (c : Bool) → has e y ≡ false → c ≡ has s y → cond u (has l y) (cond v false c) ≡ has (cond u l (cond v e s)) y
  cond_has true v l e s y c z h = refl
  cond_has false true l e s y c z h = sym z
  cond_has false false l e s y c z h = h

  pub flown_shows : (firsts sent good : ℕ → ℕ → ℕ → Bool) (thirds : ℕ → ℕ → Bool) (carried : ℕ → ℕ → ℕ → Bool) (delivers : ℕ → ℕ → ℕ → Bool)
      (firsts' sent' good' : ℕ → ℕ → ℕ → Bool) (thirds' : ℕ → ℕ → Bool) (carried' : ℕ → ℕ → ℕ → Bool) (delivers' : ℕ → ℕ → ℕ → Bool)
      → Moves firsts sent good thirds carried delivers firsts' sent' good' thirds' carried' delivers'
      → FlightShows w firsts sent good thirds carried delivers flight → FlightShows w firsts' sent' good' thirds' carried' delivers' after
  flown_shows firsts sent good thirds carried delivers firsts' sent' good' thirds' carried' delivers' k i = record {
    firsts_is = λ x a b la lb. k.firsts_moves x a b ∙ rw (i.firsts_is x a b la lb) (sym (flown_in FIRST x a b (omega arith)));
    seconds_is = λ x a b la lb. k.seconds_move x a b ∙ rw (i.seconds_is x a b la lb) (sym (flown_in SECOND x a b (omega arith)));
    good_is = λ x a b la lb. k.good_moves x a b ∙ rw (i.good_is x a b la lb) (sym (flown_good x a b (omega arith)));
    thirds_is = λ x a la. k.thirds_move x a ∙ rw (i.thirds_is x a la) (sym (flown_in THIRD x a (w.owner x) (omega (arith, w.owned x))));
    carried_is = λ x a y la. k.carried_moves x a y
        ∙ cond_has (eqb form THIRD && not (eqb c.mask 0) && (eqb x m && eqb a p)) (eqb form0 THIRD && (eqb x m && eqb a r)) load empty_set (carried_by flight x a) y (carried x a y)
        (member_empty words y) (i.carried_is x a y la)
        ∙ sym (ap (λ (v : Set). has v y) (flown_carried x a));
    delivers_is = λ x a b la lb. k.delivers_move x a b ∙ rw (i.delivers_is x a b la lb) (sym (flown_in DELIVER x a b (omega arith)));
  }
