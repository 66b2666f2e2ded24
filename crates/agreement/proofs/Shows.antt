-- A board as the theory sees it: which state a board shows, part by part.
-- Rests on machine's definitions and broadcast's. Assumes nothing.
use Prim.Native.Nat.{ℕ, ◌<◌}
use mathlib.Core.Path.{◌≡◌}
use mathlib.Core.Bool.{Bool, not}
use mathlib.Core.List.{List}
use lib.ListN.{get_or}
use Rattle.sets.specs.declared.Set.{Set}
use Rattle.sets.specs.Masks.{has_bit}
use Rattle.sets.specs.Sets.{has}
use Rattle.posting.specs.declared.Record.{Record}
use Rattle.posting.specs.Conflicts.{offered}
use Rattle.posting.specs.Records.{numbers_of}
use Rattle.site.specs.declared.Site.{Site}
use Rattle.site.specs.declared.Tally.{Tally}
use Rattle.site.specs.Sites.{heard_for, good_for, no_set}
use Rattle.site.specs.Sends.{FIRST, SECOND, THIRD, DELIVER}
use Rattle.flight.specs.declared.Flight.{Flight}
use Rattle.flight.specs.Flights.{in_flight, good_to, carried_by}
use Rattle.machine.specs.declared.Board.{Board}
use Rattle.machine.specs.Boards.{site_at, tally_at, is_down}
use Rattle.broadcast.specs.Machine.{World, State, Sets, Oracle}

module _ (w : World) where
  -- what belongs to site p
  pub record SiteShows (sets : Sets) (heard agreed : ℕ → ℕ → ℕ → Bool) (got : ℕ → ℕ → Bool) (finished : ℕ → Bool) (place : ℕ → ℕ) (delivered : ℕ → List ℕ)
      (p : ℕ) (site : Site) : Type 0 where
    pub seen_is : (m : ℕ) → sets.seen p m ≡ has site.seen m
    pub held_is : (m : ℕ) → sets.held p m ≡ has site.held m
    pub stepped_is : (m : ℕ) → sets.stepped p m ≡ has site.stepped m
    pub heard_is : (m r : ℕ) → r < w.n → heard m r p ≡ has_bit (heard_for site m) r
    pub agreed_is : (m r : ℕ) → r < w.n → agreed m r p ≡ has_bit (good_for site m) r
    pub got_is : (m : ℕ) → got p m ≡ has site.got m
    pub finished_is : (m : ℕ) → w.owner m ≡ p → finished m ≡ has site.finished m
    pub place_is : place p ≡ site.place
    pub delivered_is : delivered p ≡ numbers_of site.delivered

  abbrev pub SiteShowsIn : State → ℕ → Site → Type 0
  SiteShowsIn s p site = SiteShows s.sets s.seconds.heard s.seconds.agreed s.delivers.got s.finished s.sites.place s.sites.delivered p site

  -- the third round of m
  pub record TallyShows (heard had union : ℕ → ℕ → Bool) (m : ℕ) (y : Tally) : Type 0 where
    pub heard_is : (r : ℕ) → r < w.n → heard m r ≡ has_bit y.heard r
    pub has_is : (r : ℕ) → r < w.n → had m r ≡ has_bit y.has r
    pub union_is : (x : ℕ) → union m x ≡ has y.union x

  abbrev pub TallyShowsIn : State → ℕ → Tally → Type 0
  TallyShowsIn s m y = TallyShows s.thirds.heard s.thirds.has s.thirds.union m y

  -- what is in flight
  pub record FlightShows (firsts sent good : ℕ → ℕ → ℕ → Bool) (thirds : ℕ → ℕ → Bool) (carried : ℕ → ℕ → ℕ → Bool) (delivers : ℕ → ℕ → ℕ → Bool) (flight : Flight) : Type 0 where
    pub firsts_is : (m r p : ℕ) → r < w.n → p < w.n → firsts m r p ≡ in_flight flight FIRST m r p
    pub seconds_is : (m r p : ℕ) → r < w.n → p < w.n → sent m r p ≡ in_flight flight SECOND m r p
    pub good_is : (m r p : ℕ) → r < w.n → p < w.n → good m r p ≡ has_bit (good_to flight m r) p
    pub thirds_is : (m r : ℕ) → r < w.n → thirds m r ≡ in_flight flight THIRD m r (w.owner m)
    pub carried_is : (m r x : ℕ) → r < w.n → carried m r x ≡ has (carried_by flight m r) x
    pub delivers_is : (m r p : ℕ) → r < w.n → p < w.n → delivers m r p ≡ in_flight flight DELIVER m r p

  abbrev pub FlightShowsIn : State → Flight → Type 0
  FlightShowsIn s flight = FlightShows s.firsts s.seconds.sent s.seconds.good s.thirds.sent s.thirds.carried s.delivers.sent flight

  -- pool and log
  pub record OracleShows (o : Oracle) (pool : Set) (entries : List Set) (log : Record) : Type 0 where
    pub pool_is : (m : ℕ) → o.pool m ≡ has pool m
    pub entry_is : (m x : ℕ) → o.entry m x ≡ has (get_or entries m no_set) x
    pub log_is : o.log ≡ numbers_of log

  pub record Shows (b : Board) (s : State) : Type 0 where
    pub offers : (m : ℕ) → s.offered m ≡ offered b.table m
    pub up : (p : ℕ) → p < w.n → s.sites.up p ≡ not (is_down b p)
    pub each_site : (p : ℕ) → p < w.n → SiteShowsIn s p (site_at b p)
    pub each_tally : (m : ℕ) → TallyShowsIn s m (tally_at b m)
    pub flight : FlightShowsIn s b.flight
    pub oracle : OracleShows s.oracle b.pool b.entries b.log
