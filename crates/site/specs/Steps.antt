-- The steps of a site: document 01, "What a site does", in its order, each on what belongs to one site.
-- Rests on Sites and Sends, on posting and sets.
use Rattle.std.specs.Prelude.{ℕ, ◌+◌, ◌-◌, ◌*◌, Bool, cond, ◌&&◌, ◌||◌, List, [], ◌∷◌, ◌++◌, eqb, ltb, leb}
use Rattle.std.specs.Int.Bits.{bit_and}
use Rattle.std.specs.Int.Count.{ones}
use Rattle.sets.specs.declared.Set.{Set}
use Rattle.sets.specs.Masks.{has_bit}
use Rattle.sets.specs.Sets.{empty_set, has, with, with_if, join, meet, subset, members_of}
use Rattle.posting.specs.declared.Table.{Table}
use Rattle.posting.specs.declared.Record.{Record}
use Rattle.posting.specs.Conflicts.{row, conflict_set}
use Rattle.posting.specs.Records.{contains, append}
use Rattle.site.specs.declared.Setup.{Setup}
use Rattle.site.specs.declared.Site.{Site}
use Rattle.site.specs.declared.Tally.{Tally}
use Rattle.site.specs.Sites.{heard_for, good_for, plus, plus_if, site_seen, site_heard, site_stepped, site_finished, site_got, site_place, site_delivered}
use Rattle.site.specs.Sends.{first, second, third, deliver, entry, to_all, to_others, Step}

-- ---- words of document 01

-- the site that offered m, its owner
abbrev pub owner_of : Table → ℕ → ℕ
owner_of table m = (row table m).owner

-- a set meets C(m) in m alone, or not at all
unfoldable pub alone : Set → Set → ℕ → Bool
alone seen conflicts m = subset (meet seen conflicts) (with empty_set m)

-- n - f sites
abbrev pub quorum : Setup → ℕ
quorum setup = setup.n - setup.f

-- the sites of a mask are more than n/2
abbrev pub majority : Setup → ℕ → Bool
majority setup mask = ltb setup.n (2 * ones mask)

-- a step that changes nothing and sends nothing
abbrev pub no_step : Site → Tally → Step
no_step site tally = record { site = site; tally = tally; sends = []; delivers = [] }

-- ---- the steps

-- Offer m: FIRST goes to all n sites.
unfoldable pub on_offer : Setup → Site → Tally → ℕ → Step
on_offer setup site tally m = record { site = site; tally = tally; sends = to_all setup.n (λ to. first m to); delivers = [] }

-- FIRST m: m joins seen. SECOND goes to all, GOOD if seen meets C(m) in m alone, else BAD.
unfoldable pub on_first : Setup → Table → Site → Tally → ℕ → Step
on_first setup table site tally m =
    let seen = with site.seen m in
    let good = alone seen (conflict_set setup.matrix table m) m in
    record { site = site_seen site seen; tally = tally; sends = to_all setup.n (λ to. second m to good); delivers = [] }

-- SECOND m, when this is the (n - f)th site heard for m: m joins seen and stepped. If more than n/2 of those heard are GOOD and seen
-- meets C(m) in m alone, m joins held. THIRD, carrying held's share of C(m), goes to m's owner.
unfoldable pub step_second : Setup → Table → Site → Tally → ℕ → Step
step_second setup table site tally m =
    let conflicts = conflict_set setup.matrix table m in
    let seen = with site.seen m in
    let joins = majority setup (bit_and (good_for site m) (heard_for site m)) && alone seen conflicts m in
    let held = with_if site.held m joins in
    record {
      site = site_stepped site seen (with site.stepped m) held;
      tally = tally;
      sends = third m (owner_of table m) (meet held conflicts) ∷ [];
      delivers = [];
    }

-- SECOND m from a site, GOOD or BAD. One from a site already heard, or later than the (n - f)th or the step, has no effect.
unfoldable pub on_second : Setup → Table → Site → Tally → ℕ → ℕ → Bool → Step
on_second setup table site tally m from good =
    let heard = heard_for site m in
    let late = has_bit heard from || (leb (quorum setup) (ones heard) || has site.stepped m) in
    let after = site_heard site m (plus heard from) (plus_if (good_for site m) from good) in
    let last = leb (quorum setup) (ones (plus heard from)) in
    cond late (no_step site tally)
    (cond last (step_second setup table after tally m)
    (no_step after tally))

-- THIRD m at the owner, when the (n - f)th: m is finished. If more than n/2 of the carried sets contain m, DELIVER m goes to all;
-- else the entry (m, union of the carried sets) goes into the pool.
unfoldable pub step_third : Setup → Site → Tally → ℕ → Step
step_third setup site tally m =
    record {
      site = site_finished site (with site.finished m);
      tally = tally;
      sends = cond (majority setup (bit_and tally.has tally.heard)) (to_all setup.n (λ to. deliver m to)) (entry m tally.union ∷ []);
      delivers = [];
    }

-- a carried set is heard from a site
abbrev pub tallied : Tally → ℕ → ℕ → Set → Tally
tallied tally m from carried =
    record {
      heard = plus tally.heard from;
      has = plus_if tally.has from (has carried m);
      union = join tally.union carried;
    }

-- THIRD m from a site, with its carried set, at the owner. One from a site already heard, or later than the (n - f)th or the end, has no effect.
unfoldable pub on_third : Setup → Site → Tally → ℕ → ℕ → Set → Step
on_third setup site tally m from carried =
    let late = has_bit tally.heard from || (leb (quorum setup) (ones tally.heard) || has site.finished m) in
    let after = tallied tally m from carried in
    cond late (no_step site tally)
    (cond (leb (quorum setup) (ones after.heard)) (step_third setup site after m)
    (no_step site after))

-- DELIVER m at site p, first receipt: a site other than the owner sends DELIVER to all but itself; then every receiver delivers m.
unfoldable pub on_deliver : Setup → Table → Site → Tally → ℕ → ℕ → Step
on_deliver setup table site tally p m =
    cond (has site.got m) (no_step site tally)
    (record {
      site = site_got site (with site.got m);
      tally = tally;
      sends = cond (eqb p (owner_of table m)) [] (to_others setup.n p (λ to. deliver m to));
      delivers = m ∷ [];
    })

-- Read: the log's next entry: the carried set is delivered in rising number, then m.
unfoldable pub on_entry : Site → Tally → ℕ → Set → Step
on_entry site tally m carried =
    record { site = site_place site (site.place + 1); tally = tally; sends = []; delivers = members_of carried ++ (m ∷ []) }

-- ---- delivery

-- a record with m, if it lacks it
unfoldable pub delivering : Record → ℕ → Record
delivering r m = cond (contains r m) r (append r m)

-- a record with the numbers of a list in turn, each only if absent
unfoldable pub delivering_all : Record → List ℕ → Record
delivering_all r [] = r
delivering_all r (m ∷ l) = delivering_all (delivering r m) l

-- a step's site once it has delivered
abbrev pub delivered_site : Step → Site
delivered_site step = site_delivered step.site (delivering_all step.site.delivered step.delivers)
