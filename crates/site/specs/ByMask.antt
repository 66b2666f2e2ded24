-- The steps of a site with what they send as masks of receivers, as the code gives them; ByMaskLaws ties each to its step of Steps.
-- Rests on Sites, Sends and Steps.
use Rattle.std.specs.Prelude.{ℕ, zero, suc, ◌+◌, Bool, true, false, cond, ◌&&◌, ◌||◌, List, [], ◌∷◌, ◌++◌, eqb, ltb, leb}
use Rattle.std.specs.Int.Bits.{bit_and}
use Rattle.std.specs.Int.Count.{ones}
use Rattle.sets.specs.declared.Set.{Set}
use Rattle.sets.specs.Masks.{has_bit}
use Rattle.sets.specs.Sets.{capacity, empty_set, has, with, with_if, join, meet, members_of}
use Rattle.posting.specs.declared.Table.{Table}
use Rattle.posting.specs.declared.Record.{Record}
use Rattle.posting.specs.Conflicts.{conflict_set}
use Rattle.masks.specs.SiteMasks.{only_site, every_site, with_site, with_site_if, relay_to}
use Rattle.site.specs.declared.Setup.{Setup}
use Rattle.site.specs.declared.Site.{Site}
use Rattle.site.specs.declared.Tally.{Tally}
use Rattle.site.specs.declared.Sends.{Sends}
use Rattle.site.specs.declared.Stepped.{Stepped}
use Rattle.site.specs.Sites.{sites, heard_for, good_for, site_seen, site_heard, site_stepped, site_finished, site_got, site_place}
use Rattle.site.specs.Sends.{FIRST, SECOND, THIRD, DELIVER, Send, first, second, third, deliver, entry, Step}
use Rattle.site.specs.Steps.{owner_of, alone, quorum, majority, delivering_all}

-- ---- what is sent, as a list

-- the number past the forms: the entry into the pool
abbrev pub ENTRY : ℕ
ENTRY = 4

-- one send of the form: a form past DELIVER is the entry into the pool
unfoldable pub send_of : ℕ → Sends → ℕ → Send
send_of m s to =
    cond (eqb s.form FIRST) (first m to)
    (cond (eqb s.form SECOND) (second m to s.good)
    (cond (eqb s.form THIRD) (third m to s.carried)
    (cond (eqb s.form DELIVER) (deliver m to)
    (entry m s.carried))))

-- the same to those of the sites below n that are in the mask, in rising number
unfoldable pub to_mask : ℕ → ℕ → (ℕ → Send) → List Send
to_mask zero mask send = []
to_mask (suc n) mask send = to_mask n mask send ++ cond (has_bit mask n) (send n ∷ []) []

-- what is sent about m, in order
unfoldable pub sends_of : ℕ → Sends → List Send
sends_of m s = to_mask sites s.to (send_of m s)

-- a step about m, as Steps has it
abbrev pub step_of : ℕ → Stepped → Step
step_of m s = record { site = s.site; tally = s.tally; sends = sends_of m s.sends; delivers = cond s.delivers (m ∷ []) [] }

-- ---- the steps

-- Offer m
unfoldable pub offer_by_mask : Setup → Site → Tally → Stepped
offer_by_mask setup site tally =
    record {
      site = site;
      tally = tally;
      sends = record { form = FIRST; to = every_site setup.n; good = false; carried = empty_set };
      delivers = false;
    }

-- the verdict in what is sent
abbrev pub seconds : ℕ → Bool → Sends
seconds to good = record { form = SECOND; to = to; good = good; carried = empty_set }

-- FIRST m
unfoldable pub first_by_mask : Setup → Table → Site → Tally → ℕ → Stepped
first_by_mask setup table site tally m =
    let seen = with site.seen m in
    let good = alone seen (conflict_set setup.matrix table m) m in
    record { site = site_seen site seen; tally = tally; sends = seconds (every_site setup.n) good; delivers = false }

-- a step that changes nothing and sends nothing
abbrev pub no_step_by_mask : Site → Tally → Stepped
no_step_by_mask site tally =
    record { site = site; tally = tally; sends = record { form = FIRST; to = 0; good = false; carried = empty_set }; delivers = false }

-- the sites of a mask are n - f or more
abbrev pub reached : Setup → ℕ → Bool
reached setup mask = leb (quorum setup) (ones mask)

-- one from a site already heard, or later than the (n - f)th or the end
abbrev pub late : Setup → ℕ → ℕ → Bool → Bool
late setup heard from done = has_bit heard from || (reached setup heard || done)

-- m joins held: more than n/2 of those heard are GOOD and seen meets C(m) in m alone
abbrev pub joins_held : Setup → Site → Set → Set → ℕ → Bool
joins_held setup site seen conflicts m = majority setup (bit_and (good_for site m) (heard_for site m)) && alone seen conflicts m

-- SECOND m, the (n - f)th
unfoldable pub step_second_by_mask : Setup → Table → Site → Tally → ℕ → Stepped
step_second_by_mask setup table site tally m =
    let conflicts = conflict_set setup.matrix table m in
    let seen = with site.seen m in
    let held = with_if site.held m (joins_held setup site seen conflicts m) in
    record {
      site = site_stepped site seen (with site.stepped m) held;
      tally = tally;
      sends = record { form = THIRD; to = only_site (owner_of table m); good = false; carried = meet held conflicts };
      delivers = false;
    }

-- SECOND m from a site
unfoldable pub second_by_mask : Setup → Table → Site → Tally → ℕ → ℕ → Bool → Stepped
second_by_mask setup table site tally m from good =
    let heard = with_site (heard_for site m) from in
    let after = site_heard site m heard (with_site_if (good_for site m) from good) in
    cond (late setup (heard_for site m) from (has site.stepped m)) (no_step_by_mask site tally)
    (cond (reached setup heard) (step_second_by_mask setup table after tally m)
    (no_step_by_mask after tally))

-- what is sent once m is finished: DELIVER to all if more than n/2 of the carried sets contain m, else the entry into the pool
unfoldable pub finish_sends : Setup → Tally → Sends
finish_sends setup tally =
    cond (majority setup (bit_and tally.has tally.heard))
    (record { form = DELIVER; to = every_site setup.n; good = false; carried = empty_set })
    (record { form = ENTRY; to = 1; good = false; carried = tally.union })

-- THIRD m at the owner, the (n - f)th
unfoldable pub step_third_by_mask : Setup → Site → Tally → ℕ → Stepped
step_third_by_mask setup site tally m =
    record { site = site_finished site (with site.finished m); tally = tally; sends = finish_sends setup tally; delivers = false }

-- a carried set is heard from a site
abbrev pub tallied_by_mask : Tally → ℕ → ℕ → Set → Tally
tallied_by_mask tally m from carried =
    record {
      heard = with_site tally.heard from;
      has = with_site_if tally.has from (has carried m);
      union = join tally.union carried;
    }

-- THIRD m from a site, with its carried set, at the owner
unfoldable pub third_by_mask : Setup → Site → Tally → ℕ → ℕ → Set → Stepped
third_by_mask setup site tally m from carried =
    let after = tallied_by_mask tally m from carried in
    cond (late setup tally.heard from (has site.finished m)) (no_step_by_mask site tally)
    (cond (reached setup after.heard) (step_third_by_mask setup site after m)
    (no_step_by_mask site after))

-- DELIVER m at site p
unfoldable pub deliver_by_mask : Setup → Table → Site → Tally → ℕ → ℕ → Stepped
deliver_by_mask setup table site tally p m =
    cond (has site.got m) (no_step_by_mask site tally)
    (record {
      site = site_got site (with site.got m);
      tally = tally;
      sends = record { form = DELIVER; to = relay_to setup.n p (owner_of table m); good = false; carried = empty_set };
      delivers = true;
    })

-- ---- delivery

-- the site once the log's next entry is taken; a place past the capacity stays
unfoldable pub read_site : Site → Site
read_site site = cond (ltb site.place capacity) (site_place site (site.place + 1)) site

-- a record with the carried set in rising number, then m
abbrev pub delivering_entry : Record → Set → ℕ → Record
delivering_entry r carried m = delivering_all r (members_of carried ++ (m ∷ []))
