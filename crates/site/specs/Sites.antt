-- A site's parts: the blank ones, those that stand where there is none, and a site with some of its parts changed.
-- Rests on the declared types of this crate, on posting and sets.
use Rattle.std.specs.Prelude.{ℕ, ◌^◌, Bool, cond, [], get_or, set, replicate}
use Rattle.std.specs.Int.Bits.{bit_or}
use Rattle.sets.specs.declared.Set.{Set}
use Rattle.sets.specs.Sets.{capacity, empty_set, of_words}
use Rattle.posting.specs.declared.Record.{Record}
use Rattle.posting.specs.Records.{empty_record}
use Rattle.site.specs.declared.Site.{Site}
use Rattle.site.specs.declared.Tally.{Tally}

-- how many sites a board has room for
abbrev pub sites : ℕ
sites = 7

-- ---- blank

abbrev pub blank_site : Site
blank_site =
    record { seen = empty_set; held = empty_set; stepped = empty_set; finished = empty_set; got = empty_set; heard = replicate capacity 0; good = replicate capacity 0; place = 0; delivered = empty_record }

abbrev pub blank_tally : Tally
blank_tally = record { heard = 0; has = 0; union = empty_set }

-- ---- what stands where there is none

abbrev pub no_set : Set
no_set = of_words []

abbrev pub no_site : Site
no_site =
    record { seen = no_set; held = no_set; stepped = no_set; finished = no_set; got = no_set; heard = []; good = []; place = 0; delivered = record { count = 0; numbers = [] } }

abbrev pub no_tally : Tally
no_tally = record { heard = 0; has = 0; union = no_set }

-- ---- masks of senders

-- the senders of SECOND heard for m, and those that said GOOD
abbrev pub heard_for : Site → ℕ → ℕ
heard_for s m = get_or s.heard m 0

abbrev pub good_for : Site → ℕ → ℕ
good_for s m = get_or s.good m 0

-- a mask with site p
abbrev pub plus : ℕ → ℕ → ℕ
plus mask p = bit_or mask (2 ^ p)

-- a mask with site p if so
abbrev pub plus_if : ℕ → ℕ → Bool → ℕ
plus_if mask p so = cond so (plus mask p) mask

-- ---- a site with some of its parts changed

abbrev pub site_seen : Site → Set → Site
site_seen s seen =
    record { seen = seen; held = s.held; stepped = s.stepped; finished = s.finished; got = s.got; heard = s.heard; good = s.good; place = s.place; delivered = s.delivered }

-- what it has heard for m
abbrev pub site_heard : Site → ℕ → ℕ → ℕ → Site
site_heard s m heard good =
    record { seen = s.seen; held = s.held; stepped = s.stepped; finished = s.finished; got = s.got; heard = set s.heard m heard; good = set s.good m good; place = s.place; delivered = s.delivered }

abbrev pub site_stepped : Site → Set → Set → Set → Site
site_stepped s seen stepped held =
    record { seen = seen; held = held; stepped = stepped; finished = s.finished; got = s.got; heard = s.heard; good = s.good; place = s.place; delivered = s.delivered }

abbrev pub site_finished : Site → Set → Site
site_finished s finished =
    record { seen = s.seen; held = s.held; stepped = s.stepped; finished = finished; got = s.got; heard = s.heard; good = s.good; place = s.place; delivered = s.delivered }

abbrev pub site_got : Site → Set → Site
site_got s got =
    record { seen = s.seen; held = s.held; stepped = s.stepped; finished = s.finished; got = got; heard = s.heard; good = s.good; place = s.place; delivered = s.delivered }

abbrev pub site_place : Site → ℕ → Site
site_place s place =
    record { seen = s.seen; held = s.held; stepped = s.stepped; finished = s.finished; got = s.got; heard = s.heard; good = s.good; place = place; delivered = s.delivered }

abbrev pub site_delivered : Site → Record → Site
site_delivered s delivered =
    record { seen = s.seen; held = s.held; stepped = s.stepped; finished = s.finished; got = s.got; heard = s.heard; good = s.good; place = s.place; delivered = delivered }
