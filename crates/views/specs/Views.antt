-- What flat arrays show of a board: the record and all that belongs to a site, the tally and the row of a posting, the table, the log.
-- Rests on arrays, on flight, site, posting, books and sets.
use Rattle.std.specs.Prelude.{ℕ, get_or}
use Rattle.sets.specs.Sets.{capacity}
use Rattle.posting.specs.declared.Posting.{Posting}
use Rattle.posting.specs.declared.Table.{Table}
use Rattle.posting.specs.declared.Record.{Record}
use Rattle.books.specs.Books.{tabulate}
use Rattle.site.specs.declared.Site.{Site}
use Rattle.site.specs.declared.Tally.{Tally}
use Rattle.flight.specs.Flights.{words_from}
use Rattle.arrays.specs.Layout.{seen_of, held_of, stepped_of, finished_of, got_of, union_of, count_at, logged_at, place_at, delivered_at, owner_at, kind_at, from_at, into_at, tallied_at, has_at, log_at, heard_at, good_at, record_at}
use Rattle.arrays.specs.declared.Arrays.{Arrays}
use Rattle.arrays.specs.Arrays.{slot_set, byte}

-- the record of site p
unfoldable pub record_in : Arrays → ℕ → Record
record_in a p = record { count = get_or a.counts (delivered_at p) 0; numbers = words_from a.bytes (record_at p 0) capacity }

-- what belongs to site p
unfoldable pub site_of : Arrays → ℕ → Site
site_of a p =
    record {
      seen = slot_set a.sets (seen_of p);
      held = slot_set a.sets (held_of p);
      stepped = slot_set a.sets (stepped_of p);
      finished = slot_set a.sets (finished_of p);
      got = slot_set a.sets (got_of p);
      heard = words_from a.bytes (heard_at p 0) capacity;
      good = words_from a.bytes (good_at p 0) capacity;
      place = get_or a.counts (place_at p) 0;
      delivered = record_in a p;
    }

-- the tally of posting m, and its row
unfoldable pub tally_of : Arrays → ℕ → Tally
tally_of a m = record { heard = byte a.bytes (tallied_at m); has = byte a.bytes (has_at m); union = slot_set a.sets (union_of m) }

unfoldable pub row_of : Arrays → ℕ → Posting
row_of a m =
    record {
      owner = byte a.bytes (owner_at m);
      kind = byte a.bytes (kind_at m);
      a = byte a.bytes (from_at m);
      b = byte a.bytes (into_at m);
      amount = get_or a.amounts m 0;
    }

unfoldable pub table_of : Arrays → Table
table_of a = record { count = get_or a.counts count_at 0; rows = tabulate capacity (row_of a) }

-- the log
unfoldable pub log_of : Arrays → Record
log_of a = record { count = get_or a.counts logged_at 0; numbers = words_from a.bytes (log_at 0) capacity }
