-- How many numbers each part of a board has, and where it stands in the row: in the order of Board's fields.
-- Rests on flight. The code's constants of the same names are these.
use Rattle.std.specs.Prelude.{ℕ, ◌+◌, ◌*◌}
use Rattle.sets.specs.Sets.{words, capacity}
use Rattle.site.specs.Sites.{sites}
use Rattle.flight.specs.Flights.{pairs, cells}

-- ---- how many numbers

abbrev pub setup_long : ℕ
setup_long = 3

abbrev pub row_long : ℕ
row_long = 5

abbrev pub record_long : ℕ
record_long = 1 + capacity

abbrev pub site_long : ℕ
site_long = 5 * words + 2 * capacity + 1 + record_long

abbrev pub tally_long : ℕ
tally_long = 2 + words

abbrev pub loads : ℕ
loads = pairs * words

-- ---- where

abbrev pub down_at : ℕ
down_at = setup_long

abbrev pub count_at : ℕ
count_at = down_at + 1

abbrev pub rows_at : ℕ
rows_at = count_at + 1

abbrev pub sites_at : ℕ
sites_at = rows_at + capacity * row_long

abbrev pub tallies_at : ℕ
tallies_at = sites_at + sites * site_long

abbrev pub masks_at : ℕ
masks_at = tallies_at + capacity * tally_long

abbrev pub good_at : ℕ
good_at = masks_at + cells

abbrev pub carried_at : ℕ
carried_at = good_at + pairs

abbrev pub pool_at : ℕ
pool_at = carried_at + loads

abbrev pub entries_at : ℕ
entries_at = pool_at + words

abbrev pub log_at : ℕ
log_at = entries_at + capacity * words

abbrev pub image_long : ℕ
image_long = log_at + record_long
