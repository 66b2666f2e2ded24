-- Where each part of a board at work stands in its flat arrays.
-- Rests on site. The code's constants of the same names are these.
use Rattle.std.specs.Prelude.{ℕ, ◌+◌, ◌*◌}
use Rattle.sets.specs.Sets.{words, capacity}
use Rattle.posting.specs.Kinds.{kinds, accounts}
use Rattle.site.specs.Sites.{sites}

-- ---- slots of sets: of site p, of the pool, of posting m

abbrev pub seen_of : ℕ → ℕ
seen_of p = 0 + p

abbrev pub held_of : ℕ → ℕ
held_of p = sites + p

abbrev pub stepped_of : ℕ → ℕ
stepped_of p = 2 * sites + p

abbrev pub finished_of : ℕ → ℕ
finished_of p = 3 * sites + p

abbrev pub got_of : ℕ → ℕ
got_of p = 4 * sites + p

abbrev pub pool_slot : ℕ
pool_slot = 5 * sites

abbrev pub union_of : ℕ → ℕ
union_of m = 5 * sites + 1 + m

abbrev pub entry_of : ℕ → ℕ
entry_of m = 5 * sites + 1 + capacity + m

-- ---- slots behind them, which no board shows: the postings offered by row of the index and kind, and what the record of site p has

abbrev pub shown_slots : ℕ
shown_slots = 5 * sites + 1 + 2 * capacity

-- the rows of the index: one for each account, and one for all
abbrev pub index_rows : ℕ
index_rows = accounts + 1

abbrev pub kind_slots : ℕ
kind_slots = index_rows * kinds

abbrev pub kind_of : ℕ → ℕ → ℕ
kind_of row kind = shown_slots + (row * kinds + kind)

abbrev pub have_of : ℕ → ℕ
have_of p = shown_slots + kind_slots + p

abbrev pub slots : ℕ
slots = shown_slots + kind_slots + sites

abbrev pub sets_long : ℕ
sets_long = words * slots

-- ---- counts: of postings offered, of log entries; of site p its log place, and how many postings its record has

abbrev pub count_at : ℕ
count_at = 0

abbrev pub logged_at : ℕ
logged_at = 1

abbrev pub place_at : ℕ → ℕ
place_at p = 2 + p

abbrev pub delivered_at : ℕ → ℕ
delivered_at p = 2 + sites + p

abbrev pub counts_long : ℕ
counts_long = 2 + 2 * sites

-- ---- bytes: the sites that are down; of posting m its row but for the amount, and its tally's masks; the log; of site p what it has heard
-- for posting m, and its record

abbrev pub down_at : ℕ
down_at = 0

abbrev pub owner_at : ℕ → ℕ
owner_at m = 1 + m

abbrev pub kind_at : ℕ → ℕ
kind_at m = 1 + capacity + m

abbrev pub from_at : ℕ → ℕ
from_at m = 1 + 2 * capacity + m

abbrev pub into_at : ℕ → ℕ
into_at m = 1 + 3 * capacity + m

abbrev pub tallied_at : ℕ → ℕ
tallied_at m = 1 + 4 * capacity + m

abbrev pub has_at : ℕ → ℕ
has_at m = 1 + 5 * capacity + m

abbrev pub log_at : ℕ → ℕ
log_at i = 1 + 6 * capacity + i

abbrev pub heard_at : ℕ → ℕ → ℕ
heard_at p m = 1 + 7 * capacity + p * capacity + m

abbrev pub good_at : ℕ → ℕ → ℕ
good_at p m = 1 + 7 * capacity + sites * capacity + p * capacity + m

abbrev pub record_at : ℕ → ℕ → ℕ
record_at p i = 1 + 7 * capacity + 2 * (sites * capacity) + p * capacity + i

abbrev pub bytes_long : ℕ
bytes_long = 1 + 7 * capacity + 3 * (sites * capacity)
