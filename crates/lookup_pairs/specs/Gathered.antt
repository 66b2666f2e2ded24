-- The sites that pairs name as a mask, and figures of several sites in one list, those of site p from 64p on.
-- Proof machinery: lookups ties it to boards. Rests on Pairs and masks.
use Rattle.std.specs.Prelude.{ℕ, zero, suc, ◌*◌, ◌<◌, List, ℤ, take, drop}
use Rattle.posting.specs.Kinds.{accounts}
use Rattle.masks.specs.SiteMasks.{room, with_site}
use Rattle.lookup_pairs.specs.Pairs.{pair_count, site_in, account_in}

-- the sites that the first i pairs name
unfoldable pub named_to : ℕ → List ℕ → ℕ
named_to zero pairs = 0
named_to (suc i) pairs = with_site (named_to i pairs) (site_in pairs i)

-- the 64 numbers of site p
abbrev pub block_of : List ℤ → ℕ → List ℤ
block_of figures p = take 64 (drop (64 * p) figures)

-- every pair's site is one that there can be, and its account is one
abbrev pub Within : List ℕ → Type 0
Within pairs = (i : ℕ) → i < pair_count pairs → (site_in pairs i < room) × (account_in pairs i < accounts)
