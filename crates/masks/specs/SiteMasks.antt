-- Masks of sites: site p alone, the sites below n, a mask with a site more, its first j sites, and to whom a site relays.
-- Proof machinery: site's ByMaskLaws ties them to lists of sends. Rests on sets.
use Rattle.std.specs.Prelude.{ℕ, zero, suc, ◌-◌, ◌^◌, Bool, cond, eqb, ltb, leb}
use Rattle.std.specs.Int.Bits.{bit_and, bit_or}
use Rattle.std.specs.Int.Count.{ones}
use Rattle.sets.specs.Masks.{has_bit}

-- how many sites a mask has room for, as many as a board
abbrev pub room : ℕ
room = 7

-- site p alone; what is no site gives no site
unfoldable pub only_site : ℕ → ℕ
only_site p = cond (ltb p room) (2 ^ p) 0

-- the sites below n
unfoldable pub every_site : ℕ → ℕ
every_site n = cond (ltb n room) (2 ^ n - 1) 127

-- a mask with site p; and if so
abbrev pub with_site : ℕ → ℕ → ℕ
with_site mask p = bit_or mask (only_site p)

abbrev pub with_site_if : ℕ → ℕ → Bool → ℕ
with_site_if mask p so = cond so (with_site mask p) mask

-- the first j sites of a mask, of those below n
abbrev pub next_site : ℕ → ℕ → ℕ → ℕ → ℕ
next_site low mask p j = cond (leb j (ones low)) low (with_site_if low p (has_bit mask p))

unfoldable pub first_sites : ℕ → ℕ → ℕ → ℕ
first_sites zero mask j = 0
first_sites (suc n) mask j = next_site (first_sites n mask j) mask n j

-- the sites below n but p; none if p is the owner
unfoldable pub relay_to : ℕ → ℕ → ℕ → ℕ
relay_to n p owner = cond (eqb p owner) 0 (bit_and (every_site n) (255 - only_site p))
