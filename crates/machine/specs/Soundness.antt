-- A sound board: none of the causes that document 01 lists under refusal 6. Cells that hold nothing live are not looked at.
-- Rests on Boards, on flight, site, posting and sets.
use Rattle.std.specs.Prelude.{ℕ, suc, ◌*◌, ◌/◌, ◌%◌, ◌^◌, Bool, true, not, ◌&&◌, ◌||◌, List, [], ◌∷◌, eqb, ltb, leb, get_or}
use Rattle.sets.specs.declared.Set.{Set}
use Rattle.sets.specs.Below.{all_below, all_of}
use Rattle.sets.specs.Numbers.{listed, distinct}
use Rattle.sets.specs.Sets.{capacity, has, subset, is_empty_set, set_of}
use Rattle.posting.specs.declared.Record.{Record}
use Rattle.posting.specs.Kinds.{fields_ok, symmetric, has_fixed_pairs}
use Rattle.posting.specs.Conflicts.{row, offered}
use Rattle.posting.specs.Records.{numbers_of}
use Rattle.site.specs.declared.Setup.{Setup}
use Rattle.site.specs.declared.Site.{Site}
use Rattle.site.specs.declared.Tally.{Tally}
use Rattle.site.specs.Sites.{sites, heard_for, good_for}
use Rattle.site.specs.Sends.{THIRD}
use Rattle.site.specs.Steps.{owner_of}
use Rattle.flight.specs.Flights.{carried_by}
use Rattle.machine.specs.declared.Board.{Board}
use Rattle.machine.specs.Boards.{site_at, tally_at, entry_at}

-- ---- n, f or matrix as in 2 to 5

abbrev pub sites_ok : Setup → Bool
sites_ok setup = leb 3 setup.n && leb setup.n 7

abbrev pub crashes_ok : Setup → Bool
crashes_ok setup = ltb (2 * setup.f) setup.n

unfoldable pub setup_ok : Setup → Bool
setup_ok setup = all_of (sites_ok setup ∷ crashes_ok setup ∷ symmetric setup.matrix ∷ has_fixed_pairs setup.matrix ∷ [])

-- ---- owner or posting fields out of range

abbrev pub row_ok : Board → ℕ → Bool
row_ok b m = ltb (owner_of b.table m) b.setup.n && fields_ok (row b.table m)

-- ---- a set or list naming a posting not offered or a site of n or more

-- the postings offered, as a set
abbrev pub offered_set : Board → Set
offered_set b = set_of (offered b.table)

-- a mask names sites below n only
abbrev pub sites_below : Board → ℕ → Bool
sites_below b mask = ltb mask (2 ^ b.setup.n)

-- a mask that is kept for posting m: it names sites below n only, and none where m is not offered
abbrev pub mask_ok : Board → ℕ → ℕ → Bool
mask_ok b m mask = eqb mask 0 || (offered b.table m && sites_below b mask)

-- a list of no more postings than the capacity, all offered, none twice
unfoldable pub record_ok : Board → Record → Bool
record_ok b r =
    all_of
    (leb r.count capacity
    ∷ all_below (λ i. offered b.table (get_or r.numbers i 0)) r.count
    ∷ distinct (numbers_of r)
    ∷ [])

-- what belongs to a site; its log place is not past the log
unfoldable pub site_ok : Board → Set → Site → Bool
site_ok b all s =
    all_of
    (subset s.seen all
    ∷ subset s.held all
    ∷ subset s.stepped all
    ∷ subset s.finished all
    ∷ subset s.got all
    ∷ all_below (λ m. mask_ok b m (heard_for s m)) capacity
    ∷ all_below (λ m. mask_ok b m (good_for s m)) capacity
    ∷ record_ok b s.delivered
    ∷ leb s.place b.log.count
    ∷ [])

-- the tally of posting m
unfoldable pub tally_ok : Board → Set → ℕ → Tally → Bool
tally_ok b all m t =
    all_of
    (mask_ok b m t.heard
    ∷ mask_ok b m t.has
    ∷ (is_empty_set t.union || (offered b.table m && subset t.union all))
    ∷ [])

-- ---- what is in flight; a THIRD not to its owner

-- cell k: its posting is offered, its sender and receivers are sites below n; a THIRD goes to its owner, and its set names postings offered
unfoldable pub cell_ok : Board → Set → ℕ → ℕ → Bool
cell_ok b all k mask =
    let form = k / (capacity * sites) in
    let m = k / sites % capacity in
    let from = k % sites in
    eqb mask 0
    || all_of
    (offered b.table m
    ∷ ltb from b.setup.n
    ∷ sites_below b mask
    ∷ (not (eqb form THIRD) || (eqb mask (2 ^ owner_of b.table m) && subset (carried_by b.flight m from) all))
    ∷ [])

unfoldable pub cells_ok : Board → Set → ℕ → List ℕ → Bool
cells_ok b all k [] = true
cells_ok b all k (mask ∷ l) = cell_ok b all k mask && cells_ok b all (suc k) l

-- ---- a pool or log posting not finished by its owner or in both

unfoldable pub entry_ok : Board → Set → ℕ → Bool
entry_ok b all m =
    let pooled = has b.pool m in
    let logged = listed m (numbers_of b.log) in
    not (pooled || logged)
    || all_of
    (not (pooled && logged)
    ∷ has (site_at b (owner_of b.table m)).finished m
    ∷ subset (entry_at b m) all
    ∷ [])

-- ---- all of it

unfoldable pub is_sound : Board → Bool
is_sound b =
    let all = offered_set b in
    all_of
    (setup_ok b.setup
    ∷ leb b.table.count capacity
    ∷ all_below (row_ok b) b.table.count
    ∷ sites_below b b.down
    ∷ all_below (λ p. site_ok b all (site_at b p)) b.setup.n
    ∷ all_below (λ m. tally_ok b all m (tally_at b m)) capacity
    ∷ cells_ok b all 0 b.flight.masks
    ∷ subset b.pool all
    ∷ record_ok b b.log
    ∷ all_below (entry_ok b all) capacity
    ∷ [])
