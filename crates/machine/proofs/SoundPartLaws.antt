-- The parts of the test for soundness make up is_sound, the definition in Soundness.
-- Rests on SoundParts and Soundness, on soundness and cells. Assumes nothing.
use Prim.Native.Nat.{ℕ, suc, ◌+◌, ◌-◌, ◌^◌, ◌<◌, ◌≤◌}
use mathlib.Core.Path.{◌≡◌, refl, sym, ap, ap₂, ◌∙◌}
use mathlib.Core.Bool.{Bool, true, false, ◌&&◌, and-true}
use mathlib.Core.List.{List, [], ◌∷◌}
use native.Mathlib.Omega.{arith}
use lib.Dec.{ltb, leb}
use lib.ListN.{length, get_or}
use borrow.Author.Tests.{leb-true}
use Rattle.sets.specs.declared.Set.{Set}
use Rattle.sets.proofs.Truth.{and_left, and_right}
use Rattle.sets.specs.Below.{all_below, all_of}
use Rattle.sets.proofs.BelowLaws.{all_none, all_ext, all_shift}
use Rattle.sets.specs.Sets.{capacity, has, subset, set_of}
use Rattle.posting.specs.declared.Table.{Table}
use Rattle.posting.specs.declared.Record.{Record}
use Rattle.posting.specs.Conflicts.{offered}
use Rattle.posting.specs.Records.{contains}
use Rattle.site.specs.declared.Setup.{Setup}
use Rattle.site.specs.declared.Site.{Site}
use Rattle.site.specs.declared.Tally.{Tally}
use Rattle.site.specs.Sites.{sites}
use Rattle.site.specs.Steps.{owner_of}
use Rattle.flight.specs.Flights.{cells}
use Rattle.sets.proofs.SetLaws.{has_set_of}
use Rattle.soundness.specs.Parts.{all_offered, row_sound, table_sound, mask_sound, masks_sound, record_sound, sets_sound, site_sound, sites_sound, tally_sound, tallies_sound, finished_set, entry_sound, entries_sound, pool_sound}
use Rattle.cells.specs.Cells.{third_sound, cell_sound, cell_sound_at, cells_sound}
use Rattle.machine.specs.declared.Board.{Board}
use Rattle.machine.specs.Boards.{site_at, tally_at, entry_at}
use Rattle.machine.specs.Soundness.{setup_ok, row_ok, record_ok, site_ok, tally_ok, cell_ok, cells_ok, entry_ok, is_sound}
use Rattle.machine.specs.SoundParts.{basis_sound, parts_of}

-- ---- together they are the definition

pub record_part : (b : Board) (r : Record) → record_ok b r ≡ record_sound b.table.count r
unfolding record_ok record_sound offered
record_part b r = refl

pub site_part : (b : Board) (all : Set) (s : Site) → site_ok b all s ≡ site_sound b.setup.n b.table.count b.log.count all s
unfolding site_ok site_sound sets_sound masks_sound mask_sound record_ok record_sound offered all_of
site_part b all s = go (subset s.seen all) (subset s.held all) (subset s.stepped all) (subset s.finished all) (subset s.got all) _
  where
    go : (x₀ x₁ x₂ x₃ x₄ rest : Bool) → (x₀ && (x₁ && (x₂ && (x₃ && (x₄ && rest))))) ≡ ((x₀ && (x₁ && (x₂ && (x₃ && (x₄ && true))))) && rest)
    go true true true true true rest = refl
    go true true true true false rest = refl
    go true true true false x₄ rest = refl
    go true true false x₃ x₄ rest = refl
    go true false x₂ x₃ x₄ rest = refl
    go false x₁ x₂ x₃ x₄ rest = refl

pub tally_part : (b : Board) (all : Set) (m : ℕ) (t : Tally) → tally_ok b all m t ≡ tally_sound b.setup.n b.table.count all m t
unfolding tally_ok tally_sound mask_sound offered
tally_part b all m t = refl

cells_index :
    (b : Board) (all : Set) (k : ℕ) (l : List ℕ) → cells_ok b all k l ≡ all_below (λ i. cell_ok b all (k + i) (get_or l i 0)) (length l)
unfolding cells_ok
cells_index b all k [] = sym (all_none (λ i. cell_ok b all (k + i) (get_or {A = ℕ} [] i 0)))
cells_index b all k (mask ∷ l) =
    let here : k ≡ k + 0 = omega arith in
    ap₂ (λ (a c : Bool). a && c)
    (ap (λ (j : ℕ). cell_ok b all j mask) here)
    (cells_index b all (suc k) l
    ∙ all_ext (λ i. cell_ok b all (suc k + i) (get_or l i 0)) (λ i. cell_ok b all (k + suc i) (get_or l i 0)) (length l)
    (λ i _. let e : suc k + i ≡ k + suc i = omega arith in ap (λ (j : ℕ). cell_ok b all j (get_or l i 0)) e))
    ∙ sym (all_shift (λ i. cell_ok b all (k + i) (get_or (mask ∷ l) i 0)) (length l))

pub cells_part :
    (b : Board) (all : Set) → length b.flight.masks ≡ cells
    → cells_ok b all 0 b.flight.masks ≡ cells_sound b.setup.n b.table all b.flight.carried b.flight.masks
unfolding cells_sound cell_sound_at cell_ok cell_sound third_sound offered
cells_part b all e =
    cells_index b all 0 b.flight.masks
    ∙ rw e (all_ext (λ i. cell_ok b all (0 + i) (get_or b.flight.masks i 0)) (λ i. cell_ok b all i (get_or b.flight.masks i 0)) cells
    (λ i _. let z : 0 + i ≡ i = omega arith in ap (λ (j : ℕ). cell_ok b all j (get_or b.flight.masks i 0)) z))

module _ (b : Board) where
  abbrev n : ℕ
  n = b.setup.n

  abbrev count : ℕ
  count = b.table.count

  abbrev all : Set
  all = all_offered count

  sites_part : all_below (λ p. site_ok b all (site_at b p)) n ≡ sites_sound n count b.log.count all b.sites
  unfolding sites_sound
  sites_part = all_ext (λ p. site_ok b all (site_at b p)) _ n (λ p _. site_part b all (site_at b p))

  tallies_part : all_below (λ m. tally_ok b all m (tally_at b m)) capacity ≡ tallies_sound n count all b.tallies
  unfolding tallies_sound
  tallies_part = all_ext (λ m. tally_ok b all m (tally_at b m)) _ capacity (λ m _. tally_part b all m (tally_at b m))

  entries_part :
      all_below (entry_ok b all) capacity
      ≡ entries_sound b.pool (set_of (contains b.log)) (finished_set b.table b.sites) b.entries all
  unfolding entries_sound finished_set
  entries_part = all_ext (entry_ok b all) _ capacity each
    where
      each : (m : ℕ) → m < capacity
          → entry_ok b all m
          ≡ entry_sound (has b.pool m) (has (set_of (contains b.log)) m)
          (has (set_of (λ x. has (site_at b (owner_of b.table x)).finished x)) m)
          (subset (entry_at b m) all)
      each m h =
          rw (has_set_of (contains b.log) m h, has_set_of (λ x. has (site_at b (owner_of b.table x)).finished x) m h)
          (unfold entry_ok entry_sound contains in refl)

  together : length b.flight.masks ≡ cells → is_sound b ≡ all_of (parts_of b all)
  unfolding is_sound all_of basis_sound table_sound row_sound pool_sound offered
  together long =
      rw (sites_part, tallies_part, cells_part b all long, record_part b b.log, entries_part)
      (regroup (setup_ok b.setup) (leb count capacity) (all_below (row_ok b) count) (ltb b.down (2 ^ n))
      (sites_sound n count b.log.count all b.sites)
      (tallies_sound n count all b.tallies)
      (cells_sound n b.table all b.flight.carried b.flight.masks)
      (pool_sound b.table b.sites all b.pool b.entries b.log))
    where
      regroup :
          (a l r d s t k p : Bool)
          → (a && (l && (r && (d && (s && (t && (k && p))))))) ≡ ((a && ((l && r) && (d && true))) && (s && (t && (k && (p && true)))))
      regroup true true true true s t k p = ap (λ (x : Bool). s && (t && (k && x))) (sym (and-true p))
      regroup true true true false s t k p = refl
      regroup true true false d s t k p = refl
      regroup true false r d s t k p = refl
      regroup false l r d s t k p = refl

  pub sound_parts : (set : Set) → set ≡ all → length b.flight.masks ≡ cells → is_sound b ≡ all_of (parts_of b set)
  sound_parts set e long = together long ∙ ap (λ (s : Set). all_of (parts_of b s)) (sym e)

-- each of the n sites has a place
pub basis_sites : (s : Setup) (down : ℕ) (t : Table) → basis_sound s down t ≡ true → s.n ≤ sites
unfolding basis_sound setup_ok all_of
basis_sites s down t e =
    let setup = leb 3 s.n && leb s.n 7 in
    leb-true s.n 7 (and_right (leb 3 s.n) (leb s.n 7) (and_left setup _ (and_left (setup && _) _ e)))
