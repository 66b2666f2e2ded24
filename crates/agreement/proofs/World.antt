-- The theory's world, taken from the board that a list ends on: its sites, its owners, its conflicts. An earlier board has the same
-- ones, as far as it has postings. Rests on invariants and broadcast. Assumes nothing.
use Prim.Native.Nat.{ℕ, zero, suc, ◌*◌, ◌<◌, ◌≤◌}
use mathlib.Core.Path.{◌≡◌, refl, sym, ap, ◌∙◌}
use mathlib.Core.Logic.{◌⊎◌, inl, inr}
use mathlib.Core.Bool.{Bool, true, false, cond, ◌&&◌, and_comm, and-false}
use native.Mathlib.Omega.{arith}
use Rattle.sets.proofs.Truth.{test, never, not_so, and_left, and_right, and_intro}
use Rattle.sets.specs.Sets.{capacity}
use Rattle.posting.specs.declared.Posting.{Posting}
use Rattle.posting.specs.declared.Table.{Table}
use Rattle.posting.specs.Kinds.{symmetric, has_fixed_pairs}
use Rattle.posting.specs.Conflicts.{row, offered, conflict, conflicting}
use Rattle.posting.proofs.ConflictLaws.{conflict_turned, conflict_itself}
use Rattle.site.specs.declared.Setup.{Setup}
use Rattle.site.specs.Steps.{owner_of}
use Rattle.machine.specs.declared.Board.{Board}
use Rattle.machine.specs.Soundness.{setup_ok}
use Rattle.machine.proofs.SoundFacts.{of_all, Sound}
use Rattle.invariants.proofs.Grow.{Grows}
use Rattle.machine.proofs.Facts.{setup_sites}
use Rattle.invariants.proofs.Reached.{Good}
use Rattle.broadcast.specs.Machine.{World}

pub setup_matrix : (setup : Setup) → setup_ok setup ≡ true → (symmetric setup.matrix ≡ true) × (has_fixed_pairs setup.matrix ≡ true)
unfolding setup_ok
setup_matrix setup h = let all = of_all _ h in (all.1.1.0, all.1.1.1.0)

-- two postings that are offered, and conflict
unfoldable pub clash : ℕ → Table → ℕ → ℕ → Bool
clash matrix t x y = (offered t x && offered t y) && conflict matrix t x y

unfoldable pub owner_in : Table → ℕ → ℕ
owner_in t m = cond (offered t m) (owner_of t m) 0

module _ (b : Board) (g : Good b) where
  pub owned_in : (m : ℕ) → owner_in b.table m < b.setup.n
  unfolding owner_in
  owned_in m = elim (test (offered b.table m)) [
    | inl e ↦ rw e (g.sound.owners m e)
    | inr e ↦ rw e (let h = (setup_sites b.setup g.sound.setup).0 in omega arith)
  ]

  pub clash_turned : (x y : ℕ) → clash b.setup.matrix b.table x y ≡ clash b.setup.matrix b.table y x
  unfolding clash
  clash_turned x y =
      rw (and_comm (offered b.table x) (offered b.table y), conflict_turned b.setup.matrix (setup_matrix b.setup g.sound.setup).0 b.table x y)

  pub clash_itself : (x : ℕ) → clash b.setup.matrix b.table x x ≡ false
  unfolding clash
  clash_itself x = rw (conflict_itself b.setup.matrix b.table x) (and-false (offered b.table x && offered b.table x))

  abbrev pub world_of : World
  world_of =
      record {
        n = b.setup.n;
        f = b.setup.f;
        few = (setup_sites b.setup g.sound.setup).2;
        bound = capacity;
        owner = owner_in b.table;
        owned = owned_in;
        conflict = clash b.setup.matrix b.table;
        symmetric = clash_turned;
        irreflexive = clash_itself;
      }

-- an earlier board of the same list: its table is a part of the last one's
pub record Earlier (b last : Board) : Type 0 where
  pub same_setup : b.setup ≡ last.setup
  pub grows : Grows b.table last.table

module _ (b last : Board) (e : Earlier b last) where
  pub owner_same : (m : ℕ) → offered b.table m ≡ true → owner_in last.table m ≡ owner_of b.table m
  unfolding owner_in
  owner_same m o = rw (e.grows.more m o) (ap (λ (r : Posting). r.owner) (e.grows.same m o))

  pub clash_same : (x y : ℕ) → offered b.table x ≡ true → offered b.table y ≡ true
      → clash last.setup.matrix last.table x y ≡ conflict b.setup.matrix b.table x y
  unfolding clash conflict
  clash_same x y ox oy = rw (e.grows.more x ox, e.grows.more y oy, e.grows.same x ox, e.grows.same y oy, ← e.same_setup)
