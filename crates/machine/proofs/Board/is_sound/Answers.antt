-- `is_sound` meets its contract: after each test that passes, the answer is that of the parts that are left.
-- Assumes nothing.
use Prim.Native.Nat.{ℕ}
use mathlib.Core.Path.{◌≡◌, refl, sym, ◌∙◌}
use mathlib.Core.Bool.{and-true}
use lib.ListN.{length, drop}
use borrow.Author.Rules.{rules}
use Rattle.sets.specs.declared.Set.{Set}
use Rattle.flight.specs.Flights.{cells}
use Rattle.sets.specs.Below.{all_of}
use Rattle.machine.specs.Soundness.{is_sound}
use Rattle.soundness.specs.Parts.{all_offered}
use Rattle.machine.specs.SoundParts.{parts_of}
use Rattle.machine.proofs.SoundPartLaws.{basis_sites, sound_parts}
use Rattle.machine.proofs.Board.is_sound.Goals as goal
use Rattle.machine.proofs.Board.is_sound.Goals.{After-offered_set-all, Else-not-cells_ok, Else-not-sites_ok, Else-not-tallies_ok, Start}

-- what holds of every board: a mask for each cell
long : (c : Start) → length c.args.self.flight.masks ≡ cells
long c = search rules

-- the first k parts pass
abbrev Left : Start → Set → ℕ → Type 0
Left c all k = is_sound c.args.self ≡ all_of (drop k (parts_of c.args.self all))

after-basis : (c : After-offered_set-all) → Left c.before.before.before.before.before c.offered_set-all.result 1
unfolding all_of
after-basis c =
    sound_parts c.args.self _ c.offered_set-all.ensures (long c.before.before.before.before.before) ∙ rw (sym c.basis_ok.ensures ∙ c.if-not-basis_ok.false)

after-sites : (c : Else-not-sites_ok) → Left c.before.before.before.before.before.before.before.before.before c.offered_set-all.result 2
unfolding all_of
after-sites c = after-basis c.before.before.before.before ∙ rw (sym c.sites_ok.ensures ∙ c.if-not-sites_ok.false)

after-tallies :
    (c : Else-not-tallies_ok) → Left c.before.before.before.before.before.before.before.before.before.before.before.before c.offered_set-all.result 3
unfolding all_of
after-tallies c = after-sites c.before.before.before ∙ rw (sym c.tallies_ok.ensures ∙ c.if-not-tallies_ok.false)

after-cells :
    (c : Else-not-cells_ok)
    → Left c.before.before.before.before.before.before.before.before.before.before.before.before.before.before.before.before c.offered_set-all.result 4
unfolding all_of
after-cells c = after-tallies c.before.before.before.before ∙ rw (sym c.cells_ok.ensures ∙ c.if-not-cells_ok.false)

pub returns-then-not-basis_ok : goal.returns-then-not-basis_ok
unfolding all_of
returns-then-not-basis_ok c =
    let board = c.args.self in
    sym (sound_parts board (all_offered board.table.count) refl (long (goal.at.returns-then-not-basis_ok c).Start) ∙ rw (sym c.basis_ok.ensures ∙ c.if-not-basis_ok.true))

pub sites_ok-requires : goal.sites_ok-requires
sites_ok-requires c = basis_sites _ _ _ (sym c.basis_ok.ensures ∙ c.if-not-basis_ok.false)

pub returns-then-not-sites_ok : goal.returns-then-not-sites_ok
unfolding all_of
returns-then-not-sites_ok c = sym (after-basis (goal.at.returns-then-not-sites_ok c).After-offered_set-all ∙ rw (sym c.sites_ok.ensures ∙ c.if-not-sites_ok.true))

pub returns-then-not-tallies_ok : goal.returns-then-not-tallies_ok
unfolding all_of
returns-then-not-tallies_ok c = sym (after-sites (goal.at.returns-then-not-tallies_ok c).Else-not-sites_ok ∙ rw (sym c.tallies_ok.ensures ∙ c.if-not-tallies_ok.true))

pub returns-then-not-cells_ok : goal.returns-then-not-cells_ok
unfolding all_of
returns-then-not-cells_ok c = sym (after-tallies (goal.at.returns-then-not-cells_ok c).Else-not-tallies_ok ∙ rw (sym c.cells_ok.ensures ∙ c.if-not-cells_ok.true))

pub returns : goal.returns
unfolding all_of
returns c = c.pool_ok.ensures ∙ sym (after-cells (goal.at.returns c).Else-not-cells_ok ∙ and-true _)
