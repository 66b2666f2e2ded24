-- `postings_sets` meets its contract.
-- Assumes nothing.
use Prim.Native.Nat.{◌≤◌, ◌-◌}
use mathlib.Core.Path.{◌≡◌}
use Rattle.sets.specs.Sets.{capacity}
use Rattle.layout.specs.Laying.{postings_sets}
use Rattle.layout.proofs.postings_sets.Given as goal

abbrev pub invariant-loop-m : goal.invariant-loop-m
invariant-loop-m l = (l.m ≤ capacity) × (l.words ≡ postings_sets l.initial.words l.tallies l.entries l.m)
