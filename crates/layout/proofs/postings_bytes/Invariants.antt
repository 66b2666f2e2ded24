-- `postings_bytes` meets its contract.
-- Assumes nothing.
use Prim.Native.Nat.{◌≤◌, ◌-◌}
use mathlib.Core.Path.{◌≡◌}
use Rattle.sets.specs.Sets.{capacity}
use Rattle.layout.specs.Laying.{postings_bytes}
use Rattle.layout.proofs.postings_bytes.Given as goal

abbrev pub invariant-loop-m : goal.invariant-loop-m
invariant-loop-m l = (l.m ≤ capacity) × (l.bytes ≡ postings_bytes l.initial.bytes l.rows l.tallies l.m)
