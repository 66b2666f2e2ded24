-- A posting's place in a part of the lines is no more than there are lines.
-- Rests on audit_pair's Places. Assumes nothing.
use Prim.Native.Nat.{ℕ, ◌-◌, ◌≤◌}
use mathlib.Core.List.{List}
use native.Mathlib.Omega.{arith}
use lib.ListN.{length, drop, length-take, length-drop}
use Rattle.audit_rule.specs.Handed.{part, place_of}
use Rattle.audit_pair.proofs.Places.{place_at_most}

pub place_few : (x from to : ℕ) (lines : List ℕ) → place_of x (part from to lines) ≤ length lines
place_few x from to lines = omega (arith, place_at_most x (part from to lines), length-take (to - from) (drop from lines), length-drop from lines)
