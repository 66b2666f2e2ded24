-- A set made by a test has what passes the test.
-- Rests on the specs and on their laws of words. Assumes nothing.
use Prim.Native.Nat.{ℕ, ◌<◌}
use mathlib.Core.Path.{◌≡◌, ap, ◌∙◌}
use mathlib.Core.Bool.{Bool, ◌&&◌}
use native.Mathlib.Omega.{arith}
use borrow.Author.Tests.{lt-ltb}
use Rattle.sets.proofs.WordLaws.{member_collect}
use Rattle.sets.specs.Sets.{words, capacity, has, set_of}

pub has_set_of : (p : ℕ → Bool) (x : ℕ) → x < capacity → has (set_of p) x ≡ p x
has_set_of p x h = member_collect words p capacity x (omega arith) ∙ ap (λ (b : Bool). b && p x) (lt-ltb x capacity h)
