-- The bytes of an event, where it is lent as a part of the file, and its unused bytes, by its code.
-- Rests on RunFile, on sets. Assumes nothing.
use Prim.Native.Nat.{ℕ, ◌+◌, ◌-◌, ◌*◌}
use mathlib.Core.Path.{◌≡◌, ap}
use mathlib.Core.Logic.{◌≢◌}
use mathlib.Core.Bool.{Bool, true, false, ◌&&◌}
use mathlib.Core.List.{List}
use lib.ListN.{take, drop}
use native.Mathlib.Omega.{arith}
use borrow.Author.Tests.{ne_eqb}
use Rattle.sets.specs.Below.{all_below}
use Rattle.decoder.specs.RunFile.{event_at, code_of, zero_at, unused_ok}

-- the part of ten bytes from an event's place on
pub event_part : (input : List ℕ) (k : ℕ) → take (9 + 10 * k + 10 - (9 + 10 * k)) (drop (9 + 10 * k) input) ≡ event_at input k
event_part input k = let ten : 9 + 10 * k + 10 - (9 + 10 * k) ≡ 10 = omega arith in ap (λ (n : ℕ). take n (drop (9 + 10 * k) input)) ten

-- ---- unused bytes: an offer uses all eight, a receive the first four, the others the first

abbrev pub middle_blank : List ℕ → Bool
middle_blank event = zero_at event 2 && zero_at event 3 && zero_at event 4

abbrev pub end_blank : List ℕ → Bool
end_blank event = zero_at event 5 && zero_at event 6 && zero_at event 7 && zero_at event 8

module _ (event : List ℕ) where
  pub all_used : code_of event ≡ 1 → true ≡ unused_ok event
  unfolding unused_ok all_below
  all_used e = rw e

  pub four_used : code_of event ≡ 2 → end_blank event ≡ unused_ok event
  unfolding unused_ok all_below
  four_used e = rw e

  module _ (d1 : code_of event ≢ 1) (d2 : code_of event ≢ 2) where
    pub one_used : middle_blank event ≡ true → end_blank event ≡ unused_ok event
    unfolding unused_ok all_below
    one_used t = rw (ne_eqb (code_of event) 1 d1, ne_eqb (code_of event) 2 d2, t)

    pub one_wrong : middle_blank event ≡ false → false ≡ unused_ok event
    unfolding unused_ok all_below
    one_wrong f = rw (ne_eqb (code_of event) 1 d1, ne_eqb (code_of event) 2 d2, f)
