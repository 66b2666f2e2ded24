-- What was printed into a slice lies in it.
-- Rests on printer.
use Rattle.std.specs.Prelude.{◌≡◌, ℕ, ◌≤◌, length, List, Option, Some, None, IfSome}
use mathlib.Core.Path.{refl}
use Rattle.printer.specs.Writing.{answer_printed, slice_printed}
use Rattle.printer.proofs.Writing.{written_within}

pub made_within : (text s t : List ℕ) (x : Option ℕ) → x ≡ answer_printed text s → t ≡ slice_printed text s → IfSome x (λ n. n ≤ length t)
made_within text s t None a e = tt
made_within text s t (Some count) a e = written_within text s t count (Some count) refl a e
