-- The refusals that the code declares, by their numbers, and what its searches and its judge answer: nothing, where other definitions have a number that stands for nothing.
-- Rests on the declared types.
use Rattle.std.specs.Prelude.{ℕ, cond, Option, Some, None, Result, Ok, Err, eqb, ltb}
use Rattle.audit_input.specs.declared.Answer.{Answer}
use Rattle.audit_input.specs.declared.Refusal.{Refusal}
use Rattle.audit_input.specs.declared.Refusal.TheVariants.{Sites, Matrix, Sizes, Fields, Unknown, Twice}
use Rattle.audit_input.specs.declared.Spot.{Spot}

abbrev pub number_of : Refusal → ℕ
number_of Sites = 1
number_of Matrix = 2
number_of Sizes = 3
number_of Fields = 5
number_of Unknown = 7
number_of Twice = 9

-- 0 if nothing is refused
abbrev pub code_of : Option Refusal → ℕ
code_of None = 0
code_of (Some why) = number_of why

-- an answer as the judge gives it: an error, unless its code is 0
abbrev pub judgement : Answer → Result Unit Answer
judgement a = cond (eqb a.code 0) (Ok tt) (Err a)

-- a spot as a search over n sites answers it: none, unless its site is one of them
abbrev pub found_spot : Spot → ℕ → Option Spot
found_spot s n = cond (ltb s.site n) (Some s) None
