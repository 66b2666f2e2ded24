-- How two postings stand in a record, as the number that Pair's `stands` gives.
-- Rests on the type that the code declares.
use Rattle.std.specs.Prelude.{ℕ, Option, Some, None}
use Rattle.audit_pair.specs.declared.Standing.{Standing}
use Rattle.audit_pair.specs.declared.Standing.TheVariants.{Forth, Back, YAlone, XAlone}

abbrev pub number_of : Standing → ℕ
number_of Forth = 1
number_of Back = 2
number_of YAlone = 3
number_of XAlone = 4

-- 0 if neither is there
abbrev pub code_of : Option Standing → ℕ
code_of None = 0
code_of (Some s) = number_of s
