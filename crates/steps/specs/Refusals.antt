-- The numbers of refusals, and of what an event answers.
-- Rests on the declared Refusal.
use Rattle.std.specs.Prelude.{ℕ, Result, Ok, Err}
use Rattle.steps.specs.declared.Refusal.{Refusal}
use Rattle.steps.specs.declared.Refusal.TheVariants.{MalformedFile, SiteCount, CrashCount, Asymmetric, LacksPair, Unsound, NoSite, SiteDown, BadFields, TableFull, NotInFlight, NotInPool, LogRead, CrashLimit, CutPastSends, ShortSlice, BadPairs}

-- the number of a refusal
abbrev pub number_of : Refusal → ℕ
number_of MalformedFile = 1
number_of SiteCount = 2
number_of CrashCount = 3
number_of Asymmetric = 4
number_of LacksPair = 5
number_of Unsound = 6
number_of NoSite = 7
number_of SiteDown = 8
number_of BadFields = 9
number_of TableFull = 10
number_of NotInFlight = 11
number_of NotInPool = 12
number_of LogRead = 13
number_of CrashLimit = 14
number_of CutPastSends = 15
number_of ShortSlice = 16
number_of BadPairs = 18

-- the number of an answer; 0 of what is accepted
abbrev pub answer_number : Result Unit Refusal → ℕ
answer_number (Ok done) = 0
answer_number (Err refusal) = number_of refusal
