-- Texts as bytes; signed numbers as text, plain or as cents; whether two numbers are the same.
-- Rests on printer for digits.
use Rattle.std.specs.Prelude.{ℕ, suc, ◌/◌, Bool, false, List, [], ◌∷◌, ◌++◌, eqb, ℤ, pos, negsuc, nat_abs}
use Prim.Native.Char.{code}
use Prim.Native.String.{String, [] as empty, ◌∷◌ as ◌and◌}
use Rattle.printer.specs.Output.{last_digit, decimal}

-- the bytes of a text of ASCII characters
abbrev pub text : String → List ℕ
text empty = []
text (c and s) = code c ∷ text s

-- a minus sign ahead of a number below zero
abbrev pub sign : ℤ → List ℕ
sign (pos n) = []
sign (negsuc n) = 45 ∷ []

-- a signed number in base ten: a minus sign before the size of a negative one
unfoldable pub signed : ℤ → List ℕ
signed (pos n) = decimal n
signed (negsuc n) = (45 ∷ []) ++ decimal (suc n)

-- a size in cents as units, a point and two digits: 375.02
unfoldable pub units : ℕ → List ℕ
units n = decimal (n / 100) ++ (46 ∷ last_digit (n / 10) ∷ last_digit n ∷ [])

unfoldable pub cents : ℤ → List ℕ
cents x = sign x ++ units (nat_abs x)

abbrev pub is_zero : ℤ → Bool
is_zero x = eqb (nat_abs x) 0

unfoldable pub same_number : ℤ → ℤ → Bool
same_number (pos m) (pos n) = eqb m n
same_number (pos m) (negsuc n) = false
same_number (negsuc m) (pos n) = false
same_number (negsuc m) (negsuc n) = eqb m n
