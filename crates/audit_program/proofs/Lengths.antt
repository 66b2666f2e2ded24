-- Lengths: of a record's lines, and of arrays.
-- Rests on audit_files. Assumes nothing.
use Rattle.std.proofs.Common.{ℕ, suc, ◌≤◌, ◌≡◌, refl, sym, ap, List, [], ◌∷◌, length, arith}
use Rattle.std.proofs.Math.ListN.{take, replicate}
use Rattle.std.proofs.lemmas.List.{length-replicate}
use lib.ListN.{length-take}
use Rattle.audit_files.specs.declared.Entry.{Entry}
use Rattle.audit_files.specs.Files.{numbers_of, most_lines, record_lines}

numbers_long : (l : List Entry) → length (numbers_of l) ≡ length l
unfolding numbers_of
numbers_long [] = refl
numbers_long (e ∷ l) = ap suc (numbers_long l)

-- No more lines of a record are handed on than the most.
pub record_few : (l : List Entry) → length (record_lines l) ≤ 65_537
unfolding record_lines
record_few l =
    let e : length (numbers_of (take most_lines l)) ≡ length (take most_lines l) = numbers_long (take most_lines l) in
    let m = length-take most_lines l in
    omega (arith, e, m)

-- Bounds over equal numbers, stated by themselves: where arrays are in reach, `omega` would write their cells out.
pub within : {i m n : ℕ} → i ≤ m → n ≡ m → i ≤ n
within h e = omega (arith, h, e)

pub at_most : {i m n : ℕ} → n ≡ i → i ≤ m → n ≤ m
at_most e h = omega (arith, h, e)

-- an array that was filled with one number
pub filled : (n x : ℕ) → length {A = ℕ} (replicate n x) ≡ n
filled n x = length-replicate n x

pub count_filled : (n x : ℕ) → n ≡ length {A = ℕ} (replicate n x)
count_filled n x = sym (filled n x)
