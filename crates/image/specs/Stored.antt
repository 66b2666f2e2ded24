-- What a loop of src/writing makes of the row: the numbers of each element of an array, stored at its place.
-- Proof machinery: proofs/Rows says that the numbers of the whole array stand there then. Rests on layout.
use Rattle.std.specs.Prelude.{ℕ, ◌+◌, ◌*◌, List, get_or}
use Rattle.std.proofs.lemmas.List.Edits.{sets}
use Rattle.layout.specs.Laying.{up_to}

-- the elements below n, each with so many numbers, from a place on
unfoldable pub stored : {A : Type 0} → (A → List ℕ) → ℕ → ℕ → List A → A → List ℕ → ℕ → List ℕ
stored f at size xs d l n = up_to (λ k r. sets r (at + k * size) (f (get_or xs k d))) l n
