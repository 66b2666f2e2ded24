-- `pair_ok` meets its contract: the constant table says of each pair whether the definition's has it.
-- Assumes nothing.
use Prim.Native.Nat.{ℕ}
use mathlib.Core.Path.{◌≡◌, refl, sym, ap, ◌∙◌}
use mathlib.Core.Bool.{Bool, false}
use mathlib.Core.List.{List, [], map}
use lib.Dec.{eqb}
use lib.ListN.{get_or}
use Rattle.std.proofs.Math.ListN.{get_or-map}
use Rattle.posting.specs.Kinds.{fixed_pairs, fixed_pair, pair_ok}
use Rattle.posting.proofs.pair_ok.Goals as goal

-- whether a place of a row has a pair
abbrev pair_in : List ℕ → List Bool
pair_in row = map (λ (x : ℕ). eqb x 1) row

fixed_in : (i j : ℕ) → get_or (get_or (map pair_in fixed_pairs) i []) j false ≡ fixed_pair i j
unfolding fixed_pair
fixed_in i j = ap (λ (row : List Bool). get_or row j false) (get_or-map pair_in fixed_pairs i []) ∙ get_or-map (λ (x : ℕ). eqb x 1) (get_or fixed_pairs i []) j 0

pub returns-then-not-from : goal.returns-then-not-from
unfolding pair_ok fixed_pairs
returns-then-not-from c =
    let at : fixed_pair c.args.i c.args.j ≡ get_or (get_or (map pair_in fixed_pairs) c.from.result []) c.from-2.result false = rw (c.from.ensures, c.from-2.ensures) (sym (fixed_in c.args.i c.args.j)) in
    let h = c.if-not-from.true in
    rw at (rw h refl)

pub returns-else-not-from : goal.returns-else-not-from
unfolding pair_ok fixed_pairs
returns-else-not-from c =
    let at : fixed_pair c.args.i c.args.j ≡ get_or (get_or (map pair_in fixed_pairs) c.from.result []) c.from-2.result false = rw (c.from.ensures, c.from-2.ensures) (sym (fixed_in c.args.i c.args.j)) in
    let h = c.if-not-from.false in
    rw at (rw h c.matrix_entry.ensures)
