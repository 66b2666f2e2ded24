-- `look_up_at` meets its contract.
-- Assumes nothing.
use Prim.Native.Nat.{◌≤◌}
use mathlib.Core.Path.{refl}
use native.Mathlib.Omega.{arith}
use lib.IntN.{ℤ, pos}
use lib.ListN.{length, length-replicate}
use Rattle.steps.proofs.Numbers.{is_refusal}
use Rattle.arrays.specs.Arrays.{arrays}
use Rattle.views.specs.Views.{record_in, row_of, table_of}
use Rattle.lookups.proofs.Lookup.{refused_at, done_at, pairs_within, lines_fit}
use Rattle.lookups.proofs.look_up_at.Goals as goal

pub returns-in-Err : goal.returns-in-Err
returns-in-Err c =
    let g = c.args in
    let b = g.board.now in
    λ sets masks good carried sound.
    rw c.number.ensures
    (refused_at g.setup (arrays sets b.counts b.bytes b.amounts masks good carried) c.requires.0 g.pairs.now g.out.now _ c.in-Err.ensures sound (is_refusal c.in-Err.refusal))

pub gather-visited-requires : goal.gather-visited-requires
gather-visited-requires c = (c.requires.0, c.requires.1, length-replicate {A = ℤ} 448 (pos 0))

pub copy_lines-requires : goal.copy_lines-requires
copy_lines-requires c =
    let g = c.args in
    let long : 448 ≤ length c.gather-visited.new.figures = omega (arith, c.gather-visited.auto.figures, length-replicate {A = ℤ} 448 (pos 0)) in (
      pairs_within g.setup g.board.now c.requires.0 g.pairs.now g.out.now _ c.in_default.ensures refl,
      long,
      lines_fit g.setup g.board.now c.requires.0 g.pairs.now g.out.now _ c.in_default.ensures refl,
    )

-- the table and the records are the same whatever stands in the arrays that they are not read from
pub returns : goal.returns
unfolding table_of row_of record_in
returns c =
    let g = c.args in
    let b = g.board.now in
    λ sets masks good carried sound.
    done_at g.setup (arrays sets b.counts b.bytes b.amounts masks good carried) c.requires.0 g.pairs.now g.out.now
    _ c.in_default.ensures refl sound c.named_sites-named.result c.named_sites-named.ensures
    c.gather-visited.result c.gather-visited.ensures.value c.gather-visited.new.figures c.gather-visited.ensures.gathered c.copy_lines.new.out c.copy_lines.ensures
