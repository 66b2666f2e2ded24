-- `gather_site` meets its contract.
-- Assumes nothing.
use Prim.Native.Nat.{◌*◌, ◌-◌}
use mathlib.Core.Path.{◌≡◌, refl, sym, ◌∙◌}
use mathlib.Core.Bool.{true, false}
use mathlib.Core.List.{[]}
use native.Mathlib.Omega.{arith}
use lib.ListN.{length, length-drop}
use borrow.Rule.Slice.PartMut.{same_len_mid}
use Rattle.sets.specs.Masks.{has_bit}
use Rattle.posting.specs.Records.{numbers_of}
use Rattle.books.specs.Books.{blank, books}
use Rattle.books.proofs.Blocks.{part_all}
use Rattle.views.specs.Views.{record_in, table_of}
use Rattle.lookups.proofs.Blocks.{sheet_filled}
use Rattle.lookups.proofs.gather_site.Goals as goal

pub pass_at-passed-requires : goal.pass_at-passed-requires
pass_at-passed-requires c = (c.requires.0, c.requires.1)

pub fill-requires : goal.fill-requires
fill-requires c = rw part_all (simp length-drop (omega arith))

pub shape_of-figures-then-has_site : goal.shape_of-figures-then-has_site
shape_of-figures-then-has_site c =
    let args = c.args in
    let from = 64 * args.p in
    same_len_mid from (length args.figures.now - from) args.figures.now c.fill.new.out c.fill.auto.out

pub returns-then-has_site : goal.returns-then-has_site
returns-then-has_site c =
    let args = c.args in
    let so : has_bit args.named args.p ≡ true = sym c.has_site.ensures ∙ c.if-has_site.true in
    let a = args.board.now in record {
      value = rw so c.pass_at-passed.ensures.places_value;
      figures_after = rw so (sheet_filled (books blank (table_of a) (numbers_of (record_in a args.p))) c.pass_at-passed.result.sheet c.pass_at-passed.ensures.sheet_value args.p args.figures.now
          c.fill.new.out c.fill.ensures);
    }

pub returns : goal.returns
returns c =
    let args = c.args in
    let so : has_bit args.named args.p ≡ false = sym c.has_site.ensures ∙ c.if-has_site.false in record { value = rw so refl; figures_after = rw so refl }
