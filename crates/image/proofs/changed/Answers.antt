-- `changed` meets its contract.
-- Assumes nothing.
use Prim.Native.Nat.{ℕ}
use mathlib.Core.Path.{refl, ap, ◌∙◌}
use mathlib.Core.List.{List}
use lib.ListN.{set}
use borrow.Author.Tests.{lt-ltb, le-ltb}
use Rattle.image.specs.Layout.{image_long}
use Rattle.image.specs.Image.{board_from}
use Rattle.image.proofs.changed.Goals as goal

pub returns-then-place-ge-IMAGE : goal.returns-then-place-ge-IMAGE
returns-then-place-ge-IMAGE c = rw (le-ltb c.args.place image_long c.if-place-ge-IMAGE.true) refl

pub returns : goal.returns
returns c =
    let place = c.args.place in
    rw (lt-ltb place image_long c.if-place-ge-IMAGE.false)
    (c.board_from.ensures ∙ ap (λ (l : List ℕ). board_from (set l place c.args.value)) c.write_image.ensures)
