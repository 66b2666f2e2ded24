-- `books::call` meets its contract: the product and the sum fit.
-- Assumes nothing.
use mathlib.Core.Path.{◌≡◌, ◌∙◌}
use Prim.Native.Nat.{ℕ, ◌+◌, ◌<◌}
use native.Mathlib.Omega.{arith}
use lib.IntN.{nat_abs, pos}
use mir.Syntax.{w64}
use mir.Val.{SFits}
use mir.Facts.{to_z-of_z}
use borrow.Author.Rules.{rules}
use Rattle.books.specs.declared.Figures.{Figures}
use Rattle.books.specs.Effect.{size_of_call}
use Rattle.books.specs.Bounds.{Room}
use Rattle.books.proofs.Signed.{read_back, read_back_lem, sum_fits, sum_is}
use Rattle.books.proofs.Bounds.{call_size}
use Rattle.books.proofs.call.Goals as goal
use Rattle.books.proofs.call.Goals.{After-size_of_call-size}

module _ (s : Figures) (room : Room s) where
  position-read : read_back s.position ≡ s.position
  position-read = read_back_lem s.position (omega arith)

  rate-read : read_back s.rate ≡ s.rate
  rate-read = read_back_lem s.rate (omega arith)

  abbrev size : ℕ
  size = size_of_call s.position s.rate

  small : nat_abs s.called + size < 9223372036854775808
  small = omega (arith, call_size s.position s.rate room.rate)

size-at : (c : After-size_of_call-size) → let b = c.before.before.before in c.size_of_call-size.result ≡ size b.args.s b.requires
size-at c =
    let b = c.before.before.before in
    c.size_of_call-size.ensures ∙ rw (position-read b.args.s b.requires, rate-read b.args.s b.requires)

pub overflow_cast-size : goal.overflow_cast-size
overflow_cast-size c =
    record { sfits = omega (arith, size-at (goal.at.overflow_cast-size c).After-size_of_call-size, small c.args.s c.requires) }

pub overflow_add-result : goal.overflow_add-result
overflow_add-result c =
    rw (size-at (goal.at.overflow_add-result c).After-size_of_call-size) (sum_fits c.args.s.called (pos (size c.args.s c.requires)) (small c.args.s c.requires))

pub returns : goal.returns
returns c =
    let s = c.args.s in
    let settled : SFits w64 s.settled = search rules in
    rw (
      size-at (goal.at.returns c).After-size_of_call-size,
      sum_is s.called (pos (size s c.requires)) (small s c.requires),
      position-read s c.requires,
      rate-read s c.requires,
      to_z-of_z settled,
    )
