-- `consume` meets its contract.
-- Assumes nothing.
use mathlib.Core.Path.{◌≡◌, refl}
use borrow.Author.Rules.{rules}
use Rattle.std.proofs.Common.{Err}
use Rattle.steps.proofs.Numbers.{is_refusal}
use Rattle.flat.specs.Flat.{consumed}
use Rattle.flat.proofs.Ways.{is_refused, goes_on}
use Rattle.flat.proofs.consume.Goals as goal

pub returns-in_err-cut_allowed : goal.returns-in_err-cut_allowed
unfolding consumed
returns-in_err-cut_allowed c =
    let why = c.in_err-cut_allowed.field-0.0 in
    let e : c.from_residual.result ≡ Err why = search rules in
    rw e (is_refused _ _ c.in_err-cut_allowed.ensures _ _ (is_refusal why))

pub returns : goal.returns
unfolding consumed
returns c = rw (c.mark.ensures, c.take_out.ensures) (goes_on _ _ c.in_ok-cut_allowed.ensures _ _ refl)
