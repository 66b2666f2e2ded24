-- `crash` meets its contract.
-- Assumes nothing.
use Prim.Native.Nat.{◌<◌}
use mathlib.Core.Path.{◌≡◌, refl}
use borrow.Author.Rules.{rules}
use Rattle.std.proofs.Common.{Err}
use Rattle.steps.proofs.Numbers.{is_refusal}
use native.Mathlib.Omega.{arith}
use Rattle.site.specs.Sites.{sites}
use Rattle.calls.proofs.Passed.{site_below}
use Rattle.calls.proofs.OnCalls.{crash_stopped, crash_many, crash_done}
use Rattle.calls.proofs.crash.Goals as goal

pub returns-in_err-site_acts : goal.returns-in_err-site_acts
returns-in_err-site_acts c =
    let why = c.in_err-site_acts.field-0.0 in
    let e : c.from_residual.result ≡ Err why = search rules in
    rw e (crash_stopped c.args.setup c.args.board.now c.args.site _ c.in_err-site_acts.ensures (is_refusal why))

pub returns-then-crashes-lost : goal.returns-then-crashes-lost
returns-then-crashes-lost c =
    crash_many c.args.setup c.args.board.now c.args.site _ c.in_ok-site_acts.ensures refl (omega arith)

pub overflow_cast-site : goal.overflow_cast-site
overflow_cast-site c =
    let below : c.args.site < sites = site_below _ _ _ _ c.requires c.in_ok-site_acts.ensures refl in
    omega (arith, below)

pub returns : goal.returns
returns c =
    crash_done c.args.setup c.args.board.now c.args.site _ c.in_ok-site_acts.ensures _ refl (omega arith) c.with_site.ensures
