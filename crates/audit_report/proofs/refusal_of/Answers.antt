-- `refusal_of` meets its contract.
-- Assumes nothing.
use Prim.Native.Nat.{ℕ, ◌+◌}
use mathlib.Core.Path.{ap}
use native.Mathlib.Omega.{arith}
use Rattle.audit_files.specs.Files.{refusing, where_is}
use Rattle.audit_report.specs.Report.{refusal_of}
use Rattle.audit_report.proofs.refusal_of.Goals as goal

pub overflow_add-file : goal.overflow_add-file
overflow_add-file c = record { fits = omega (arith, c.requires.0) }

pub overflow_add-result : goal.overflow_add-result
overflow_add-result c = record { fits = omega (arith, c.top_of-top.ensures.upper_bound, c.requires.1) }

pub overflow_add-result-2 : goal.overflow_add-result-2
overflow_add-result-2 c = record { fits = omega (arith, c.top_of-top.ensures.upper_bound, c.requires.2) }

pub overflow_mul-result : goal.overflow_mul-result
overflow_mul-result c = record { fits = omega (arith, c.top_of-top.ensures.upper_bound, c.requires.2) }

pub overflow_add-result-3 : goal.overflow_add-result-3
overflow_add-result-3 c = record { fits = omega (arith, c.top_of-top.ensures.upper_bound, c.requires.0, c.requires.2) }

pub returns : goal.returns
unfolding refusal_of where_is
returns c =
    let r = c.args.r in
    ap (λ (top : ℕ). refusing r.code (r.site + 1) (top + r.line) r.posting (where_is (r.site + 1) (top + r.above))) c.top_of-top.ensures.value
