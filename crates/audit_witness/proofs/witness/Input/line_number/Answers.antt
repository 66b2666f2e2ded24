-- `line_number` meets its contract.
-- Assumes nothing.
use Prim.Native.Nat.{◌+◌}
use mathlib.Core.Path.{◌≡◌, ap, ap₂, ◌∙◌}
use native.Mathlib.Omega.{arith}
use lib.ListN.{get_or}
use Rattle.audit_rule.specs.Handed.{start_of, record_of, place_of}
use Rattle.audit_witness.specs.Witness.{line_number}
use Rattle.audit_witness.proofs.Lines.{place_few}
use Rattle.audit_witness.proofs.witness.Input.line_number.Goals as goal

pub overflow_add-result : goal.overflow_add-result
overflow_add-result c =
    let r = c.args.self.records in
    let p = c.args.p in
    let x = c.args.x in
    let place : c.place_of.result ≡ place_of x (record_of r.lines.now r.ends.now p) = c.place_of.ensures ∙ ap (place_of x) c.record_of.ensures in
    let most = place_few x (start_of r.ends.now p) (get_or r.ends.now p 0) r.lines.now in
    record { fits = omega (arith, c.from.ensures, place, most, c.requires.0.few_lines) }

pub returns : goal.returns
unfolding line_number
returns c = ap₂ (λ n m. n + m) c.from.ensures (c.place_of.ensures ∙ ap (place_of c.args.x) c.record_of.ensures)
