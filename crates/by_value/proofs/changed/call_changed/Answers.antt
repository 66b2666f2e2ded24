-- `call_changed` meets its contract.
-- Assumes nothing.
use mathlib.Core.Path.{refl, sym, ap, ◌∙◌}
use native.Mathlib.Omega.{arith}
use lib.ListN.{length}
use Rattle.steps.proofs.Numbers.{is_refusal}
use Rattle.machine.specs.declared.Board.{Board}
use Rattle.runfile.proofs.Programs.{few_events, start_stays}
use Rattle.by_value.specs.Changed.{changed_at}
use Rattle.by_value.proofs.CallLaws.{well, has_room, ten_bytes, none_called, refused_none, started_calls}
use Rattle.by_value.proofs.changed.call_changed.Goals as goal

pub returns-then-not-may_call : goal.returns-then-not-may_call
returns-then-not-may_call c =
    let g = c.args in
    let shown = none_called g.input.now g.place g.value g.event.now g.limit g.figures.now g.board.now (sym c.may_call.ensures ∙ c.if-not-may_call.true) in
    record { value = shown.0; figures_after = shown.1.0; board_after = shown.1.1 }

pub returns-in_default : goal.returns-in_default
returns-in_default c =
    let g = c.args in
    let may = sym c.may_call.ensures ∙ c.if-not-may_call.false in
    let shown =
    refused_none g.input.now g.place g.value g.event.now g.limit g.figures.now g.board.now _ _ may c.setup_of-setup.ensures
    c.in_default.ensures (is_refusal c.in_default.field-0) in
    record { value = shown.0; figures_after = shown.1.0; board_after = shown.1.1 }

pub board_after-left-requires : goal.board_after-left-requires
board_after-left-requires c =
    let g = c.args in
    let ok = well g.input.now g.event.now (length g.board.now) (sym c.may_call.ensures ∙ c.if-not-may_call.false) in
    (start_stays _ _ c.in-Ok.ensures refl, few_events g.input.now ok)

pub request_of-request-requires : goal.request_of-request-requires
request_of-request-requires c =
    let g = c.args in
    omega (arith, ten_bytes g.input.now g.event.now (length g.board.now) (sym c.may_call.ensures ∙ c.if-not-may_call.false))

pub hand_back-requires : goal.hand_back-requires
hand_back-requires c =
    let g = c.args in
    has_room g.input.now g.event.now (length g.board.now) (sym c.may_call.ensures ∙ c.if-not-may_call.false)

pub returns : goal.returns
returns c =
    let g = c.args in
    let may = sym c.may_call.ensures ∙ c.if-not-may_call.false in
    let before = c.changed-before.ensures ∙ ap (λ (b : Board). changed_at b g.place g.value) c.board_after-left.ensures in
    let same =
    started_calls g.input.now g.place g.value g.event.now g.limit g.figures.now g.board.now _ _ may c.setup_of-setup.ensures
    c.in-Ok.ensures _ _ refl before c.request_of-request.ensures in
    let handed = c.hand_back.ensures in
    record {
      value = handed.value ∙ ap (λ x. x.number) same;
      figures_after = handed.figures_after ∙ ap (λ x. x.figures) same;
      board_after = handed.out_after ∙ ap (λ x. x.board) same;
    }
