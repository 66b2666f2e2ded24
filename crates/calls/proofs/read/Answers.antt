-- `read` meets its contract.
-- Assumes nothing.
use Prim.Native.Nat.{◌<◌}
use mathlib.Core.Path.{◌≡◌, refl}
use borrow.Author.Rules.{rules}
use Rattle.std.proofs.Common.{Err}
use Rattle.steps.proofs.Numbers.{is_refusal}
use native.Mathlib.Omega.{arith}
use lib.ListN.{get_or}
use Rattle.sets.specs.Sets.{capacity}
use Rattle.site.specs.Sites.{sites}
use Rattle.arrays.specs.Layout.{place_at, log_at}
use Rattle.arrays.specs.Arrays.{byte}
use Rattle.calls.proofs.Passed.{site_below}
use Rattle.calls.proofs.OnCalls.{read_stopped, read_end, read_late, read_done}
use Rattle.calls.proofs.read.Goals as goal
use Rattle.calls.proofs.read.Goals.{In_ok-site_acts, Else-logged-place}

pub returns-in_err-site_acts : goal.returns-in_err-site_acts
returns-in_err-site_acts c =
    let why = c.in_err-site_acts.field-0.0 in
    let e : c.from_residual.result ≡ Err why = search rules in
    rw e (read_stopped c.args.setup c.args.board.now c.args.site c.args.cut _ c.in_err-site_acts.ensures (is_refusal why))

-- the site that acts has a place
below : (c : In_ok-site_acts) → c.args.site < sites
below c = site_below _ _ _ _ c.requires.0 c.in_ok-site_acts.ensures refl

-- the entry that it reads is a posting
entry-below : (c : Else-logged-place) → byte c.args.board.now.bytes (log_at (get_or c.args.board.now.counts (place_at c.args.site) 0)) < capacity
entry-below c = c.requires.1.postings _ c.if-logged-place.false

pub overflow_add-place : goal.overflow_add-place
overflow_add-place c = omega (arith, below (goal.at.overflow_add-place c).In_ok-site_acts)

pub offset_bounds-board-site : goal.offset_bounds-board-site
offset_bounds-board-site c = omega (arith, below (goal.at.offset_bounds-board-site c).In_ok-site_acts)

pub bounds-board-site : goal.bounds-board-site
bounds-board-site c = omega (arith, below (goal.at.bounds-board-site c).In_ok-site_acts)

pub returns-then-logged-place : goal.returns-then-logged-place
returns-then-logged-place c = read_end c.args.setup c.args.board.now c.args.site c.args.cut _ c.in_ok-site_acts.ensures refl c.if-logged-place.true

pub returns-in_err-cut_allowed : goal.returns-in_err-cut_allowed
returns-in_err-cut_allowed c =
    let why = c.in_err-cut_allowed.field-0.0 in
    let e : c.from_residual-in_err-cut_allowed.result ≡ Err why = search rules in
    rw e (read_late c.args.setup c.args.board.now c.args.site c.args.cut _ c.in_ok-site_acts.ensures refl c.if-logged-place.false _ c.in_err-cut_allowed.ensures (is_refusal why))

pub overflow_add-board-2 : goal.overflow_add-board-2
overflow_add-board-2 c = omega (arith, below (goal.at.overflow_add-board-2 c).In_ok-site_acts)

pub offset_bounds-board-site-2 : goal.offset_bounds-board-site-2
offset_bounds-board-site-2 c = omega (arith, below (goal.at.offset_bounds-board-site-2 c).In_ok-site_acts)

pub bounds-board-site-2 : goal.bounds-board-site-2
bounds-board-site-2 c = omega (arith, below (goal.at.bounds-board-site-2 c).In_ok-site_acts)

pub mark-requires : goal.mark-requires
mark-requires c = below (goal.at.mark-requires c).In_ok-site_acts

pub deliver_entry_to-requires : goal.deliver_entry_to-requires
deliver_entry_to-requires c =
    let at = goal.at.deliver_entry_to-requires c in
    (below at.In_ok-site_acts, rw c.from-m.ensures (entry-below at.Else-logged-place))

pub returns : goal.returns
returns c =
    read_done c.args.setup c.args.board.now c.args.site c.args.cut _ c.in_ok-site_acts.ensures refl c.if-logged-place.false _ c.in_ok-cut_allowed.ensures _ _
    refl c.mark.ensures (rw (← c.from-m.ensures) c.deliver_entry_to.ensures)
