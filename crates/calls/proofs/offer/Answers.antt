-- `offer` meets its contract.
-- Assumes nothing.
use Prim.Native.Nat.{◌<◌}
use mathlib.Core.Path.{◌≡◌, refl}
use borrow.Author.Rules.{rules}
use Rattle.std.proofs.Common.{Err, true}
use Rattle.steps.proofs.Numbers.{is_refusal}
use native.Mathlib.Omega.{arith}
use lib.ListN.{get_or}
use Rattle.sets.specs.Sets.{capacity}
use Rattle.posting.specs.Kinds.{kinds, accounts_ok}
use Rattle.site.specs.Sites.{sites}
use Rattle.arrays.specs.Layout.{count_at}
use Rattle.calls.proofs.Passed.{site_below, offer_room, offer_fields}
use Rattle.calls.proofs.OnCalls.{offer_stopped, offer_refused, offer_late, offer_done}
use Rattle.calls.proofs.offer.Goals as goal
use Rattle.calls.proofs.offer.Goals.{In_ok-site_acts, In_ok-offer_fits}

-- the site that acts has a place
below : (c : In_ok-site_acts) → c.args.site < sites
below c = site_below _ _ _ _ c.requires c.in_ok-site_acts.ensures refl

-- the posting has a number, a kind and its accounts
room : (c : In_ok-offer_fits) → get_or c.args.board.now.counts count_at 0 < capacity
room c = offer_room _ _ _ c.in_ok-offer_fits.ensures refl

fields : (c : In_ok-offer_fits) → (c.args.kind < kinds) × (accounts_ok c.args.kind c.args.account c.args.other ≡ true)
fields c = offer_fields _ (get_or c.args.board.now.counts count_at 0) _ c.in_ok-offer_fits.ensures refl

pub returns-in_err-site_acts : goal.returns-in_err-site_acts
returns-in_err-site_acts c =
    let why = c.in_err-site_acts.field-0.0 in
    let e : c.from_residual.result ≡ Err why = search rules in
    rw e
    (offer_stopped c.args.setup c.args.board.now c.args.site c.args.kind c.args.account c.args.other c.args.amount c.args.cut _ c.in_err-site_acts.ensures (is_refusal why))

pub overflow_cast-posting : goal.overflow_cast-posting
overflow_cast-posting c = omega (arith, below (goal.at.overflow_cast-posting c).In_ok-site_acts)

pub returns-in_err-offer_fits : goal.returns-in_err-offer_fits
returns-in_err-offer_fits c =
    let why = c.in_err-offer_fits.field-0.0 in
    let e : c.from_residual-in_err-offer_fits.result ≡ Err why = search rules in
    rw e
    (offer_refused c.args.setup c.args.board.now c.args.site c.args.kind c.args.account c.args.other c.args.amount c.args.cut
    _ c.in_ok-site_acts.ensures refl _ c.in_err-offer_fits.ensures (is_refusal why))

pub returns-in_err-cut_allowed : goal.returns-in_err-cut_allowed
returns-in_err-cut_allowed c =
    let why = c.in_err-cut_allowed.field-0.0 in
    let e : c.from_residual-in_err-cut_allowed.result ≡ Err why = search rules in
    rw e
    (offer_late c.args.setup c.args.board.now c.args.site c.args.kind c.args.account c.args.other c.args.amount c.args.cut
    _ c.in_ok-site_acts.ensures refl _ c.in_ok-offer_fits.ensures refl _ _ c.every_site-all.ensures c.in_err-cut_allowed.ensures (is_refusal why))

pub overflow_add-board : goal.overflow_add-board
overflow_add-board c = omega (arith, room (goal.at.overflow_add-board c).In_ok-offer_fits)

pub offset_bounds-board-m : goal.offset_bounds-board-m
offset_bounds-board-m c = omega (arith, room (goal.at.offset_bounds-board-m c).In_ok-offer_fits)

pub bounds-board-m : goal.bounds-board-m
bounds-board-m c = omega (arith, room (goal.at.bounds-board-m c).In_ok-offer_fits)

pub enter_row-requires : goal.enter_row-requires
enter_row-requires c = room (goal.at.enter_row-requires c).In_ok-offer_fits

pub enter-requires : goal.enter-requires
enter-requires c = let at = (goal.at.enter-requires c).In_ok-offer_fits in (room at, (fields at).0, (fields at).1)

pub send-requires : goal.send-requires
send-requires c = let at = goal.at.send-requires c in (omega arith, room at.In_ok-offer_fits, below at.In_ok-site_acts)

pub mark-requires : goal.mark-requires
mark-requires c = below (goal.at.mark-requires c).In_ok-site_acts

pub returns : goal.returns
returns c =
    offer_done c.args.setup c.args.board.now c.args.site c.args.kind c.args.account c.args.other c.args.amount c.args.cut
    _ c.in_ok-site_acts.ensures refl _ c.in_ok-offer_fits.ensures refl _ _ c.every_site-all.ensures
    c.in_ok-cut_allowed.ensures _ _ _ _ _ refl c.sites_to-receivers.ensures c.enter_row.ensures c.enter.ensures
    c.send.ensures c.mark.ensures
