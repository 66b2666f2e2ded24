-- `departure` meets its contract.
-- Rests on Tour. Assumes nothing.
use Rattle.std.proofs.Common.{refl, sym}
use mathlib.Core.Bool.{true≢false}
use Rattle.audit_reading.proofs.Tour.{tour_start, tour_readable, tour_next, tour_breaks}
use Rattle.audit_reading.proofs.departure.Goals as goal

pub loop-site-init : goal.loop-site-init
loop-site-init c = tour_start c.requires

pub read_record-requires : goal.read_record-requires
read_record-requires c = rw c.record_of-own.ensures (tour_readable c.requires c.loop-site.invariant c.loop-site-test.true)

pub returns-in-Some : goal.returns-in-Some
returns-in-Some c =
    let says = rw c.record_of-own.ensures at c.in-Some.ensures.read_says in
    λ t rows. (λ u. absurd (true≢false (sym u)), λ u. tour_breaks c.requires c.loop-site.invariant c.loop-site-test.true says refl t rows)

pub loop-site-preserved : goal.loop-site-preserved
loop-site-preserved c =
    let e = c.in_default.ensures in
    tour_next c.requires c.loop-site.invariant c.loop-site-test.true (rw c.record_of-own.ensures at e.read_says) refl
    c.read_record.auto.places c.read_record.auto.ahead (rw c.record_of-own.ensures at (e.seen_bound refl))
