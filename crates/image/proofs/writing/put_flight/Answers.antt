-- `put_flight` meets its contract.
-- Assumes nothing.
use native.Mathlib.Omega.{arith}
use Rattle.image.proofs.Widths.{is_flight}
use Rattle.image.proofs.Written.{flight_done}
use Rattle.image.proofs.writing.put_flight.Goals as goal

pub put_bytes-requires : goal.put_bytes-requires
put_bytes-requires c =
    omega (arith, (is_flight c.args.flight _ c.well_formed.1.0).masks.long)

pub put_bytes-requires-2 : goal.put_bytes-requires-2
put_bytes-requires-2 c =
    omega (arith, (is_flight c.args.flight _ c.well_formed.1.0).good.long)

pub put_words-requires : goal.put_words-requires
put_words-requires c =
    omega (arith, (is_flight c.args.flight _ c.well_formed.1.0).carried.long)

pub returns : goal.returns
returns c =
    (flight_done c.args.flight (is_flight c.args.flight _ c.well_formed.1.0) c.args.out.now _ _ _
    c.put_bytes.ensures c.put_bytes-2.ensures c.put_words.ensures).is
