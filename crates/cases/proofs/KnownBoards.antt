-- The boards that the tables begin from, each led to by an accepted start.
-- Rests on Ways and Boards. Assumes nothing.
use mathlib.Core.Path.{◌≡◌, refl}
use mathlib.Core.Bool.{Bool, true}
use Rattle.machine.specs.Calls.{starting}
use Rattle.machine.specs.Runs.{accepted}
use Rattle.cases.specs.Boards.{began, m9_end, trade_sent, to_pool, to_deliver, rate_delivers, busy}
use Rattle.cases.proofs.Computes.{computes}
use Rattle.cases.proofs.Ways.{KnownSound, starts, runs}

pub began_accepted : accepted (starting 3 1 0x5B6C).answer ≡ true
unfolding computes
began_accepted = refl

unfoldable pub began_known : KnownSound began
began_known = starts 3 1 0x5B6C began_accepted

unfoldable pub m9_known : KnownSound m9_end
unfolding m9_end
m9_known = runs began_known _

unfoldable pub trade_known : KnownSound trade_sent
unfolding trade_sent
trade_known = runs began_known _

unfoldable pub pool_known : KnownSound to_pool
unfolding to_pool
pool_known = runs began_known _

unfoldable pub deliver_known : KnownSound to_deliver
unfolding to_deliver
deliver_known = runs began_known _

unfoldable pub rate_known : KnownSound rate_delivers
unfolding rate_delivers
rate_known = runs deliver_known _

unfoldable pub busy_known : KnownSound busy
unfolding busy
busy_known = runs m9_known _

-- An unfolding line with this name unfolds all of the above.
unfoldable pub boards : Bool
unfolding began_known m9_known trade_known pool_known deliver_known rate_known busy_known
boards = true
