-- What each call does: the refusals, in rising number, the lowest that applies; and for an accepted call the step, whole or cut.
-- Rests on Boards and Soundness, on flight, site, posting and sets.
use Rattle.std.specs.Prelude.{ℕ, Bool, cond, not, ◌&&◌, ◌||◌, List, [], ◌∷◌, eqb, ltb, leb, length, set, take}
use Rattle.std.specs.Int.Count.{ones}
use Rattle.sets.specs.declared.Set.{Set}
use Rattle.sets.specs.Masks.{has_bit}
use Rattle.sets.specs.Sets.{capacity, has, with, without}
use Rattle.posting.specs.declared.Posting.{Posting}
use Rattle.posting.specs.Kinds.{fields_ok, symmetric, has_fixed_pairs}
use Rattle.posting.specs.Records.{append}
use Rattle.site.specs.declared.Setup.{Setup}
use Rattle.site.specs.Sites.{plus}
use Rattle.site.specs.Sends.{FIRST, SECOND, THIRD, Send, first, second, third, deliver, entry, Step}
use Rattle.site.specs.Steps.{on_offer, on_first, on_second, on_third, on_deliver, on_entry, delivered_site}
use Rattle.flight.specs.Flights.{in_flight, good_to, carried_by, taking_out, sending_all}
use Rattle.steps.specs.Causes.{Cause, cause, is_cut, cut_after}
use Rattle.machine.specs.declared.Board.{Board}
use Rattle.steps.specs.declared.Cut.{Cut}
use Rattle.steps.specs.declared.Cut.TheVariants.{Whole, After}
use Rattle.machine.specs.declared.Answer.{Answer}
use Rattle.machine.specs.declared.Answer.TheVariants.{Done, Offered, Refused}
use Rattle.machine.specs.declared.Outcome.{Outcome}
use Rattle.machine.specs.Boards.{fresh_board, blank_board, site_at, tally_at, entry_at, logged_at, is_down, board_table, board_flight, board_site, board_down, board_pool}
use Rattle.posting.specs.Conflicts.{table_with}
use Rattle.machine.specs.Soundness.{sites_ok, crashes_ok, is_sound}

-- ---- answers

-- document 01's number of the refusal, 0 of what is accepted, and the values that come with it: an offer's number
abbrev pub answer_of : Answer → ℕ × List ℕ
answer_of Done = (0, [])
answer_of (Offered m) = (0, m ∷ [])
answer_of (Refused k) = (k, [])

-- the number alone
abbrev pub refusal_of : Answer → ℕ
refusal_of answer = (answer_of answer).0

-- the outcome: the first cause that applies refuses, and hands a board back; else what is accepted
unfoldable pub judged : List Cause → Board → Outcome → Outcome
judged [] back accepted = accepted
judged (c ∷ l) back accepted =
    let rest = judged l back accepted in
    cond c.applies (record { board = back; answer = Refused c.number }) rest

-- ---- start

-- The refusals of a start; a refused start hands back the blank board.
unfoldable pub starting : ℕ → ℕ → ℕ → Outcome
starting n f matrix =
    let setup : Setup = record { n = n; f = f; matrix = matrix } in
    judged
    (cause 2 (not (sites_ok setup))
    ∷ cause 3 (not (crashes_ok setup))
    ∷ cause 4 (not (symmetric matrix))
    ∷ cause 5 (not (has_fixed_pairs matrix))
    ∷ [])
    blank_board
    (record { board = fresh_board setup; answer = Done })

-- ---- a step carried out, whole or cut

-- the pool, and the entries' sets, once sends have gone out: a pool entry is one send
unfoldable pub pooling : Set → List Send → Set
pooling pool [] = pool
pooling pool (first m to ∷ l) = pooling pool l
pooling pool (second m to good ∷ l) = pooling pool l
pooling pool (third m to carried ∷ l) = pooling pool l
pooling pool (deliver m to ∷ l) = pooling pool l
pooling pool (entry m carried ∷ l) = pooling (with pool m) l

unfoldable pub entering : List Set → List Send → List Set
entering entries [] = entries
entering entries (first m to ∷ l) = entering entries l
entering entries (second m to good ∷ l) = entering entries l
entering entries (third m to carried ∷ l) = entering entries l
entering entries (deliver m to ∷ l) = entering entries l
entering entries (entry m carried ∷ l) = entering (set entries m carried) l

-- sends of site p go out
abbrev pub sent : Board → ℕ → List Send → Board
sent b p sends =
    board_pool (board_flight b (sending_all b.flight p sends)) (pooling b.pool sends) (entering b.entries sends) b.log

-- A step of site p for posting m. Cut after j: the sets change, the first j sends go out, nothing is delivered, and the site is down.
unfoldable pub carried_out : Board → ℕ → ℕ → Step → Cut → Board
carried_out b p m step Whole = sent (board_site b p (delivered_site step) m step.tally) p step.sends
carried_out b p m step (After j) = board_down (sent (board_site b p step.site m step.tally) p (take j step.sends)) (plus b.down p)

-- one crash more would exceed f
abbrev pub crashes_spent : Board → Bool
crashes_spent b = leb b.setup.f (ones b.down)

-- a site number is n or more
abbrev pub no_such_site : Board → ℕ → Bool
no_such_site b p = leb b.setup.n p

-- ---- the calls

-- Offer: the posting gets its number; FIRST goes to all n sites.
unfoldable pub offering : Board → ℕ → ℕ → ℕ → ℕ → ℕ → Cut → Outcome
offering b site kind account other amount cut =
    let posting : Posting = record { owner = site; kind = kind; a = account; b = other; amount = amount } in
    let m = b.table.count in
    let step = on_offer b.setup (site_at b site) (tally_at b m) m in
    judged
    (cause 6 (not (is_sound b))
    ∷ cause 7 (no_such_site b site)
    ∷ cause 8 (is_down b site)
    ∷ cause 9 (not (fields_ok posting))
    ∷ cause 10 (leb capacity m)
    ∷ cause 14 (is_cut cut && crashes_spent b)
    ∷ cause 15 (ltb (length step.sends) (cut_after cut))
    ∷ [])
    b
    (record { board = carried_out (board_table b (table_with b.table posting)) site m step cut; answer = Offered m })

-- the step of a receipt, by its form
unfoldable pub receipt_of : Board → ℕ → ℕ → ℕ → ℕ → Step
receipt_of b form m from to =
    let site = site_at b to in
    let tally = tally_at b m in
    cond (eqb form FIRST) (on_first b.setup b.table site tally m)
    (cond (eqb form SECOND) (on_second b.setup b.table site tally m from (has_bit (good_to b.flight m from) to))
    (cond (eqb form THIRD) (on_third b.setup site tally m from (carried_by b.flight m from))
    (on_deliver b.setup b.table site tally to m)))

-- Receive: the message leaves the flight, and its receiver takes the step of its form.
unfoldable pub receiving : Board → ℕ → ℕ → ℕ → ℕ → Cut → Outcome
receiving b form m from to cut =
    let step = receipt_of b form m from to in
    judged
    (cause 6 (not (is_sound b))
    ∷ cause 7 (no_such_site b from || no_such_site b to)
    ∷ cause 8 (is_down b to)
    ∷ cause 11 (not (in_flight b.flight form m from to))
    ∷ cause 14 (is_cut cut && crashes_spent b)
    ∷ cause 15 (ltb (length step.sends) (cut_after cut))
    ∷ [])
    b
    (record { board = carried_out (board_flight b (taking_out b.flight form m from to)) to m step cut; answer = Done })

-- Order: the oracle moves m's entry from the pool to the end of the log.
unfoldable pub ordering : Board → ℕ → Outcome
ordering b m =
    judged
    (cause 6 (not (is_sound b))
    ∷ cause 12 (not (has b.pool m))
    ∷ [])
    b
    (record { board = board_pool b (without b.pool m) b.entries (append b.log m); answer = Done })

-- Read: a site takes the log's next entry.
unfoldable pub reading : Board → ℕ → Cut → Outcome
reading b site cut =
    let m = logged_at b (site_at b site).place in
    let step = on_entry (site_at b site) (tally_at b m) m (entry_at b m) in
    judged
    (cause 6 (not (is_sound b))
    ∷ cause 7 (no_such_site b site)
    ∷ cause 8 (is_down b site)
    ∷ cause 13 (leb b.log.count (site_at b site).place)
    ∷ cause 14 (is_cut cut && crashes_spent b)
    ∷ cause 15 (ltb (length step.sends) (cut_after cut))
    ∷ [])
    b
    (record { board = carried_out b site m step cut; answer = Done })

-- Crash: a site goes down for good.
unfoldable pub crashing : Board → ℕ → Outcome
crashing b site =
    judged
    (cause 6 (not (is_sound b))
    ∷ cause 7 (no_such_site b site)
    ∷ cause 8 (is_down b site)
    ∷ cause 14 (crashes_spent b)
    ∷ [])
    b
    (record { board = board_down b (plus b.down site); answer = Done })
