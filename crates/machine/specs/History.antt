-- The words of demand 3 about a list of calls, read off the list and its answers alone (document 01, "The lists of demand 3").
-- Rests on Runs.
use Rattle.std.specs.Prelude.{ℕ, suc, ◌+◌, Bool, false, cond, ◌||◌, List, [], ◌∷◌, ◌++◌, eqb, get_or}
use Rattle.posting.specs.declared.Posting.{Posting}
use Rattle.machine.specs.declared.Board.{Board}
use Rattle.steps.specs.declared.Cut.TheVariants.{Whole, After}
use Rattle.steps.specs.declared.Call.{Call}
use Rattle.steps.specs.declared.Call.TheVariants.{Offer, Receive, Order, Read, Crash}
use Rattle.machine.specs.Runs.{taking, accepted}

-- the accepted calls, in order
unfoldable pub accepted_calls : Board → List Call → List Call
accepted_calls b [] = []
accepted_calls b (c ∷ l) =
    let rest = accepted_calls (taking b c).board l in
    cond (accepted (taking b c).answer) (c ∷ rest) rest

-- ---- of a list of accepted calls

-- the postings offered: the fields of each offer, by the site named there
unfoldable pub offers : List Call → List Posting
offers [] = []
offers (Offer site kind account other amount cut ∷ l) = record { owner = site; kind = kind; a = account; b = other; amount = amount } ∷ offers l
offers (Receive form m from to cut ∷ l) = offers l
offers (Order m ∷ l) = offers l
offers (Read site cut ∷ l) = offers l
offers (Crash site ∷ l) = offers l

-- the log entries: the postings ordered
unfoldable pub orders : List Call → List ℕ
orders [] = []
orders (Offer site kind account other amount cut ∷ l) = orders l
orders (Receive form m from to cut ∷ l) = orders l
orders (Order m ∷ l) = m ∷ orders l
orders (Read site cut ∷ l) = orders l
orders (Crash site ∷ l) = orders l

-- how many log readings site p made
unfoldable pub reads : ℕ → List Call → ℕ
reads p [] = 0
reads p (Offer site kind account other amount cut ∷ l) = reads p l
reads p (Receive form m from to cut ∷ l) = reads p l
reads p (Order m ∷ l) = reads p l
reads p (Read site cut ∷ l) = cond (eqb p site) (suc (reads p l)) (reads p l)
reads p (Crash site ∷ l) = reads p l

-- the site that a call brings down: one that it crashes, or at which it is cut
unfoldable pub brings_down : ℕ → Call → Bool
brings_down p (Offer site kind account other amount Whole) = false
brings_down p (Offer site kind account other amount (After j)) = eqb p site
brings_down p (Receive form m from to Whole) = false
brings_down p (Receive form m from to (After j)) = eqb p to
brings_down p (Order m) = false
brings_down p (Read site Whole) = false
brings_down p (Read site (After j)) = eqb p site
brings_down p (Crash site) = eqb p site

-- a site is up unless an accepted crash named it or an accepted call was cut at it
unfoldable pub brought_down : ℕ → List Call → Bool
brought_down p [] = false
brought_down p (c ∷ l) = brings_down p c || brought_down p l

-- Whether a call, after some, names posting m: a receipt or an order that names it, or a reading of its entry.
-- A site's kth reading is of the entry of the kth order.
unfoldable pub names : ℕ → List Call → Call → Bool
names m before (Offer site kind account other amount cut) = false
names m before (Receive form x from to cut) = eqb m x
names m before (Order x) = eqb m x
names m before (Read site cut) = eqb m (get_or (orders before) (reads site before) 0)
names m before (Crash site) = false

-- how many calls of a list, after some, name posting m
unfoldable pub naming : ℕ → List Call → List Call → ℕ
naming m before [] = 0
naming m before (c ∷ l) = cond (names m before c) 1 0 + naming m (before ++ (c ∷ [])) l

-- how many are receipts, orders or readings
unfoldable pub actions : List Call → ℕ
actions [] = 0
actions (Offer site kind account other amount cut ∷ l) = actions l
actions (Receive form m from to cut ∷ l) = suc (actions l)
actions (Order m ∷ l) = suc (actions l)
actions (Read site cut ∷ l) = suc (actions l)
actions (Crash site ∷ l) = actions l
