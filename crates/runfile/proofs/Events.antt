-- An event of a file as what the code makes of its bytes: a receipt by its numbers, and the event at a place of the file.
-- Rests on decoder and flat. Assumes nothing.
use Prim.Native.Nat.{ℕ, ◌<◌, ◌≤◌}
use mathlib.Core.Path.{◌≡◌, refl, sym, ap, ◌∙◌}
use mathlib.Core.List.{List}
use borrow.Author.Tests.{lt-ltb, le-ltb}
use Rattle.site.specs.declared.Setup.{Setup}
use Rattle.steps.specs.declared.Cut.{Cut}
use Rattle.steps.specs.declared.Call.{Call}
use Rattle.steps.specs.declared.Call.TheVariants.{Receive, Crash}
use Rattle.arrays.specs.declared.Arrays.{Arrays}
use Rattle.flat.specs.Flat.{flat_receive, flat_crash, flat_perform}
use Rattle.decoder.specs.RunFile.{byte_at, event_count, event_at, cut_of, receive_of, call_of, call_at}

receipt : (event : List ℕ) → byte_at event 0 ≡ 2 → receive_of event ≡ call_of event
unfolding call_of
receipt event e = rw e

-- the receipt of an event, from the numbers that the code read
pub received :
    (setup : Setup) (a : Arrays) (event : List ℕ) (code form m from to last : ℕ) (cut : Cut)
    → code ≡ byte_at event 0 → code ≡ 2 → form ≡ byte_at event 1 → m ≡ byte_at event 2 → from ≡ byte_at event 3 → to ≡ byte_at event 4
    → last ≡ byte_at event 9 → cut ≡ cut_of last → flat_receive setup a form m from to cut ≡ flat_perform setup a (call_of event)
unfolding flat_perform receive_of
received setup a event code form m from to last cut c is e1 e2 e3 e4 e9 e =
    rw (e, e9, e1, e2, e3, e4) (ap (flat_perform setup a) (receipt event (sym c ∙ is)))

-- the call of an event, from what the code counted
pub call_within : (input : List ℕ) (k count : ℕ) → count ≡ event_count input → k < count → call_of (event_at input k) ≡ call_at input k
unfolding call_at
call_within input k count e h = rw (← e, lt-ltb k count h)

pub call_past : (input : List ℕ) (k count : ℕ) → count ≡ event_count input → count ≤ k → Crash 0 ≡ call_at input k
unfolding call_at
call_past input k count e h = rw (← e, le-ltb k count h)
