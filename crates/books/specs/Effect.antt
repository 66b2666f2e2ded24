-- What a posting does to the figures of one account: document 01's table of kinds, a definition a kind, with document 02's W5 for a CALL.
-- Rests on posting and ten_thousandths. The figures are exact integers, so no sum here wraps.
use Rattle.std.specs.Prelude.{cond, ℕ, eqb, ℤ, pos, nat_abs, ◌+ℤ◌, ◌-ℤ◌, ◌*ℤ◌}
use Rattle.std.specs.Int.Signed.{lt_z}
use Rattle.ten_thousandths.specs.Rounding.{ten_thousandths}
use Rattle.posting.specs.declared.Posting.{Posting}
use Rattle.posting.specs.Kinds.{trade, rate, call, net}
use Rattle.posting.specs.Conflicts.{touches}
use Rattle.books.specs.declared.Figures.{Figures}

-- TRADE, at account k: the position of a rises, of b falls, by the amount
abbrev pub on_trade : Posting → ℕ → Figures → Figures
on_trade p k s = record {
  position = cond (eqb k p.a) (s.position +ℤ pos p.amount) (s.position -ℤ pos p.amount);
  rate = s.rate;
  called = s.called;
  settled = s.settled;
}

-- RATE: the rate becomes the amount
abbrev pub on_rate : ℕ → Figures → Figures
on_rate amount s = record { position = s.position; rate = pos amount; called = s.called; settled = s.settled }

-- the size of position × rate ÷ 10,000, rounded up; nothing where the position is zero or below (W5)
unfoldable pub size_of_call : ℤ → ℤ → ℕ
size_of_call position rate = cond (lt_z (pos 0) position) (ten_thousandths (nat_abs (position *ℤ rate))) 0

-- CALL: called rises by the size of the call
abbrev pub on_call : Figures → Figures
on_call s = record {
  position = s.position;
  rate = s.rate;
  called = s.called +ℤ pos (size_of_call s.position s.rate);
  settled = s.settled;
}

-- NET: settled rises by the position (signed), which becomes 0
abbrev pub on_net : Figures → Figures
on_net s = record { position = pos 0; rate = s.rate; called = s.called; settled = s.settled +ℤ s.position }

-- what a posting of a kind does to an account k that it touches; what is no kind does nothing
unfoldable pub change : ℕ → Posting → ℕ → Figures → Figures
change kind p k s =
    cond (eqb kind trade) (on_trade p k s)
    (cond (eqb kind rate) (on_rate p.amount s)
    (cond (eqb kind call) (on_call s)
    (cond (eqb kind net) (on_net s)
    s)))

-- what a posting does to account k: nothing if it does not touch it
unfoldable pub effect : Posting → ℕ → Figures → Figures
effect p k s = cond (touches p k) (change p.kind p k s) s
