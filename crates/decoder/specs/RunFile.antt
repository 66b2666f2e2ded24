-- A run file as bytes: header, events, when it is well formed, and the call of each event (document 01, "Program `board`").
-- Rests on steps and books. Past the end of the bytes zeros are read.
use Rattle.std.specs.Prelude.{ℕ, ◌+◌, ◌-◌, ◌*◌, ◌/◌, ◌%◌, Bool, cond, not, ◌&&◌, ◌||◌, List, eqb, ltb, leb, length, get_or, take, drop}
use Rattle.sets.specs.Below.{all_below}
use Rattle.books.specs.Books.{tabulate}
use Rattle.site.specs.declared.Setup.{Setup}
use Rattle.steps.specs.declared.Cut.{Cut}
use Rattle.steps.specs.declared.Cut.TheVariants.{Whole, After}
use Rattle.steps.specs.declared.Call.{Call}
use Rattle.steps.specs.declared.Call.TheVariants.{Offer, Receive, Order, Read, Crash}

-- ---- bytes

-- the byte at a place; past the end, 0
abbrev pub byte_at : List ℕ → ℕ → ℕ
byte_at bytes i = get_or bytes i 0

-- two bytes and four as a number, the highest first: wide fields are big-endian
abbrev pub pair : ℕ → ℕ → ℕ
pair x y = x * 256 + y

abbrev pub quad : ℕ → ℕ → ℕ → ℕ → ℕ
quad x y z w = ((x * 256 + y) * 256 + z) * 256 + w

-- ---- the header: mark `RUN`, a 16-bit version 1, n and f in a byte each, the matrix as 16 bits

unfoldable pub has_mark : List ℕ → Bool
has_mark input = eqb (byte_at input 0) 82 && (eqb (byte_at input 1) 85 && eqb (byte_at input 2) 78)

unfoldable pub header_ok : List ℕ → Bool
header_ok input = has_mark input && eqb (pair (byte_at input 3) (byte_at input 4)) 1

unfoldable pub setup_of : List ℕ → Setup
setup_of input = record { n = byte_at input 5; f = byte_at input 6; matrix = pair (byte_at input 7) (byte_at input 8) }

-- ---- events: at most 4,096 of 10 bytes each, after the header

abbrev pub event_limit : ℕ
event_limit = 4096

abbrev pub event_count : List ℕ → ℕ
event_count input = (length input - 9) / 10

-- as many bytes as a header and whole events have, and not too many events
unfoldable pub length_ok : ℕ → Bool
length_ok n = leb 9 n && (eqb ((n - 9) % 10) 0 && leb ((n - 9) / 10) event_limit)

-- the ten bytes of event k
abbrev pub event_at : List ℕ → ℕ → List ℕ
event_at input k = take 10 (drop (9 + 10 * k) input)

-- An event is a code, eight bytes, and a cut byte. Codes: 1 offer, 2 receive, 3 order, 4 read, 5 crash.
abbrev pub code_of : List ℕ → ℕ
code_of event = byte_at event 0

abbrev pub cut_byte_of : List ℕ → ℕ
cut_byte_of event = byte_at event 9

abbrev pub known_code : ℕ → Bool
known_code code = leb 1 code && leb code 5

-- how many of the eight bytes a code uses: offer all, receive form, posting, from and to; the others a posting or a site
abbrev pub used_by : ℕ → ℕ
used_by code = cond (eqb code 1) 8 (cond (eqb code 2) 4 1)

-- place i of an event has a 0; it has the code or a used byte, or a 0
abbrev pub zero_at : List ℕ → ℕ → Bool
zero_at event i = eqb (byte_at event i) 0

abbrev pub used_or_zero : List ℕ → ℕ → Bool
used_or_zero event i = leb i (used_by (code_of event)) || zero_at event i

unfoldable pub unused_ok : List ℕ → Bool
unused_ok event = all_below (used_or_zero event) 9

-- codes 3 and 5 have cut 255
abbrev pub cut_ok : ℕ → ℕ → Bool
cut_ok code cut = not (eqb code 3 || eqb code 5) || eqb cut 255

unfoldable pub event_ok : List ℕ → Bool
event_ok event = known_code (code_of event) && (cut_ok (code_of event) (cut_byte_of event) && unused_ok event)

-- ---- well formed: anything else is refusal 1

unfoldable pub events_ok : List ℕ → Bool
events_ok input = all_below (λ k. event_ok (event_at input k)) (event_count input)

unfoldable pub well_formed : List ℕ → Bool
well_formed input = header_ok input && (length_ok (length input) && events_ok input)

-- ---- the call of an event

-- 255 is uncut
abbrev pub cut_of : ℕ → Cut
cut_of cut = cond (eqb cut 255) Whole (After cut)

-- an offer: site, kind, a, b, 32-bit amount
unfoldable pub offer_of : List ℕ → Call
offer_of event =
    Offer (byte_at event 1) (byte_at event 2) (byte_at event 3) (byte_at event 4)
    (quad (byte_at event 5) (byte_at event 6) (byte_at event 7) (byte_at event 8))
    (cut_of (cut_byte_of event))

-- a receive: form, posting, from, to
unfoldable pub receive_of : List ℕ → Call
receive_of event = Receive (byte_at event 1) (byte_at event 2) (byte_at event 3) (byte_at event 4) (cut_of (cut_byte_of event))

-- an order has a posting, read and crash a site; no well-formed file has another code
unfoldable pub call_of : List ℕ → Call
call_of event =
    cond (eqb (code_of event) 1) (offer_of event)
    (cond (eqb (code_of event) 2) (receive_of event)
    (cond (eqb (code_of event) 3) (Order (byte_at event 1))
    (cond (eqb (code_of event) 4) (Read (byte_at event 1) (cut_of (cut_byte_of event)))
    (Crash (byte_at event 1)))))

-- the call of event k; past the last one, a crash of site 0
unfoldable pub call_at : List ℕ → ℕ → Call
call_at input k = cond (ltb k (event_count input)) (call_of (event_at input k)) (Crash 0)

-- the calls of all events, in order
unfoldable pub calls_of : List ℕ → List Call
calls_of input = tabulate (event_count input) (call_at input)
