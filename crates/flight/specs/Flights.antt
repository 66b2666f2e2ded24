-- What is in flight: a set of (form, posting, from, to), a SECOND with its GOOD or BAD and a THIRD with its carried set.
-- Rests on the declared Flight and Message, on site's sends and on sets. A definition on one array is what a function on it promises.
use Rattle.std.specs.Prelude.{ℕ, zero, suc, ◌+◌, ◌*◌, ◌-◌, ◌/◌, ◌%◌, ◌^◌, Bool, true, false, cond, not, ◌&&◌, List, [], ◌∷◌, eqb, ltb, get_or, set, take, replicate, Option, Some, None}
use Rattle.std.proofs.lemmas.List.Edits.{sets}
use Rattle.std.specs.Int.Bits.{bit_or, bit_and}
use Rattle.sets.specs.declared.Set.{Set}
use Rattle.sets.specs.Masks.{has_bit}
use Rattle.sets.specs.Sets.{words, capacity, of_words, empty_set}
use Rattle.site.specs.Sites.{sites}
use Rattle.site.specs.Sends.{FIRST, SECOND, THIRD, DELIVER, forms, Send, first, second, third, deliver, entry}
use Rattle.flight.specs.declared.Flight.{Flight}
use Rattle.flight.specs.declared.Message.{Message}

-- ---- places

-- how many pairs there are of posting and sender, and how many cells of form, posting and sender
abbrev pub pairs : ℕ
pairs = capacity * sites

abbrev pub cells : ℕ
cells = forms * pairs

-- there is such a pair; there is such a cell
abbrev pub is_pair : ℕ → ℕ → Bool
is_pair m from = ltb m capacity && ltb from sites

abbrev pub is_cell : ℕ → ℕ → ℕ → Bool
is_cell form m from = ltb form forms && is_pair m from

-- The place of a pair, and of a cell; where there is none, the number past the last. The order of the cells is lowest by form, posting, from.
unfoldable pub pair_at : ℕ → ℕ → ℕ
pair_at m from = cond (is_pair m from) (m * sites + from) pairs

unfoldable pub cell_at : ℕ → ℕ → ℕ → ℕ
cell_at form m from = cond (is_cell form m from) (form * pairs + (m * sites + from)) cells

-- what stands at place i of n, 0 past them; the list with v there, as it is past them
abbrev pub read_at : ℕ → List ℕ → ℕ → ℕ
read_at n l i = cond (ltb i n) (get_or l i 0) 0

abbrev pub write_at : ℕ → List ℕ → ℕ → ℕ → List ℕ
write_at n l i v = cond (ltb i n) (set l i v) l

-- ---- what the arrays hold

-- the receivers of a form, posting and sender
abbrev pub receivers_in : List ℕ → ℕ → ℕ → ℕ → ℕ
receivers_in masks form m from = get_or masks (cell_at form m from) 0

-- the message is among them
unfoldable pub message_in : List ℕ → ℕ → ℕ → ℕ → ℕ → Bool
message_in masks form m from to = is_cell form m from && (ltb to sites && has_bit (receivers_in masks form m from) to)

-- of a SECOND, those to whom it says GOOD
abbrev pub good_in : List ℕ → ℕ → ℕ → ℕ
good_in good m from = read_at pairs good (pair_at m from)

-- n words of a list, from place i on
unfoldable pub words_from : List ℕ → ℕ → ℕ → List ℕ
words_from l i zero = []
words_from l i (suc n) = get_or l i 0 ∷ words_from l (suc i) n

-- the set that a THIRD carries
unfoldable pub set_in : List ℕ → ℕ → ℕ → Set
set_in carried m from = cond (ltb (pair_at m from) pairs) (of_words (words_from carried (words * pair_at m from) words)) empty_set

-- the same of a flight
unfoldable pub in_flight : Flight → ℕ → ℕ → ℕ → ℕ → Bool
in_flight flight form m from to = message_in flight.masks form m from to

abbrev pub good_to : Flight → ℕ → ℕ → ℕ
good_to flight m from = good_in flight.good m from

abbrev pub carried_by : Flight → ℕ → ℕ → Set
carried_by flight m from = set_in flight.carried m from

-- ---- the arrays changed

-- the sites of a mask that are not in the other
abbrev pub less : ℕ → ℕ → ℕ
less mask other = mask - bit_and mask other

-- a form, posting and sender has receivers more
unfoldable pub sending_to : List ℕ → ℕ → ℕ → ℕ → ℕ → List ℕ
sending_to masks form m from receivers = write_at cells masks (cell_at form m from) (bit_or (receivers_in masks form m from) receivers)

-- it has a receiver less
unfoldable pub taking_from : List ℕ → ℕ → ℕ → ℕ → ℕ → List ℕ
taking_from masks form m from to = write_at cells masks (cell_at form m from) (less (receivers_in masks form m from) (2 ^ to))

-- a SECOND says GOOD to receivers, or no longer does
unfoldable pub saying : List ℕ → ℕ → ℕ → ℕ → Bool → List ℕ
saying good m from receivers so =
    write_at pairs good (pair_at m from) (cond so (bit_or (good_in good m from) receivers) (less (good_in good m from) receivers))

-- a THIRD carries a set
unfoldable pub carrying : List ℕ → ℕ → ℕ → Set → List ℕ
carrying carried m from load = cond (ltb (pair_at m from) pairs) (sets carried (words * pair_at m from) load.words) carried

abbrev pub flight_of : List ℕ → List ℕ → List ℕ → Flight
flight_of masks good carried = record { masks = masks; good = good; carried = carried }

-- ---- sending

-- One send of a site: one sent again replaces its like. (A pool entry is no message.)
unfoldable pub sending : Flight → ℕ → Send → Flight
sending flight from (first m to) = flight_of (sending_to flight.masks FIRST m from (2 ^ to)) flight.good flight.carried
sending flight from (second m to good) =
    flight_of (sending_to flight.masks SECOND m from (2 ^ to)) (saying flight.good m from (2 ^ to) good) flight.carried
sending flight from (third m to carried) =
    flight_of (sending_to flight.masks THIRD m from (2 ^ to)) flight.good (carrying flight.carried m from carried)
sending flight from (deliver m to) = flight_of (sending_to flight.masks DELIVER m from (2 ^ to)) flight.good flight.carried
sending flight from (entry m carried) = flight

unfoldable pub sending_all : Flight → ℕ → List Send → Flight
sending_all flight from [] = flight
sending_all flight from (send ∷ l) = sending_all (sending flight from send) from l

-- ---- taking out

-- the GOOD of a SECOND to a site, and the set of a THIRD, leave with their message
abbrev pub good_taken : List ℕ → ℕ → ℕ → ℕ → ℕ → List ℕ
good_taken good form m from to = cond (eqb form SECOND) (saying good m from (2 ^ to) false) good

abbrev pub set_taken : List ℕ → ℕ → ℕ → ℕ → List ℕ
set_taken carried form m from = cond (eqb form THIRD) (carrying carried m from empty_set) carried

-- A message leaves the flight, and its load with it.
unfoldable pub taking_out : Flight → ℕ → ℕ → ℕ → ℕ → Flight
taking_out flight form m from to =
    flight_of (taking_from flight.masks form m from to)
    (good_taken flight.good form m from to)
    (set_taken flight.carried form m from)

-- ---- the lowest message

-- what a search finds: a message, or none
abbrev pub Found : Type 0
Found = Option Message

abbrev pub message : ℕ → ℕ → ℕ → ℕ → Found
message form m from to = Some (record { form = form; posting = m; from = from; to = to })

-- cell k, as form, posting, sender, and a receiver
abbrev pub message_at : ℕ → ℕ → Found
message_at k to = message (k / pairs) (k / sites % capacity) (k % sites) to

-- the message of cell k to the lowest site of a mask, of n sites from `to` on; else what comes after
unfoldable pub lowest_to : ℕ → ℕ → ℕ → ℕ → Found → Found
lowest_to k mask to zero after = after
lowest_to k mask to (suc n) after =
    let later = lowest_to k mask (suc to) n after in
    cond (has_bit mask to) (message_at k to) later

-- the lowest message by form, posting, from, to at a site of the mask, from cell k on
unfoldable pub lowest_from : ℕ → List ℕ → ℕ → Found
lowest_from k [] up = None
lowest_from k (mask ∷ l) up =
    let after = lowest_from (suc k) l up in
    cond (eqb (bit_and mask up) 0) after (lowest_to k (bit_and mask up) 0 sites after)

abbrev pub lowest_in : List ℕ → ℕ → Found
lowest_in masks up = lowest_from 0 (take cells masks) up

abbrev pub lowest : Flight → ℕ → Found
lowest flight up = lowest_in flight.masks up

-- Nothing in flight is for a site of the mask.
unfoldable pub nothing_comes : List ℕ → ℕ → Bool
nothing_comes [] up = true
nothing_comes (mask ∷ l) up = eqb (bit_and mask up) 0 && nothing_comes l up

-- ---- a flight to begin with

-- nothing in flight
abbrev pub empty_flight : Flight
empty_flight = flight_of (replicate cells 0) (replicate pairs 0) (replicate (words * pairs) 0)
