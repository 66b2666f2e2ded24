-- What each event does to the flat arrays of a board, and what it answers: 0, or the number of the refusal.
-- Rests on arrays, index and delivery, on flight, steps, masks, site, posting and sets. Proof machinery: machine's proofs tie each event to Calls.
use Rattle.std.specs.Prelude.{ℕ, ◌+◌, ◌^◌, ◌<◌, ◌≤◌, Bool, false, cond, ◌&&◌, List, eqb, ltb, leb, get_or, set}
use Rattle.std.specs.Int.Bits.{bit_and}
use Rattle.std.specs.Int.Count.{ones}
use Rattle.sets.specs.declared.Set.{Set}
use Rattle.sets.specs.Masks.{has_bit}
use Rattle.sets.specs.Sets.{capacity, empty_set, has, with, with_if, join, meet}
use Rattle.posting.specs.declared.Posting.{Posting}
use Rattle.masks.specs.SiteMasks.{every_site, only_site, with_site, with_site_if, relay_to}
use Rattle.site.specs.declared.Setup.{Setup}
use Rattle.site.specs.Sends.{FIRST, SECOND, THIRD, DELIVER}
use Rattle.site.specs.Steps.{alone, majority}
use Rattle.site.specs.ByMask.{reached, late}
use Rattle.flight.specs.Flights.{message_in, good_in, set_in, taking_from, sending_to, saying, carrying}
use Rattle.steps.specs.declared.Cut.{Cut}
use Rattle.steps.specs.declared.Cut.TheVariants.{Whole, After}
use Rattle.steps.specs.declared.Call.{Call}
use Rattle.steps.specs.declared.Call.TheVariants.{Offer, Receive, Order, Read, Crash}
use Rattle.steps.specs.CauseLists.{first_cause, site_causes, message_causes, offer_causes, cut_causes}
use Rattle.steps.specs.Cuts.{sites_to}
use Rattle.arrays.specs.Layout.{seen_of, held_of, stepped_of, finished_of, got_of, pool_slot, union_of, entry_of, count_at, logged_at, place_at, down_at, owner_at, kind_at, from_at, into_at, tallied_at, has_at, log_at, heard_at, good_at}
use Rattle.arrays.specs.declared.Arrays.{Arrays}
use Rattle.arrays.specs.Arrays.{with_sets, with_counts, with_bytes, with_masks, with_good, with_carried, slot_set, storing, has_in, adding, dropping, byte, marked}
use Rattle.index.specs.Index.{conflicts_in, indexing}
use Rattle.delivery.specs.Delivery.{Laid, laid, delivered, delivered_entry}

-- ---- answers

-- the arrays after an event, and its answer
pub record Flat : Type 0 where
  pub answer : ℕ
  pub arrays : Arrays

abbrev pub flat : ℕ → Arrays → Flat
flat answer a = record { answer = answer; arrays = a }

-- refused with the arrays as they were, or what comes after
abbrev pub refused_or : ℕ → Arrays → Flat → Flat
refused_or why a rest = cond (eqb why 0) rest (flat why a)

-- what follows an event that was not refused
abbrev pub followed : Flat → (Arrays → Arrays) → Flat
followed d next = refused_or d.answer d.arrays (flat 0 (next d.arrays))

-- 14 and 15 of a step that sends to the sites of a mask
abbrev pub cut_cause : Setup → List ℕ → ℕ → Cut → ℕ
cut_cause setup bytes to cut = first_cause (cut_causes setup.f (byte bytes down_at) (ones to) cut)

-- 7 and 8 of a site that acts
abbrev pub site_cause : Setup → List ℕ → ℕ → ℕ
site_cause setup bytes p = first_cause (site_causes setup.n (byte bytes down_at) p)

-- ---- FIRST

unfoldable pub flat_first : Setup → Arrays → ℕ → ℕ → ℕ → Cut → Flat
flat_first setup a m from to cut =
    let all = every_site setup.n in
    let seen = with (slot_set a.sets (seen_of to)) m in
    let good = alone seen (conflicts_in a.sets a.bytes setup.matrix m) m in
    let receivers = sites_to all cut in
    refused_or (cut_cause setup a.bytes all cut) a
    (flat 0
    (record {
      sets = storing a.sets (seen_of to) seen;
      counts = a.counts;
      bytes = marked a.bytes to cut;
      amounts = a.amounts;
      masks = sending_to (taking_from a.masks FIRST m from to) SECOND m to receivers;
      good = saying a.good m to receivers good;
      carried = a.carried;
    }))

-- ---- a message that sends nothing

-- it leaves, and its receiver goes down if cut
unfoldable pub consumed : Setup → Arrays → ℕ → ℕ → ℕ → ℕ → Cut → Flat
consumed setup a form m from to cut =
    refused_or (cut_cause setup a.bytes 0 cut) a
    (flat 0 (with_masks (with_bytes a (marked a.bytes to cut)) (taking_from a.masks form m from to)))

-- ---- SECOND

-- without effect: its GOOD or BAD leaves with it
unfoldable pub passed_second : Setup → Arrays → ℕ → ℕ → ℕ → Cut → Flat
passed_second setup a m from to cut = followed (consumed setup a SECOND m from to cut) (λ d. with_good d (saying d.good m from (2 ^ to) false))

-- what site p has heard for m
unfoldable pub hearing : List ℕ → ℕ → ℕ → ℕ → ℕ → List ℕ
hearing bs p m heard good = set (set bs (heard_at p m) heard) (good_at p m) good

-- heard, before the (n - f)th
unfoldable pub heard_second : Setup → Arrays → ℕ → ℕ → ℕ → ℕ → ℕ → Cut → Flat
heard_second setup a m from to heard good cut =
    followed (passed_second setup a m from to cut) (λ d. with_bytes d (hearing d.bytes to m heard good))

-- the sets of a site that steps
unfoldable pub stepping : List ℕ → ℕ → ℕ → Set → Set → List ℕ
stepping ws p m seen held = adding (storing (storing ws (seen_of p) seen) (held_of p) held) (stepped_of p) m

-- the set of a THIRD, if it goes out
unfoldable pub carrying_to : List ℕ → ℕ → ℕ → ℕ → Set → List ℕ
carrying_to carried m from receivers load = cond (eqb receivers 0) carried (carrying carried m from load)

-- m joins held: more than n/2 of those heard are GOOD and seen meets C(m) in m alone
unfoldable pub joining : Setup → Set → Set → ℕ → ℕ → ℕ → Bool
joining setup seen conflicts m heard good = majority setup (bit_and good heard) && alone seen conflicts m

-- held of a site that steps
unfoldable pub holding : Setup → List ℕ → ℕ → ℕ → ℕ → ℕ → Set → Set
holding setup ws p m heard good conflicts =
    with_if (slot_set ws (held_of p)) m (joining setup (with (slot_set ws (seen_of p)) m) conflicts m heard good)

-- heard, the (n - f)th: the site steps
unfoldable pub stepped_second : Setup → Arrays → ℕ → ℕ → ℕ → ℕ → ℕ → Cut → Flat
stepped_second setup a m from to heard good cut =
    let all = only_site (byte a.bytes (owner_at m)) in
    let conflicts = conflicts_in a.sets a.bytes setup.matrix m in
    let seen = with (slot_set a.sets (seen_of to)) m in
    let held = holding setup a.sets to m heard good conflicts in
    let receivers = sites_to all cut in
    refused_or (cut_cause setup a.bytes all cut) a
    (flat 0
    (record {
      sets = stepping a.sets to m seen held;
      counts = a.counts;
      bytes = marked (hearing a.bytes to m heard good) to cut;
      amounts = a.amounts;
      masks = sending_to (taking_from a.masks SECOND m from to) THIRD m to receivers;
      good = saying a.good m from (2 ^ to) false;
      carried = carrying_to a.carried m to receivers (meet held conflicts);
    }))

unfoldable pub flat_second : Setup → Arrays → ℕ → ℕ → ℕ → Cut → Flat
flat_second setup a m from to cut =
    let known = byte a.bytes (heard_at to m) in
    let heard = with_site known from in
    let good = with_site_if (byte a.bytes (good_at to m)) from (has_bit (good_in a.good m from) to) in
    cond (late setup known from (has_in a.sets (stepped_of to) m)) (passed_second setup a m from to cut)
    (cond (reached setup heard) (stepped_second setup a m from to heard good cut)
    (heard_second setup a m from to heard good cut))

-- ---- THIRD

-- without effect: its set leaves with it
unfoldable pub passed_third : Setup → Arrays → ℕ → ℕ → ℕ → Cut → Flat
passed_third setup a m from to cut = followed (consumed setup a THIRD m from to cut) (λ d. with_carried d (carrying d.carried m from empty_set))

-- the masks of m's tally
unfoldable pub tallying : List ℕ → ℕ → ℕ → ℕ → List ℕ
tallying bs m heard has = set (set bs (tallied_at m) heard) (has_at m) has

-- heard, before the (n - f)th
unfoldable pub heard_third : Setup → Arrays → ℕ → ℕ → ℕ → ℕ → ℕ → Set → Cut → Flat
heard_third setup a m from to heard has union cut =
    followed (passed_third setup a m from to cut)
    (λ d. with_sets (with_bytes d (tallying d.bytes m heard has)) (storing d.sets (union_of m) union))

-- heard, the (n - f)th: m is finished
unfoldable pub finishing : Arrays → ℕ → ℕ → ℕ → ℕ → ℕ → Set → Cut → Arrays
finishing a m from to heard has union cut =
    record {
      sets = adding (storing a.sets (union_of m) union) (finished_of to) m;
      counts = a.counts;
      bytes = marked (tallying a.bytes m heard has) to cut;
      amounts = a.amounts;
      masks = taking_from a.masks THIRD m from to;
      good = a.good;
      carried = carrying a.carried m from empty_set;
    }

-- DELIVER goes to all
unfoldable pub sent_third : Setup → Arrays → ℕ → ℕ → ℕ → ℕ → ℕ → Set → Cut → Flat
sent_third setup a m from to heard has union cut =
    let all = every_site setup.n in
    let d = finishing a m from to heard has union cut in
    refused_or (cut_cause setup a.bytes all cut) a
    (flat 0 (with_masks d (sending_to d.masks DELIVER m to (sites_to all cut))))

-- m's entry into the pool, if it goes out
unfoldable pub entering : List ℕ → ℕ → ℕ → Set → List ℕ
entering ws m receivers union = cond (eqb receivers 0) ws (storing (adding ws pool_slot m) (entry_of m) union)

-- or its entry goes into the pool: one send
unfoldable pub pooled_third : Setup → Arrays → ℕ → ℕ → ℕ → ℕ → ℕ → Set → Cut → Flat
pooled_third setup a m from to heard has union cut =
    let d = finishing a m from to heard has union cut in
    refused_or (cut_cause setup a.bytes 1 cut) a
    (flat 0 (with_sets d (entering d.sets m (sites_to 1 cut) union)))

-- not late
unfoldable pub concluded_third : Setup → Arrays → ℕ → ℕ → ℕ → ℕ → ℕ → Set → Cut → Flat
concluded_third setup a m from to heard has union cut =
    cond (reached setup heard)
    (cond (majority setup (bit_and has heard)) (sent_third setup a m from to heard has union cut)
    (pooled_third setup a m from to heard has union cut))
    (heard_third setup a m from to heard has union cut)

unfoldable pub flat_third : Setup → Arrays → ℕ → ℕ → ℕ → Cut → Flat
flat_third setup a m from to cut =
    let known = byte a.bytes (tallied_at m) in
    let load = set_in a.carried m from in
    let heard = with_site known from in
    let holders = with_site_if (byte a.bytes (has_at m)) from (has load m) in
    let union = join (slot_set a.sets (union_of m)) load in
    cond (late setup known from (has_in a.sets (finished_of to) m)) (passed_third setup a m from to cut)
    (concluded_third setup a m from to heard holders union cut)

-- ---- DELIVER

-- site p delivers m, unless its step is cut
abbrev pub delivered_to : Laid → ℕ → ℕ → Cut → Laid
delivered_to d p m Whole = delivered d p m
delivered_to d p m (After j) = d

unfoldable pub flat_deliver : Setup → Arrays → ℕ → ℕ → ℕ → Cut → Flat
flat_deliver setup a m from to cut =
    let all = relay_to setup.n to (byte a.bytes (owner_at m)) in
    let d = delivered_to (laid (adding a.sets (got_of to) m) a.counts (marked a.bytes to cut)) to m cut in
    cond (has_in a.sets (got_of to) m) (consumed setup a DELIVER m from to cut)
    (refused_or (cut_cause setup a.bytes all cut) a
    (flat 0
    (record {
      sets = d.sets;
      counts = d.counts;
      bytes = d.bytes;
      amounts = a.amounts;
      masks = sending_to (taking_from a.masks DELIVER m from to) DELIVER m to (sites_to all cut);
      good = a.good;
      carried = a.carried;
    })))

-- ---- the calls

-- a posting's row but for its amount
unfoldable pub entered : List ℕ → ℕ → Posting → List ℕ
entered bs m p = set (set (set (set bs (owner_at m) p.owner) (kind_at m) p.kind) (from_at m) p.a) (into_at m) p.b

unfoldable pub flat_offer : Setup → Arrays → ℕ → ℕ → ℕ → ℕ → ℕ → Cut → Flat
flat_offer setup a site kind account other amount cut =
    let posting : Posting = record { owner = site; kind = kind; a = account; b = other; amount = amount } in
    let m = get_or a.counts count_at 0 in
    let all = every_site setup.n in
    refused_or (site_cause setup a.bytes site) a
    (refused_or (first_cause (offer_causes posting m)) a
    (refused_or (cut_cause setup a.bytes all cut) a
    (flat 0
    (record {
      sets = indexing a.sets m kind account other;
      counts = set a.counts count_at (m + 1);
      bytes = marked (entered a.bytes m posting) site cut;
      amounts = set a.amounts m amount;
      masks = sending_to a.masks FIRST m site (sites_to all cut);
      good = a.good;
      carried = a.carried;
    }))))

unfoldable pub flat_receive : Setup → Arrays → ℕ → ℕ → ℕ → ℕ → Cut → Flat
flat_receive setup a form m from to cut =
    refused_or (first_cause (message_causes setup.n (byte a.bytes down_at) from to)) a
    (cond (message_in a.masks form m from to)
    (cond (eqb form FIRST) (flat_first setup a m from to cut)
    (cond (eqb form SECOND) (flat_second setup a m from to cut)
    (cond (eqb form THIRD) (flat_third setup a m from to cut)
    (flat_deliver setup a m from to cut))))
    (flat 11 a))

-- m at the end of the log; a full log stays
unfoldable pub logging : Arrays → ℕ → Arrays
logging a m =
    let count = get_or a.counts logged_at 0 in
    cond (ltb count capacity) (with_bytes (with_counts a (set a.counts logged_at (count + 1))) (set a.bytes (log_at count) m)) a

unfoldable pub flat_order : Arrays → ℕ → Flat
flat_order a m =
    cond (ltb m capacity && has_in a.sets pool_slot m) (flat 0 (logging (with_sets a (dropping a.sets pool_slot m)) m))
    (flat 12 a)

-- site p delivers m's entry, unless its step is cut
abbrev pub entry_delivered_to : Laid → ℕ → ℕ → Cut → Laid
entry_delivered_to d p m Whole = delivered_entry d p m
entry_delivered_to d p m (After j) = d

unfoldable pub flat_read : Setup → Arrays → ℕ → Cut → Flat
flat_read setup a site cut =
    let place = get_or a.counts (place_at site) 0 in
    let m = byte a.bytes (log_at place) in
    let d = entry_delivered_to (laid a.sets (set a.counts (place_at site) (place + 1)) (marked a.bytes site cut)) site m cut in
    refused_or (site_cause setup a.bytes site) a
    (cond (leb (get_or a.counts logged_at 0) place) (flat 13 a)
    (refused_or (cut_cause setup a.bytes 0 cut) a
    (flat 0 (with_sets (with_counts (with_bytes a d.bytes) d.counts) d.sets))))

unfoldable pub flat_crash : Setup → Arrays → ℕ → Flat
flat_crash setup a site =
    let down = byte a.bytes down_at in
    refused_or (site_cause setup a.bytes site) a
    (cond (leb setup.f (ones down)) (flat 14 a)
    (flat 0 (with_bytes a (set a.bytes down_at (with_site down site)))))

-- a call
unfoldable pub flat_perform : Setup → Arrays → Call → Flat
flat_perform setup a (Offer site kind account other amount cut) = flat_offer setup a site kind account other amount cut
flat_perform setup a (Receive form m from to cut) = flat_receive setup a form m from to cut
flat_perform setup a (Order m) = flat_order a m
flat_perform setup a (Read site cut) = flat_read setup a site cut
flat_perform setup a (Crash site) = flat_crash setup a site

-- what the code of a read needs: the log fits, and its entries are postings
pub record LogFits (counts bytes : List ℕ) : Type 0 where
  pub within : get_or counts logged_at 0 ≤ capacity
  pub postings : (i : ℕ) → i < get_or counts logged_at 0 → byte bytes (log_at i) < capacity
