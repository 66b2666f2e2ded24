-- Cells that hold nothing live are as on the blank board: rows of sites from n on, table rows past the count, places of records and of
-- the log past their length, a GOOD or a carried set with no such message in flight. Rests on machine. Assumes nothing.
use Prim.Native.Nat.{ℕ, zero, suc, ◌+◌, ◌<◌, ◌≤◌}
use mathlib.Core.Path.{◌≡◌, refl, sym, ap, ◌∙◌}
use mathlib.Core.Logic.{◌⊎◌, inl, inr, ◌≢◌}
use mathlib.Core.Bool.{Bool, true, false, cond, not, ◌&&◌, ◌||◌}
use mathlib.Core.List.{List, [], ◌∷◌}
use native.Mathlib.Omega.{arith}
use native.Mathlib.Decide.{ℕ_discrete}
use lib.Dec.{eqb, ltb, leb}
use lib.Count.{ones}
use lib.ListN.{get_or, set}
use lib.Seq.{get_or-set_other}
use borrow.Author.Tests.{eq-eqb, ne_eqb, eqb-true}
use Rattle.sets.specs.declared.Set.{Set}
use Rattle.sets.proofs.Truth.{test, never, not_so, and_left, and_right, and_intro, or_left, or_right}
use Rattle.sets.specs.Masks.{has_bit}
use Rattle.sets.specs.Sets.{capacity, empty_set, has}
use Rattle.posting.specs.declared.Record.{Record}
use Rattle.posting.specs.declared.Table.{Table}
use Rattle.posting.specs.Conflicts.{no_posting, row}
use Rattle.posting.specs.Records.{append, contains}
use Rattle.site.specs.declared.Site.{Site}
use Rattle.site.specs.declared.Setup.{Setup}
use Rattle.site.specs.declared.Tally.{Tally}
use Rattle.site.specs.Sites.{sites, blank_site, heard_for, plus}
use Rattle.site.specs.Sends.{FIRST, SECOND, THIRD, Send, first, second, third, deliver, entry, Step}
use Rattle.site.specs.Steps.{no_step, tallied, on_offer, on_first, step_second, on_second, step_third, on_third, on_deliver, on_entry, delivering, delivering_all, quorum}
use Rattle.flight.specs.declared.Flight.{Flight}
use Rattle.flight.specs.Flights.{in_flight, good_to, carried_by, sending, taking_out}
use Rattle.flight.specs.Shapes.{Shape}
use Rattle.flight.proofs.CellLaws.{same_cell}
use Rattle.flight.proofs.FlightLaws.{Fits, sends, is_third, verdict_of, load_of, sending_in_flight, sending_good, sending_carried, taking_in_flight, taking_good, taking_carried}
use Rattle.machine.specs.declared.Board.{Board}
use Rattle.machine.specs.Boards.{site_at, tally_at}
use Rattle.machine.specs.Calls.{receipt_of}

-- ---- records

-- places past the length
abbrev pub Past : Record → Type 0
Past r = (i : ℕ) → r.count ≤ i → get_or r.numbers i 0 ≡ 0

pub append_past : (r : Record) (m : ℕ) → Past r → Past (append r m)
unfolding append
append_past r m h = elim (test (ltb r.count capacity && ltb m capacity)) [
  | inl t ↦ rw t (λ i le. let d : i ≢ r.count = λ e. omega arith in get_or-set_other r.numbers r.count i m 0 d ∙ h i (omega arith))
  | inr t ↦ rw t h
]

delivering_past : (r : Record) (m : ℕ) → Past r → Past (delivering r m)
unfolding delivering
delivering_past r m h = elim (test (contains r m)) [ inl t ↦ rw t h | inr t ↦ rw t (append_past r m h) ]

pub delivering_all_past : (r : Record) (l : List ℕ) → Past r → Past (delivering_all r l)
unfolding delivering_all
delivering_all_past r [] h = h
delivering_all_past r (m ∷ l) h = delivering_all_past (delivering r m) l (delivering_past r m h)

-- ---- loads

-- a load with no message
pub record Unloaded (flight : Flight) : Type 0 where
  pub no_good : (m from to : ℕ) → in_flight flight SECOND m from to ≡ false → has_bit (good_to flight m from) to ≡ false
  pub no_carried : (m from : ℕ) → ((to : ℕ) → in_flight flight THIRD m from to ≡ false) → carried_by flight m from ≡ empty_set

neither : (a b : Bool) → (a || b) ≡ false → (a ≡ false) × (b ≡ false)
neither true b e = absurd (never refl e)
neither false b e = (refl, e)

third_sent : (send : Send) (m : ℕ) → is_third send m ≡ true → (to : ℕ) × (sends send THIRD m to ≡ true)
unfolding is_third sends
third_sent (first x y) m h = absurd (never h refl)
third_sent (second x y good) m h = absurd (never h refl)
third_sent (third x y carried) m h = (y, and_intro (eqb m x) (eqb y y) h (eq-eqb y y refl))
third_sent (deliver x y) m h = absurd (never h refl)
third_sent (entry x carried) m h = absurd (never h refl)

module _ (flight : Flight) (shape : Shape flight) (i : Unloaded flight) where
  pub sending_unloaded : (from : ℕ) → from < sites → (send : Send) → Fits send → Unloaded (sending flight from send)
  sending_unloaded from hf send fits = record {
    no_good = λ x a b none.
        let (old, new) = neither (in_flight flight SECOND x a b) (sends send SECOND x b && eqb a from) (sym (sending_in_flight flight shape from hf send fits SECOND x a b) ∙ none) in
        sending_good flight shape from hf send fits x a b ∙ rw new (i.no_good x a b old);
    no_carried = λ x a none.
        let each : (b : ℕ) → (in_flight flight THIRD x a b ≡ false) × ((sends send THIRD x b && eqb a from) ≡ false) = λ b.
        neither (in_flight flight THIRD x a b) (sends send THIRD x b && eqb a from) (sym (sending_in_flight flight shape from hf send fits THIRD x a b) ∙ none b) in
        sending_carried flight shape from hf send fits x a ∙ kept x a (λ b. (each b).0) (λ b. (each b).1);
  }
    where
      kept : (x a : ℕ) → ((b : ℕ) → in_flight flight THIRD x a b ≡ false) → ((b : ℕ) → (sends send THIRD x b && eqb a from) ≡ false)
          → cond (is_third send x && eqb a from) (load_of send) (carried_by flight x a) ≡ empty_set
      kept x a old new = elim (test (is_third send x && eqb a from)) [
        | inl t ↦
            let (b, sent) = third_sent send x (and_left (is_third send x) (eqb a from) t) in
            absurd (never (and_intro (sends send THIRD x b) (eqb a from) sent (and_right (is_third send x) (eqb a from) t)) (new b))
        | inr t ↦ rw t (i.no_carried x a old)
      ]

  pub taking_unloaded : (form m from to : ℕ) → m < capacity → from < sites → Unloaded (taking_out flight form m from to)
  taking_unloaded form m from to hm hf = record {
    no_good = λ x a b none. taking_good flight shape form m from to hm hf x a b
        ∙ told x a b (sym (taking_in_flight flight shape form m from to SECOND x a b) ∙ none);
    no_carried = λ x a none. taking_carried flight shape form m from to hm hf x a
        ∙ kept x a (λ b. sym (taking_in_flight flight shape form m from to THIRD x a b) ∙ none b);
  }
    where
      told : (x a b : ℕ) → (in_flight flight SECOND x a b && not (same_cell SECOND x a form m from && eqb b to)) ≡ false
          → cond (eqb form SECOND && (eqb x m && eqb a from && eqb b to)) false (has_bit (good_to flight x a) b) ≡ false
      told x a b h = elim (test (in_flight flight SECOND x a b)) [
        | inr n ↦ rw (i.no_good x a b n) (same (eqb form SECOND && (eqb x m && eqb a from && eqb b to)))
        | inl t ↦
            let gone : (same_cell SECOND x a form m from && eqb b to) ≡ true = back (same_cell SECOND x a form m from && eqb b to) (rw t at h) in
            rw (of_cell x a b gone) refl
      ]
        where
          same : (v : Bool) → cond v false false ≡ false
          same true = refl
          same false = refl

          back : (v : Bool) → (true && not v) ≡ false → v ≡ true
          back true e = refl
          back false e = absurd (never refl e)

          of_cell : (x a b : ℕ) → (same_cell SECOND x a form m from && eqb b to) ≡ true → (eqb form SECOND && (eqb x m && eqb a from && eqb b to)) ≡ true
          of_cell x a b h =
              let cell = and_left (same_cell SECOND x a form m from) (eqb b to) h in
              let f = eqb-true SECOND form (and_left (eqb SECOND form) (eqb x m && eqb a from) cell) in
              let rest = and_right (eqb SECOND form) (eqb x m && eqb a from) cell in
              and_intro (eqb form SECOND) (eqb x m && eqb a from && eqb b to) (eq-eqb form SECOND (sym f))
              (and_intro (eqb x m && eqb a from) (eqb b to) rest (and_right (same_cell SECOND x a form m from) (eqb b to) h))

      kept : (x a : ℕ) → ((b : ℕ) → (in_flight flight THIRD x a b && not (same_cell THIRD x a form m from && eqb b to)) ≡ false)
          → cond (eqb form THIRD && (eqb x m && eqb a from)) empty_set (carried_by flight x a) ≡ empty_set
      kept x a h = elim (test (eqb form THIRD && (eqb x m && eqb a from))) [
        | inl t ↦ rw t
        | inr n ↦ rw n (i.no_carried x a (λ b. not_so (in_flight flight THIRD x a b) (λ u.
            never (and_intro (in_flight flight THIRD x a b) (not (same_cell THIRD x a form m from && eqb b to)) u (other b n)) (h b))))
      ]
        where
          other : (b : ℕ) → (eqb form THIRD && (eqb x m && eqb a from)) ≡ false → not (same_cell THIRD x a form m from && eqb b to) ≡ true
          other b n = ap not (not_so (same_cell THIRD x a form m from && eqb b to) (λ u.
              let cell = and_left (same_cell THIRD x a form m from) (eqb b to) u in
              let f = eqb-true THIRD form (and_left (eqb THIRD form) (eqb x m && eqb a from) cell) in
              never (and_intro (eqb form THIRD) (eqb x m && eqb a from) (eq-eqb form THIRD (sym f)) (and_right (eqb THIRD form) (eqb x m && eqb a from) cell)) n))

-- ---- a board

pub record Blank (b : Board) : Type 0 where
  pub sites_past : (p : ℕ) → b.setup.n ≤ p → p < sites → site_at b p ≡ blank_site
  pub rows_past : (m : ℕ) → b.table.count ≤ m → row b.table m ≡ no_posting
  pub records_past : (p : ℕ) → p < sites → Past (site_at b p).delivered
  pub log_past : Past b.log
  pub unloaded : Unloaded b.flight

-- ---- steps leave the record alone, until they deliver

second_record : (setup : Setup) (table : Table) (site : Site) (tally : Tally) (m from : ℕ) (good : Bool) → (on_second setup table site tally m from good).site.delivered ≡ site.delivered
unfolding on_second step_second
second_record setup table site tally m from good = elim (test late) [
  | inl e ↦ rw e
  | inr e ↦ rw e (elim (test last) [ inl d ↦ rw d | inr d ↦ rw d ])
]
  where
    late : Bool
    late = has_bit (heard_for site m) from || (leb (quorum setup) (ones (heard_for site m)) || has site.stepped m)

    last : Bool
    last = leb (quorum setup) (ones (plus (heard_for site m) from))

third_record : (setup : Setup) (site : Site) (tally : Tally) (m from : ℕ) (carried : Set) → (on_third setup site tally m from carried).site.delivered ≡ site.delivered
unfolding on_third step_third
third_record setup site tally m from carried = elim (test late) [
  | inl e ↦ rw e
  | inr e ↦ rw e (elim (test last) [ inl d ↦ rw d | inr d ↦ rw d ])
]
  where
    late : Bool
    late = has_bit tally.heard from || (leb (quorum setup) (ones tally.heard) || has site.finished m)

    last : Bool
    last = leb (quorum setup) (ones (tallied tally m from carried).heard)

deliver_record : (setup : Setup) (table : Table) (site : Site) (tally : Tally) (p m : ℕ) → (on_deliver setup table site tally p m).site.delivered ≡ site.delivered
unfolding on_deliver
deliver_record setup table site tally p m = elim (test (has site.got m)) [ inl e ↦ rw e | inr e ↦ rw e ]

pub receipt_record : (b : Board) (form m from to : ℕ) → (receipt_of b form m from to).site.delivered ≡ (site_at b to).delivered
unfolding receipt_of on_first
receipt_record b form m from to = elim (test (eqb form FIRST)) [
  | inl e ↦ rw e
  | inr e ↦ rw e (elim (test (eqb form SECOND)) [
    | inl d ↦ rw d (second_record b.setup b.table (site_at b to) (tally_at b m) m from (has_bit (good_to b.flight m from) to))
    | inr d ↦ rw d (elim (test (eqb form THIRD)) [
      | inl c ↦ rw c (third_record b.setup (site_at b to) (tally_at b m) m from (carried_by b.flight m from))
      | inr c ↦ rw c (deliver_record b.setup b.table (site_at b to) (tally_at b m) to m)
    ])
  ])
]
