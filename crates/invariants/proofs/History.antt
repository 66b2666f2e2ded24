-- Of the list and the state: the table's rows are the accepted offers, the log is the list of accepted orders, a site's place is the
-- number of its accepted reads, and a site is down exactly if an accepted crash named it or an accepted call was cut at it.
-- Rests on Judged, CarriedOut and Room. Assumes nothing.
use Prim.Native.Nat.{ℕ, ◌+◌, ◌<◌, ◌≤◌}
use mathlib.Core.Path.{◌≡◌, refl, sym, ap, ◌∙◌}
use mathlib.Core.Logic.{inl, inr, ◌≢◌}
use mathlib.Core.Bool.{Bool, true, false, cond, ◌&&◌, ◌||◌, or-false, or_assoc}
use mathlib.Core.List.{List, [], ◌∷◌, ◌++◌, append-nil}
use native.Mathlib.Omega.{arith}
use native.Mathlib.Decide.{ℕ_discrete}
use lib.Dec.{eqb, leb}
use lib.Count.{ones}
use lib.ListN.{length, get_or, length-append, get_or-append}
use lib.Seq.{get_or-append_seam}
use borrow.Author.Tests.{eq-eqb, ne_eqb}
use Rattle.sets.proofs.Truth.{test, not_so}
use Rattle.sets.specs.Masks.{has_bit}
use Rattle.sets.proofs.MaskLaws.{has_bit_set}
use Rattle.sets.specs.Sets.{has}
use Rattle.posting.specs.declared.Posting.{Posting}
use Rattle.posting.specs.declared.Table.{Table}
use Rattle.posting.specs.Conflicts.{no_posting, row, table_with}
use Rattle.posting.proofs.ConflictLaws.{offered_below, below_offered}
use Rattle.posting.specs.Records.{numbers_of, contains}
use Rattle.posting.proofs.RecordLaws.{numbers_append}
use Rattle.sets.specs.declared.Set.{Set}
use Rattle.site.specs.declared.Setup.{Setup}
use Rattle.site.specs.declared.Tally.{Tally}
use Rattle.site.specs.declared.Site.{Site}
use Rattle.site.specs.Sites.{sites, plus, plus_if, heard_for, good_for, site_heard}
use Rattle.site.specs.Sends.{FIRST, SECOND, THIRD, Step}
use Rattle.site.specs.Steps.{quorum, no_step, tallied, on_offer, on_first, on_second, step_second, on_third, step_third, on_deliver, on_entry}
use Rattle.flight.specs.declared.Flight.{Flight}
use Rattle.flight.specs.Flights.{taking_out, good_to, carried_by}
use Rattle.machine.specs.declared.Board.{Board}
use Rattle.steps.specs.declared.Cut.{Cut}
use Rattle.steps.specs.declared.Cut.TheVariants.{Whole, After}
use Rattle.steps.specs.declared.Call.{Call}
use Rattle.steps.specs.declared.Call.TheVariants.{Offer, Receive, Order, Read, Crash}
use Rattle.machine.specs.Boards.{site_at, tally_at, is_down, board_table, board_flight}
use Rattle.steps.specs.Causes.{is_cut}
use Rattle.machine.specs.Calls.{carried_out, receipt_of}
use Rattle.machine.specs.Runs.{taking, accepted}
use Rattle.machine.specs.History.{offers, orders, reads, brings_down, brought_down}
use Rattle.machine.proofs.Shapes.{BoardShape}
use Rattle.machine.proofs.SoundTest.{sound_facts}
use Rattle.invariants.proofs.Judged.{OfferTaken, ReceiptTaken, OrderTaken, ReadTaken, CrashTaken, offer_taken, receipt_taken, order_taken, read_taken, crash_taken, refused_same, read_step, offer_step}
use Rattle.invariants.proofs.CarriedOut.{site_after, out_setup, out_table, out_log, out_down, out_site, out_site_other}
use Rattle.invariants.proofs.Grow.{table_grows, new_row}
use Rattle.invariants.proofs.Room.{record_room}

-- ---- a call more at the end of a list

offers_last : (l : List Call) (c : Call) → offers (l ++ (c ∷ [])) ≡ offers l ++ offers (c ∷ [])
unfolding offers
offers_last [] c = refl
offers_last (Offer site kind account other amount cut ∷ l) c = ap (λ (r : List Posting). record { owner = site; kind = kind; a = account; b = other; amount = amount } ∷ r) (offers_last l c)
offers_last (Receive form m from to cut ∷ l) c = offers_last l c
offers_last (Order m ∷ l) c = offers_last l c
offers_last (Read site cut ∷ l) c = offers_last l c
offers_last (Crash site ∷ l) c = offers_last l c

orders_last : (l : List Call) (c : Call) → orders (l ++ (c ∷ [])) ≡ orders l ++ orders (c ∷ [])
unfolding orders
orders_last [] c = refl
orders_last (Offer site kind account other amount cut ∷ l) c = orders_last l c
orders_last (Receive form m from to cut ∷ l) c = orders_last l c
orders_last (Order m ∷ l) c = ap (λ (r : List ℕ). m ∷ r) (orders_last l c)
orders_last (Read site cut ∷ l) c = orders_last l c
orders_last (Crash site ∷ l) c = orders_last l c

reads_last : (p : ℕ) (l : List Call) (c : Call) → reads p (l ++ (c ∷ [])) ≡ reads p l + reads p (c ∷ [])
unfolding reads
reads_last p [] c = omega arith
reads_last p (Offer site kind account other amount cut ∷ l) c = reads_last p l c
reads_last p (Receive form m from to cut ∷ l) c = reads_last p l c
reads_last p (Order m ∷ l) c = reads_last p l c
reads_last p (Read site cut ∷ l) c = elim (test (eqb p site)) [
  | inl e ↦ rw e (omega (arith, reads_last p l c))
  | inr e ↦ rw e (reads_last p l c)
]
reads_last p (Crash site ∷ l) c = reads_last p l c

down_last : (p : ℕ) (l : List Call) (c : Call) → brought_down p (l ++ (c ∷ [])) ≡ (brought_down p l || brings_down p c)
unfolding brought_down
down_last p [] c = or-false (brings_down p c)
down_last p (d ∷ l) c = ap (λ (b : Bool). brings_down p d || b) (down_last p l c) ∙ sym (or_assoc (brings_down p d) (brought_down p l) (brings_down p c))

-- ---- steps leave the log place alone

second_place : (setup : Setup) (table : Table) (site : Site) (tally : Tally) (m from : ℕ) (good : Bool) → (on_second setup table site tally m from good).site.place ≡ site.place
unfolding on_second step_second
second_place setup table site tally m from good =
    go (has_bit (heard_for site m) from || (leb (quorum setup) (ones (heard_for site m)) || has site.stepped m)) (leb (quorum setup) (ones (plus (heard_for site m) from)))
  where
    after : Site
    after = site_heard site m (plus (heard_for site m) from) (plus_if (good_for site m) from good)

    go : (late last : Bool) → (cond late (no_step site tally) (cond last (step_second setup table after tally m) (no_step after tally))).site.place ≡ site.place
    go true last = refl
    go false true = refl
    go false false = refl

third_place : (setup : Setup) (site : Site) (tally : Tally) (m from : ℕ) (carried : Set) → (on_third setup site tally m from carried).site.place ≡ site.place
unfolding on_third step_third
third_place setup site tally m from carried =
    go (has_bit tally.heard from || (leb (quorum setup) (ones tally.heard) || has site.finished m)) (leb (quorum setup) (ones (plus tally.heard from)))
  where
    go : (late last : Bool) → (cond late (no_step site tally) (cond last (step_third setup site (tallied tally m from carried) m) (no_step site (tallied tally m from carried)))).site.place ≡ site.place
    go true last = refl
    go false true = refl
    go false false = refl

deliver_place : (setup : Setup) (table : Table) (site : Site) (tally : Tally) (p m : ℕ) → (on_deliver setup table site tally p m).site.place ≡ site.place
unfolding on_deliver
deliver_place setup table site tally p m = elim (test (has site.got m)) [ inl e ↦ rw e | inr e ↦ rw e ]

receipt_place : (b : Board) (form m from to : ℕ) → (receipt_of b form m from to).site.place ≡ (site_at b to).place
unfolding receipt_of
receipt_place b form m from to = elim (test (eqb form FIRST)) [
  | inl e ↦ rw e (unfold on_first in refl)
  | inr e ↦ rw e (elim (test (eqb form SECOND)) [
    | inl d ↦ rw d (second_place b.setup b.table (site_at b to) (tally_at b m) m from (has_bit (good_to b.flight m from) to))
    | inr d ↦ rw d (elim (test (eqb form THIRD)) [
      | inl c ↦ rw c (third_place b.setup (site_at b to) (tally_at b m) m from (carried_by b.flight m from))
      | inr c ↦ rw c (deliver_place b.setup b.table (site_at b to) (tally_at b m) to m)
    ])
  ])
]

after_place : (step : Step) (cut : Cut) → (site_after step cut).place ≡ step.site.place
after_place step Whole = refl
after_place step (After j) = refl

-- ---- what a list has done to a board

pub record Done (b : Board) (done : List Call) : Type 0 where
  pub count : b.table.count ≡ length (offers done)
  pub rows : (m : ℕ) → m < b.table.count → row b.table m ≡ get_or (offers done) m no_posting
  pub log : numbers_of b.log ≡ orders done
  pub places : (p : ℕ) → p < b.setup.n → (site_at b p).place ≡ reads p done
  pub downs : (p : ℕ) → p < b.setup.n → is_down b p ≡ brought_down p done

pub out_is_down : (b : Board) (p m : ℕ) (step : Step) (cut : Cut) (q : ℕ) → is_down (carried_out b p m step cut) q ≡ (is_down b q || is_cut cut && eqb q p)
out_is_down b p m step Whole q = rw (out_down b p m step Whole) (sym (or-false (is_down b q)))
out_is_down b p m step (After j) q = rw (out_down b p m step (After j)) (has_bit_set b.down p q)

brings_offer : (p site kind account other amount : ℕ) (cut : Cut) → brings_down p (Offer site kind account other amount cut) ≡ (is_cut cut && eqb p site)
unfolding brings_down
brings_offer p site kind account other amount Whole = refl
brings_offer p site kind account other amount (After j) = refl

brings_receipt : (p form m from to : ℕ) (cut : Cut) → brings_down p (Receive form m from to cut) ≡ (is_cut cut && eqb p to)
unfolding brings_down
brings_receipt p form m from to Whole = refl
brings_receipt p form m from to (After j) = refl

brings_read : (p site : ℕ) (cut : Cut) → brings_down p (Read site cut) ≡ (is_cut cut && eqb p site)
unfolding brings_down
brings_read p site Whole = refl
brings_read p site (After j) = refl

-- ---- an accepted call

module _ (b : Board) (shape : BoardShape b) (few : b.setup.n ≤ sites) (done : List Call) (i : Done b done) (c : Call) where
  abbrev now : List Call
  now = done ++ (c ∷ [])

  -- a step at p, on the board with a table and a flight of its own
  step_done : (t : Table) (flight : Flight) (p m : ℕ) (step : Step) (cut : Cut) → p < b.setup.n
      → t.count ≡ length (offers now) → ((x : ℕ) → x < t.count → row t x ≡ get_or (offers now) x no_posting)
      → orders (c ∷ []) ≡ [] → ((q : ℕ) → brings_down q c ≡ (is_cut cut && eqb q p))
      → ((q : ℕ) → q < b.setup.n → cond (eqb q p) step.site.place (site_at b q).place ≡ reads q now)
      → Done (carried_out (board_flight (board_table b t) flight) p m step cut) now
  step_done t flight p m step cut lp count rows no-order brings place =
      let on = board_flight (board_table b t) flight in
      let n : (carried_out on p m step cut).setup.n ≡ b.setup.n = ap (λ (s : Setup). s.n) (out_setup on p m step cut) in
      record {
        count = ap (λ (u : Table). u.count) (out_table on p m step cut) ∙ count;
        rows = λ x lt. ap (λ (u : Table). row u x) (out_table on p m step cut) ∙ rows x (rw (ap (λ (u : Table). u.count) (out_table on p m step cut)) at lt);
        log = ap numbers_of (out_log on p m step cut) ∙ i.log ∙ sym (orders_last done c ∙ rw (no-order, append-nil));
        places = λ q lt. elim (ℕ_discrete q p) [
          | yes e ↦
              let own : (site_at (carried_out on p m step cut) q).place ≡ step.site.place =
              rw (e, out_site on p m step cut (omega (arith, shape.sites_long))) (after_place step cut) in
              own ∙ (rw (eq-eqb q p e) at (place q (rw n at lt)))
          | no d ↦
              let other : (site_at (carried_out on p m step cut) q).place ≡ (site_at b q).place = ap (λ (s : Site). s.place) (out_site_other on p m step cut q d) in
              other ∙ (rw (ne_eqb q p d) at (place q (rw n at lt)))
        ];
        downs = λ q lt. out_is_down on p m step cut q ∙ rw (i.downs q (rw n at lt), ← brings q) (sym (down_last q done c));
      }

  -- a call that offers nothing leaves the rows of the list
  no_more : offers (c ∷ []) ≡ [] → offers now ≡ offers done
  no_more none = offers_last done c ∙ rw (none, append-nil)

  same_count : offers (c ∷ []) ≡ [] → b.table.count ≡ length (offers now)
  same_count none = i.count ∙ ap length (sym (no_more none))

  same_rows : offers (c ∷ []) ≡ [] → (x : ℕ) → x < b.table.count → row b.table x ≡ get_or (offers now) x no_posting
  same_rows none x lt = i.rows x lt ∙ ap (λ (l : List Posting). get_or l x no_posting) (sym (no_more none))

  -- a call by which no site reads
  no_read : (p : ℕ) → reads p (c ∷ []) ≡ 0 → p < b.setup.n → (site_at b p).place ≡ reads p now
  no_read p none lt = i.places p lt ∙ omega (arith, reads_last p done c, none)

  no_read_at : (p place : ℕ) → ((q : ℕ) → reads q (c ∷ []) ≡ 0) → place ≡ (site_at b p).place → (q : ℕ) → q < b.setup.n → cond (eqb q p) place (site_at b q).place ≡ reads q now
  no_read_at p place none same q lt = elim (ℕ_discrete q p) [
    | yes e ↦ rw (eq-eqb q p e) (same ∙ rw (← e) (no_read q (none q) lt))
    | no d ↦ rw (ne_eqb q p d) (no_read q (none q) lt)
  ]

module _ (b : Board) (shape : BoardShape b) (few : b.setup.n ≤ sites) (done : List Call) (i : Done b done) where
  offer_done : (site kind account other amount : ℕ) (cut : Cut) → OfferTaken b site kind account other amount cut
      → Done (taking b (Offer site kind account other amount cut)).board (done ++ (Offer site kind account other amount cut ∷ []))
  unfolding taking
  offer_done site kind account other amount cut k =
      let c = Offer site kind account other amount cut in
      let posting : Posting = record { owner = site; kind = kind; a = account; b = other; amount = amount } in
      let t = table_with b.table posting in
      let last : offers (done ++ (c ∷ [])) ≡ offers done ++ (posting ∷ []) = offers_last done c ∙ unfold offers in refl in
      let long = length-append (offers done) (posting ∷ []) in
      rw k.board (step_done b shape few done i c t b.flight site b.table.count (offer_step b site) cut k.acts.there
      (omega (arith, i.count, ap length last, long))
      (λ x lt. elim (ℕ_discrete x b.table.count) [
        | yes e ↦ rw e (new_row b.table posting (omega (arith, shape.rows, k.room))
            ∙ sym (ap (λ (l : List Posting). get_or l b.table.count no_posting) last ∙ rw i.count (get_or-append_seam (offers done) posting [] no_posting)))
        | no d ↦
            let below : x < b.table.count = omega arith in
            (table_grows b.table posting).same x (below_offered b.table x below (omega (arith, k.room))) ∙ i.rows x below
            ∙ sym (ap (λ (l : List Posting). get_or l x no_posting) last ∙ get_or-append (offers done) (posting ∷ []) no_posting x (omega (arith, i.count)))
      ])
      (unfold orders in refl) (λ q. brings_offer q site kind account other amount cut)
      (no_read_at b shape few done i c site _ (λ q. unfold reads in refl) (unfold on_offer in refl)))

  receipt_done : (form m from to : ℕ) (cut : Cut) → ReceiptTaken b form m from to cut
      → Done (taking b (Receive form m from to cut)).board (done ++ (Receive form m from to cut ∷ []))
  unfolding taking
  receipt_done form m from to cut k =
      let c = Receive form m from to cut in
      rw k.board (step_done b shape few done i c b.table (taking_out b.flight form m from to) to m (receipt_of b form m from to) cut k.acts.there
      (same_count b shape few done i c (unfold offers in refl)) (same_rows b shape few done i c (unfold offers in refl))
      (unfold orders in refl) (λ q. brings_receipt q form m from to cut)
      (no_read_at b shape few done i c to _ (λ q. unfold reads in refl) (receipt_place b form m from to)))

  read_done : (site : ℕ) (cut : Cut) → ReadTaken b site cut → Done (taking b (Read site cut)).board (done ++ (Read site cut ∷ []))
  unfolding taking
  read_done site cut k =
      let c = Read site cut in
      rw k.board (step_done b shape few done i c b.table b.flight site _ (read_step b site) cut k.acts.there
      (same_count b shape few done i c (unfold offers in refl)) (same_rows b shape few done i c (unfold offers in refl))
      (unfold orders in refl) (λ q. brings_read q site cut)
      (λ q lt. elim (ℕ_discrete q site) [
        | yes e ↦ let old : (site_at b site).place ≡ reads q done = rw (← e) (i.places q lt) in
            rw (eq-eqb q site e) (omega (arith, place, old, reads_last q done c, one q e))
        | no d ↦ rw (ne_eqb q site d) (i.places q lt ∙ omega (arith, reads_last q done c, none q d))
      ]))
    where
      place : (read_step b site).site.place ≡ (site_at b site).place + 1
      place = unfold on_entry in refl

      one : (q : ℕ) → q ≡ site → reads q (Read site cut ∷ []) ≡ 1
      one q e = unfold reads in rw (eq-eqb q site e)

      none : (q : ℕ) → q ≢ site → reads q (Read site cut ∷ []) ≡ 0
      none q d = unfold reads in rw (ne_eqb q site d)

  order_done : (m : ℕ) → OrderTaken b m → Done (taking b (Order m)).board (done ++ (Order m ∷ []))
  unfolding taking
  order_done m k =
      let c = Order m in
      let facts = sound_facts b shape.flight.masks.long k.sound in
      let o = facts.pool m k.pooled in
      let lt = (offered_below b.table m o).1 in
      let lacks : contains b.log m ≡ false = not_so (contains b.log m) (λ h. (facts.each_entry m lt).apart k.pooled (unfold contains in h)) in
      rw k.board (record {
        count = same_count b shape few done i c (unfold offers in refl);
        rows = same_rows b shape few done i c (unfold offers in refl);
        log = numbers_append b.log m (record_room b.table b.log facts.log shape.log m o lacks) lt shape.log
            ∙ ap (λ (l : List ℕ). l ++ (m ∷ [])) i.log ∙ sym (orders_last done c ∙ unfold orders in refl);
        places = λ q lq. no_read b shape few done i c q (unfold reads in refl) lq;
        downs = λ q lq. i.downs q lq ∙ sym (down_last q done c ∙ unfold brings_down in or-false (brought_down q done));
      })

  crash_done : (site : ℕ) → CrashTaken b site → Done (taking b (Crash site)).board (done ++ (Crash site ∷ []))
  unfolding taking
  crash_done site k =
      let c = Crash site in
      rw k.board (record {
        count = same_count b shape few done i c (unfold offers in refl);
        rows = same_rows b shape few done i c (unfold offers in refl);
        log = i.log ∙ sym (orders_last done c ∙ unfold orders in append-nil (orders done));
        places = λ q lq. no_read b shape few done i c q (unfold reads in refl) lq;
        downs = λ q lq. has_bit_set b.down site q ∙ rw (i.downs q lq) (sym (down_last q done c ∙ unfold brings_down in refl));
      })

  -- every call, accepted or refused
  pub call_done : (c : Call) → Done (taking b c).board (cond (accepted (taking b c).answer) (done ++ (c ∷ [])) done)
  call_done c = elim (test (accepted (taking b c).answer)) [
    | inl t ↦ rw t (taken c t)
    | inr t ↦ rw (t, refused_same b c t) i
  ]
    where
      taken : (c : Call) → accepted (taking b c).answer ≡ true → Done (taking b c).board (done ++ (c ∷ []))
      taken (Offer site kind account other amount cut) t = offer_done site kind account other amount cut (offer_taken b site kind account other amount cut (unfold taking in t))
      taken (Receive form m from to cut) t = receipt_done form m from to cut (receipt_taken b form m from to cut (unfold taking in t))
      taken (Order m) t = order_done m (order_taken b m (unfold taking in t))
      taken (Read site cut) t = read_done site cut (read_taken b site cut (unfold taking in t))
      taken (Crash site) t = crash_done site (crash_taken b site (unfold taking in t))
