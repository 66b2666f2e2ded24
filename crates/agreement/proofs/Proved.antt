-- The books agree: the proof of Agreement's statement, for a list of calls from any fresh board, and from any accepted start.
-- Rests on Simulated and on the theory's theorems. Assumes nothing.
use Prim.Native.Nat.{ℕ, ◌*◌, ◌<◌, ◌≤◌}
use mathlib.Core.Path.{◌≡◌, refl, sym, ap, ◌∙◌, subst}
use mathlib.Core.Logic.{inl, inr}
use mathlib.Core.Bool.{Bool, true, false, not}
use mathlib.Core.List.{List, [], ◌∷◌, ◌++◌}
use native.Mathlib.Omega.{arith}
use native.Mathlib.Nat.{mul-le-mul_left}
use lib.ListN.{length, get_or}
use Rattle.sets.proofs.Truth.{test, never}
use Rattle.sets.specs.Sets.{capacity, has}
use Rattle.posting.specs.declared.Posting.{Posting}
use Rattle.posting.specs.declared.Table.{Table}
use Rattle.posting.proofs.KindLaws.{fields}
use Rattle.posting.specs.Conflicts.{no_posting, row, offered, conflict}
use Rattle.posting.proofs.ConflictLaws.{offered_below, below_offered}
use Rattle.posting.proofs.RecordLaws.{length_numbers}
use Rattle.books.specs.Books.{Books, blank, books, numbers}
use Rattle.site.specs.declared.Setup.{Setup}
use Rattle.site.specs.Sends.{FIRST, SECOND, THIRD, DELIVER}
use Rattle.machine.specs.declared.Board.{Board}
use Rattle.steps.specs.declared.Call.{Call}
use Rattle.machine.specs.Boards.{fresh_board, is_down}
use Rattle.machine.specs.Soundness.{setup_ok}
use Rattle.machine.specs.Calls.{starting}
use Rattle.machine.specs.Runs.{accepted, running, taking, NothingLeft, is_quiet}
use Rattle.machine.specs.History.{accepted_calls, offers, orders, brought_down, naming, actions}
use Rattle.machine.specs.Figures.{record_of, figures_of}
use Rattle.machine.proofs.Facts.{setup_sites}
use Rattle.invariants.proofs.History.{Done}
use Rattle.invariants.proofs.Quiet.{left_quiet, quiet_flight, quiet_pool, quiet_place}
use Rattle.invariants.proofs.Reached.{Good, run_good}
use Rattle.invariants.proofs.Start.{fresh_good, fresh_done, run_done, start_taken}
use Rattle.broadcast.specs.Lists.{In, share, OneOrder}
use Rattle.broadcast.specs.Counts.{count}
use Rattle.broadcast.specs.Machine.{World, State}
use Rattle.broadcast.specs.Runs.{Quiet}
use Rattle.broadcast.proofs.Safety.{safe}
use Rattle.broadcast.proofs.Records.{records}
use Rattle.broadcast.proofs.Counts.{count_most}
use Rattle.broadcast.proofs.OneOrder.{Ordered, order_at, one_order, order_kept, delivered_named}
use Rattle.broadcast.proofs.Progress.{Agreed, progress}
use Rattle.broadcast.proofs.Uniform.{uniform}
use Rattle.broadcast.proofs.Ceiling as theory
use Rattle.broadcast.proofs.Thrift.{thrift}
use Rattle.same_books.proofs.SameBooks.{Free, lawful_free, same_books, same_four, same_numbers}
use Rattle.agreement.specs.Agreement.{ceiling_of, BooksAgree, BooksAgreeAfter, Uniform}
use Rattle.agreement.specs.Accounts.{AccountsAgree}
use Rattle.agreement.proofs.World.{clash, Earlier, owner_in, setup_matrix}
use Rattle.agreement.proofs.Shows.{Shows}
use Rattle.agreement.proofs.Ground.{W}
use Rattle.agreement.proofs.Along.{run_earlier}
use Rattle.agreement.proofs.Simulated.{Simulated, simulated}
use Rattle.agreement.proofs.Posted.{books_zero}

clash_is : (matrix : ℕ) (t : Table) (x y : ℕ) → offered t x ≡ true → offered t y ≡ true → clash matrix t x y ≡ conflict matrix t x y
unfolding clash
clash_is matrix t x y ox oy = rw (ox, oy)

clash_none : (matrix : ℕ) (t : Table) → ((x y : ℕ) → offered t x ≡ true → offered t y ≡ true → conflict matrix t x y ≡ false)
    → (x y : ℕ) → clash matrix t x y ≡ false
unfolding clash
clash_none matrix t h x y = elim (test (offered t x)) [
  | inr e ↦ rw e
  | inl e ↦ elim (test (offered t y)) [
    | inr d ↦ rw (e, d)
    | inl d ↦ rw (e, d) (h x y e d)
  ]
]

times_most : {a x y : ℕ} (k : ℕ) → a ≤ k * x → x ≤ y → a ≤ k * y
times_most k h l = let m = mul-le-mul_left k l in omega arith

conflict_same : (b c : Board) → Earlier b c → (x y : ℕ) → offered b.table x ≡ true → offered b.table y ≡ true
    → conflict b.setup.matrix b.table x y ≡ conflict c.setup.matrix c.table x y
unfolding conflict
conflict_same b c e x y ox oy = rw (e.grows.same x ox, e.grows.same y oy, e.same_setup)

pub run_append : (b : Board) (l r : List Call) → running b (l ++ r) ≡ running (running b l) r
unfolding running
run_append b [] r = refl
run_append b (c ∷ l) r = run_append (taking b c).board l r

-- ---- from a fresh board

module _ (setup : Setup) (ok : setup_ok setup ≡ true) (calls : List Call) where
  abbrev start : Board
  start = fresh_board setup

  abbrev last : Board
  last = running start calls

  abbrev done : List Call
  done = accepted_calls start calls

  good : Good last
  good = run_good start calls (fresh_good setup ok)

  had : Done last done
  had = run_done start calls [] (fresh_good setup ok) (fresh_done setup ok)

  abbrev w : World
  w = W last good

  sim : Simulated last good last done
  sim = simulated last good setup ok calls refl

  abbrev s : State
  s = sim.state

  shown : Shows w last s
  shown = sim.seen.shows

  same : last.setup ≡ setup
  same = sym (run_earlier start calls).same_setup

  there : (p : ℕ) → p < setup.n → p < w.n
  there p lt = subst (λ (v : Setup). p < v.n) (sym same) lt

  matrix_is : (x y : ℕ) → conflict last.setup.matrix last.table x y ≡ conflict setup.matrix last.table x y
  matrix_is x y = ap (λ (v : Setup). conflict v.matrix last.table x y) same

  record_is : (p : ℕ) → p < w.n → s.sites.delivered p ≡ record_of last p
  record_is p lt = (shown.each_site p lt).delivered_is

  to_record : (p x : ℕ) → p < w.n → In x (s.sites.delivered p) → In x (record_of last p)
  to_record p x lt h = subst (λ (l : List ℕ). In x l) (record_is p lt) h

  of_record : (p x : ℕ) → p < w.n → In x (record_of last p) → In x (s.sites.delivered p)
  of_record p x lt h = subst (λ (l : List ℕ). In x l) (sym (record_is p lt)) h

  -- what stands in a record was offered
  named : (p x : ℕ) → p < w.n → In x (record_of last p) → offered last.table x ≡ true
  named p x lt h = sym (shown.offers x) ∙ delivered_named w s (safe w sim.reached) (records w sim.reached) p x (of_record p x lt h)

  -- ---- clauses 1 to 4

  abbrev order : List ℕ
  order = order_at w s

  ordered : Ordered w s (order_at w s)
  ordered = one_order w sim.reached

  one : OneOrder (conflict setup.matrix last.table) setup.n (record_of last) order
  one = subst (λ (v : Setup). OneOrder (conflict v.matrix last.table) v.n (record_of last) order) same
      (order_kept record_is (λ p q x y lp lq ix iy. clash_is last.setup.matrix last.table x y (named p x lp ix) (named q y lq iy)) ordered)

  free : Free last.table (conflict setup.matrix last.table) setup.n (record_of last)
  free = lawful_free last.table setup.matrix (setup_matrix setup ok).1 setup.n (record_of last)
      (λ p x lt h. fields (row last.table x) (good.sound.fields x (named p x (there p lt) h)))

  share_books : (opening : Books) (p : ℕ) → p < setup.n → numbers (books opening last.table (record_of last p)) ≡ numbers (books opening last.table (share (record_of last p) order))
  share_books opening p lt = ap numbers (same_books last.table one free opening p lt)

  same_members : (p q : ℕ) → p < setup.n → q < setup.n → ((x : ℕ) → In x (record_of last p) → In x (record_of last q))
      → ((x : ℕ) → In x (record_of last q) → In x (record_of last p)) → figures_of last p ≡ figures_of last q
  unfolding figures_of
  same_members = same_numbers last.table one free blank

  -- ---- clause 5

  two : 2 ≤ w.n
  two = let h = (setup_sites last.setup good.sound.setup).0 in omega arith

  most_is : theory.most w ≡ ceiling_of setup.n
  most_is = ap (λ (v : Setup). ceiling_of v.n) same

  spends : (m : ℕ) → naming m [] done ≤ ceiling_of setup.n
  spends m = rw (← sim.spends m, ← most_is) (theory.ceiling w two sim.reached m)

  offers_most : count s.offered capacity ≤ length (offers done)
  offers_most = count_most s.offered (length (offers done)) (λ x h. rw (← had.count) (offered_below last.table x (sym (shown.offers x) ∙ h)).0) capacity

  in_all : actions done ≤ ceiling_of setup.n * length (offers done)
  in_all =
      let h : actions done ≤ ceiling_of setup.n * count s.offered capacity = rw (← sim.acted, ← most_is) (theory.total w two sim.reached) in
      times_most (ceiling_of setup.n) h offers_most

  -- ---- clause 6

  up_is : (p : ℕ) → (lt : p < w.n) → brought_down p done ≡ false → s.sites.up p ≡ true
  up_is p lt h = shown.up p lt ∙ ap not (had.downs p lt ∙ h)

  quiet : NothingLeft last → Quiet w s
  quiet none =
      let q : is_quiet last ≡ true = left_quiet last good none in
      let up : (p : ℕ) → p < w.n → s.sites.up p ≡ true → is_down last p ≡ false = λ p lt u. not_down (is_down last p) (sym (shown.up p lt) ∙ u) in
      record {
        no_first = λ m r p lr lp u. shown.flight.firsts_is m r p lr lp ∙ quiet_flight last good q FIRST m r p lp (up p lp u);
        no_second = λ m r p lr lp u. shown.flight.seconds_is m r p lr lp ∙ quiet_flight last good q SECOND m r p lp (up p lp u);
        no_third = λ m r lr u. shown.flight.thirds_is m r lr ∙ quiet_flight last good q THIRD m r (w.owner m) (w.owned m) (up (w.owner m) (w.owned m) u);
        no_deliver = λ m r p lr lp u. shown.flight.delivers_is m r p lr lp ∙ quiet_flight last good q DELIVER m r p lp (up p lp u);
        no_pool = λ m. shown.oracle.pool_is m ∙ quiet_pool last good q m;
        all_read = λ p lp u. rw ((shown.each_site p lp).place_is, shown.oracle.log_is, length_numbers last.log good.shape.log good.sound.log.within)
            (quiet_place last good q p lp (up p lp u));
      }
    where
      not_down : (d : Bool) → not d ≡ true → d ≡ false
      not_down true e = sym e
      not_down false e = refl

  agreed : NothingLeft last → Agreed w s
  agreed none = progress w sim.reached (quiet none)

  offered_now : (m : ℕ) → m < length (offers done) → offered last.table m ≡ true
  offered_now m lt = let h : m < last.table.count = rw had.count lt in below_offered last.table m h (omega (arith, h, good.sound.count))

  owner_is : (m : ℕ) → m < length (offers done) → w.owner m ≡ (get_or (offers done) m no_posting).owner
  unfolding owner_in
  owner_is m lt = rw (offered_now m lt) (ap (λ (r : Posting). r.owner) (had.rows m (rw had.count lt)))

  own : NothingLeft last → (p m : ℕ) → p < setup.n → brought_down p done ≡ false → m < length (offers done)
      → brought_down (get_or (offers done) m no_posting).owner done ≡ false → In m (record_of last p)
  own none p m lt up lm o = to_record p m (there p lt) ((agreed none).own p m (there p lt) (up_is p (there p lt) up) (shown.offers m ∙ offered_now m lm)
      (up_is (w.owner m) (w.owned m) (ap (λ (q : ℕ). brought_down q done) (owner_is m lm) ∙ o)))

  alike : NothingLeft last → (p q x : ℕ) → p < setup.n → q < setup.n → brought_down p done ≡ false → brought_down q done ≡ false → In x (record_of last p) → In x (record_of last q)
  alike none p q x lp lq up uq h = to_record q x (there q lq)
      ((agreed none).same p q x (there p lp) (there q lq) (up_is p (there p lp) up) (up_is q (there q lq) uq) (of_record p x (there p lp) h))

  pub uniform_agreement : Uniform setup.n done last
  uniform_agreement none p q x lp lq up h = to_record q x (there q lq) (uniform w sim.reached (quiet none) p q x (of_record p x (there p lp) h) (there q lq) (up_is q (there q lq) up))

  -- ---- clause 7

  abbrev Alone : Type 0
  Alone = (x y : ℕ) → offered last.table x ≡ true → offered last.table y ≡ true → conflict last.setup.matrix last.table x y ≡ false

  unused : Alone → ((m : ℕ) → has last.pool m ≡ false) × (orders done ≡ [])
  unused alone =
      let (pool, log) = thrift w sim.reached (λ x y ox oy. clash_none last.setup.matrix last.table alone x y) in
      (λ m. sym (shown.oracle.pool_is m) ∙ pool m, sym had.log ∙ sym shown.oracle.log_is ∙ log)

-- on every board of the run
module _ (setup : Setup) (ok : setup_ok setup ≡ true) (calls : List Call) where
  never_pooled : Alone setup ok calls → (before after : List Call) → calls ≡ before ++ after → (m : ℕ) → has (running (fresh_board setup) before).pool m ≡ false
  never_pooled alone before after e m = (unused setup ok before early).0 m
    where
      start : Board
      start = fresh_board setup

      earlier : Earlier (running (fresh_board setup) before) (running (fresh_board setup) calls)
      earlier = subst (λ (v : Board). Earlier (running (fresh_board setup) before) v)
          (sym (run_append (fresh_board setup) before after) ∙ ap (λ (l : List Call). running (fresh_board setup) l) (sym e))
          (run_earlier (running (fresh_board setup) before) after)

      early : Alone setup ok before
      early x y ox oy = conflict_same (running (fresh_board setup) before) (running (fresh_board setup) calls) earlier x y ox oy ∙ alone x y (earlier.grows.more x ox) (earlier.grows.more y oy)

  -- no more postings than there is room for
  pub offers_few : length (offers (accepted_calls (fresh_board setup) calls)) ≤ capacity
  offers_few = rw (← (had setup ok calls).count) (good setup ok calls).sound.count

  -- The books agree after every list of calls from a fresh board.
  pub agree_fresh : BooksAgreeAfter setup.n setup.matrix (fresh_board setup) calls
  agree_fresh = record {
    rows = λ m lt. (had setup ok calls).rows m (rw (had setup ok calls).count lt);
    only_offered = λ p x lt h. counted x (named setup ok calls p x (there setup ok calls p lt) h);
    order = order setup ok calls;
    one_order = one setup ok calls;
    same_books = λ p lt. unfold figures_of in share_books setup ok calls blank p lt;
    same_numbers = same_members setup ok calls;
    comes_to_zero = λ p lt. books_zero (running (fresh_board setup) calls) (good setup ok calls) p (there setup ok calls p lt);
    ceiling = λ m lt. spends setup ok calls m;
    total = in_all setup ok calls;
    same_postings = alike setup ok calls;
    all_are_offered = own setup ok calls;
    same_figures = λ none p q lp lq up uq.
        same_members setup ok calls p q lp lq (λ x. alike setup ok calls none p q x lp lq up uq) (λ x. alike setup ok calls none q p x lq lp uq up);
    never_used = λ none.
        let alone : Alone setup ok calls = λ x y ox oy. matrix_is setup ok calls x y ∙ none x y (counted x ox) (counted y oy) in
        ((unused setup ok calls alone).1, never_pooled alone);
  }
    where
      counted : (x : ℕ) → offered (running (fresh_board setup) calls).table x ≡ true → x < length (offers (accepted_calls (fresh_board setup) calls))
      counted x o = rw (← (had setup ok calls).count) (offered_below (running (fresh_board setup) calls).table x o).0

  -- The same from any opening figures, with the same order.
  pub books_from : (opening : Books) (p : ℕ) → p < setup.n
      → numbers (books opening (running (fresh_board setup) calls).table (record_of (running (fresh_board setup) calls) p))
      ≡ numbers (books opening (running (fresh_board setup) calls).table (share (record_of (running (fresh_board setup) calls) p) agree_fresh.order))
  unfolding agree_fresh
  books_from = share_books setup ok calls

  -- One account at a time.
  pub accounts_fresh : AccountsAgree setup.n (running (fresh_board setup) calls)
  unfolding figures_of
  accounts_fresh k p q lk lp lq held i li =
      same_four (running (fresh_board setup) calls).table (one setup ok calls) (free setup ok calls) blank k p q i lk (omega (arith, li)) lp lq held

-- ---- from an accepted start: demand 3, and W12

module _ (n f matrix : ℕ) (ok : accepted (starting n f matrix).answer ≡ true) (calls : List Call) where
  pub books_agree : BooksAgreeAfter n matrix (starting n f matrix).board calls
  books_agree =
      let (e, good) = start_taken n f matrix ok in
      subst (λ (b : Board). BooksAgreeAfter n matrix b calls) (sym e) (agree_fresh (record { n = n; f = f; matrix = matrix }) good calls)

  pub uniform_books : Uniform n (accepted_calls (starting n f matrix).board calls) (running (starting n f matrix).board calls)
  uniform_books =
      let (e, good) = start_taken n f matrix ok in
      subst (λ (b : Board). Uniform n (accepted_calls b calls) (running b calls)) (sym e) (uniform_agreement (record { n = n; f = f; matrix = matrix }) good calls)

  pub accounts_agree : AccountsAgree n (running (starting n f matrix).board calls)
  accounts_agree =
      let (e, good) = start_taken n f matrix ok in
      subst (λ (b : Board). AccountsAgree n (running b calls)) (sym e) (accounts_fresh (record { n = n; f = f; matrix = matrix }) good calls)
