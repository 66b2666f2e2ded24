-- The statement of every accepted run file says that all sites that are up show the same figures.
-- Rests on agreement for the board that a run and a drain leave, on statements for what a statement shows of figures. Assumes nothing.
use Prim.Native.Nat.{ℕ, zero, suc, ◌+◌, ◌*◌, ◌<◌, ◌≤◌}
use mathlib.Core.Path.{◌≡◌, refl, sym, ap, ◌∙◌, subst}
use mathlib.Core.Logic.{inl, inr}
use mathlib.Core.Bool.{true, false}
use mathlib.Core.List.{List, ◌++◌}
use native.Mathlib.Omega.{arith}
use native.Mathlib.Decide.{ℕ_discrete}
use lib.IntN.{ℤ, pos, negsuc}
use lib.ListN.{length, get_or, get_or-append}
use lib.Seq.{get_or-append-add}
use borrow.Author.Tests.{eq-eqb}
use Rattle.sets.proofs.Truth.{test, never}
use Rattle.sets.specs.Masks.{has_bit}
use Rattle.sets.proofs.BelowLaws.{all_from}
use Rattle.posting.specs.Kinds.{accounts}
use Rattle.books.specs.declared.Figures.{Figures}
use Rattle.site.specs.declared.Setup.{Setup}
use Rattle.steps.specs.declared.Call.{Call}
use Rattle.machine.specs.declared.Answer.{Answer}
use Rattle.machine.specs.declared.Answer.TheVariants.{Done, Offered, Refused}
use Rattle.machine.specs.declared.Board.{Board}
use Rattle.machine.specs.Boards.{is_down}
use Rattle.machine.specs.Calls.{refusal_of, starting}
use Rattle.machine.specs.Runs.{accepted, running, is_quiet}
use Rattle.machine.specs.Figures.{figures_of, figures_of_all}
use Rattle.machine.specs.History.{accepted_calls, brought_down}
use Rattle.drain.specs.declared.Ending.{Ending}
use Rattle.drain.specs.Drain.{ending_of, drained, drain_limit}
use Rattle.whole_board.proofs.Showing.{length_all}
use Rattle.invariants.proofs.History as history
use Rattle.invariants.proofs.Quiet.{quiet_left}
use Rattle.invariants.proofs.Reached.{Good}
use Rattle.invariants.proofs.Start.{start_taken, reached_good, reached_done}
use Rattle.agreement.specs.Agreement.{BooksAgree}
use Rattle.agreement.specs.Drains.{events_of, DrainSays}
use Rattle.agreement.proofs.Along.{run_earlier}
use Rattle.agreement.proofs.Proved.{run_append, books_agree}
use Rattle.agreement.proofs.Drained.{drain_says_reached}
use Rattle.decoder.specs.RunFile.{setup_of, well_formed, calls_of}
use Rattle.amounts.specs.Amounts.{same_number}
use Rattle.statements.specs.Table.{same_words, figure_at, account_at, site_parts, same_account, same_site, agree, agree_with, all_agree, statement_text}
use Rattle.statements.specs.Statement.{statement_of, stated_run, stated_from, stated}

-- ---- figures that are the same

number_self : (x : ℤ) → same_number x x ≡ true
unfolding same_number
number_self (pos m) = eq-eqb m m refl
number_self (negsuc m) = eq-eqb m m refl

account_self : (a : Figures) → same_account a a ≡ true
unfolding same_account
account_self a = rw (number_self a.position, number_self a.rate, number_self a.called, number_self a.settled)

-- the 64 numbers of site p stand from 64p on
figures_at : (b : Board) (n p j : ℕ) → p < n → j < 64 → get_or (figures_of_all b n) (64 * p + j) (pos 0) ≡ get_or (figures_of b p) j (pos 0)
unfolding figures_of_all
figures_at b zero p j h l = absurd (omega arith)
figures_at b (suc n) p j h l = elim (ℕ_discrete p n) [
  | yes e ↦
      let at : 64 * p + j ≡ length (figures_of_all b n) + j = omega (arith, length_all b n) in
      rw at (get_or-append-add (figures_of_all b n) (figures_of b n) j (pos 0) ∙ ap (λ (q : ℕ). get_or (figures_of b q) j (pos 0)) (sym e))
  | no ne ↦
      let below : 64 * p + j < length (figures_of_all b n) = omega (arith, length_all b n) in
      get_or-append (figures_of_all b n) (figures_of b n) (pos 0) (64 * p + j) below ∙ figures_at b n p j (omega arith) l
]

module _ (b : Board) (n : ℕ) where
  figure_is : (p k i : ℕ) → p < n → k < accounts → i < 4 → figure_at (figures_of_all b n) p k i ≡ get_or (figures_of b p) (4 * k + i) (pos 0)
  figure_is p k i lp lk li =
      let at : 64 * p + 4 * k + i ≡ 64 * p + (4 * k + i) = omega arith in
      rw at (figures_at b n p (4 * k + i) lp (omega arith))

  -- sites whose figures are the same show the same
  account_same : (p q k : ℕ) → p < n → q < n → k < accounts → figures_of b p ≡ figures_of b q → account_at (figures_of_all b n) p k ≡ account_at (figures_of_all b n) q k
  unfolding account_at
  account_same p q k lp lq lk e = rw (same 0 (omega arith), same 1 (omega arith), same 2 (omega arith), same 3 (omega arith))
    where
      same : (i : ℕ) → i < 4 → figure_at (figures_of_all b n) p k i ≡ figure_at (figures_of_all b n) q k i
      same i li = figure_is p k i lp lk li ∙ ap (λ (l : List ℤ). get_or l (4 * k + i) (pos 0)) e ∙ sym (figure_is q k i lq lk li)

  site_same : (p q : ℕ) → p < n → q < n → figures_of b p ≡ figures_of b q → same_site (figures_of_all b n) p q ≡ true
  unfolding same_site
  site_same p q lp lq e = all_from _ accounts (λ k lk.
      ap (λ (a : Figures). same_account (account_at (figures_of_all b n) p k) a) (sym (account_same p q k lp lq lk e)) ∙ account_self (account_at (figures_of_all b n) p k))

  -- if those that are up have the same figures, all agree
  all_agree_lem : (down : ℕ) → ((p q : ℕ) → p < n → q < n → has_bit down p ≡ false → has_bit down q ≡ false → figures_of b p ≡ figures_of b q)
      → all_agree (figures_of_all b n) n down ≡ true
  unfolding all_agree agree_with agree
  all_agree_lem down h = all_from _ n (λ p lp. all_from _ n (λ q lq. pair p q lp lq))
    where
      pair : (p q : ℕ) → p < n → q < n → agree (figures_of_all b n) down p q ≡ true
      pair p q lp lq = elim (test (has_bit down p)) [
        | inl t ↦ rw t
        | inr up ↦ elim (test (has_bit down q)) [
          | inl t ↦ rw (up, t)
          | inr uq ↦ rw (up, uq) (site_same p q lp lq (h p q lp lq up uq))
        ]
      ]

-- ---- the board that a run and a drain leave

accepted_zero : (a : Answer) → accepted a ≡ true → refusal_of a ≡ 0
accepted_zero Done h = refl
accepted_zero (Offered m) h = refl
accepted_zero (Refused k) h = absurd (never h refl)

-- a drain whose limit is enough leaves a quiet board
ended_quiet : (b : Board) (limit : ℕ) → DrainSays b limit → drain_limit ≤ limit → is_quiet (drained b limit).board ≡ true
ended_quiet b limit says h = elim says.ends [
  | inl q ↦ q.1
  | inr s ↦ absurd (omega (arith, ap (λ (x : Ending). get_or (ending_of x).1 0 0) (sym (says.enough h) ∙ s.0)))
]

module _ (n f matrix : ℕ) (ok : accepted (starting n f matrix).answer ≡ true) (calls : List Call) where
  abbrev start : Board
  start = (starting n f matrix).board

  abbrev reached : Board
  reached = running start calls

  abbrev last : Board
  last = (drained reached drain_limit).board

  says : DrainSays reached drain_limit
  says = drain_says_reached n f matrix ok calls drain_limit

  -- the calls, and the events of the drain
  abbrev all : List Call
  all = calls ++ events_of drain_limit reached

  last_is : last ≡ running start all
  last_is = says.runs ∙ sym (run_append start calls (events_of drain_limit reached))

  -- what is known of a board that a list reaches
  of_last : (P : Board → Type 0) → P (running start all) → P last
  of_last P h = subst P (sym last_is) h

  pub last_good : Good last
  last_good = of_last Good (reached_good n f matrix ok all)

  sites_same : last.setup.n ≡ n
  sites_same = of_last (λ (b : Board). b.setup.n ≡ n)
      (ap (λ (s : Setup). s.n) (sym (run_earlier start all).same_setup) ∙ ap (λ (b : Board). b.setup.n) (start_taken n f matrix ok).0)

  up : (p : ℕ) → p < n → is_down last p ≡ false → brought_down p (accepted_calls start all) ≡ false
  up p lt h = sym ((of_last (λ (b : Board). history.Done b (accepted_calls start all)) (reached_done n f matrix ok all)).downs p (rw sites_same lt)) ∙ h

  -- sites that are up have the same figures
  same : (p q : ℕ) → p < n → q < n → is_down last p ≡ false → is_down last q ≡ false → figures_of last p ≡ figures_of last q
  same p q lp lq dp dq =
      (of_last (λ (b : Board). BooksAgree n matrix start all (accepted_calls start all) b) (books_agree n f matrix ok all)
      ).same_figures (quiet_left last last_good (ended_quiet reached drain_limit says (omega arith))) p q lp lq (up p lp dp) (up q lq dq)

  run_same : stated_run start calls ≡ site_parts (figures_of_all last n) last.down n ++ same_words
  unfolding stated_run statement_of statement_text
  run_same = rw (sites_same, all_agree_lem last n last.down same)

-- ---- the statement

-- After the figures of every site stand the words that all sites that are up show the same.
pub stated_same : (input : List ℕ) → well_formed input ≡ true
    → accepted (starting (setup_of input).n (setup_of input).f (setup_of input).matrix).answer ≡ true
    → let n = (setup_of input).n in
    let b = (drained (running (starting n (setup_of input).f (setup_of input).matrix).board (calls_of input)) drain_limit).board in
    stated input ≡ site_parts (figures_of_all b n) b.down n ++ same_words
unfolding stated stated_from
stated_same input well ok =
    let o = starting (setup_of input).n (setup_of input).f (setup_of input).matrix in
    rw (well, accepted_zero o.answer ok) (run_same (setup_of input).n (setup_of input).f (setup_of input).matrix ok (calls_of input))
