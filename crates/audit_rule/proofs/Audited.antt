-- The audit's answer: where it is `agreed`, the merged records are one order of the records; where it names a line and a posting, the two conflict
-- and their finding is a fault. Rests on Pairs and Findings. Assumes nothing.
use Prim.Native.Nat.{ℕ, zero, suc, ◌+◌, ◌<◌}
use mathlib.Core.Path.{◌≡◌, refl, ◌∙◌}
use mathlib.Core.Logic.{◌⊎◌, inl, inr, ◌≢◌}
use mathlib.Core.Bool.{Bool, true, false, not, beq}
use mathlib.Core.List.{List, [], ◌∷◌}
use native.Mathlib.Omega.{arith}
use lib.Dec.{ltb}
use lib.ListN.{length, get_or}
use Rattle.broadcast.specs.Lists.{In, OneOrder}
use Rattle.broadcast.proofs.Tests.{nope, same_or, and_l, and_r, not-false}
use Rattle.broadcast.proofs.Lists.{once_before, in_get_d, ahead_asym}
use Rattle.broadcast.specs.Deliveries.{Ahead}
use Rattle.audit_rule.specs.Audit.{Agree, Fault, joined, merged, NoRepeats, ahead_of, lowest, sound, finding, Says, differs, Outcome, agreed, departs, audit_lines, audit_sites, audit}
use Rattle.audit_rule.proofs.Order.{before_ahead, ahead_before, in_joined, joined_in, joined_ahead, ahead_in}
use Rattle.audit_rule.proofs.Pairs.{leads, direction, Respected, merged_orders, no_fault}
use Rattle.audit_rule.proofs.Findings.{ahead_of_lem, of_ahead, lowest_cases, finding_says}

pub ahead_self : (x : ℕ) (l : List ℕ) → Ahead x x l → ⊥
ahead_self x l h = ahead_asym x x l h h

pub beq_same : (a b : Bool) → not (beq a b) ≡ false → b ≡ true → a ≡ true
beq_same true b e t = refl
beq_same false true e t = absurd (nope refl e)
beq_same false false e t = t

pub beq_other : (a b : Bool) → not (beq a b) ≡ true → ((a ≡ true) × (b ≡ false)) ⊎ ((a ≡ false) × (b ≡ true))
beq_other true true e = absurd (nope e refl)
beq_other true false e = inl (refl, refl)
beq_other false true e = inr (refl, refl)
beq_other false false e = absurd (nope e refl)

module _ (conflict : ℕ → ℕ → Bool) (symmetric : (x y : ℕ) → conflict x y ≡ conflict y x) (n : ℕ) (records : ℕ → List ℕ) (single : NoRepeats n records) where
  -- no line of the first k sites departs
  abbrev pub CleanSites : ℕ → Type 0
  CleanSites k = (p y x : ℕ) → p < k → In y (records p) → differs n records conflict p y x ≡ false

  -- nor a line of site p above line i
  abbrev pub CleanAbove : ℕ → ℕ → Type 0
  CleanAbove p i = (j x : ℕ) → j < i → differs n records conflict p (get_or (records p) j 0) x ≡ false

  -- no line departs
  abbrev pub Clean : Type 0
  Clean = CleanSites n

  clean_respected : Clean → Respected conflict symmetric n records single
  unfolding differs merged
  clean_respected clean x y c b p l my =
      let same : not (beq (ahead_of x y (records p)) (ahead_of x y (joined records n))) ≡ false = rw c at (clean p y x l my) in
      ahead_before x y (records p) my (ahead_of_lem x y (records p)
      (beq_same (ahead_of x y (records p)) (ahead_of x y (joined records n)) same (of_ahead x y (joined records n) (once_before x y (joined records n) b))))

  pub clean_orders : Clean → OneOrder conflict n records (merged records n)
  clean_orders clean = merged_orders conflict symmetric n records single (clean_respected clean)

  -- a line that departs: the two conflict, and their pair has a fault
  not_sound : (p y x : ℕ) → p < n → In y (records p) → x ≢ y
      → ((ahead_of x y (records p) ≡ true) × (ahead_of x y (joined records n) ≡ false)) ⊎ ((ahead_of x y (records p) ≡ false) × (ahead_of x y (joined records n) ≡ true))
      → (Fault n records x y → ⊥) → (Fault n records y x → ⊥) → ⊥
  not_sound p y x l my d (inl (here, not_there)) fine back =
      let b = ahead_before x y (records p) my (ahead_of_lem x y (records p) here) in
      nope (of_ahead x y (joined records n) (joined_ahead records n x y single (leads conflict symmetric n records single x y p fine l b) (in_joined records n p y l my))) not_there
  not_sound p y x l my d (inr (not-here, there)) fine back =
      let a = ahead_of_lem x y (joined records n) there in
      let (s, ls, mx) = joined_in records n x (ahead_in x y (joined records n) a) in
      elim (direction conflict symmetric n records single x y s p fine back d ls l mx my) [
        | inl h ↦ nope (of_ahead x y (records p) (before_ahead x y (records p) (single p l) (h p l my))) not-here
        | inr h ↦ ahead_asym x y (joined records n) a (joined_ahead records n y x single h (in_joined records n s x ls mx))
      ]

  differ_apart : (x y : ℕ) (l r : List ℕ) → ((ahead_of x y l ≡ true) × (ahead_of x y r ≡ false)) ⊎ ((ahead_of x y l ≡ false) × (ahead_of x y r ≡ true)) → x ≢ y
  differ_apart x y l r (inl (t, f)) e = ahead_self y l (rw e at (ahead_of_lem x y l t))
  differ_apart x y l r (inr (f, t)) e = ahead_self y r (rw e at (ahead_of_lem x y r t))

  pub differs_fault : (p y x : ℕ) → p < n → In y (records p) → differs n records conflict p y x ≡ true
      → (conflict x y ≡ true) × (x ≢ y) × ((Fault n records x y → ⊥) → (Fault n records y x → ⊥) → ⊥)
  unfolding differs
  differs_fault p y x l my t =
      let other = not (beq (ahead_of x y (records p)) (ahead_of x y (joined records n))) in
      let c = and_l (conflict x y) other t in
      let o = beq_other (ahead_of x y (records p)) (ahead_of x y (joined records n)) (and_r (conflict x y) other t) in
      let d = differ_apart x y (records p) (joined records n) o in
      (c, d, not_sound p y x l my d o)

  -- ---- the whole audit

  module _ (bound : ℕ) (known : (p x : ℕ) → p < n → In x (records p) → x < bound) where
    -- what differs is in some record
    pub differs_known : (p y x : ℕ) → p < n → In y (records p) → differs n records conflict p y x ≡ true → x < bound
    unfolding differs
    differs_known p y x l my t =
        let other = not (beq (ahead_of x y (records p)) (ahead_of x y (joined records n))) in
        elim (beq_other (ahead_of x y (records p)) (ahead_of x y (joined records n)) (and_r (conflict x y) other t)) [
          | inl (h, f) ↦ known p x l (ahead_in x y (records p) (ahead_of_lem x y (records p) h))
          | inr (f, h) ↦
              let (s, ls, mx) = joined_in records n x (ahead_in x y (joined records n) (ahead_of_lem x y (joined records n) h)) in
              known s x ls mx
        ]

    -- a line's search: nothing differs, or the lowest that does
    line_clean : (p y : ℕ) → p < n → In y (records p) → ltb (lowest (differs n records conflict p y) bound) bound ≡ false → (x : ℕ) → differs n records conflict p y x ≡ false
    line_clean p y l my f x = elim (lowest_cases (differs n records conflict p y) bound) [
      | inl (t, lt, hx) ↦ absurd (nope t f)
      | inr (g, none) ↦ not-false (differs n records conflict p y x) (λ t. none x (differs_known p y x l my t) t)
    ]

    -- What the answer says.
    abbrev pub Answers : Outcome → Type 0
    Answers agreed = Clean
    Answers (departs p i x) = (p < n) × (i < length (records p)) × (differs n records conflict p (get_or (records p) i 0) x ≡ true)

    -- What it says of the lines before the one named: none of them departs.
    abbrev pub AnswersBefore : Outcome → Type 0
    AnswersBefore agreed = Unit {0}
    AnswersBefore (departs p i x) = CleanSites p × CleanAbove p i

    abbrev Both : Outcome → Type 0
    Both o = Answers o × AnswersBefore o

    -- lines of a record from line i on, then the rest
    lines_answer : (p i : ℕ) (l : List ℕ) (next : Outcome) → p < n → CleanSites p → CleanAbove p i
        → ((j : ℕ) → j < length l → (i + j < length (records p)) × (get_or (records p) (i + j) 0 ≡ get_or l j 0))
        → (((y x : ℕ) → In y l → differs n records conflict p y x ≡ false) → Both next)
        → Both (audit_lines conflict bound n records p i l next)
    unfolding audit_lines
    lines_answer p i [] next l sites above at rest = rest (λ y x m. absurd m)
    lines_answer p i (y ∷ k) next l sites above at rest =
        let q = differs n records conflict p y in
        let z : i + 0 ≡ i = omega arith in
        let li : i < length (records p) = rw z at (at 0 (omega arith)).0 in
        let ei : get_or (records p) i 0 ≡ y = rw z at (at 0 (omega arith)).1 in
        let my : In y (records p) = rw ei at (in_get_d (records p) i li) in
        elim (lowest_cases q bound) [
          | inl (t, lx, hx) ↦ rw t ((l, li, rw ei hx), (sites, above))
          | inr (f, none) ↦ rw f (lines_answer p (suc i) k next l sites
              (λ j x h. elim (same_or j i) [
                | inl e ↦ rw (e, ei) (line_clean p y l my f x)
                | inr d ↦ above j x (omega (arith, h, d))
              ])
              (λ j h. let e : suc i + j ≡ i + suc j = omega arith in rw e (at (suc j) (omega (arith, h))))
              (λ clean. rest (λ w x m. elim m [
                | inl e ↦ rw e (line_clean p y l my f x)
                | inr m ↦ clean w x m
              ])))
        ]

    sites_answer : (p left : ℕ) → p + left ≡ n → CleanSites p → Both (audit_sites conflict bound n records p left)
    unfolding audit_sites
    sites_answer p zero e clean = (λ r y x l my. clean r y x (omega (arith, e, l)) my, tt)
    sites_answer p (suc left) e clean =
        lines_answer p 0 (records p) (audit_sites conflict bound n records (suc p) left) (omega (arith, e)) clean (λ j x h. absurd (omega (arith, h)))
        (λ j h. let z : 0 + j ≡ j = omega arith in rw z (h, refl))
        (λ fine. sites_answer (suc p) left (omega (arith, e)) (λ r y x l my. elim (same_or r p) [
          | inl d ↦ rw d (fine y x (rw d at my))
          | inr d ↦ clean r y x (omega (arith, l, d)) my
        ]))

    -- The audit's answer.
    pub audit_answers : Answers (audit conflict bound n records)
    unfolding audit
    audit_answers = (sites_answer 0 n (omega arith) (λ r y x l. absurd (omega (arith, l)))).0

    pub audit_answers_before : AnswersBefore (audit conflict bound n records)
    unfolding audit
    audit_answers_before = (sites_answer 0 n (omega arith) (λ r y x l. absurd (omega (arith, l)))).1

    -- `agreed`: the merged records are one order of the records
    pub audit_agreed : audit conflict bound n records ≡ agreed → OneOrder conflict n records (merged records n)
    audit_agreed e = clean_orders (rw e at audit_answers)

    -- a line and a posting: the two conflict, their finding is a fault, and so there is no order
    pub audit_departs : (p i x : ℕ) → audit conflict bound n records ≡ departs p i x
        → let y = get_or (records p) i 0 in (conflict x y ≡ true) × (Says n records (finding n records x y) x y) × (finding n records x y ≡ sound → ⊥) × (Agree conflict n records → ⊥)
    audit_departs p i x e =
        let y = get_or (records p) i 0 in
        let (l, li, t) : Answers (departs p i x) = rw e at audit_answers in
        let (c, d, f) = differs_fault p y x l (in_get_d (records p) i li) t in
        let says = finding_says n records single x y d in (
          c,
          says,
          λ s. let (u, v) : Says n records sound x y = rw s at says in f u v,
          λ a. f (no_fault conflict symmetric n records a.0 a.1 x y c) (no_fault conflict symmetric n records a.0 a.1 y x (symmetric y x ∙ c)),
        )

    -- records that agree are never accused
    pub agree_audit : Agree conflict n records → audit conflict bound n records ≡ agreed
    agree_audit a = go (audit conflict bound n records) refl
      where
        go : (o : Outcome) → audit conflict bound n records ≡ o → audit conflict bound n records ≡ agreed
        go agreed e = e
        go (departs p i x) e = absurd ((audit_departs p i x e).3 a)
