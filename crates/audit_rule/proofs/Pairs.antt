-- The records agree exactly if no pair is bad: the pair rule, both ways.
-- Rests on Order and broadcast's exchange lemma. Assumes nothing.
use Prim.Native.Nat.{ℕ, zero, suc, ◌<◌}
use mathlib.Core.Path.{◌≡◌, ◌∙◌}
use mathlib.Core.Logic.{◌⊎◌, inl, inr, ◌≢◌}
use mathlib.Core.Bool.{Bool, true}
use mathlib.Core.List.{List}
use native.Mathlib.Omega.{arith}
use Rattle.broadcast.specs.Lists.{In, NoRepeat, Before, mem, keep, share, OneOrder}
use Rattle.broadcast.proofs.Tests.{same_or}
use Rattle.broadcast.proofs.Lists.{mem_in, in_mem, before_left, before_right, before_asym, keep_in, in_keep, keep_norepeat, keep_before, once_in, in_once, once_norepeat, once_before, ahead_asym}
use Rattle.broadcast.proofs.Exchange.{exchanges}
use Rattle.audit_rule.specs.Audit.{Agree, Fault, crossed, missing, apart, Bad, joined, merged, NoRepeats}
use Rattle.audit_rule.proofs.Order.{in_or, exchanged_before, either_before, in_joined, joined_in, joined_ahead}

module _ (conflict : ℕ → ℕ → Bool) (symmetric : (x y : ℕ) → conflict x y ≡ conflict y x) (n : ℕ) (records : ℕ → List ℕ) where
  -- ---- where an order is, no pair is bad

  module _ (order : List ℕ) (a : OneOrder conflict n records order) where
    -- what a record says of two that conflict, the order says
    pub order_before : (p x y : ℕ) → p < n → conflict x y ≡ true → Before x y (records p) → Before x y order
    unfolding share
    order_before p x y l c b = keep_before (λ z. mem z (records p)) x y order (exchanged_before (a.becomes_share p l) x y c b)

    pub no_fault : (x y : ℕ) → conflict x y ≡ true → Fault n records x y → ⊥
    no_fault x y c (crossed p q lp lq h k) =
        before_asym x y order a.once (order_before p x y lp c h) (order_before q y x lq (symmetric y x ∙ c) k)
    no_fault x y c (missing p q lp lq m lacks h) = lacks (a.has_ahead p x y lp m c (order_before q x y lq c h))
    no_fault x y c (apart p q lp lq mx my none) = elim (same_or x y) [
      | inl e ↦ none p lp mx (rw (← e) mx)
      | inr d ↦ elim (either_before x y order d (a.complete p x lp mx) (a.complete q y lq my)) [
        | inl b ↦ none q lq (a.has_ahead q x y lq my c b) my
        | inr b ↦ none p lp mx (a.has_ahead p y x lp mx (symmetric y x ∙ c) b)
      ]
    ]

  -- ---- where no pair is bad, the merged records are an order

  -- x stands ahead of y in every record that has y
  abbrev pub Leads : ℕ → ℕ → Type 0
  Leads x y = (p : ℕ) → p < n → In y (records p) → Before x y (records p)

  module _ (single : NoRepeats n records) where
    pub leads : (x y q : ℕ) → (Fault n records x y → ⊥) → q < n → Before x y (records q) → Leads x y
    leads x y q fine lq b p lp my = elim (in_or x (records p)) [
      | inr lacks ↦ absurd (fine (missing p q lp lq my lacks b))
      | inl mx ↦ elim (same_or x y) [
        | inl e ↦ absurd (before_asym x y (records q) (single q lq) b (rw e (rw e at b)))
        | inr d ↦ elim (either_before x y (records p) d mx my) [
          | inl h ↦ h
          | inr h ↦ absurd (fine (crossed q p lq lp b h))
        ]
      ]
    ]

    -- some site has both, or none has
    pub together : (x y k : ℕ) → ((s : ℕ) × (s < k) × In x (records s) × In y (records s)) ⊎ ((s : ℕ) → s < k → In x (records s) → In y (records s) → ⊥)
    together x y zero = inr (λ s l h k. absurd (omega (arith, l)))
    together x y (suc k) = elim (together x y k) [
      | inl (s, l, h, i) ↦ inl (s, omega (arith, l), h, i)
      | inr none ↦ elim (in_or x (records k)) [
        | inr lacks ↦ inr (λ s l h i. elim (same_or s k) [ inl e ↦ lacks (rw e at h) | inr d ↦ none s (omega (arith, l, d)) h i ])
        | inl mx ↦ elim (in_or y (records k)) [
          | inr lacks ↦ inr (λ s l h i. elim (same_or s k) [ inl e ↦ lacks (rw e at i) | inr d ↦ none s (omega (arith, l, d)) h i ])
          | inl my ↦ inl (k, omega arith, mx, my)
        ]
      ]
    ]

    -- two with no fault, both delivered, have one direction
    pub direction : (x y p q : ℕ) → (Fault n records x y → ⊥) → (Fault n records y x → ⊥) → x ≢ y → p < n → q < n → In x (records p) → In y (records q)
        → Leads x y ⊎ Leads y x
    direction x y p q fine back d lp lq mx my = elim (together x y n) [
      | inr none ↦ absurd (fine (apart p q lp lq mx my none))
      | inl (s, l, hx, hy) ↦ elim (either_before x y (records s) d hx hy) [
        | inl b ↦ inl (leads x y s fine l b)
        | inr b ↦ inr (leads y x s back l b)
      ]
    ]

    merged_in : (x : ℕ) → In x (merged records n) → (p : ℕ) × (p < n) × In x (records p)
    unfolding merged
    merged_in x m = joined_in records n x (once_in x (joined records n) m)

    in_merged : (p x : ℕ) → p < n → In x (records p) → In x (merged records n)
    unfolding merged
    in_merged p x l m = in_once x (joined records n) (in_joined records n p x l m)

    merged_norepeat : NoRepeat (merged records n)
    unfolding merged
    merged_norepeat = once_norepeat (joined records n)

    -- what conflicts and stands ahead in the merged records stands ahead in every record
    abbrev pub Respected : Type 0
    Respected = (x y : ℕ) → conflict x y ≡ true → Before x y (merged records n) → Leads x y

    pub fine_respected : ((x y : ℕ) → conflict x y ≡ true → Fault n records x y → ⊥) → Respected
    unfolding merged
    fine_respected fine x y c b =
        let g = merged records n in
        let (p, lp, mx) = merged_in x (before_left x y g b) in
        let (q, lq, my) = merged_in y (before_right x y g b) in
        elim (same_or x y) [
          | inl e ↦ absurd (before_asym x y g (once_norepeat (joined records n)) b (rw e (rw e at b)))
          | inr d ↦ elim (direction x y p q (fine x y c) (fine y x (symmetric y x ∙ c)) d lp lq mx my) [
            | inl h ↦ h
            | inr h ↦ absurd (ahead_asym x y (joined records n) (once_before x y (joined records n) b)
                (joined_ahead records n y x single h (in_joined records n p x lp mx)))
          ]
        ]

    pub merged_orders : Respected → OneOrder conflict n records (merged records n)
    unfolding share
    merged_orders respects =
        let g = merged records n in
        record {
          once = merged_norepeat;
          delivered = merged_in;
          complete = in_merged;
          becomes_share = λ p l.
              exchanges conflict symmetric (keep (λ z. mem z (records p)) g) (records p) (single p l) (keep_norepeat (λ z. mem z (records p)) g merged_norepeat)
              (λ x m. in_keep (λ z. mem z (records p)) x g (in_merged p x l m) (in_mem x (records p) m))
              (λ x m. mem_in x (records p) (keep_in (λ z. mem z (records p)) x g m).1)
              (λ x y c h. respects x y c (keep_before (λ z. mem z (records p)) x y g h) p l
              (mem_in y (records p) (keep_in (λ z. mem z (records p)) y g (before_right x y (keep (λ z. mem z (records p)) g) h)).1));
          has_ahead = λ p x y l my c b. before_left x y (records p) (respects x y c b p l my);
        }

  -- The pair rule.
  pub agree_fine : Agree conflict n records → Bad conflict n records → ⊥
  agree_fine (order, a) b = no_fault order a b.x b.y b.conflicts b.fault

  pub fine_agree : NoRepeats n records → (Bad conflict n records → ⊥) → Agree conflict n records
  fine_agree single none =
      (merged records n, merged_orders single (fine_respected single (λ x y c f. none (record { x = x; y = y; conflicts = c; fault = f }))))
