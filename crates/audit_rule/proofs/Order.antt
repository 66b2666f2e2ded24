-- Laws of order in lists: exchanges keep the order of what conflicts, two members stand one ahead of the other, records joined.
-- Rests on broadcast's lists. Assumes nothing.
use Prim.Native.Nat.{ℕ, zero, suc, ◌<◌}
use mathlib.Core.Path.{◌≡◌, sym, ◌∙◌}
use mathlib.Core.Logic.{◌⊎◌, inl, inr, ◌≢◌}
use mathlib.Core.Bool.{Bool, true}
use mathlib.Core.List.{List, ◌∷◌}
use native.Mathlib.Omega.{arith}
use native.Mathlib.Decide.{ℕ_discrete}
use Rattle.broadcast.specs.Lists.{In, NoRepeat, Before, mem, Exchanges, none, behind, swap, then, share, OneOrder}
use Rattle.broadcast.proofs.Tests.{test, nope}
use Rattle.broadcast.proofs.Lists.{mem_in, not_in, in_left, in_right, in_cases, before_right, keep_norepeat, ahead_append, ahead_past}
use Rattle.broadcast.specs.Deliveries.{Ahead}
use Rattle.audit_rule.specs.Audit.{joined, NoRepeats}

-- membership is decided
pub in_or : (x : ℕ) (l : List ℕ) → In x l ⊎ (¬ In x l)
in_or x l = elim (test (mem x l)) [ inl t ↦ inl (mem_in x l t) | inr f ↦ inr (not_in x l f) ]

-- exchanges leave the members, and the order of two that conflict
in_exchanged : {c : ℕ → ℕ → Bool} {l r : List ℕ} → Exchanges c l r → (x : ℕ) → In x l → In x r
in_exchanged none x h = h
in_exchanged (behind y e) x (inl h) = inl h
in_exchanged (behind y e) x (inr h) = inr (in_exchanged e x h)
in_exchanged (swap y z free) x (inl h) = inr (inl h)
in_exchanged (swap y z free) x (inr (inl h)) = inl h
in_exchanged (swap y z free) x (inr (inr h)) = inr (inr h)
in_exchanged (then e f) x h = in_exchanged f x (in_exchanged e x h)

pub exchanged_before : {c : ℕ → ℕ → Bool} {l r : List ℕ} → Exchanges c l r → (x y : ℕ) → c x y ≡ true → Before x y l → Before x y r
exchanged_before none x y t h = h
exchanged_before (behind z e) x y t (inl h) = inl (h.0, in_exchanged e y h.1)
exchanged_before (behind z e) x y t (inr h) = inr (exchanged_before e x y t h)
exchanged_before {c} (swap a b free) x y t (inl h) = elim h.1 [
  | inl e ↦ absurd (nope (rw (h.0, e) at t) free)
  | inr m ↦ inr (inl (h.0, m))
]
exchanged_before (swap a b free) x y t (inr (inl h)) = inl (h.0, inr h.1)
exchanged_before (swap a b free) x y t (inr (inr h)) = inr (inr h)
exchanged_before (then e f) x y t h = exchanged_before f x y t (exchanged_before e x y t h)

-- records that have an order have no repeats
exchanged_norepeat : {c : ℕ → ℕ → Bool} {l r : List ℕ} → Exchanges c l r → NoRepeat r → NoRepeat l
exchanged_norepeat none d = d
exchanged_norepeat (behind x e) d = (λ m. d.0 (in_exchanged e x m), exchanged_norepeat e d.1)
exchanged_norepeat (swap x y free) d = (
  λ m. elim m [ inl e ↦ d.0 (inl (sym e)) | inr h ↦ d.1.0 h ],
  (λ m. d.0 (inr m), d.1.1),
)
exchanged_norepeat (then e f) d = exchanged_norepeat e (exchanged_norepeat f d)

pub order_norepeats : {conflict : ℕ → ℕ → Bool} {n : ℕ} {records : ℕ → List ℕ} {order : List ℕ} → OneOrder conflict n records order → NoRepeats n records
unfolding share
order_norepeats {conflict} {n} {records} {order} a p l = exchanged_norepeat (a.becomes_share p l) (keep_norepeat (λ z. mem z (records p)) order a.once)

-- of two members one stands ahead of the other
pub either_before : (x y : ℕ) (l : List ℕ) → x ≢ y → In x l → In y l → Before x y l ⊎ Before y x l
either_before x y mathlib.Core.List.[] d x4 _ = elim x4 [ ]
either_before x y (z ∷ l) d (inl e) (inl k) = absurd (d (e ∙ sym k))
either_before x y (z ∷ l) d (inl e) (inr k) = inl (inl (e, k))
either_before x y (z ∷ l) d (inr h) (inl k) = inr (inl (k, h))
either_before x y (z ∷ l) d (inr h) (inr k) = elim (either_before x y l d h k) [ inl b ↦ inl (inr b) | inr b ↦ inr (inr b) ]

-- without repeats, ahead of one y is ahead of the first
pub before_ahead : (x y : ℕ) (l : List ℕ) → NoRepeat l → Before x y l → Ahead x y l
before_ahead x y mathlib.Core.List.[] d x3 = elim x3 [ ]
before_ahead x y (z ∷ l) d (inl h) = (λ e. d.0 (rw e h.1), inl h.0)
before_ahead x y (z ∷ l) d (inr h) = (λ e. d.0 (rw e (before_right x y l h)), inr (before_ahead x y l d.1 h))

pub ahead_before : (x y : ℕ) (l : List ℕ) → In y l → Ahead x y l → Before x y l
ahead_before x y mathlib.Core.List.[] x3 _ = elim x3 [ ]
ahead_before x y (z ∷ l) (inl e) (d, h) = absurd (d (sym e))
ahead_before x y (z ∷ l) (inr m) (d, inl e) = inl (e, m)
ahead_before x y (z ∷ l) (inr m) (d, inr h) = inr (ahead_before x y l m h)

pub ahead_in : (x y : ℕ) (l : List ℕ) → Ahead x y l → In x l
ahead_in x y mathlib.Core.List.[] x'' = elim x'' [ ]
ahead_in x y (z ∷ l) (d, inl e) = inl e
ahead_in x y (z ∷ l) (d, inr h) = inr (ahead_in x y l h)

-- ---- records joined

module _ (records : ℕ → List ℕ) where
  pub in_joined : (k p x : ℕ) → p < k → In x (records p) → In x (joined records k)
  in_joined zero p x h m = absurd (omega arith)
  in_joined (suc k) p x h m = elim (last p k h) [
    | inl e ↦ in_right x (joined records k) (records k) (rw e at m)
    | inr l ↦ in_left x (joined records k) (records k) (in_joined k p x l m)
  ]
    where
      last : (p k : ℕ) → p < suc k → (p ≡ k) ⊎ (p < k)
      last p k h = elim (ℕ_discrete p k) [ yes e ↦ inl e | no d ↦ inr (omega arith) ]

  pub joined_in : (k x : ℕ) → In x (joined records k) → (p : ℕ) × (p < k) × In x (records p)
  joined_in zero x m = absurd m
  joined_in (suc k) x m = elim (in_cases x (joined records k) (records k) m) [
    | inl h ↦ let (p, l, i) = joined_in k x h in (p, omega (arith, l), i)
    | inr h ↦ (k, omega arith, h)
  ]

  -- x stands ahead of y in every record that has y: then in the joined ones too
  pub joined_ahead : (k x y : ℕ) → ((p : ℕ) → p < k → NoRepeat (records p)) → ((p : ℕ) → p < k → In y (records p) → Before x y (records p))
      → In y (joined records k) → Ahead x y (joined records k)
  joined_ahead zero x y d h m = absurd m
  joined_ahead (suc k) x y d h m =
      let rest : In y (joined records k) → Ahead x y (joined records (suc k)) = λ i.
      ahead_append x y (joined records k) (records k) (joined_ahead k x y (λ p l. d p (omega (arith, l))) (λ p l. h p (omega (arith, l))) i) in
      elim (in_or y (joined records k)) [
        | inl i ↦ rest i
        | inr lacks ↦ elim (in_cases y (joined records k) (records k) m) [
          | inl i ↦ rest i
          | inr i ↦ ahead_past x y (joined records k) (records k) lacks (before_ahead x y (records k) (d k (omega arith)) (h k (omega arith) i))
        ]
      ]
