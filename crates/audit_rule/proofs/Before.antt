-- The line that the audit names: what was read before it agrees, and with the line it does not.
-- Rests on Audited, Lines and Answer. Assumes nothing.
use Prim.Native.Nat.{ℕ, zero, suc, ◌<◌}
use mathlib.Core.Path.{◌≡◌, refl, sym, ap, ◌∙◌}
use mathlib.Core.Logic.{inl, inr}
use mathlib.Core.Bool.{Bool, false}
use mathlib.Core.List.{List, [], ◌∷◌, ◌++◌, append_assoc, append-nil}
use native.Mathlib.Omega.{arith}
use native.Mathlib.Decide.{dec_lt}
use lib.ListN.{get_or, take, drop, take-append-drop}
use lib.Seq.{length-take-le, get_or-take}
use borrow.Author.Tests.{lt-ltb, le-ltb}
use Rattle.broadcast.specs.Lists.{In, OneOrder}
use Rattle.broadcast.proofs.Lists.{in_get_d}
use Rattle.broadcast.proofs.Tests.{same_or, eqb_yes, eqb_no}
use Rattle.audit_rule.specs.Audit.{Agree, joined, merged, read_before, NoRepeats, ahead_of, differs, departs, audit}
use Rattle.audit_rule.proofs.Order.{in_joined}
use Rattle.audit_rule.proofs.Pairs.{no_fault}
use Rattle.audit_rule.proofs.Audited.{clean_orders, differs_fault, audit_answers, audit_answers_before}
use Rattle.audit_rule.proofs.Lines.{joined_split, norepeat_front}
use Rattle.audit_rule.proofs.Answer.{in_taken}

-- only the part that has y counts
ahead_front : (x y : ℕ) (l r : List ℕ) → In y l → ahead_of x y (l ++ r) ≡ ahead_of x y l
ahead_front x y [] r x'' = elim x'' [ ]
ahead_front x y (z ∷ l) r (inl e) = rw (eqb_yes z y (sym e))
ahead_front x y (z ∷ l) r (inr m) = rw (ahead_front x y l r m)

module _ (n : ℕ) (records : ℕ → List ℕ) (p i : ℕ) (l : p < n) where
  -- the records, cut at line i of site p
  abbrev cut : ℕ → List ℕ
  cut = read_before records p i

  cut_before : (q : ℕ) → q < p → cut q ≡ records q
  cut_before q h = rw (lt-ltb q p h)

  cut_here : cut p ≡ take i (records p)
  cut_here = rw (le-ltb p p (omega arith), eqb_yes p p refl)

  cut_after : (q : ℕ) → p < q → cut q ≡ []
  cut_after q h = rw (le-ltb q p (omega (arith, h)), eqb_no q p (omega (arith, h)))

  joined_before : (k : ℕ) → k < suc p → joined cut k ≡ joined records k
  joined_before zero h = refl
  joined_before (suc k) h = rw (joined_before k (omega (arith, h)), cut_before k (omega (arith, h)))

  joined_cut : (k : ℕ) → p < k → joined cut k ≡ joined records p ++ take i (records p)
  joined_cut zero h = absurd (omega (arith, h))
  joined_cut (suc k) h = elim (same_or k p) [
    | inl e ↦ rw (e, joined_before p (omega arith), cut_here)
    | inr d ↦ rw (joined_cut k (omega (arith, h, d)), cut_after k (omega (arith, h, d)), append-nil)
  ]

  -- a site before p, p itself, or one behind it
  each : (P : ℕ → Type 0) (q : ℕ) → (q < p → P q) → P p → (p < q → P q) → P q
  each P q before here after = elim (same_or q p) [
    | inl e ↦ rw e here
    | inr d ↦ elim (dec_lt q p) [ yes h ↦ before h | no h ↦ after (omega (arith, h, d)) ]
  ]

  -- a cut record is a front part of the record, and so with the joined ones
  record_front : (q : ℕ) → (rest : List ℕ) × (records q ≡ cut q ++ rest)
  record_front q =
      each (λ r. (rest : List ℕ) × (records r ≡ cut r ++ rest)) q
      (λ h. ([], rw (cut_before q h, append-nil)))
      (drop i (records p), rw (cut_here, take-append-drop))
      (λ h. (records q, rw (cut_after q h)))

  joined_front : (rest : List ℕ) × (joined records n ≡ joined cut n ++ rest)
  joined_front =
      let (rest, e) = joined_split records p n l in (
        drop i (records p) ++ rest,
        e ∙ ap (λ (r : List ℕ). joined records p ++ (r ++ rest)) (sym (take-append-drop i (records p)))
            ∙ ap (λ (r : List ℕ). joined records p ++ r) (append_assoc (take i (records p)) (drop i (records p)) rest)
            ∙ sym (append_assoc (joined records p) (take i (records p)) (drop i (records p) ++ rest))
            ∙ ap (λ (r : List ℕ). r ++ (drop i (records p) ++ rest)) (sym (joined_cut n l)),
      )

  -- at a line that was read, the cut records differ where the records do
  differs_cut : (conflict : ℕ → ℕ → Bool) (q y x : ℕ) → q < n → In y (cut q) → differs n cut conflict q y x ≡ differs n records conflict q y x
  unfolding differs
  differs_cut conflict q y x h m =
      let (rest, e) = record_front q in
      let (others, f) = joined_front in
      let own : ahead_of x y (records q) ≡ ahead_of x y (cut q) = ap (ahead_of x y) e ∙ ahead_front x y (cut q) rest m in
      let all : ahead_of x y (joined records n) ≡ ahead_of x y (joined cut n) =
      ap (ahead_of x y) f ∙ ahead_front x y (joined cut n) others (in_joined cut n q y h m) in
      rw (own, all)

  cut_single : NoRepeats n records → NoRepeats n cut
  cut_single single q h = let (rest, e) = record_front q in norepeat_front (cut q) rest (rw e at (single q h))

module _ (conflict : ℕ → ℕ → Bool) (symmetric : (x y : ℕ) → conflict x y ≡ conflict y x) (n : ℕ) (records : ℕ → List ℕ) (single : NoRepeats n records)
    (bound : ℕ) (known : (p x : ℕ) → p < n → In x (records p) → x < bound) where
  -- What was read before the line named agrees: merged, it is one order.
  pub audit_before : (p i x : ℕ) → audit conflict bound n records ≡ departs p i x
      → OneOrder conflict n (read_before records p i) (merged (read_before records p i) n)
  audit_before p i x named =
      let (l, li, t) = rw named at (audit_answers conflict symmetric n records single bound known) in
      let (sites, above) = rw named at (audit_answers_before conflict symmetric n records single bound known) in
      clean_orders conflict symmetric n (read_before records p i) (cut_single n records p i l single) (λ q y z h m.
      differs_cut n records p i l conflict q y z h m ∙ each n records p i l (λ r. In y (read_before records p i r) → differs n records conflict r y z ≡ false) q
      (λ b k. sites q y z b (rw (cut_before n records p i l q b) at k))
      (λ k. let (j, b, e) = in_taken y i (records p) (omega (arith, li)) (rw (cut_here n records p i l) at k) in rw (← e) (above j z b))
      (λ b k. absurd (rw (cut_after n records p i l q b) at k)) m)

  -- With the line it does not.
  pub audit_with_line : (p i x : ℕ) → audit conflict bound n records ≡ departs p i x → Agree conflict n (read_before records p (suc i)) → ⊥
  audit_with_line p i x named (order, a) =
      let (l, li, t) = rw named at (audit_answers conflict symmetric n records single bound known) in
      let y = get_or (records p) i 0 in
      let read = read_before records p (suc i) in
      let long = length-take-le (suc i) (records p) (omega (arith, li)) in
      let taken : In y (take (suc i) (records p)) = rw (get_or-take (suc i) (records p) i 0 (omega arith)) at (in_get_d (take (suc i) (records p)) i (omega (arith, long))) in
      let my : In y (read p) = rw (cut_here n records p (suc i) l) taken in
      let (c, d, f) = differs_fault conflict symmetric n read (cut_single n records p (suc i) l single) p y x l my (differs_cut n records p (suc i) l conflict p y x l my ∙ t) in
      f (no_fault conflict symmetric n read order a x y c) (no_fault conflict symmetric n read order a y x (symmetric y x ∙ c))
