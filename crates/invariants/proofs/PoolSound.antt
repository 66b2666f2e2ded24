-- The pool and the entries' sets stay sound when the sends of a step go out.
-- Rests on StepSound. Assumes nothing.
use Prim.Native.Nat.{ℕ, ◌*◌, ◌<◌}
use mathlib.Core.Path.{◌≡◌, refl, sym, ap, ◌∙◌}
use mathlib.Core.Logic.{◌⊎◌, inl, inr}
use mathlib.Core.Bool.{Bool, true, false, ◌||◌}
use mathlib.Core.List.{List, [], ◌∷◌}
use native.Mathlib.Omega.{arith}
use native.Mathlib.Decide.{ℕ_discrete}
use lib.Dec.{eqb}
use lib.ListN.{length, get_or, set, length-set}
use lib.Seq.{get_or-set_same, get_or-set_other}
use borrow.Author.Tests.{eqb-true}
use Rattle.sets.specs.declared.Set.{Set}
use Rattle.sets.proofs.Truth.{never, or_cases}
use Rattle.sets.specs.Words.{member}
use Rattle.sets.proofs.WordLaws.{member_insert, insert_shape}
use Rattle.sets.specs.Sets.{capacity, has, with, Shape}
use Rattle.posting.specs.declared.Table.{Table}
use Rattle.posting.specs.Conflicts.{offered}
use Rattle.posting.proofs.ConflictLaws.{offered_below}
use Rattle.site.specs.declared.Site.{Site}
use Rattle.site.specs.Sites.{no_set}
use Rattle.site.specs.Sends.{Send, first, second, third, deliver, entry}
use Rattle.site.specs.Steps.{owner_of}
use Rattle.machine.specs.Calls.{pooling, entering}
use Rattle.machine.proofs.SoundFacts.{Offers}
use Rattle.invariants.proofs.SiteSound.{offers_with}
use Rattle.invariants.proofs.StepSound.{SendSound, AllSends}

-- `finished p m` tells whether site p has finished m, `logged m` whether m is in the log
pub record PoolSound (t : Table) (finished : ℕ → ℕ → Bool) (logged : ℕ → Bool) (pool : Set) (entries : List Set) : Type 0 where
  pub shape : Shape pool
  pub long : length entries ≡ capacity
  pub shapes : (m : ℕ) → m < capacity → Shape (get_or entries m no_set)
  pub named : Offers t pool
  pub apart : (m : ℕ) → has pool m ≡ true → logged m ≡ true → ⊥
  pub ended : (m : ℕ) → (has pool m ≡ true) ⊎ (logged m ≡ true) → finished (owner_of t m) m ≡ true
  pub carries : (m : ℕ) → (has pool m ≡ true) ⊎ (logged m ≡ true) → Offers t (get_or entries m no_set)

module _ (t : Table) (n : ℕ) (finished : ℕ → ℕ → Bool) (logged : ℕ → Bool) (p : ℕ) (before : Set) (site : Site)
    -- what is logged and owned by p, p had finished; what p has finished now is in `finished`
    (old : (m : ℕ) → logged m ≡ true → p ≡ owner_of t m → has before m ≡ true)
    (now : (m : ℕ) → has site.finished m ≡ true → finished p m ≡ true) where
  entry_sound : (pool : Set) (entries : List Set) (m : ℕ) (carried : Set) → SendSound t n p before site (entry m carried)
      → PoolSound t finished logged pool entries → PoolSound t finished logged (with pool m) (set entries m carried)
  entry_sound pool entries m carried (o, own, fresh, done, c, shape) i = record {
    shape = insert_shape pool.words m i.shape;
    long = length-set entries m carried ∙ i.long;
    shapes = λ x lt. elim (ℕ_discrete x m) [
      | yes e ↦ rw (e, same) shape
      | no d ↦ rw (get_or-set_other entries m x carried no_set d) (i.shapes x lt)
    ];
    named = offers_with t pool m i.shape o i.named;
    apart = λ x k l. elim (is x k) [
      | inl h ↦ i.apart x h l
      | inr e ↦ never (old m (rw (← e) l) own) fresh
    ];
    ended = λ x k. elim (which x k) [
      | inl h ↦ i.ended x h
      | inr e ↦ rw (e, ← own) (now m done)
    ];
    carries = λ x k. elim (ℕ_discrete x m) [
      | yes e ↦ rw (e, same) c
      | no d ↦ rw (get_or-set_other entries m x carried no_set d) (i.carries x (elim (which x k) [ inl h ↦ h | inr e ↦ absurd (d e) ]))
    ];
  }
    where
      below : m < capacity
      below = (offered_below t m o).1

      same : get_or (set entries m carried) m no_set ≡ carried
      same = get_or-set_same entries m carried no_set (omega (arith, i.long, below))

      is : (x : ℕ) → has (with pool m) x ≡ true → (has pool x ≡ true) ⊎ (x ≡ m)
      is x k = elim (or_cases (has pool x) (eqb x m) (sym (member_insert pool.words m x (omega (arith, i.shape.long, below))) ∙ k)) [
        | inl h ↦ inl h
        | inr h ↦ inr (eqb-true x m h)
      ]

      which : (x : ℕ) → (has (with pool m) x ≡ true) ⊎ (logged x ≡ true) → ((has pool x ≡ true) ⊎ (logged x ≡ true)) ⊎ (x ≡ m)
      which x k = elim k [
        | inl h ↦ elim (is x h) [ inl g ↦ inl (inl g) | inr e ↦ inr e ]
        | inr h ↦ inl (inr h)
      ]

  pub pool_sound : (pool : Set) (entries : List Set) (sends : List Send) → AllSends t n (SendSound t n p before site) sends
      → PoolSound t finished logged pool entries → PoolSound t finished logged (pooling pool sends) (entering entries sends)
  unfolding pooling entering
  pool_sound pool entries [] h i = i
  pool_sound pool entries (first m to ∷ l) h i = pool_sound pool entries l h.1 i
  pool_sound pool entries (second m to good ∷ l) h i = pool_sound pool entries l h.1 i
  pool_sound pool entries (third m to carried ∷ l) h i = pool_sound pool entries l h.1 i
  pool_sound pool entries (deliver m to ∷ l) h i = pool_sound pool entries l h.1 i
  pool_sound pool entries (entry m carried ∷ l) h i =
      pool_sound (with pool m) (set entries m carried) l h.1 (entry_sound pool entries m carried h.0 i)
