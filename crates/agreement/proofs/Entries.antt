-- Sends without a pool entry leave the pool and the entries' sets as they are.
-- Rests on machine's definitions. Assumes nothing.
use Prim.Native.Nat.{ℕ, zero, suc}
use mathlib.Core.Path.{◌≡◌, refl, sym, ap, ◌∙◌}
use mathlib.Core.Bool.{Bool, true, false, cond}
use mathlib.Core.List.{List, [], ◌∷◌, ◌++◌}
use lib.Dec.{eqb}
use lib.ListN.{take}
use Rattle.sets.specs.declared.Set.{Set}
use Rattle.sets.proofs.Truth.{never}
use Rattle.site.specs.Sends.{Send, first, second, third, deliver, entry, to_all, to_others}
use Rattle.steps.specs.declared.Cut.{Cut}
use Rattle.steps.specs.declared.Cut.TheVariants.{Whole, After}
use Rattle.machine.specs.Calls.{pooling, entering}
use Rattle.agreement.proofs.Casts.{out_of}

abbrev pub is_entry : Send → Bool
is_entry (first m to) = false
is_entry (second m to good) = false
is_entry (third m to carried) = false
is_entry (deliver m to) = false
is_entry (entry m carried) = true

abbrev pub AllMessages : List Send → Type 0
AllMessages [] = Unit {0}
AllMessages (s ∷ l) = (is_entry s ≡ false) × AllMessages l

pools : (pool : Set) (l : List Send) → AllMessages l → pooling pool l ≡ pool
unfolding pooling
pools pool [] h = refl
pools pool (first m to ∷ l) h = pools pool l h.1
pools pool (second m to good ∷ l) h = pools pool l h.1
pools pool (third m to carried ∷ l) h = pools pool l h.1
pools pool (deliver m to ∷ l) h = pools pool l h.1
pools pool (entry m carried ∷ l) h = absurd (never refl h.0)

enters : (entries : List Set) (l : List Send) → AllMessages l → entering entries l ≡ entries
unfolding entering
enters entries [] h = refl
enters entries (first m to ∷ l) h = enters entries l h.1
enters entries (second m to good ∷ l) h = enters entries l h.1
enters entries (third m to carried ∷ l) h = enters entries l h.1
enters entries (deliver m to ∷ l) h = enters entries l h.1
enters entries (entry m carried ∷ l) h = absurd (never refl h.0)

pub record NoEntry (sends : List Send) : Type 0 where
  pub pool_same : (pool : Set) → pooling pool sends ≡ pool
  pub entries_same : (entries : List Set) → entering entries sends ≡ entries

no_entry : (l : List Send) → AllMessages l → NoEntry l
no_entry l h = record { pool_same = λ pool. pools pool l h; entries_same = λ entries. enters entries l h }

all_append : (l r : List Send) → AllMessages l → AllMessages r → AllMessages (l ++ r)
all_append [] r h k = k
all_append (s ∷ l) r h k = (h.0, all_append l r h.1 k)

all_take : (j : ℕ) (l : List Send) → AllMessages l → AllMessages (take j l)
all_take zero l h = tt
all_take (suc j) [] h = tt
all_take (suc j) (s ∷ l) h = (h.0, all_take j l h.1)

pub none_all : (n : ℕ) (send : ℕ → Send) → ((to : ℕ) → is_entry (send to) ≡ false) → AllMessages (to_all n send)
unfolding to_all
none_all zero send h = tt
none_all (suc n) send h = all_append (to_all n send) (send n ∷ []) (none_all n send h) (h n, tt)

pub none_others : (n p : ℕ) (send : ℕ → Send) → ((to : ℕ) → is_entry (send to) ≡ false) → AllMessages (to_others n p send)
unfolding to_others
none_others zero p send h = tt
none_others (suc n) p send h = all_append (to_others n p send) (cond (eqb n p) [] (send n ∷ [])) (none_others n p send h) (one (eqb n p))
  where
    one : (b : Bool) → AllMessages (cond b [] (send n ∷ []))
    one true = tt
    one false = (h n, tt)

pub none_out : (l : List Send) (cut : Cut) → AllMessages l → NoEntry (out_of l cut)
none_out l Whole h = no_entry l h
none_out l (After j) h = no_entry (take j l) (all_take j l h)
