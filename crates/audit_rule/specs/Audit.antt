-- Records handed over, one for each of n sites: when they agree, and what a pair of postings shows where they do not.
-- Rests on Lists. Conflict is any relation; nothing here knows how the records came about.
use Rattle.std.specs.Prelude.{ℕ, zero, suc, ◌<◌, ◌≡◌, Bool, true, false, cond, not, ◌&&◌, ◌||◌, List, [], ◌∷◌, ◌++◌, eqb, ltb, take}
use Rattle.std.specs.Bool.{beq}
use Rattle.broadcast.specs.Lists.{In, NoRepeat, Before, mem, OneOrder}
use Rattle.broadcast.specs.Deliveries.{once}

-- the records agree
abbrev pub Agree : (ℕ → ℕ → Bool) → ℕ → (ℕ → List ℕ) → Type 0
Agree conflict n records = (order : List ℕ) × OneOrder conflict n records order

-- What two postings and one or two sites show.
pub data Fault (n : ℕ) (records : ℕ → List ℕ) (x y : ℕ) : Type 0 where
  -- site p has x ahead of y, site q has y ahead of x
  crossed : (p q : ℕ) → p < n → q < n → Before x y (records p) → Before y x (records q) → Fault n records x y
  -- site p has y without x, which site q has ahead of y
  missing : (p q : ℕ) → p < n → q < n → In y (records p) → ¬ In x (records p) → Before x y (records q) → Fault n records x y
  -- site p has x, site q has y, and no site has both
  apart : (p q : ℕ) → p < n → q < n → In x (records p) → In y (records q) → ((s : ℕ) → s < n → In x (records s) → In y (records s) → ⊥) → Fault n records x y

-- a bad pair: two postings that conflict, with a fault
pub record Bad (conflict : ℕ → ℕ → Bool) (n : ℕ) (records : ℕ → List ℕ) : Type 0 where
  pub x : ℕ
  pub y : ℕ
  pub conflicts : conflict x y ≡ true
  pub fault : Fault n records x y

-- the records of the first k sites, one behind the other
abbrev pub joined : (ℕ → List ℕ) → ℕ → List ℕ
joined records zero = []
joined records (suc k) = joined records k ++ records k

-- the order that the audit tries: site 0's record, then what site 1 has beyond it, and so on
unfoldable pub merged : (ℕ → List ℕ) → ℕ → List ℕ
merged records n = once (joined records n)

-- what was read before line i of site p: the records of the sites before it, and the lines above it
abbrev pub read_before : (ℕ → List ℕ) → (p i q : ℕ) → List ℕ
read_before records p i q = cond (ltb q p) (records q) (cond (eqb q p) (take i (records p)) [])

-- no record has a posting twice
abbrev pub NoRepeats : ℕ → (ℕ → List ℕ) → Type 0
NoRepeats n records = (p : ℕ) → p < n → NoRepeat (records p)

-- ---- the audit of a pair

-- x stands ahead of the first y; or y is not there, and x is
abbrev pub ahead_of : ℕ → ℕ → List ℕ → Bool
ahead_of x y [] = false
ahead_of x y (z ∷ l) = not (eqb z y) && (eqb x z || ahead_of x y l)

-- the part of a list ahead of the first y; the whole list if y is not there
abbrev pub up_to : ℕ → List ℕ → List ℕ
up_to y [] = []
up_to y (z ∷ l) = cond (eqb z y) [] (z ∷ up_to y l)

-- the least number from k on, of `left` numbers, that a test holds of; k + left if there is none
abbrev pub lowest_from : (ℕ → Bool) → ℕ → ℕ → ℕ
lowest_from q k zero = k
lowest_from q k (suc left) = cond (q k) k (lowest_from q (suc k) left)

abbrev pub lowest : (ℕ → Bool) → ℕ → ℕ
lowest q n = lowest_from q 0 n

-- What the audit finds of two postings x and y that conflict.
pub data Finding : Type 0 where
  -- nothing wrong
  sound : Finding
  -- site p has x ahead of y, site q has y ahead of x
  crosses : (x y p q : ℕ) → Finding
  -- site p has y without x, which site q has ahead of y
  lacks : (x y p q : ℕ) → Finding
  -- site p has x, site q has y, no site has both
  parts : (x y p q : ℕ) → Finding

module _ (n : ℕ) (records : ℕ → List ℕ) where
  -- site p has x ahead of y; site p has y without x
  unfoldable pub leads_at : ℕ → ℕ → ℕ → Bool
  leads_at x y p = mem y (records p) && ahead_of x y (records p)

  unfoldable pub lacks_at : ℕ → ℕ → ℕ → Bool
  lacks_at x y p = mem y (records p) && not (mem x (records p))

  -- the finding of a pair, from the lowest site of each sort; n stands for none
  abbrev pub finding_of : (x y forth back without-x without-y : ℕ) → Finding
  finding_of x y forth back without-x without-y =
      cond (ltb forth n)
      (cond (ltb back n) (crosses x y forth back) (cond (ltb without-x n) (lacks x y without-x forth) sound))
      (cond (ltb back n)
      (cond (ltb without-y n) (lacks y x without-y back) sound)
      (cond (ltb without-x n && ltb without-y n) (parts x y without-y without-x) sound))

  unfoldable pub finding : ℕ → ℕ → Finding
  finding x y = finding_of x y (lowest (leads_at x y) n) (lowest (leads_at y x) n) (lowest (lacks_at x y) n) (lowest (lacks_at y x) n)

  -- what a finding says
  abbrev pub Says : Finding → ℕ → ℕ → Type 0
  Says sound a b = (Fault n records a b → ⊥) × (Fault n records b a → ⊥)
  Says (crosses x y p q) a b = (p < n) × (q < n) × Before x y (records p) × Before y x (records q)
  Says (lacks x y p q) a b = (p < n) × (q < n) × In y (records p) × (¬ In x (records p)) × Before x y (records q)
  Says (parts x y p q) a b = (p < n) × (q < n) × In x (records p) × In y (records q) × ((s : ℕ) → s < n → In x (records s) → In y (records s) → ⊥)

  -- ---- the audit of the records

  -- site p's record and the joined records differ on whether x stands ahead of y, though x and y conflict
  unfoldable pub differs : (ℕ → ℕ → Bool) → ℕ → ℕ → ℕ → Bool
  differs conflict p y x = conflict x y && not (beq (ahead_of x y (records p)) (ahead_of x y (joined records n)))

-- The audit's answer: the records agree; or the first line that departs from the records read before it, and the lowest posting that shows it.
pub data Outcome : Type 0 where
  agreed : Outcome
  departs : (site line posting : ℕ) → Outcome

module _ (conflict : ℕ → ℕ → Bool) (bound n : ℕ) (records : ℕ → List ℕ) where
  -- the first line of a part of site p's record that departs, from line i on; else what comes next
  unfoldable pub audit_lines : ℕ → ℕ → List ℕ → Outcome → Outcome
  audit_lines p i [] next = next
  audit_lines p i (y ∷ l) next =
      cond (ltb (lowest (differs n records conflict p y) bound) bound) (departs p i (lowest (differs n records conflict p y) bound)) (audit_lines p (suc i) l next)

  unfoldable pub audit_sites : ℕ → ℕ → Outcome
  audit_sites p zero = agreed
  audit_sites p (suc left) = audit_lines p 0 (records p) (audit_sites (suc p) left)

  -- site by site, line by line, postings below the bound
  unfoldable pub audit : Outcome
  audit = audit_sites 0 n
