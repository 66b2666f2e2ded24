-- The steps by masks are the steps: for n of at most 7, senders and owners below 7, each step by masks, with its sends listed, is the step
-- of Steps. Rests on ByMask and Steps. Assumes nothing.
use Prim.Native.Nat.{ℕ, zero, suc, ◌-◌, ◌^◌, ◌<◌, ◌≤◌}
use mathlib.Core.Path.{◌≡◌, refl, sym, ap, ◌∙◌}
use mathlib.Core.Logic.{inl, inr}
use mathlib.Core.Bool.{Bool, true, false, cond, not}
use mathlib.Core.List.{[], ◌∷◌, ◌++◌, append-nil}
use native.Mathlib.Omega.{arith}
use native.Mathlib.Decide.{ℕ_discrete}
use lib.Dec.{eqb, ltb}
use lib.Bits.{bit_and}
use lib.Pow.{pow-lt, suc_ones}
use borrow.Author.Tests.{ltb-true, ltb-false, lt-ltb, eq-eqb, ne_eqb}
use Rattle.sets.specs.declared.Set.{Set}
use Rattle.sets.proofs.Truth.{test}
use Rattle.sets.specs.Masks.{has_bit}
use Rattle.sets.proofs.MaskLaws.{has_bit_zero, has_bit_above, has_bit_pow, has_bit_not, has_bit_and}
use Rattle.sets.specs.Sets.{capacity, empty_set, has}
use Rattle.posting.specs.declared.Table.{Table}
use Rattle.site.specs.declared.Setup.{Setup}
use Rattle.site.specs.declared.Site.{Site}
use Rattle.site.specs.declared.Tally.{Tally}
use Rattle.site.specs.declared.Stepped.{Stepped}
use Rattle.site.specs.Sites.{sites, heard_for, good_for, plus, plus_if, site_heard, site_delivered}
use Rattle.site.specs.Sends.{DELIVER, Send, deliver, entry, to_all, to_others, Step}
use Rattle.site.specs.Steps.{owner_of, majority, no_step, tallied, on_offer, on_first, step_second, on_second, step_third, on_third, on_deliver, on_entry, delivering, delivering_all, delivered_site}
use Rattle.site.specs.ByMask.{ENTRY, reached, late, to_mask, send_of, sends_of, step_of, no_step_by_mask, offer_by_mask, read_site, delivering_entry, first_by_mask, step_second_by_mask, second_by_mask, finish_sends, step_third_by_mask, third_by_mask, deliver_by_mask}
use Rattle.masks.specs.SiteMasks.{only_site, every_site, relay_to}

-- ---- masks

pub only_site_lem : (p : ℕ) → p < 7 → only_site p ≡ 2 ^ p
unfolding only_site
only_site_lem p h = rw (lt-ltb p sites h)

pub every_site_lem : (n : ℕ) → n ≤ 7 → every_site n ≡ 2 ^ n - 1
unfolding every_site
every_site_lem n h = elim (ℕ_discrete n 7) [
  | yes e ↦ rw e
  | no d ↦ rw (lt-ltb n sites (omega arith))
]

-- the mask of the sites below n has these and no other
pub has_every : (n k : ℕ) → k < n → has_bit (2 ^ n - 1) k ≡ true
has_every n k h =
    let pos : 0 < 2 ^ n = omega (arith, suc_ones n) in
    let whole : 2 ^ n - 1 ≡ (2 ^ n - 1) - 0 = omega arith in
    ap (λ (mask : ℕ). has_bit mask k) whole ∙ has_bit_not n 0 k pos h ∙ ap not (has_bit_zero k)

pub every_past : (n k : ℕ) → n ≤ k → has_bit (2 ^ n - 1) k ≡ false
every_past n k h = has_bit_above n (2 ^ n - 1) k (omega (arith, suc_ones n)) h

-- the mask of a site alone, of 8 bits
pub only_bit : (p k : ℕ) → k < 7 → has_bit (only_site p) k ≡ eqb k p
unfolding only_site
only_bit p k h = elim (test (ltb p sites)) [
  | inl t ↦ rw t (has_bit_pow p k)
  | inr f ↦ rw f (has_bit_zero k ∙ sym (ne_eqb k p (λ e. absurd (omega (arith, ltb-false p sites f)))))
]

pub only_fits : (p : ℕ) → only_site p < 2 ^ 8
unfolding only_site
only_fits p = elim (test (ltb p sites)) [
  | inl t ↦ let h : p < 8 = omega (arith, ltb-true p sites t) in rw t (pow-lt h)
  | inr f ↦ rw f (omega arith)
]

-- ---- lists of sends

-- only the bits below n count
pub mask_ext : (n a b : ℕ) (send : ℕ → Send) → ((k : ℕ) → k < n → has_bit a k ≡ has_bit b k) → to_mask n a send ≡ to_mask n b send
unfolding to_mask
mask_ext zero a b send h = refl
mask_ext (suc n) a b send h = rw (mask_ext n a b send (λ k l. h k (omega arith)), h n (omega arith))

-- bits that the mask lacks add nothing
pub mask_past : (w n mask : ℕ) (send : ℕ → Send) → n ≤ w → ((k : ℕ) → n ≤ k → has_bit mask k ≡ false) → to_mask w mask send ≡ to_mask n mask send
unfolding to_mask
mask_past zero n mask send l h = let e : n ≡ 0 = omega arith in rw e
mask_past (suc w) n mask send l h = elim (ℕ_discrete n (suc w)) [
  | yes e ↦ rw e
  | no d ↦ rw (h w (omega arith), append-nil) (mask_past w n mask send (omega arith) h)
]

-- a mask with every bit below n
pub mask_all : (n mask : ℕ) (send : ℕ → Send) → ((k : ℕ) → k < n → has_bit mask k ≡ true) → to_mask n mask send ≡ to_all n send
unfolding to_mask to_all
mask_all zero mask send h = refl
mask_all (suc n) mask send h = rw (h n (omega arith), mask_all n mask send (λ k l. h k (omega arith)))

-- a mask with every bit below n but p
pub mask_others : (n p mask : ℕ) (send : ℕ → Send) → ((k : ℕ) → k < n → has_bit mask k ≡ not (eqb k p)) → to_mask n mask send ≡ to_others n p send
unfolding to_mask to_others
mask_others zero p mask send h = refl
mask_others (suc n) p mask send h =
    rw (h n (omega arith), mask_others n p mask send (λ k l. h k (omega arith))) (either (eqb n p))
  where
    either : (b : Bool) → to_others n p send ++ cond (not b) (send n ∷ []) [] ≡ to_others n p send ++ cond b [] (send n ∷ [])
    either true = refl
    either false = refl

-- no site
pub mask_none : (n : ℕ) (send : ℕ → Send) → to_mask n 0 send ≡ []
unfolding to_mask
mask_none zero send = refl
mask_none (suc n) send = rw (mask_none n send, has_bit_zero n)

-- site p alone
pub mask_one : (p : ℕ) (send : ℕ → Send) → to_mask (suc p) (2 ^ p) send ≡ send p ∷ []
unfolding to_mask
mask_one p send = rw (has_bit_pow p p, eq-eqb p p refl, below p (omega arith))
  where
    below : (n : ℕ) → n ≤ p → to_mask n (2 ^ p) send ≡ []
    below zero h = refl
    below (suc n) h = rw (below n (omega arith), has_bit_pow p n, ne_eqb n p (λ e. absurd (omega arith)))

-- ---- sites of a board: masks of at most 7 sites

pub to_every : (n : ℕ) (send : ℕ → Send) → n ≤ 7 → to_mask sites (every_site n) send ≡ to_all n send
to_every n send h =
    ap (λ (mask : ℕ). to_mask sites mask send) (every_site_lem n h)
    ∙ mask_past sites n (2 ^ n - 1) send h (λ k l. every_past n k l)
    ∙ mask_all n (2 ^ n - 1) send (λ k l. has_every n k l)

pub to_only : (p : ℕ) (send : ℕ → Send) → p < 7 → to_mask sites (only_site p) send ≡ send p ∷ []
to_only p send h =
    ap (λ (mask : ℕ). to_mask sites mask send) (only_site_lem p h)
    ∙ mask_past sites (suc p) (2 ^ p) send (omega arith) (λ k l. has_bit_pow p k ∙ ne_eqb k p (λ e. absurd (omega arith)))
    ∙ mask_one p send

-- to all n but p
pub to_others_lem :
    (n p : ℕ) (send : ℕ → Send) → n ≤ 7 → to_mask sites (bit_and (every_site n) (255 - only_site p)) send ≡ to_others n p send
to_others_lem n p send h =
    let others = bit_and (2 ^ n - 1) (255 - only_site p) in
    ap (λ (mask : ℕ). to_mask sites (bit_and mask (255 - only_site p)) send) (every_site_lem n h)
    ∙ mask_past sites n others send h (λ k l. has_bit_and (2 ^ n - 1) (255 - only_site p) k ∙ rw (every_past n k l))
    ∙ mask_others n p others send
    (λ k l. has_bit_and (2 ^ n - 1) (255 - only_site p) k
    ∙ rw (has_every n k l) (has_bit_not 8 (only_site p) k (only_fits p) (omega arith) ∙ ap not (only_bit p k (omega arith))))

-- ---- the steps

no_step_is : (m : ℕ) (site : Site) (tally : Tally) → step_of m (no_step_by_mask site tally) ≡ no_step site tally
unfolding sends_of
no_step_is m site tally = rw mask_none

-- DELIVER to all, or the entry
finish_list :
    (m n : ℕ) (union : Set) (so : Bool) → n ≤ 7
    → sends_of m
    (cond so (record { form = DELIVER; to = every_site n; good = false; carried = empty_set })
    (record { form = ENTRY; to = 1; good = false; carried = union }))
    ≡ cond so (to_all n (λ to. deliver m to)) (entry m union ∷ [])
unfolding sends_of send_of to_mask has_bit
finish_list m n union true h = to_every n (λ to. deliver m to) h
finish_list m n union false h = refl

-- to none, or to all but p
relay_list :
    (n p : ℕ) (send : ℕ → Send) (so : Bool) → n ≤ 7
    → to_mask sites (cond so 0 (bit_and (every_site n) (255 - only_site p))) send ≡ cond so [] (to_others n p send)
relay_list n p send true h = mask_none sites send
relay_list n p send false h = to_others_lem n p send h

-- a step by its cases
by_cases :
    (m : ℕ) (a b : Bool) (x y z : Stepped) (u v w : Step) → step_of m x ≡ u → step_of m y ≡ v → step_of m z ≡ w
    → step_of m (cond a x (cond b y z)) ≡ cond a u (cond b v w)
by_cases m true b x y z u v w p q r = p
by_cases m false true x y z u v w p q r = q
by_cases m false false x y z u v w p q r = r

module _ (setup : Setup) (table : Table) (site : Site) (tally : Tally) (m : ℕ) where
  pub offer_is : setup.n ≤ 7 → step_of m (offer_by_mask setup site tally) ≡ on_offer setup site tally m
  unfolding offer_by_mask on_offer sends_of send_of
  offer_is h = rw to_every

  pub entry_is : (carried : Set) → site.place < capacity → read_site site ≡ (on_entry site tally m carried).site
  unfolding read_site on_entry
  entry_is carried h = rw (lt-ltb site.place capacity h)

  pub first_is : setup.n ≤ 7 → step_of m (first_by_mask setup table site tally m) ≡ on_first setup table site tally m
  unfolding first_by_mask on_first sends_of send_of
  first_is h = rw to_every

  step_second_is : owner_of table m < 7 → step_of m (step_second_by_mask setup table site tally m) ≡ step_second setup table site tally m
  unfolding step_second_by_mask step_second sends_of send_of
  step_second_is h = rw to_only

  step_third_is : setup.n ≤ 7 → step_of m (step_third_by_mask setup site tally m) ≡ step_third setup site tally m
  unfolding step_third_by_mask step_third finish_sends
  step_third_is h = rw (finish_list m setup.n tally.union (majority setup (bit_and tally.has tally.heard)) h)

  pub deliver_is : (p : ℕ) → setup.n ≤ 7 → step_of m (deliver_by_mask setup table site tally p m) ≡ on_deliver setup table site tally p m
  unfolding deliver_by_mask on_deliver relay_to sends_of send_of
  deliver_is p h = elim (test (has site.got m)) [
    | inl t ↦ rw (t, mask_none)
    | inr f ↦ rw (f, relay_list setup.n p (λ to. deliver m to) (eqb p (owner_of table m)) h)
  ]

module _ (setup : Setup) (table : Table) (site : Site) (tally : Tally) (m from : ℕ) (sender : from < 7) where
  pub second_is :
      (good : Bool) → owner_of table m < 7
      → step_of m (second_by_mask setup table site tally m from good) ≡ on_second setup table site tally m from good
  unfolding second_by_mask on_second
  second_is good h =
      let heard = plus (heard_for site m) from in
      let after = site_heard site m heard (plus_if (good_for site m) from good) in
      rw (only_site_lem from sender)
      (by_cases m (late setup (heard_for site m) from (has site.stepped m)) (reached setup heard)
      (no_step_by_mask site tally) (step_second_by_mask setup table after tally m) (no_step_by_mask after tally)
      (no_step site tally) (step_second setup table after tally m) (no_step after tally)
      (no_step_is m site tally) (step_second_is setup table after tally m h) (no_step_is m after tally))

  pub third_is :
      (carried : Set) → setup.n ≤ 7 → step_of m (third_by_mask setup site tally m from carried) ≡ on_third setup site tally m from carried
  unfolding third_by_mask on_third
  third_is carried h =
      let after = tallied tally m from carried in
      rw (only_site_lem from sender)
      (by_cases m (late setup tally.heard from (has site.finished m)) (reached setup after.heard)
      (no_step_by_mask site tally) (step_third_by_mask setup site after m) (no_step_by_mask site after)
      (no_step site tally) (step_third setup site after m) (no_step site after)
      (no_step_is m site tally) (step_third_is setup table site after m h) (no_step_is m site after))

-- ---- delivery

-- a step's site once it has delivered: with m if the step says so
pub delivers_is :
    (m : ℕ) (s : Stepped) → delivered_site (step_of m s) ≡ cond s.delivers (site_delivered s.site (delivering s.site.delivered m)) s.site
unfolding delivering_all
delivers_is m s = elim (test s.delivers) [ inl t ↦ rw t | inr f ↦ rw f ]

-- a read's site once it has delivered
pub entry_delivers_is :
    (site : Site) (tally : Tally) (m : ℕ) (carried : Set) → site.place < capacity
    → delivered_site (on_entry site tally m carried) ≡ site_delivered (read_site site) (delivering_entry (read_site site).delivered carried m)
unfolding read_site on_entry
entry_delivers_is site tally m carried h = rw (lt-ltb site.place capacity h)
