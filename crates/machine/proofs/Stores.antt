-- A set stored in the arrays of a board, about posting m at site p: what it changes of what is theirs, and that all else stays.
-- In order: their parts changed; Changes, changes_then, changes_as; the slots of p and m; elsewhere_stored; store_seen, store_held, store_stepped, store_finished,
-- store_got, store_pool, store_union, store_entry; add_stepped, add_finished, add_got, add_pool. Rests on Local, on arrays' Slots. Assumes nothing.
use Prim.Native.Nat.{ℕ, ◌*◌, ◌+◌, ◌<◌, ◌≤◌}
use mathlib.Core.Path.{◌≡◌, refl, ap, ◌∙◌}
use mathlib.Core.Logic.{◌≢◌}
use mathlib.Core.Bool.{false}
use native.Mathlib.Omega.{arith}
use lib.Dec.{eqb}
use lib.ListN.{length}
use borrow.Author.Tests.{eqb-false}
use Rattle.sets.specs.declared.Set.{Set}
use Rattle.sets.specs.Sets.{words, capacity, with}
use Rattle.site.specs.declared.Site.{Site}
use Rattle.site.specs.declared.Tally.{Tally}
use Rattle.site.specs.Sites.{sites, site_seen, site_stepped, site_finished, site_got}
use Rattle.arrays.specs.Layout.{seen_of, held_of, stepped_of, finished_of, got_of, pool_slot, union_of, entry_of, kind_of, have_of, slots, shown_slots}
use Rattle.arrays.specs.declared.Arrays.{Arrays}
use Rattle.arrays.specs.Arrays.{with_sets, slot_set, storing, adding}
use Rattle.arrays.proofs.Slots.{slot_long, insert_long, slot_other, slot_same, long_stored, adding_is}
use Rattle.views.specs.Views.{record_in, site_of, tally_of, row_of, table_of, log_of}
use Rattle.machine.proofs.Local.{Local, local_of, Elsewhere, elsewhere_then, Long}

-- ---- what is theirs, with one part changed

abbrev pub local_site : Local → Site → Local
local_site l site = record { site = site; tally = l.tally; entry = l.entry; pool = l.pool; down = l.down }

abbrev pub local_tally : Local → Tally → Local
local_tally l tally = record { site = l.site; tally = tally; entry = l.entry; pool = l.pool; down = l.down }

abbrev pub local_entry : Local → Set → Local
local_entry l entry = record { site = l.site; tally = l.tally; entry = entry; pool = l.pool; down = l.down }

abbrev pub local_pool : Local → Set → Local
local_pool l pool = record { site = l.site; tally = l.tally; entry = l.entry; pool = pool; down = l.down }

abbrev pub local_down : Local → ℕ → Local
local_down l down = record { site = l.site; tally = l.tally; entry = l.entry; pool = l.pool; down = down }

abbrev pub site_held : Site → Set → Site
site_held s held = site_stepped s s.seen s.stepped held

abbrev pub site_advanced : Site → Set → Site
site_advanced s stepped = site_stepped s s.seen stepped s.held

abbrev pub tally_union : Tally → Set → Tally
tally_union t union = record { heard = t.heard; has = t.has; union = union }

abbrev pub tally_masks : Tally → ℕ → ℕ → Tally
tally_masks t heard has = record { heard = heard; has = has; union = t.union }

-- ---- a change of it

-- the arrays d are a with what is theirs changed; p's record has the same postings
pub record Changes (p m : ℕ) (a d : Arrays) (change : Local → Local) : Type 0 where
  pub elsewhere : Elsewhere p m a d
  pub own : local_of d p m ≡ change (local_of a p m)
  pub have : slot_set d.sets (have_of p) ≡ slot_set a.sets (have_of p)
  pub long : Long d

pub changes_then : {p m : ℕ} {a d e : Arrays} {f g : Local → Local} → Changes p m a d f → Changes p m d e g → Changes p m a e (λ l. g (f l))
changes_then {p} {m} {a} {d} {e} {f} {g} x y =
    record {
      elsewhere = elsewhere_then x.elsewhere y.elsewhere;
      own = y.own ∙ ap g x.own;
      have = y.have ∙ x.have;
      long = y.long;
    }

-- the same said otherwise
pub changes_as : {p m : ℕ} {a d : Arrays} {f : Local → Local} (g : Local → Local) → Changes p m a d f → f (local_of a p m) ≡ g (local_of a p m) → Changes p m a d g
changes_as g x e = record { elsewhere = x.elsewhere; own = x.own ∙ e; have = x.have; long = x.long }

-- ---- a set stored

-- a slot of p or m: of no other site, no other posting, and not of the index
pub record Own (p m slot : ℕ) : Type 0 where
  pub fits : slot < slots
  pub behind : shown_slots ≤ slot → slot ≡ have_of p
  pub site : (q k : ℕ) → q < sites → q ≢ p → k < 5 → slot ≢ k * sites + q
  pub union : (q : ℕ) → q < capacity → q ≢ m → slot ≢ union_of q
  pub entry : (q : ℕ) → q < capacity → q ≢ m → slot ≢ entry_of q

module _ (p m : ℕ) (hp : p < sites) (hm : m < capacity) where
  -- the slots of site p
  pub own_site : (k : ℕ) → k < 5 → Own p m (k * sites + p)
  own_site k h =
      record {
        fits = omega arith;
        behind = λ u. absurd (omega arith);
        site = λ q j b n c e. omega arith;
        union = λ q b n e. omega arith;
        entry = λ q b n e. omega arith;
      }

  pub own_pool : Own p m pool_slot
  own_pool =
      record {
        fits = omega arith;
        behind = λ u. absurd (omega arith);
        site = λ q j b n c e. omega arith;
        union = λ q b n e. omega arith;
        entry = λ q b n e. omega arith;
      }

  pub own_union : Own p m (union_of m)
  own_union =
      record {
        fits = omega arith;
        behind = λ u. absurd (omega arith);
        site = λ q j b n c e. omega arith;
        union = λ q b n e. n (omega arith);
        entry = λ q b n e. omega arith;
      }

  pub own_entry : Own p m (entry_of m)
  own_entry =
      record {
        fits = omega arith;
        behind = λ u. absurd (omega arith);
        site = λ q j b n c e. omega arith;
        union = λ q b n e. omega arith;
        entry = λ q b n e. n (omega arith);
      }

module _ (p m : ℕ) (hp : p < sites) (hm : m < capacity) (a : Arrays) (long : Long a) (s : Set) (size : length s.words ≡ words) where
  module _ (slot : ℕ) (o : Own p m slot) where
    abbrev new : Arrays
    new = with_sets a (storing a.sets slot s)

    same : (other : ℕ) → slot ≢ other → slot_set new.sets other ≡ slot_set a.sets other
    same other n = slot_other a.sets slot s size other n

    here : slot_set new.sets slot ≡ s
    here = slot_same a.sets slot s size o.fits long.sets_have_length

    other_site : (q : ℕ) → q < sites → q ≢ p → site_of new q ≡ site_of a q
    unfolding site_of record_in
    other_site q h n =
        rw (
          same (seen_of q) (o.site q 0 h n (omega arith)),
          same (held_of q) (o.site q 1 h n (omega arith)),
          same (stepped_of q) (o.site q 2 h n (omega arith)),
          same (finished_of q) (o.site q 3 h n (omega arith)),
          same (got_of q) (o.site q 4 h n (omega arith)),
        )

    other_tally : (q : ℕ) → q < capacity → q ≢ m → tally_of new q ≡ tally_of a q
    unfolding tally_of
    other_tally q h n = rw (same (union_of q) (o.union q h n))

    pub elsewhere_stored : Elsewhere p m a new
    unfolding table_of row_of log_of
    elsewhere_stored =
        record {
          other_sites = other_site;
          other_tallies = other_tally;
          other_entries = λ q h n. same (entry_of q) (o.entry q h n);
          same_table = refl;
          same_log = refl;
          same_index = λ line kind h k. same (kind_of line kind) (λ e. omega (arith, o.behind (omega arith)));
          other_have = λ q h n. same (have_of q) (λ e. omega (arith, o.behind (omega arith)));
        }

    stored : slot < shown_slots → (change : Local → Local) → local_of new p m ≡ change (local_of a p m) → Changes p m a new change
    stored shown change own =
        record {
          elsewhere = elsewhere_stored;
          own = own;
          have = same (have_of p) (λ e. omega arith);
          long = record {
            sets_have_length = long_stored a.sets slot s ∙ long.sets_have_length;
            counts_have_length = long.counts_have_length;
            bytes_have_length = long.bytes_have_length;
            amounts_long = long.amounts_long;
            masks_long = long.masks_long;
          };
        }

  -- the slots of site p
  module _ (k : ℕ) (h : k < 5) where
    abbrev slot_of : ℕ
    slot_of = k * sites + p

    abbrev mine : Own p m slot_of
    mine = own_site p m hp hm k h

    stays : (j : ℕ) → eqb j k ≡ false → slot_set (new slot_of mine).sets (j * sites + p) ≡ slot_set a.sets (j * sites + p)
    stays j t = let n : j ≢ k = eqb-false j k t in same slot_of mine (j * sites + p) (λ e. n (omega arith))

    site_stored :
        (change : Site → Site) → site_of (new slot_of mine) p ≡ change (site_of a p) → Changes p m a (new slot_of mine) (λ l. local_site l (change l.site))
    unfolding tally_of
    site_stored change own =
        let kept = same slot_of mine in
        stored slot_of mine (omega arith) (λ l. local_site l (change l.site))
        (rw (own, kept pool_slot (λ e. omega arith), kept (union_of m) (λ e. omega arith), kept (entry_of m) (λ e. omega arith)))

  pub store_seen : Changes p m a (with_sets a (storing a.sets (seen_of p) s)) (λ l. local_site l (site_seen l.site s))
  unfolding site_of record_in
  store_seen =
      let h : 0 < 5 = omega arith in
      let stay = stays 0 h in
      site_stored 0 h (λ x. site_seen x s) (rw (here (seen_of p) (mine 0 h), stay 1 refl, stay 2 refl, stay 3 refl, stay 4 refl))

  pub store_held : Changes p m a (with_sets a (storing a.sets (held_of p) s)) (λ l. local_site l (site_held l.site s))
  unfolding site_of record_in
  store_held =
      let h : 1 < 5 = omega arith in
      let stay = stays 1 h in
      site_stored 1 h (λ x. site_held x s) (rw (here (held_of p) (mine 1 h), stay 0 refl, stay 2 refl, stay 3 refl, stay 4 refl))

  pub store_stepped : Changes p m a (with_sets a (storing a.sets (stepped_of p) s)) (λ l. local_site l (site_advanced l.site s))
  unfolding site_of record_in
  store_stepped =
      let h : 2 < 5 = omega arith in
      let stay = stays 2 h in
      site_stored 2 h (λ x. site_advanced x s) (rw (here (stepped_of p) (mine 2 h), stay 0 refl, stay 1 refl, stay 3 refl, stay 4 refl))

  pub store_finished : Changes p m a (with_sets a (storing a.sets (finished_of p) s)) (λ l. local_site l (site_finished l.site s))
  unfolding site_of record_in
  store_finished =
      let h : 3 < 5 = omega arith in
      let stay = stays 3 h in
      site_stored 3 h (λ x. site_finished x s) (rw (here (finished_of p) (mine 3 h), stay 0 refl, stay 1 refl, stay 2 refl, stay 4 refl))

  pub store_got : Changes p m a (with_sets a (storing a.sets (got_of p) s)) (λ l. local_site l (site_got l.site s))
  unfolding site_of record_in
  store_got =
      let h : 4 < 5 = omega arith in
      let stay = stays 4 h in
      site_stored 4 h (λ x. site_got x s) (rw (here (got_of p) (mine 4 h), stay 0 refl, stay 1 refl, stay 2 refl, stay 3 refl))

  -- the pool, and what is of posting m
  module _ (slot : ℕ) (o : Own p m slot) (past : 5 * sites ≤ slot) where
    site_kept : site_of (new slot o) p ≡ site_of a p
    unfolding site_of record_in
    site_kept =
        let kept : (j : ℕ) → j < 5 → slot_set (new slot o).sets (j * sites + p) ≡ slot_set a.sets (j * sites + p) =
        λ j h. same slot o (j * sites + p) (λ e. omega arith) in
        rw (kept 0 (omega arith), kept 1 (omega arith), kept 2 (omega arith), kept 3 (omega arith), kept 4 (omega arith))

  pub store_pool : Changes p m a (with_sets a (storing a.sets pool_slot s)) (λ l. local_pool l s)
  unfolding tally_of
  store_pool =
      let o = own_pool p m hp hm in
      let kept = same pool_slot o in
      stored pool_slot o (omega arith) (λ l. local_pool l s)
      (rw (site_kept pool_slot o (omega arith), here pool_slot o, kept (union_of m) (λ e. omega arith), kept (entry_of m) (λ e. omega arith)))

  pub store_union : Changes p m a (with_sets a (storing a.sets (union_of m) s)) (λ l. local_tally l (tally_union l.tally s))
  unfolding tally_of
  store_union =
      let o = own_union p m hp hm in
      let kept = same (union_of m) o in
      stored (union_of m) o (omega arith) (λ l. local_tally l (tally_union l.tally s))
      (rw (site_kept (union_of m) o (omega arith), here (union_of m) o, kept pool_slot (λ e. omega arith), kept (entry_of m) (λ e. omega arith)))

  pub store_entry : Changes p m a (with_sets a (storing a.sets (entry_of m) s)) (λ l. local_entry l s)
  unfolding tally_of
  store_entry =
      let o = own_entry p m hp hm in
      let kept = same (entry_of m) o in
      stored (entry_of m) o (omega arith) (λ l. local_entry l s)
      (rw (site_kept (entry_of m) o (omega arith), here (entry_of m) o, kept pool_slot (λ e. omega arith), kept (union_of m) (λ e. omega arith)))

-- one posting more in a set, where it lies
module _ (p m : ℕ) (hp : p < sites) (hm : m < capacity) (a : Arrays) (long : Long a) (x : ℕ) (hx : x < capacity) where
  abbrev more : ℕ → Set
  more slot = with (slot_set a.sets slot) x

  size : (slot : ℕ) → length (more slot).words ≡ words
  size slot = insert_long (slot_set a.sets slot).words x ∙ slot_long a.sets slot

  pub add_stepped : Changes p m a (with_sets a (adding a.sets (stepped_of p) x)) (λ l. local_site l (site_advanced l.site (with l.site.stepped x)))
  unfolding site_of
  add_stepped =
      rw (adding_is a.sets (stepped_of p) x hx)
      (changes_as (λ l. local_site l (site_advanced l.site (with l.site.stepped x))) (store_stepped p m hp hm a long (more (stepped_of p)) (size (stepped_of p))) refl)

  pub add_finished : Changes p m a (with_sets a (adding a.sets (finished_of p) x)) (λ l. local_site l (site_finished l.site (with l.site.finished x)))
  unfolding site_of
  add_finished =
      rw (adding_is a.sets (finished_of p) x hx)
      (changes_as (λ l. local_site l (site_finished l.site (with l.site.finished x))) (store_finished p m hp hm a long (more (finished_of p)) (size (finished_of p))) refl)

  pub add_got : Changes p m a (with_sets a (adding a.sets (got_of p) x)) (λ l. local_site l (site_got l.site (with l.site.got x)))
  unfolding site_of
  add_got =
      rw (adding_is a.sets (got_of p) x hx)
      (changes_as (λ l. local_site l (site_got l.site (with l.site.got x))) (store_got p m hp hm a long (more (got_of p)) (size (got_of p))) refl)

  pub add_pool : Changes p m a (with_sets a (adding a.sets pool_slot x)) (λ l. local_pool l (with l.pool x))
  unfolding site_of
  add_pool =
      rw (adding_is a.sets pool_slot x hx)
      (changes_as (λ l. local_pool l (with l.pool x)) (store_pool p m hp hm a long (more pool_slot) (size pool_slot)) refl)
