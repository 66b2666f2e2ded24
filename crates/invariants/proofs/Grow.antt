-- A table with a posting more: what was offered is offered still, in the same row, and what was sound is sound.
-- Rests on machine. Assumes nothing.
use Prim.Native.Nat.{ℕ, suc, ◌+◌, ◌<◌, ◌≤◌}
use mathlib.Core.Path.{◌≡◌, refl, sym, ap, ◌∙◌}
use mathlib.Core.Bool.{true}
use native.Mathlib.Omega.{arith}
use native.Mathlib.Decide.{ℕ_discrete}
use lib.ListN.{length}
use lib.Seq.{get_or-set_same, get_or-set_other}
use Rattle.sets.specs.declared.Set.{Set}
use Rattle.sets.specs.Sets.{capacity}
use Rattle.posting.specs.declared.Posting.{Posting}
use Rattle.posting.specs.declared.Table.{Table}
use Rattle.posting.specs.declared.Record.{Record}
use Rattle.posting.specs.Conflicts.{no_posting, row, offered, table_with}
use Rattle.posting.proofs.ConflictLaws.{offered_below, below_offered}
use Rattle.site.specs.declared.Site.{Site}
use Rattle.site.specs.declared.Tally.{Tally}
use Rattle.machine.proofs.SoundFacts.{Offers, MaskSound, RecordSound, SiteSound, TallySound}

-- every posting of t is in u, in the same row
pub record Grows (t u : Table) : Type 0 where
  pub more : (m : ℕ) → offered t m ≡ true → offered u m ≡ true
  pub same : (m : ℕ) → offered t m ≡ true → row u m ≡ row t m

pub grows_same : (t : Table) → Grows t t
grows_same t = record { more = λ m h. h; same = λ m h. refl }

module _ (t : Table) (p : Posting) where
  pub table_grows : Grows t (table_with t p)
  table_grows = record {
    more = λ m o. let (h, l) = offered_below t m o in below_offered (table_with t p) m (omega arith) l;
    same = λ m o. unfold row in get_or-set_other t.rows t.count m p no_posting (let (h, l) = offered_below t m o in omega arith);
  }

  -- the new posting, or an old one
  pub new_row : t.count < length t.rows → row (table_with t p) t.count ≡ p
  new_row lt = unfold row in get_or-set_same t.rows t.count p no_posting lt

  pub new_offered : t.count < capacity → offered (table_with t p) t.count ≡ true
  new_offered lt = below_offered (table_with t p) t.count (omega arith) lt

  pub offered_old : (m : ℕ) → (m ≡ t.count → ⊥) → offered (table_with t p) m ≡ true → offered t m ≡ true
  offered_old m d o = let (h, l) = offered_below (table_with t p) m o in below_offered t m (omega arith) l

module _ (t u : Table) (g : Grows t u) where
  pub offers_grow : (s : Set) → Offers t s → Offers u s
  offers_grow s i x h = g.more x (i x h)

  pub mask_grow : (n m mask : ℕ) → MaskSound t n m mask → MaskSound u n m mask
  mask_grow n m mask i = record { below = i.below; named = λ r h. g.more m (i.named r h) }

  pub record_grow : (r : Record) → RecordSound t r → RecordSound u r
  record_grow r i = record { within = i.within; named = λ k lt. g.more _ (i.named k lt); once = i.once }

  pub site_grow : (n logged : ℕ) (s : Site) → SiteSound t n logged s → SiteSound u n logged s
  site_grow n logged s i = record {
    seen = offers_grow s.seen i.seen;
    held = offers_grow s.held i.held;
    stepped = offers_grow s.stepped i.stepped;
    finished = offers_grow s.finished i.finished;
    got = offers_grow s.got i.got;
    heard = λ m lt. mask_grow n m _ (i.heard m lt);
    good = λ m lt. mask_grow n m _ (i.good m lt);
    delivered = record_grow s.delivered i.delivered;
    place = i.place;
  }

  pub tally_grow : (n m : ℕ) (y : Tally) → TallySound t n m y → TallySound u n m y
  tally_grow n m y i = record {
    heard_ok = mask_grow n m y.heard i.heard_ok;
    has_ok = mask_grow n m y.has i.has_ok;
    union_ok = offers_grow y.union i.union_ok;
    union_named = λ x h. g.more m (i.union_named x h);
  }

-- a longer log
pub site_longer : (t : Table) (n k l : ℕ) (s : Site) → k ≤ l → SiteSound t n k s → SiteSound t n l s
site_longer t n k l s h i = record {
  seen = i.seen;
  held = i.held;
  stepped = i.stepped;
  finished = i.finished;
  got = i.got;
  heard = i.heard;
  good = i.good;
  delivered = i.delivered;
  place = omega (arith, i.place);
}
