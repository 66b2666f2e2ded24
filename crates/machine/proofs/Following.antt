-- A receipt on the arrays follows its step: from what it leaves, or from the changes that it is made of.
-- In order: none_to, length_taking, length_sending, no_entry, settled_none; followed_refused; received_follows, changes_follow, quiet_follows,
-- either_follows. Rests on Local and Stores. Assumes nothing.
use Prim.Native.Nat.{ℕ, zero, suc, ◌^◌, ◌<◌}
use mathlib.Core.Path.{◌≡◌, refl, sym, ap, ◌∙◌}
use mathlib.Core.Logic.{inl, inr}
use mathlib.Core.Bool.{Bool, true, false, cond}
use mathlib.Core.List.{List}
use native.Mathlib.Omega.{arith}
use lib.Dec.{eqb, ltb, leb}
use lib.ListN.{length, length-set}
use lib.Count.{ones}
use borrow.Author.Tests.{eq-eqb, ne_eqb}
use Rattle.sets.specs.declared.Set.{Set}
use Rattle.sets.proofs.Truth.{test}
use Rattle.sets.proofs.MaskLaws.{has_bit_zero}
use Rattle.sets.specs.Words.{insert_if}
use Rattle.sets.specs.Sets.{capacity, with_if}
use Rattle.masks.specs.SiteMasks.{first_sites}
use Rattle.site.specs.declared.Setup.{Setup}
use Rattle.site.specs.declared.Site.{Site}
use Rattle.site.specs.declared.Stepped.{Stepped}
use Rattle.site.specs.declared.Tally.{Tally}
use Rattle.site.specs.Sites.{sites}
use Rattle.site.specs.Sends.{FIRST}
use Rattle.site.specs.ByMask.{no_step_by_mask}
use Rattle.flight.specs.Flights.{cells, cell_at, write_at, taking_from, sending_to, good_taken, set_taken}
use Rattle.flight.specs.ByMask.{good_sent, set_sent}
use Rattle.flight.proofs.ArrayLaws.{sending_none}
use Rattle.steps.specs.declared.Cut.{Cut}
use Rattle.steps.specs.declared.Cut.TheVariants.{Whole, After}
use Rattle.steps.specs.Cuts.{sites_to, after_delivery_to, down_after}
use Rattle.steps.specs.ByMask.{enters, entered}
use Rattle.arrays.specs.Layout.{pool_slot, entry_of, down_at}
use Rattle.arrays.specs.declared.Arrays.{Arrays}
use Rattle.arrays.specs.Arrays.{slot_set, byte}
use Rattle.flat.specs.Flat.{Flat, flat, refused_or, followed, cut_cause}
use Rattle.views.specs.Views.{record_in}
use Rattle.machine.specs.View.{Right}
use Rattle.machine.proofs.Local.{Local, local_of, Follows, Received, sent_to, receipt_shown, right_local, site_record}
use Rattle.machine.proofs.Stores.{Changes}

-- ---- sends, masks and the pool

-- a step that sends nothing sends to no site, cut or not
pub none_to : (cut : Cut) → sites_to 0 cut ≡ 0
unfolding first_sites
none_to Whole = refl
none_to (After j) = go sites
  where
    either : (so : Bool) → ◌≡◌ {A = ℕ} (cond so 0 0) 0
    either true = refl
    either false = refl

    go : (n : ℕ) → first_sites n 0 j ≡ 0
    go zero = refl
    go (suc n) = rw (go n, has_bit_zero n) (either (leb j (ones 0)))

length_write : (n : ℕ) (l : List ℕ) (i v : ℕ) → length (write_at n l i v) ≡ length l
length_write n l i v = elim (test (ltb i n)) [ inl t ↦ rw t (length-set l i v) | inr f ↦ rw f ]

pub length_taking : (masks : List ℕ) (form m from to : ℕ) → length (taking_from masks form m from to) ≡ length masks
unfolding taking_from
length_taking masks form m from to = length_write cells masks (cell_at form m from) _

pub length_sending : (masks : List ℕ) (form m from to : ℕ) → length (sending_to masks form m from to) ≡ length masks
unfolding sending_to
length_sending masks form m from to = length_write cells masks (cell_at form m from) _

-- nothing enters the pool
pub no_entry : (s : Set) (m : ℕ) → s ≡ with_if s m false
unfolding insert_if
no_entry s m = refl

-- nothing is delivered
pub settled_none : (s : Site) (m : ℕ) (cut : Cut) → s ≡ after_delivery_to s false m cut
settled_none s m Whole = refl
settled_none s m (After j) = refl

-- ---- refused or not

pub followed_refused : (why : ℕ) (a d : Arrays) (next : Arrays → Arrays) → followed (refused_or why a (flat 0 d)) next ≡ refused_or why a (flat 0 (next d))
followed_refused why a d next = elim (test (eqb why 0)) [ inl t ↦ rw t | inr f ↦ rw (f, f) ]

module _ (setup : Setup) (a d : Arrays) (form m from to : ℕ) (s : Stepped) (cut : Cut) (right : Right a) (hm : m < capacity) (ht : to < sites)
    (fit : s.sends.to < 2 ^ sites) where
  abbrev why : ℕ
  why = cut_cause setup a.bytes s.sends.to cut

  pub received_follows : Received a d form m from to s cut → Right d → Follows setup a form m from to cut s (refused_or why a (flat 0 d))
  received_follows r ok =
      record {
        refused = λ n. rw (ne_eqb why 0 n);
        answer = λ e. rw (eq-eqb why 0 e);
        shown = λ e. rw (eq-eqb why 0 e) (receipt_shown setup hm ht fit r);
        right = λ e. rw (eq-eqb why 0 e) ok;
      }

  -- a receipt that delivers nothing, by its changes
  pub changes_follow :
      {f : Local → Local} → Changes to m a d f → let l = f (local_of a to m) in
      l.site ≡ after_delivery_to s.site s.delivers m cut → l.site.delivered ≡ record_in a to → l.tally ≡ s.tally
      → d.masks ≡ sending_to (taking_from a.masks form m from to) s.sends.form m to (sites_to s.sends.to cut)
      → d.good ≡ good_sent (good_taken a.good form m from to) s.sends.form m to (sites_to s.sends.to cut) s.sends.good
      → d.carried ≡ set_sent (set_taken a.carried form m from) s.sends.form m to (sites_to s.sends.to cut) s.sends.carried
      → l.pool ≡ with_if (slot_set a.sets pool_slot) m (enters (sent_to s cut)) → l.entry ≡ entered (slot_set a.sets (entry_of m)) (sent_to s cut)
      → l.down ≡ down_after (byte a.bytes down_at) to cut → Follows setup a form m from to cut s (refused_or why a (flat 0 d))
  changes_follow c site same tally masks good carried pool entry down =
      received_follows
      (record {
        elsewhere = c.elsewhere;
        site = ap (λ (l : Local). l.site) c.own ∙ site;
        tally = ap (λ (l : Local). l.tally) c.own ∙ tally;
        masks = masks;
        good = good;
        carried = carried;
        pool = ap (λ (l : Local). l.pool) c.own ∙ pool;
        entry = ap (λ (l : Local). l.entry) c.own ∙ entry;
        down = ap (λ (l : Local). l.down) c.own ∙ down;
      })
      (right_local right c.elsewhere c.long c.have (sym (site_record d to) ∙ ap (λ (l : Local). l.site.delivered) c.own ∙ same))

-- one that sends nothing
pub quiet_follows :
    (setup : Setup) (a d : Arrays) (form m from to : ℕ) (cut : Cut) → Right a → m < capacity → to < sites → (site : Site) (tally : Tally) {f : Local → Local}
    → Changes to m a d f → let l = f (local_of a to m) in
    l.site ≡ site → l.site.delivered ≡ record_in a to → l.tally ≡ tally
    → d.masks ≡ taking_from a.masks form m from to → d.good ≡ good_taken a.good form m from to → d.carried ≡ set_taken a.carried form m from
    → l.pool ≡ slot_set a.sets pool_slot → l.entry ≡ slot_set a.sets (entry_of m) → l.down ≡ down_after (byte a.bytes down_at) to cut
    → Follows setup a form m from to cut (no_step_by_mask site tally) (refused_or (cut_cause setup a.bytes 0 cut) a (flat 0 d))
quiet_follows setup a d form m from to cut right hm ht site tally c same record_same tallied masks good carried pool entry down =
    changes_follow setup a d form m from to (no_step_by_mask site tally) cut right hm ht (omega arith) c (same ∙ settled_none site m cut) record_same tallied
    (masks ∙ sym (rw (none_to cut) (sending_none (taking_from a.masks form m from to) FIRST m to))) good carried
    (pool ∙ no_entry (slot_set a.sets pool_slot) m) entry down

-- of two ways, the one that both take
pub either_follows :
    {setup : Setup} {a : Arrays} {form m from to : ℕ} {cut : Cut} (so : Bool) (s u : Stepped) (r v : Flat) → Follows setup a form m from to cut s r
    → Follows setup a form m from to cut u v → Follows setup a form m from to cut (cond so s u) (cond so r v)
either_follows true s u r v x y = x
either_follows false s u r v x y = y
