-- A list is delivered at a site, or, where the step is cut, nothing is: what the site's record shows then.
-- Rests on Seen, Casts and invariants. Assumes nothing.
use Prim.Native.Nat.{ℕ}
use mathlib.Core.Path.{◌≡◌, refl, sym, ap, ◌∙◌}
use mathlib.Core.Logic.{◌≢◌}
use mathlib.Core.Bool.{Bool, true, false, cond, ◌&&◌}
use mathlib.Core.List.{List, [], ◌∷◌}
use lib.Dec.{eqb}
use borrow.Author.Tests.{eq-eqb, ne_eqb}
use Rattle.posting.specs.declared.Table.{Table}
use Rattle.posting.specs.Records.{numbers_of}
use Rattle.posting.proofs.RecordLaws.{Places}
use Rattle.site.specs.declared.Site.{Site}
use Rattle.site.specs.Sites.{site_delivered}
use Rattle.site.specs.Sends.{Step}
use Rattle.site.specs.Steps.{delivering_all}
use Rattle.steps.specs.declared.Cut.{Cut}
use Rattle.steps.specs.declared.Cut.TheVariants.{Whole, After}
use Rattle.machine.proofs.SoundFacts.{RecordSound}
use Rattle.invariants.proofs.SiteSound.{AllOffered}
use Rattle.invariants.proofs.CarriedOut.{site_after}
use Rattle.broadcast.specs.Deliveries.{deliver_all}
use Rattle.broadcast.specs.Machine.{World, State, lasts, deliver_at}
use Rattle.broadcast.specs.Machine as theory
use Rattle.agreement.proofs.Casts.{cut_by}
use Rattle.agreement.proofs.Seen.{delivering_all_is}
use Rattle.agreement.proofs.Shows.{SiteShows, SiteShowsIn}

module _ (w : World) (x : State) (p : ℕ) where
  pub delivered_own : (t : Table) (step : Step) (place : ℕ → ℕ) (cut : Cut) → Places step.site.delivered → RecordSound t step.site.delivered
      → AllOffered t step.delivers → SiteShowsIn w x p step.site
      → SiteShowsIn w (deliver_at w x p step.delivers (cut_by place cut)) p (site_after step cut)
  unfolding deliver_at
  delivered_own t step place Whole places sound all i = record {
    seen_is = i.seen_is;
    held_is = i.held_is;
    stepped_is = i.stepped_is;
    heard_is = i.heard_is;
    agreed_is = i.agreed_is;
    got_is = i.got_is;
    finished_is = i.finished_is;
    place_is = i.place_is;
    delivered_is = rw (eq-eqb p p refl) (ap (λ (v : List ℕ). deliver_all v step.delivers) i.delivered_is
        ∙ sym (delivering_all_is t step.site.delivered step.delivers places sound all));
  }
  delivered_own t step place (After j) places sound all i = record {
    seen_is = i.seen_is;
    held_is = i.held_is;
    stepped_is = i.stepped_is;
    heard_is = i.heard_is;
    agreed_is = i.agreed_is;
    got_is = i.got_is;
    finished_is = i.finished_is;
    place_is = i.place_is;
    delivered_is = i.delivered_is;
  }

  pub delivered_other : (q : ℕ) (site : Site) (l : List ℕ) (c : theory.Cut) → q ≢ p → SiteShowsIn w x q site → SiteShowsIn w (deliver_at w x p l c) q site
  unfolding deliver_at
  delivered_other q site l c d i = record {
    seen_is = i.seen_is;
    held_is = i.held_is;
    stepped_is = i.stepped_is;
    heard_is = i.heard_is;
    agreed_is = i.agreed_is;
    got_is = i.got_is;
    finished_is = i.finished_is;
    place_is = i.place_is;
    delivered_is = rw (ne_eqb p q (λ e. d (sym e)), none (lasts c)) i.delivered_is;
  }
    where
      none : (v : Bool) → (v && false) ≡ false
      none true = refl
      none false = refl
