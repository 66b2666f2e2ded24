-- A step with what it sends as a mask of receivers: the step of a receipt, what it leaves of the site, a step cut, and what enters the pool.
-- Proof machinery: machine's proofs tie each to Calls. Rests on site, posting and sets.
use Rattle.std.specs.Prelude.{ℕ, Bool, false, cond, not, ◌&&◌, eqb, ltb}
use Rattle.sets.specs.declared.Set.{Set}
use Rattle.posting.specs.declared.Table.{Table}
use Rattle.site.specs.declared.Setup.{Setup}
use Rattle.site.specs.declared.Site.{Site}
use Rattle.site.specs.declared.Tally.{Tally}
use Rattle.site.specs.declared.Sends.{Sends}
use Rattle.site.specs.declared.Stepped.{Stepped}
use Rattle.site.specs.Sites.{sites, site_delivered}
use Rattle.site.specs.Sends.{FIRST, SECOND, THIRD, DELIVER}
use Rattle.site.specs.Steps.{delivering}
use Rattle.masks.specs.SiteMasks.{first_sites}
use Rattle.site.specs.ByMask.{first_by_mask, second_by_mask, third_by_mask, deliver_by_mask}

-- ---- a step

-- the step of a receipt, by its form; a form past DELIVER does as DELIVER, and no message has it
unfoldable pub receipt_by_mask : Setup → Table → Site → Tally → ℕ → ℕ → ℕ → ℕ → Bool → Set → Stepped
receipt_by_mask setup table site tally form m from to good carried =
    cond (eqb form FIRST) (first_by_mask setup table site tally m)
    (cond (eqb form SECOND) (second_by_mask setup table site tally m from good)
    (cond (eqb form THIRD) (third_by_mask setup site tally m from carried)
    (deliver_by_mask setup table site tally to m)))

-- the site of a step once it has delivered m, if it is to
abbrev pub after_delivery : Stepped → ℕ → Site
after_delivery s m = cond s.delivers (site_delivered s.site (delivering s.site.delivered m)) s.site

-- the step with its first j sends, and nothing delivered
abbrev pub cut_step : Stepped → ℕ → Stepped
cut_step s j =
    let sends : Sends = record {
      form = s.sends.form;
      to = first_sites sites s.sends.to j;
      good = s.sends.good;
      carried = s.sends.carried;
    } in
    record { site = s.site; tally = s.tally; sends = sends; delivers = false }

-- ---- the pool

-- an entry into the pool is among the sends
abbrev pub enters : Sends → Bool
enters s = ltb DELIVER s.form && not (eqb s.to 0)

-- the set of m's entry then
abbrev pub entered : Set → Sends → Set
entered old s = cond (enters s) s.carried old
