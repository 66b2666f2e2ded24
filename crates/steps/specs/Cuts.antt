-- A step as far as a cut lets it go.
-- Proof machinery: machine's Placed ties it to carried_out. Rests on ByMask, on site, masks and sets.
use Rattle.std.specs.Prelude.{ℕ, Bool, false, cond}
use Rattle.sets.specs.declared.Set.{Set}
use Rattle.site.specs.declared.Site.{Site}
use Rattle.site.specs.declared.Stepped.{Stepped}
use Rattle.site.specs.Sites.{sites, site_delivered}
use Rattle.site.specs.Steps.{delivering}
use Rattle.site.specs.ByMask.{delivering_entry}
use Rattle.masks.specs.SiteMasks.{with_site, first_sites}
use Rattle.steps.specs.declared.Cut.{Cut}
use Rattle.steps.specs.declared.Cut.TheVariants.{Whole, After}
use Rattle.steps.specs.ByMask.{cut_step}

-- the step, or its first j sends with nothing delivered
abbrev pub cut_to : Stepped → Cut → Stepped
cut_to s Whole = s
cut_to s (After j) = cut_step s j

-- the sites of a mask that such a step sends to
abbrev pub sites_to : ℕ → Cut → ℕ
sites_to mask Whole = mask
sites_to mask (After j) = first_sites sites mask j

-- whether it delivers
abbrev pub delivers_to : Bool → Cut → Bool
delivers_to delivers Whole = delivers
delivers_to delivers (After j) = false

-- the site of such a step about m
abbrev pub after_delivery_to : Site → Bool → ℕ → Cut → Site
after_delivery_to s delivers m cut = cond (delivers_to delivers cut) (site_delivered s (delivering s.delivered m)) s

-- the site that has taken m's entry: it delivers, or its step is cut before that
abbrev pub entry_to : Site → Set → ℕ → Cut → Site
entry_to s carried m Whole = site_delivered s (delivering_entry s.delivered carried m)
entry_to s carried m (After j) = s

-- the sites that are down after a step of site p
abbrev pub down_after : ℕ → ℕ → Cut → ℕ
down_after down p Whole = down
down_after down p (After j) = with_site down p
