-- What a board has after a step was carried out at a site, whole or cut: the parts that stay, and the site's own.
-- Rests on machine's definitions. Assumes nothing.
use Prim.Native.Nat.{ℕ, ◌<◌}
use mathlib.Core.Path.{◌≡◌, refl, sym, ap, ◌∙◌}
use mathlib.Core.Logic.{◌≢◌}
use mathlib.Core.Bool.{Bool, true, false, cond}
use mathlib.Core.List.{List}
use lib.ListN.{length, get_or, set, take, length-set}
use lib.Seq.{get_or-set_same, get_or-set_other}
use Rattle.sets.specs.declared.Set.{Set}
use Rattle.posting.specs.declared.Record.{Record}
use Rattle.site.specs.declared.Site.{Site}
use Rattle.site.specs.declared.Tally.{Tally}
use Rattle.site.specs.Sites.{no_site, no_tally, plus}
use Rattle.site.specs.Sends.{Send, Step}
use Rattle.site.specs.Steps.{delivered_site}
use Rattle.flight.specs.Flights.{sending_all}
use Rattle.machine.specs.declared.Board.{Board}
use Rattle.steps.specs.declared.Cut.{Cut}
use Rattle.steps.specs.declared.Cut.TheVariants.{Whole, After}
use Rattle.machine.specs.Boards.{site_at, tally_at}
use Rattle.machine.specs.Calls.{carried_out, pooling, entering}
use Rattle.steps.specs.Causes.{is_cut}

-- the sends that go out, and the site after the step
abbrev pub sends_out : Step → Cut → List Send
sends_out step Whole = step.sends
sends_out step (After j) = take j step.sends

abbrev pub site_after : Step → Cut → Site
site_after step Whole = delivered_site step
site_after step (After j) = step.site

module _ (b : Board) (p m : ℕ) (step : Step) where
  pub out_setup : (cut : Cut) → (carried_out b p m step cut).setup ≡ b.setup
  unfolding carried_out
  out_setup Whole = refl
  out_setup (After j) = refl

  pub out_table : (cut : Cut) → (carried_out b p m step cut).table ≡ b.table
  unfolding carried_out
  out_table Whole = refl
  out_table (After j) = refl

  pub out_log : (cut : Cut) → (carried_out b p m step cut).log ≡ b.log
  unfolding carried_out
  out_log Whole = refl
  out_log (After j) = refl

  pub out_down : (cut : Cut) → (carried_out b p m step cut).down ≡ cond (is_cut cut) (plus b.down p) b.down
  unfolding carried_out
  out_down Whole = refl
  out_down (After j) = refl

  pub out_sites : (cut : Cut) → (carried_out b p m step cut).sites ≡ set b.sites p (site_after step cut)
  unfolding carried_out
  out_sites Whole = refl
  out_sites (After j) = refl

  pub out_tallies : (cut : Cut) → (carried_out b p m step cut).tallies ≡ set b.tallies m step.tally
  unfolding carried_out
  out_tallies Whole = refl
  out_tallies (After j) = refl

  pub out_flight : (cut : Cut) → (carried_out b p m step cut).flight ≡ sending_all b.flight p (sends_out step cut)
  unfolding carried_out
  out_flight Whole = refl
  out_flight (After j) = refl

  pub out_pool : (cut : Cut) → (carried_out b p m step cut).pool ≡ pooling b.pool (sends_out step cut)
  unfolding carried_out
  out_pool Whole = refl
  out_pool (After j) = refl

  pub out_entries : (cut : Cut) → (carried_out b p m step cut).entries ≡ entering b.entries (sends_out step cut)
  unfolding carried_out
  out_entries Whole = refl
  out_entries (After j) = refl

  -- the site's own, and another's
  pub out_site : (cut : Cut) → p < length b.sites → site_at (carried_out b p m step cut) p ≡ site_after step cut
  out_site cut lt = ap (λ (l : List Site). get_or l p no_site) (out_sites cut) ∙ get_or-set_same b.sites p (site_after step cut) no_site lt

  pub out_site_other : (cut : Cut) (q : ℕ) → q ≢ p → site_at (carried_out b p m step cut) q ≡ site_at b q
  out_site_other cut q d = ap (λ (l : List Site). get_or l q no_site) (out_sites cut) ∙ get_or-set_other b.sites p q (site_after step cut) no_site d

  pub out_tally : (cut : Cut) → m < length b.tallies → tally_at (carried_out b p m step cut) m ≡ step.tally
  out_tally cut lt = ap (λ (l : List Tally). get_or l m no_tally) (out_tallies cut) ∙ get_or-set_same b.tallies m step.tally no_tally lt

  pub out_tally_other : (cut : Cut) (x : ℕ) → x ≢ m → tally_at (carried_out b p m step cut) x ≡ tally_at b x
  out_tally_other cut x d = ap (λ (l : List Tally). get_or l x no_tally) (out_tallies cut) ∙ get_or-set_other b.tallies m x step.tally no_tally d
