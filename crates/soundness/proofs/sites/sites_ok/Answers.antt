-- `sites_ok` meets its contract.
-- Assumes nothing.
use Rattle.std.proofs.Common.{rules, tests, arith}
use mathlib.Core.Path.{◌≡◌, ◌∙◌}
use lib.ListN.{length, take}
use Rattle.std.proofs.lemmas.Iterator.{YieldsList-from_slice}
use Rattle.std.proofs.lemmas.Iterator.Search.{all_from_yields_List}
use Rattle.sets.proofs.BelowLaws.{all_taken}
use Rattle.site.specs.declared.Site.{Site}
use Rattle.site.specs.Sites.{sites, no_site}
use Rattle.soundness.specs.Parts.{site_sound, sites_sound}
use Rattle.soundness.proofs.sites.sites_ok.Goals as goal

pub returns : goal.returns
unfolding sites_sound
returns c =
    let args = c.args in
    let long : length args.sites ≡ sites = search rules in
    let test = λ (s : Site). site_sound args.n args.count args.logged args.all s in
    all_from_yields_List test c.all.new.self _ _ c.all.ensures.ran (YieldsList-from_slice (take args.n args.sites) (search rules)) (λ x b q k. search (rules, tests))
    ∙ all_taken test no_site args.n args.sites (omega arith)
