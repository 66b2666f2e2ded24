-- `events_ok` meets its contract.
-- Assumes nothing.
use Rattle.std.proofs.Common.{rules, tests, arith}
use mathlib.Core.Path.{◌≡◌, refl, ap, ◌∙◌}
use Prim.Native.Nat.{ℕ}
use Rattle.std.proofs.lemmas.Iterator.{YieldsList-from_range}
use Rattle.std.proofs.lemmas.Iterator.Search.{all_from_yields_List}
use Rattle.sets.proofs.BelowLaws.{all_range}
use Rattle.decoder.specs.RunFile.{event_at, event_count, event_ok, events_ok}
use Rattle.decoder.proofs.file.events_ok.Goals as goal

pub returns : goal.returns
unfolding events_ok
returns c =
    let input = c.args.input.now in
    let n = event_count input in
    let test = λ (k : ℕ). event_ok (event_at input k) in
    all_from_yields_List test c.all.new.self _ _ c.all.ensures.ran (YieldsList-from_range 0 n n (search rules) (omega arith)) (λ x b q k. search (rules, tests)) ∙ all_range test n
