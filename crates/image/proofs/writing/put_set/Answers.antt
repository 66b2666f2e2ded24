-- `put_set` meets its contract.
-- Assumes nothing.
use mathlib.Core.Path.{◌≡◌}
use lib.ListN.{length}
use Rattle.sets.specs.Sets.{words}
use borrow.Author.Rules.{rules}
use Rattle.image.proofs.writing.put_set.Goals as goal

pub put_words-requires : goal.put_words-requires
put_words-requires c =
    let s = c.args.s in
    let long : length s.words ≡ words = search rules in
    search rules
