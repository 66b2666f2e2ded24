-- `has` meets its contract: a number past the capacity has no word, any other is read off its word.
-- Assumes nothing.
use mathlib.Core.Path.{◌≡◌, refl, sym, ◌∙◌}
use native.Mathlib.Omega.{arith}
use lib.ListN.{length}
use borrow.Author.Rules.{rules}
use borrow.Author.Tests.{le-ltb}
use Rattle.sets.specs.Masks.{has_bit}
use Rattle.sets.specs.Words.{member}
use Rattle.sets.proofs.WordLaws.{member_past}
use Rattle.sets.specs.Sets.{words}
use Rattle.sets.proofs.Set.has.Goals as goal

pub returns-then-m-lt-POSTINGS : goal.returns-then-m-lt-POSTINGS
unfolding member has_bit
returns-then-m-lt-POSTINGS c = refl

pub returns-else-m-lt-POSTINGS : goal.returns-else-m-lt-POSTINGS
returns-else-m-lt-POSTINGS c =
    let args = c.args in
    let long : length args.self.words ≡ words = search rules in
    le-ltb args.m 256 c.if-m-lt-POSTINGS.false ∙ sym (member_past args.self.words args.m (omega arith))
