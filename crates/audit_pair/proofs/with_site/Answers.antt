-- `with_site` meets its contract: by how x and y stand in the site's record.
-- Assumes nothing.
use mathlib.Core.Path.{◌≡◌, refl}
use borrow.Author.Rules.{rules}
use Rattle.audit_pair.specs.Pair.{with_site, taken}
use Rattle.audit_pair.specs.Standings.{code_of}
use Rattle.audit_pair.proofs.with_site.Goals as goal

pub returns-in-None : goal.returns-in-None
unfolding with_site taken
returns-in-None c =
    let so : code_of c.args.standing ≡ 0 = search rules in
    rw so refl

pub returns-in-Some-Forth : goal.returns-in-Some-Forth
unfolding with_site taken
returns-in-Some-Forth c =
    let so : code_of c.args.standing ≡ 1 = search rules in
    rw (so, c.taken.ensures) refl

pub returns-in-Some-Back : goal.returns-in-Some-Back
unfolding with_site taken
returns-in-Some-Back c =
    let so : code_of c.args.standing ≡ 2 = search rules in
    rw (so, c.taken-in-Some-Back.ensures) refl

pub returns-in-Some-YAlone : goal.returns-in-Some-YAlone
unfolding with_site taken
returns-in-Some-YAlone c =
    let so : code_of c.args.standing ≡ 3 = search rules in
    rw (so, c.taken-in-Some-YAlone.ensures) refl

pub returns-in-Some-XAlone : goal.returns-in-Some-XAlone
unfolding with_site taken
returns-in-Some-XAlone c =
    let so : code_of c.args.standing ≡ 4 = search rules in
    rw (so, c.taken-in-Some-XAlone.ensures) refl
