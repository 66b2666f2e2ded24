-- Where no refusal applies, the lines of a record may be posted.
-- Rests on audit_input's Accepted. Assumes nothing.
use Prim.Native.Nat.{ℕ, ◌≤◌}
use mathlib.Core.Path.{◌≡◌, refl}
use mathlib.Core.Bool.{Bool, true, false, cond, ◌&&◌}
use mathlib.Core.List.{List}
use native.Mathlib.Omega.{arith}
use lib.Dec.{ltb, leb}
use lib.ListN.{length, get_or}
use borrow.Author.Tests.{leb-true, ltb-false}
use Rattle.sets.proofs.Truth.{and_left, and_right}
use Rattle.broadcast.proofs.Lists.{in_get_d}
use Rattle.audit_rule.specs.Audit.{lowest}
use Rattle.audit_input.specs.Input.{fields_long, unlawful, unknown_line}
use Rattle.audit_input.proofs.Judged.{used_below}
use Rattle.audit_input.proofs.Accepted.{fields_long_says, none_unlawful, known_record}
use Rattle.audit_books.specs.Lines.{Postable}
use Rattle.audit_books.specs.Figures.{most_lines, figures_code}

passes_all : (s u k : Bool) → ◌≡◌ {A = ℕ} (cond s (cond u 5 (cond k 7 0)) 3) 0 → (s ≡ true) × (u ≡ false) × (k ≡ false)
passes_all true false false e = (refl, refl, refl)
passes_all true false true e = absurd (omega (arith, e))
passes_all true true k e = absurd (omega (arith, e))
passes_all false u k e = absurd (omega (arith, e))

module _ (kinds firsts seconds amounts lines : List ℕ) (room : ℕ) where
  pub figures_none : figures_code kinds firsts seconds amounts lines room ≡ 0 → Postable kinds firsts seconds amounts lines × (64 ≤ room)
  unfolding figures_code
  figures_none e =
      let long = fields_long (length kinds) (length firsts) (length seconds) (length amounts) in
      let few = leb (length lines) most_lines in
      let number = lowest (unlawful kinds firsts seconds amounts) (length kinds) in
      let (s, u, k) = passes_all (long && (few && leb 64 room)) (ltb number (length kinds)) (ltb (unknown_line kinds lines) (length lines)) e in
      let (most, f, sec, a) = fields_long_says (length kinds) (length firsts) (length seconds) (length amounts) (and_left long (few && leb 64 room) s) in
      let rest = and_right long (few && leb 64 room) s in
      let known = known_record kinds lines (ltb-false (unknown_line kinds lines) (length lines) k) in
      let lawful = none_unlawful kinds firsts seconds amounts (ltb-false number (length kinds) u) in (
        record {
          few = leb-true (length lines) most_lines (and_left few (leb 64 room) rest);
          firsts_long = f;
          seconds_long = sec;
          amounts_long = a;
          known = λ i h. used_below kinds (get_or lines i 0) (known (get_or lines i 0) (in_get_d lines i h));
          lawful = λ i h. lawful (get_or lines i 0) (known (get_or lines i 0) (in_get_d lines i h));
        },
        leb-true 64 room (and_right few (leb 64 room) rest),
      )
