-- The answer's numbers, one law for each pair that is told: crossed, with x missing where y stands, and apart.
-- Rests on Pair. Assumes nothing.
use Prim.Native.Nat.{ℕ, ◌<◌, ◌≤◌}
use mathlib.Core.Path.{◌≡◌}
use mathlib.Core.List.{List}
use borrow.Author.Tests.{lt-ltb, le-ltb}
use Rattle.audit_rule.specs.Audit.{finding, finding_of}
use Rattle.audit_pair.specs.declared.Sites.{Sites}
use Rattle.audit_pair.specs.Pair.{sites_of}
use Rattle.audit_pair.specs.Numbers.{found}

module _ (n : ℕ) (records : ℕ → List ℕ) (x y : ℕ) {s : Sites} (e : s ≡ sites_of n records x y) where
  by_sites : finding n records x y ≡ finding_of n records x y s.forth s.back s.second s.first
  unfolding finding sites_of
  by_sites = rw e

  pub answers_crossed : s.forth < n → s.back < n → found (finding n records x y) ≡ record { code = 10; first = x; second = y; here = s.forth; there = s.back }
  unfolding found
  answers_crossed f b = rw (by_sites, lt-ltb s.forth n f, lt-ltb s.back n b)

  pub answers_missing : n ≤ s.forth → s.back < n → s.first < n → found (finding n records x y) ≡ record { code = 11; first = y; second = x; here = s.first; there = s.back }
  unfolding found
  answers_missing f b w = rw (by_sites, le-ltb s.forth n f, lt-ltb s.back n b, lt-ltb s.first n w)

  pub answers_apart : n ≤ s.forth → n ≤ s.back → s.second < n → s.first < n → found (finding n records x y) ≡ record { code = 12; first = x; second = y; here = s.first; there = s.second }
  unfolding found
  answers_apart f b w v = rw (by_sites, le-ltb s.forth n f, le-ltb s.back n b, lt-ltb s.second n w, lt-ltb s.first n v)
