-- What holds of every value of the board's types: the lengths of its arrays, and words below 2^64. It stands apart from soundness.
-- Rests on machine's definitions. Assumes nothing.
use Prim.Native.Nat.{ℕ, ◌<◌}
use mathlib.Core.Path.{◌≡◌}
use lib.ListN.{length}
use Rattle.sets.specs.Sets.{capacity, Shape}
use Rattle.posting.proofs.RecordLaws.{Places}
use Rattle.site.specs.declared.Site.{Site}
use Rattle.site.specs.Sites.{sites}
use Rattle.flight.specs.Shapes.{Shape as FlightShape}
use Rattle.machine.specs.declared.Board.{Board}
use Rattle.machine.specs.Boards.{site_at, tally_at, entry_at}

pub record SiteShape (s : Site) : Type 0 where
  pub seen : Shape s.seen
  pub held : Shape s.held
  pub stepped : Shape s.stepped
  pub finished : Shape s.finished
  pub got : Shape s.got
  pub heard : length s.heard ≡ capacity
  pub good : length s.good ≡ capacity
  pub delivered : Places s.delivered

pub record BoardShape (b : Board) : Type 0 where
  pub rows : length b.table.rows ≡ capacity
  pub sites_long : length b.sites ≡ sites
  pub tallies_long : length b.tallies ≡ capacity
  pub entries_long : length b.entries ≡ capacity
  pub each_site : (p : ℕ) → p < sites → SiteShape (site_at b p)
  pub each_union : (m : ℕ) → m < capacity → Shape (tally_at b m).union
  pub each_entry : (m : ℕ) → m < capacity → Shape (entry_at b m)
  pub flight : FlightShape b.flight
  pub pool : Shape b.pool
  pub log : Places b.log
