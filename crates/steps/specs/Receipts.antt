-- A receipt whose posting, sender and receiver have places.
-- Rests on the declared Receipt, on site and sets.
use Rattle.std.specs.Prelude.{◌<◌}
use Rattle.sets.specs.Sets.{capacity}
use Rattle.site.specs.Sites.{sites}
use Rattle.steps.specs.declared.Receipt.{Receipt}

abbrev pub InRange : Receipt → Type 0
InRange r = (r.posting < capacity) × (r.from < sites) × (r.to < sites)
