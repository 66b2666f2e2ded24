-- The board that the flat arrays show.
-- Proof machinery: proofs/ tie each event on the arrays to what Calls says of the board shown. Rests on views, arrays and index, on flight, site, posting and sets.
use Rattle.std.specs.Prelude.{ℕ, ◌<◌, ◌≡◌, length}
use Rattle.sets.specs.Sets.{capacity}
use Rattle.posting.specs.Records.{contains}
use Rattle.books.specs.Books.{tabulate}
use Rattle.site.specs.declared.Setup.{Setup}
use Rattle.site.specs.Sites.{sites}
use Rattle.flight.specs.Flights.{cells, flight_of}
use Rattle.arrays.specs.Layout.{pool_slot, entry_of, have_of, sets_long, counts_long, down_at, bytes_long}
use Rattle.arrays.specs.declared.Arrays.{Arrays}
use Rattle.arrays.specs.Arrays.{slot_set, has_in, byte}
use Rattle.index.specs.Index.{Indexed}
use Rattle.views.specs.Views.{record_in, site_of, tally_of, table_of, log_of}
use Rattle.machine.specs.declared.Board.{Board}

-- the board
unfoldable pub view : Setup → Arrays → Board
view setup a =
    record {
      setup = setup;
      down = byte a.bytes down_at;
      table = table_of a;
      sites = tabulate sites (site_of a);
      tallies = tabulate capacity (tally_of a);
      flight = flight_of a.masks a.good a.carried;
      pool = slot_set a.sets pool_slot;
      entries = tabulate capacity (λ m. slot_set a.sets (entry_of m));
      log = log_of a;
    }

-- the arrays have their lengths; what stands beside the board is right: the index of the postings offered, and what each record has
pub record Right (a : Arrays) : Type 0 where
  pub sets_have_length : length a.sets ≡ sets_long
  pub counts_have_length : length a.counts ≡ counts_long
  pub bytes_have_length : length a.bytes ≡ bytes_long
  pub amounts_long : length a.amounts ≡ capacity
  pub masks_long : length a.masks ≡ cells
  pub indexed : Indexed a.sets (table_of a)
  pub have : (p x : ℕ) → p < sites → x < capacity → has_in a.sets (have_of p) x ≡ contains (record_in a p) x
