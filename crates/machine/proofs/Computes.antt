-- Names to unfold all that the calls and figures of a board rest on, crate by crate, so that a closed term computes: for cases evaluated above.
-- Rests on the specs of sets, posting, books, site, flight and machine. Assumes nothing.
use mathlib.Core.Bool.{Bool, true}
use lib.Count.{ones, ones_in}
use Rattle.sets.specs.Below.{all_below, any_below, all_of}
use Rattle.sets.specs.Masks.{has_bit}
use Rattle.sets.specs.Numbers.{listed, distinct}
use Rattle.sets.specs.Words.{member, insert, remove, insert_if, wordwise, union, intersect, is_empty, is_subset, members_below, members, collect}
use Rattle.posting.specs.Kinds.{in_row, net_of_all, accounts_ok, fields_ok, matrix_entry, all_pairs, turned_alike, symmetric, fixed_pairs, fixed_pair, pair_ok, has_fixed_pairs}
use Rattle.posting.specs.Conflicts.{row, offered_by, offered, touches, shares, conflicting, conflict, conflict_set}
use Rattle.posting.specs.Records.{numbers_of, contains, append}
use Rattle.books.specs.Effect.{size_of_call, change, effect}
use Rattle.books.specs.Books.{books, numbers_to, tabulate}
use Rattle.site.specs.Sends.{to_all, to_others}
use Rattle.site.specs.Steps.{alone, on_offer, on_first, step_second, on_second, step_third, on_third, on_deliver, on_entry, delivering, delivering_all}
use Rattle.flight.specs.Flights.{pair_at, cell_at, message_in, words_from, set_in, sending_to, taking_from, saying, carrying, nothing_comes, in_flight, sending, sending_all, taking_out, lowest_to, lowest_from}
use Rattle.machine.specs.Soundness.{setup_ok, record_ok, site_ok, tally_ok, cell_ok, cells_ok, entry_ok, is_sound}
use Rattle.machine.specs.Calls.{judged, starting, pooling, entering, carried_out, offering, receipt_of, receiving, ordering, reading, crashing}
use Rattle.machine.specs.Figures.{figures_of, figures_of_all, shown, showing, showing_all}
use Rattle.machine.specs.Runs.{taking, running, answers, up_mask, is_quiet}

-- An unfolding line with one of these names unfolds all that stands on the line under it.
unfoldable pub of_sets : Bool
unfolding ones ones_in all_below any_below all_of has_bit listed distinct member insert remove insert_if wordwise union intersect is_empty is_subset members_below members collect
of_sets = true

unfoldable pub of_posting : Bool
unfolding in_row net_of_all accounts_ok fields_ok matrix_entry all_pairs turned_alike symmetric fixed_pairs fixed_pair pair_ok has_fixed_pairs row offered_by offered touches shares conflicting conflict conflict_set numbers_of contains append
of_posting = true

unfoldable pub of_books : Bool
unfolding size_of_call change effect books numbers_to tabulate
of_books = true

unfoldable pub of_site : Bool
unfolding to_all to_others alone on_offer on_first step_second on_second step_third on_third on_deliver on_entry delivering delivering_all
of_site = true

unfoldable pub of_flight : Bool
unfolding pair_at cell_at message_in words_from set_in sending_to taking_from saying carrying nothing_comes in_flight sending sending_all taking_out lowest_to lowest_from
of_flight = true

unfoldable pub of_machine : Bool
unfolding setup_ok record_ok site_ok tally_ok cell_ok cells_ok entry_ok is_sound judged starting pooling entering carried_out offering receipt_of receiving ordering reading crashing taking running answers up_mask is_quiet figures_of figures_of_all shown showing showing_all
of_machine = true

-- all of them
unfoldable pub of_board : Bool
unfolding of_sets of_posting of_books of_site of_flight of_machine
of_board = true
