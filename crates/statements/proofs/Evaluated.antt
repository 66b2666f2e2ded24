-- A statement of three sites, evaluated: the definitions compute to the text that the example says.
-- Rests on amounts, and on the Computes of machine and runfile. Assumes nothing.
use mathlib.Core.Path.{◌≡◌, refl}
use mathlib.Core.Bool.{Bool, true, false}
use mathlib.Core.List.{[], ◌∷◌}
use lib.ListN.{length}
use Rattle.machine.proofs.Computes.{of_sets}
use Rattle.runfile.proofs.Computes.{of_decoder, of_printer}
use Rattle.amounts.specs.Amounts.{signed, same_number}
use Rattle.statements.specs.Table.{account_at, is_blank, account_line, account_part, account_lines, has_none, site_heading, accounts_part, site_part, site_parts, same_account, same_site, agree, agree_with, all_agree, statement_text}
use Rattle.statements.specs.Statement.{stated}
use Rattle.statements.specs.Examples.{site_figures, three_figures, three_text}

-- An unfolding line with this name unfolds all that stands on the line under it.
unfoldable of_table : Bool
unfolding of_sets of_printer account_at is_blank signed account_line account_part account_lines has_none site_heading accounts_part site_part site_parts same_number same_account same_site agree agree_with all_agree statement_text site_figures three_figures
of_table = true

-- site 2 is down
pub three_sites : (length three_figures ≡ 192) × (statement_text three_figures 3 4 ≡ three_text)
unfolding of_table
three_sites = (refl, refl)

-- where it is up the figures differ
pub three_up : all_agree three_figures 3 0 ≡ false
unfolding of_table
three_up = refl

-- a malformed file prints F 1
pub malformed_case : stated [] ≡ 70 ∷ 32 ∷ 49 ∷ 10 ∷ []
unfolding of_decoder of_printer stated
malformed_case = refl
