-- Small files, evaluated: the definitions compute to what the examples say.
-- Rests on Computes and machine's Computes. Assumes nothing.
use Prim.Native.Nat.{◌+◌, ◌*◌}
use mathlib.Core.Path.{◌≡◌, refl}
use mathlib.Core.Bool.{true, false}
use mathlib.Core.List.{[], ◌∷◌, map}
use lib.ListN.{replicate}
use Rattle.decoder.specs.RunFile.{length_ok, well_formed}
use Rattle.printer.specs.Output.{decimal}
use Rattle.machine.proofs.Computes.{of_sets, of_board}
use Rattle.runfile.specs.Program.{printed}
use Rattle.runfile.specs.Examples.{eight_sites, refused_text, well_formed_files, malformed_files}
use Rattle.runfile.proofs.Computes.{of_decoder, of_printer, of_program}

-- a malformed file prints F 1, a start with 8 sites F 2
pub refused_cases : (printed [] ≡ refused_text 49) × (printed eight_sites ≡ refused_text 50)
unfolding of_board of_program
refused_cases = (refl, refl)

pub well_formed_files_lem : map well_formed well_formed_files ≡ replicate 3 true
unfolding of_sets of_decoder well_formed_files
well_formed_files_lem = refl

pub malformed_files_lem : map well_formed malformed_files ≡ replicate 11 false
unfolding of_sets of_decoder malformed_files
malformed_files_lem = refl

-- 4,096 events are not too many, one more is; a number has no leading zero
pub length_limits : (length_ok (9 + 10 * 4096) ≡ true) × (length_ok (9 + 10 * 4097) ≡ false)
unfolding of_decoder
length_limits = (refl, refl)

pub decimals : map decimal (0 ∷ 9 ∷ 10 ∷ 100 ∷ 4096 ∷ []) ≡ (48 ∷ []) ∷ (57 ∷ []) ∷ (49 ∷ 48 ∷ []) ∷ (49 ∷ 48 ∷ 48 ∷ []) ∷ (52 ∷ 48 ∷ 57 ∷ 54 ∷ []) ∷ []
unfolding of_printer
decimals = refl
