-- The books of a site of a board reached: what its record names is within the field rule, so its sums come to 0 and its figures are bounded.
-- Rests on invariants and on the laws of books. Assumes nothing.
use Prim.Native.Nat.{ℕ, ◌+◌, ◌<◌, ◌≤◌}
use mathlib.Core.Path.{◌≡◌}
use native.Mathlib.Omega.{arith}
use lib.IntN.{pos}
use lib.ListN.{length, get_or, length-take}
use lib.Seq.{get_or-take}
use Rattle.sets.specs.Sets.{capacity}
use Rattle.posting.specs.declared.Record.{Record}
use Rattle.posting.proofs.KindLaws.{fields}
use Rattle.posting.specs.Conflicts.{row}
use Rattle.posting.specs.Records.{numbers_of}
use Rattle.books.specs.Books.{blank, books, total}
use Rattle.books.specs.Bounds.{Room}
use Rattle.books.proofs.Bounds.{room}
use Rattle.books.proofs.Lines.{Lawful, books_balance, books_after}
use Rattle.machine.specs.declared.Board.{Board}
use Rattle.machine.specs.Boards.{site_at}
use Rattle.machine.specs.Figures.{record_of}
use Rattle.machine.proofs.SoundFacts.{RecordSound}
use Rattle.invariants.proofs.Reached.{Good}

module _ (b : Board) (good : Good b) (p : ℕ) (there : p < b.setup.n) where
  abbrev delivered : Record
  delivered = (site_at b p).delivered

  sound : RecordSound b.table delivered
  sound = (good.sound.each_site p there).delivered

  lawful : Lawful b.table (record_of b p)
  unfolding numbers_of
  lawful i below =
      let here : i < delivered.count = omega (arith, length-take delivered.count delivered.numbers) in
      let m = get_or delivered.numbers i 0 in
      rw (get_or-take delivered.count delivered.numbers i 0 here) (fields (row b.table m) (good.sound.fields m (sound.named i here)))

  few : length (record_of b p) ≤ capacity
  unfolding numbers_of
  few = omega (arith, length-take delivered.count delivered.numbers, sound.within)

  pub books_zero : total (books blank b.table (record_of b p)) ≡ pos 0
  books_zero = books_balance b.table (record_of b p) lawful

  pub books_room : (k : ℕ) → Room (books blank b.table (record_of b p) k)
  books_room k = room capacity (0 + length (record_of b p)) _ (omega arith) (omega (arith, few))
      (books_after b.table (record_of b p) lawful 0 blank k (record { position = omega arith; rate = omega arith; called = omega arith; settled = omega arith }))
