-- What every value of the type Ended is: its records and its log have at most the capacity's numbers, which are bytes. The checker tells it of each parameter.
-- Rests on Lengths. Assumes nothing.
use Prim.Native.Nat.{ℕ, zero, suc, ◌<◌}
use mathlib.Core.Path.{◌≡◌}
use mathlib.Core.List.{List, [], ◌∷◌}
use native.Mathlib.Omega.{arith}
use lib.ListN.{length, length-take, get_or}
use mir.Val.{Val}
use denote.Builtin.{u8}
use denote.RattleType.{RattleType}
use denote.Shadow.{shadow}
use denote.Array.{each, Array}
use denote.Laws.{Is}
use Rattle.sets.specs.Sets.{capacity}
use Rattle.posting.specs.declared.Record.{Record}
use Rattle.posting.specs.Records.{numbers_of}
use Rattle.posting.specs.contracts.Record as record-type
use Rattle.books.specs.declared.Records.{Records}
use Rattle.books.specs.Books.{record_no, no_record}
use Rattle.books.specs.contracts.Records as records-type
use Rattle.printer.specs.declared.Ended.{Ended}
use Rattle.printer.specs.Puts.{most_events}
use Rattle.printer.specs.contracts.Ended as ended-type
use Rattle.printer.proofs.Lengths.{Small, Recorded, Shown, small_take}

-- What holds of every value of a type, and where there is none, holds of each element of an array of them.
each_at : (R : RattleType) (P : R.Denot → Type 0) → ((x : R.Denot) (v : Val) → Is R x (v ∷ []) → P x) → (d : R.Denot) → P d
    → (xs : List R.Denot) (us : List Val) → shadow (each R.Denot R.own_val xs us) → (i : ℕ) → P (get_or xs i d)
each_at R P of d none [] us g i = none
each_at R P of d none (x ∷ xs) [] g i = absurd g
each_at R P of d none (x ∷ xs) (u ∷ us) g zero = of x u g.0
each_at R P of d none (x ∷ xs) (u ∷ us) g (suc i) = each_at R P of d none xs us g.1 i

is_small : (n : ℕ) (l : List ℕ) (vs : List Val) → Is (Array u8 n) l vs → Small l
is_small n l vs g = each_at u8 (λ x. x < 1_000) (λ x v h. let b = h.1 in omega (arith, b)) 0 (omega arith) l g.0 g.1.1

no_record_lem : Recorded (numbers_of no_record)
unfolding numbers_of
no_record_lem = record { few = omega arith; small = λ i. omega arith }

is_record : (r : Record) (vs : List Val) → Is record-type.the_row r vs → Recorded (numbers_of r)
unfolding numbers_of
is_record r vs g =
    let a = g.1.1.1.0 in
    let long : length r.numbers ≡ capacity = a.1.0.1 in
    record {
      few = omega (arith, length-take r.count r.numbers, long);
      small = small_take r.count r.numbers (λ i h. is_small capacity r.numbers _ a i);
    }

is_records : (records : Records) (vs : List Val) → Is records-type.the_row records vs → (p : ℕ) → Recorded (numbers_of (record_no records p))
is_records records vs g =
    each_at record-type.the_row (λ r. Recorded (numbers_of r)) (λ r v h. is_record r _ h) no_record no_record_lem records.sites _ g.1.1.0.1.1

-- answers that are bytes, and what is shown of a board
pub is_shown : (refusals : List ℕ) (e : Ended) (vs : List Val) → length refusals < most_events → ((i : ℕ) → get_or refusals i 0 < 256) → Is ended-type.the_row e vs → Shown refusals e
is_shown refusals e vs h bytes g =
    let f = g.1.1 in
    let n = f.0.1 in
    record {
      events = h;
      refused = λ i. omega (arith, bytes i);
      sites = omega (arith, n);
      records = λ p i. is_records e.records _ f.1.1.0 p;
      log = is_record e.log _ f.1.1.1.0;
    }
