-- The loop over the sites: what holds after p records, one record more, and the answer.
-- Rests on Loop. Assumes nothing.
use Prim.Native.Nat.{ℕ, ◌+◌, ◌-◌, ◌<◌, ◌≤◌}
use mathlib.Core.Path.{◌≡◌, refl, sym, ◌∙◌, subst}
use mathlib.Core.Bool.{Bool, true, false}
use mathlib.Core.List.{List}
use native.Mathlib.Omega.{arith}
use native.Mathlib.Decide.{ℕ_discrete}
use native.Mathlib.Numerals.{add-one}
use lib.ListN.{length, get_or, replicate, length-replicate}
use Rattle.posting.specs.declared.Table.{Table}
use Rattle.audit_rule.specs.Audit.{joined}
use Rattle.audit_rule.specs.Handed.{start_of, record_of}
use Rattle.audit_rule.proofs.Handed.{part_length, part_at}
use Rattle.audit_reading.specs.Kept.{classes, Rows, Known, NotedIn, Readable, ReadSays, AtMost}
use Rattle.audit_reading.specs.Sites.{site_ok, Auditable, FirstUnfit}
use Rattle.audit_reading.proofs.Loop.{zeros_at}

module _ (matrix : ℕ) (kinds firsts seconds lines ends places₀ ahead₀ : List ℕ) where
  pub record Touring (places ahead totals : List ℕ) (seen p : ℕ) : Type 0 where
    pub below : p ≤ length ends
    pub same_places : length places ≡ length places₀
    pub same_ahead : length ahead ≡ length ahead₀
    pub full : length totals ≡ classes
    pub few : seen ≤ start_of ends p
    pub most : AtMost totals seen
    pub notes : (t : Table) → Rows t kinds firsts seconds (length kinds) → NotedIn t (joined (record_of lines ends) p) places seen totals ahead
    pub fit : (t : Table) → Rows t kinds firsts seconds (length kinds) → (q j : ℕ) → q < p → j < length (record_of lines ends q) → site_ok matrix t lines ends q j ≡ true

module _ {matrix : ℕ} {kinds firsts seconds lines ends places₀ ahead₀ : List ℕ} (ok : Auditable kinds firsts seconds lines ends places₀ ahead₀) where
  pub tour_start : Touring matrix kinds firsts seconds lines ends places₀ ahead₀ places₀ ahead₀ (replicate classes 0) 0 0
  tour_start = record {
    below = omega arith;
    same_places = refl;
    same_ahead = refl;
    full = length-replicate {A = ℕ} classes 0;
    few = omega arith;
    most = λ c. let z = zeros_at classes c in omega (arith, z);
    notes = λ t rows. record {
      placed = λ x m. absurd m;
      unplaced = λ x h. ok.unread x;
      most = λ x. let z = ok.unread x in omega (arith, z);
      lower = λ x y m. absurd m;
      first = λ x y m. absurd m;
      totals = λ c. zeros_at classes c;
      counted = λ y c m. absurd m;
    };
    fit = λ t rows q j h. absurd (omega (arith, h));
  }

  module _ {places ahead totals : List ℕ} {seen p : ℕ} (g : Touring matrix kinds firsts seconds lines ends places₀ ahead₀ places ahead totals seen p) (more : p < length ends) where
    ordered : start_of ends p ≤ get_or ends p 0
    ordered = ok.rising p more

    inside : get_or ends p 0 ≤ length lines
    inside = ok.within p more

    long : length (record_of lines ends p) ≡ get_or ends p 0 - start_of ends p
    long = part_length (start_of ends p) (get_or ends p 0) lines inside

    pub tour_readable : Readable kinds firsts seconds (record_of lines ends p) places ahead totals seen
    tour_readable = let n = long in record {
      known = λ i h.
          let e = part_at (start_of ends p) (get_or ends p 0) lines i (omega (arith, h, n)) in
          let k = subst (Known kinds firsts seconds places₀ ahead₀) (sym e) (ok.known (start_of ends p + i) (omega (arith, h, n, inside))) in
          record {
            in_kinds = k.in_kinds;
            in_firsts = k.in_firsts;
            in_seconds = k.in_seconds;
            in_places = omega (arith, k.in_places, g.same_places);
            in_ahead = omega (arith, k.in_ahead, g.same_ahead);
            kind_below = k.kind_below;
            accounts_are_ok = k.accounts_are_ok;
          };
      few = omega (arith, n, g.few, inside, ok.few, ordered);
      most = g.most;
      full = g.full;
    }

    module _ {places' ahead' totals' : List ℕ} {fits : Bool} {line seen' : ℕ}
        (says : ReadSays matrix kinds firsts seconds (record_of lines ends p) places seen totals ahead fits line places' seen' totals' ahead') where
      pub tour_next : fits ≡ true → length places' ≡ length places → length ahead' ≡ length ahead
          → (seen' ≤ seen + length (record_of lines ends p)) × AtMost totals' seen' × (length totals' ≡ classes) → Touring matrix kinds firsts seconds lines ends places₀ ahead₀ places' ahead' totals' seen' (p + 1)
      tour_next u lp la num = let n = long in record {
        below = omega (arith, more);
        same_places = lp ∙ g.same_places;
        same_ahead = la ∙ g.same_ahead;
        full = num.2;
        few = rw (add-one p) (omega (arith, num.0, n, g.few, ordered));
        most = num.1;
        notes = λ t rows. rw (add-one p) ((says t (joined (record_of lines ends) p) rows (g.notes t rows)).0 u).notes;
        fit = λ t rows q j h l. elim (ℕ_discrete q p) [
          | yes e ↦ rw e (((says t (joined (record_of lines ends) p) rows (g.notes t rows)).0 u).fit j (rw e at l))
          | no d ↦ g.fit t rows q j (omega (arith, h, d)) l
        ];
      }

      pub tour_breaks : fits ≡ false → (t : Table) → Rows t kinds firsts seconds (length kinds) → FirstUnfit matrix t lines ends p line
      tour_breaks f t rows =
          let b = (says t (joined (record_of lines ends) p) rows (g.notes t rows)).1 f in
          record {
            site_below = more;
            line_below = b.within;
            before = g.fit t rows;
            over = λ j h. b.fit j h;
            breaks = b.breaks;
          }
