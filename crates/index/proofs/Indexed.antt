-- Where the index is right, C(m) read from it is conflict_set; and the index stays right.
-- conflicts_right: C(m); indexed_offer: a posting more; long_indexed, slot_indexed_other: what that leaves; indexed_empty: nothing
-- offered. Rests on Index, arrays' Slots and posting's conflicts. Assumes nothing.
use Prim.Native.Nat.{ℕ, zero, suc, ◌+◌, ◌<◌, ◌≤◌}
use mathlib.Core.Path.{◌≡◌, refl, sym, ap, ◌∙◌}
use mathlib.Core.Logic.{◌⊎◌, inl, inr, ◌≢◌}
use mathlib.Core.Bool.{Bool, true, false, cond, not, ◌&&◌, ◌||◌, or-false, and-false}
use mathlib.Core.List.{List}
use native.Mathlib.Omega.{arith}
use native.Mathlib.Numerals.{add-one}
use native.Mathlib.Decide.{dec_lt, ℕ_discrete}
use lib.Dec.{eqb, ltb}
use lib.ListN.{length}
use lib.Seq.{get_or-set_same, get_or-set_other}
use borrow.Author.Tests.{eq-eqb, ne_eqb, lt-ltb, le-ltb, le-leb, lt-leb, eqb-true, eqb-false}
use Rattle.sets.specs.declared.Set.{Set}
use Rattle.sets.proofs.Truth.{test, or_right}
use Rattle.sets.proofs.WordLaws.{member_empty, member_union, member_insert, same_members, union_shape, insert_shape, empty_shape}
use Rattle.sets.specs.Sets.{words, capacity, of_words, empty_set, has, with, Shape}
use Rattle.posting.specs.declared.Posting.{Posting}
use Rattle.posting.specs.declared.Table.{Table}
use Rattle.posting.specs.Kinds.{kinds, accounts, net_of_all, nets_all, accounts_ok, matrix_entry}
use Rattle.posting.proofs.KindLaws.{named_accounts}
use Rattle.posting.specs.Conflicts.{no_posting, row, offered_by, offered, table_with, touches, shares, conflicting, conflict, conflict_set}
use Rattle.posting.specs.Touched.{touches_some, every_row, stands_in}
use Rattle.posting.proofs.ConflictLaws.{touches_account, touches_all, touches_named, shares_fields, shares_all, has_conflict_set, conflict_set_shape}
use Rattle.arrays.specs.Layout.{shown_slots, index_rows, kind_slots, sets_long, kind_of, kind_at, from_at, into_at}
use Rattle.arrays.specs.Arrays.{slot_set, adding, byte}
use Rattle.arrays.proofs.Slots.{long_added, slot_added_other, has_added, shape_added}
use Rattle.index.specs.Index.{row_for, joined_if, kinds_to, conflicts_in, entered_to, indexing, Indexed}

-- ---- truth values

or_same : (b : Bool) → (b || b) ≡ b
or_same true = refl
or_same false = refl

-- what joins by either of two rows
gathered : (o a b e d : Bool) → ((o || ((a && e) && d)) || ((b && e) && d)) ≡ (o || (((a || b) && e) && d))
gathered true a b e d = refl
gathered false false b e d = refl
gathered false true false e d = or-false (e && d)
gathered false true true e d = or_same (e && d)

turn_here :
    (o a b e : Bool)
    → (((o && ((a || b) && (e && false))) || (e && (o && (a && true)))) || (e && (o && (b && true)))) ≡ (o && ((a || b) && (e && true)))
turn_here false a b false = refl
turn_here false a b true = refl
turn_here true false false false = refl
turn_here true false false true = refl
turn_here true false true false = refl
turn_here true false true true = refl
turn_here true true false false = refl
turn_here true true false true = refl
turn_here true true true false = refl
turn_here true true true true = refl

lost : (e o a : Bool) → (e && (o && (a && false))) ≡ false
lost e o a = rw (and-false a, and-false o) (and-false e)

last : (o a e d : Bool) → ((o && (a && (e && true))) || d) ≡ ((o && (not d && (a && e))) || d)
last false a e d = refl
last true false e true = refl
last true false e false = refl
last true true false true = refl
last true true false false = refl
last true true true true = refl
last true true true false = refl

-- ---- numbers

-- below n, or n itself
below_other : (x n : ℕ) → x ≢ n → ltb x n ≡ ltb x (suc n)
below_other x n d = elim (dec_lt x n) [
  | yes b ↦ lt-ltb x n b ∙ sym (lt-ltb x (suc n) (omega arith))
  | no b ↦ le-ltb x n (omega arith) ∙ sym (le-ltb x (suc n) (omega arith))
]

below_next : (x n : ℕ) → (ltb x n || eqb x n) ≡ ltb x (suc n)
below_next x n = elim (ℕ_discrete x n) [
  | yes e ↦ rw (le-ltb x n (omega arith), eq-eqb x n e) (sym (lt-ltb x (suc n) (omega arith)))
  | no d ↦ rw (ne_eqb x n d) (or-false (ltb x n) ∙ below_other x n d)
]

-- ---- rows

untouched : (q : Posting) (account : ℕ) → accounts ≤ account → touches q account ≡ false
untouched q account b = elim (test (touches q account)) [
  | inl y ↦ absurd (let c = touches_account q account y in omega (arith, c))
  | inr n ↦ n
]

-- the row of an account holds what touches it, and what is no account has none
stands_account : (q : Posting) (account : ℕ) → stands_in q (row_for false account) ≡ touches q account
unfolding stands_in row_for
stands_account q account = elim (dec_lt account accounts) [
  | yes b ↦ rw (lt-ltb account accounts b, ne_eqb account every_row (omega arith))
  | no b ↦ rw (le-ltb account accounts (omega arith)) (untouched q index_rows (omega arith) ∙ sym (untouched q account (omega arith)))
]

-- the rows of p's accounts hold what shares an account with p
stands_shares : (p q : Posting) → (stands_in q (row_for (nets_all p) p.a) || stands_in q (row_for (nets_all p) p.b)) ≡ shares p q
unfolding stands_in row_for
stands_shares p q = elim (test (nets_all p)) [
  | inl all ↦ rw all (every p.a p.b) ∙ sym (shares_all p q all)
  | inr named ↦ rw (named, stands_account q p.a, stands_account q p.b) (sym (shares_fields p q named))
]
  where
    every : (a b : ℕ) → (stands_in q (row_for true a) || stands_in q (row_for true b)) ≡ touches_some q
    every a b = or_same (touches_some q)

-- ---- the sets of some kinds joined

module _ (ws : List ℕ) (t : Table) (right : Indexed ws t) where
  module _ (x : ℕ) (hx : x < capacity) where
    abbrev o : Bool
    o = offered t x

    abbrev q : Posting
    q = row t x

    joined : (s : Set) (line k : ℕ) (so : Bool) → k < kinds → has (joined_if s ws line k so) x ≡ (has s x || (so && (o && (stands_in q line && eqb q.kind k))))
    unfolding joined_if stands_in
    joined s line k false h = sym (or-false (has s x))
    joined s line k true h = elim (dec_lt line index_rows) [
      | yes b ↦
          rw (lt-leb index_rows line b)
          (member_union s.words (slot_set ws (kind_of line k)).words x ∙ ap (λ (v : Bool). has s x || v) (right.lists line k x b h hx))
      | no b ↦ rw (le-leb index_rows line (omega arith), none line (omega arith), and-false o) (sym (or-false (has s x)))
    ]
      where
        none : (line : ℕ) → index_rows ≤ line → stands_in q line ≡ false
        none line b = rw (ne_eqb line every_row (omega arith)) (untouched q line (omega arith))

    module _ (matrix kind a b : ℕ) where
      abbrev e : ℕ → Bool
      e k = matrix_entry matrix kind k

      abbrev found : ℕ → Bool
      found n = o && ((stands_in q a || stands_in q b) && (e q.kind && ltb q.kind n))

      kinds_has : (n : ℕ) → n ≤ kinds → has (kinds_to ws matrix kind a b n) x ≡ found n
      unfolding kinds_to
      kinds_has zero h = member_empty words x ∙ sym (rw (le-ltb q.kind 0 (omega arith)) (lost o (stands_in q a || stands_in q b) (e q.kind)))
      kinds_has (suc n) h =
          joined _ b n (e n) (omega arith)
          ∙ ap (λ (v : Bool). v || (e n && (o && (stands_in q b && eqb q.kind n))))
          (joined _ a n (e n) (omega arith) ∙ ap (λ (v : Bool). v || (e n && (o && (stands_in q a && eqb q.kind n)))) (kinds_has n (omega arith)))
          ∙ by_kind (test (eqb q.kind n))
        where
          by_kind :
              (eqb q.kind n ≡ true) ⊎ (eqb q.kind n ≡ false)
              → ((found n || (e n && (o && (stands_in q a && eqb q.kind n)))) || (e n && (o && (stands_in q b && eqb q.kind n)))) ≡ found (suc n)
          by_kind (inl y) =
              let k : q.kind ≡ n = eqb-true q.kind n y in
              rw (y, le-ltb q.kind n (omega arith), lt-ltb q.kind (suc n) (omega arith), ap e (sym k))
              (turn_here o (stands_in q a) (stands_in q b) (e q.kind))
          by_kind (inr y) =
              let d : q.kind ≢ n = eqb-false q.kind n y in
              rw (y, lost (e n) o (stands_in q a), lost (e n) o (stands_in q b))
              (or-false (found n || false) ∙ or-false (found n)
              ∙ ap (λ (v : Bool). o && ((stands_in q a || stands_in q b) && (e q.kind && v))) (below_other q.kind n d))

      -- what is no kind is in no slot
      kinds_all : found kinds ≡ (o && ((stands_in q a || stands_in q b) && (e q.kind && true)))
      unfolding matrix_entry
      kinds_all = elim (test (ltb q.kind kinds)) [
        | inl y ↦ rw y refl
        | inr n ↦ rw (n, and-false (ltb kind kinds)) refl
      ]

  module _ (matrix kind a b : ℕ) where
    kinds_shape : (n : ℕ) → n ≤ kinds → Shape (kinds_to ws matrix kind a b n)
    unfolding kinds_to joined_if
    kinds_shape zero h = empty_shape words
    kinds_shape (suc n) h =
        let so = matrix_entry matrix kind n in
        let s = kinds_to ws matrix kind a b n in
        shaped (joined_if s ws a n so) b n so (omega arith) (shaped s a n so (omega arith) (kinds_shape n (omega arith)))
      where
        shaped : (s : Set) (line k : ℕ) (so : Bool) → k < kinds → Shape s → Shape (joined_if s ws line k so)
        shaped s line k false h u = u
        shaped s line k true h u = elim (dec_lt line index_rows) [
          | yes b ↦ rw (lt-leb index_rows line b) (union_shape s.words (slot_set ws (kind_of line k)).words u (right.shape line k b h))
          | no b ↦ rw (le-leb index_rows line (omega arith)) u
        ]

-- ---- C(m)

eqb_turned : (m x : ℕ) → eqb m x ≡ eqb x m
eqb_turned m x = elim (test (eqb m x)) [
  | inl y ↦ y ∙ sym (eq-eqb x m (sym (eqb-true m x y)))
  | inr n ↦ n ∙ sym (ne_eqb x m (λ s. eqb-false m x n (sym s)))
]

module _ (ws : List ℕ) (t : Table) (right : Indexed ws t) (matrix m : ℕ) (hm : m < capacity) where
  abbrev p : Posting
  p = row t m

  abbrev first : ℕ
  first = row_for (nets_all p) p.a

  abbrev second : ℕ
  second = row_for (nets_all p) p.b

  shape : Shape (kinds_to ws matrix p.kind first second kinds)
  shape = kinds_shape ws t right matrix p.kind first second kinds (omega arith)

  agree :
      (x : ℕ)
      → let q = row t x in ((offered t x && ((stands_in q first || stands_in q second) && (matrix_entry matrix p.kind q.kind && true))) || eqb x m)
      ≡ (offered t x && conflict matrix t m x || eqb x m)
  unfolding conflict conflicting
  agree x =
      let q = row t x in
      last (offered t x) (stands_in q first || stands_in q second) (matrix_entry matrix p.kind q.kind) (eqb x m)
      ∙ rw (← eqb_turned m x, stands_shares p q) refl

  of_row : with (kinds_to ws matrix p.kind first second kinds) m ≡ conflict_set matrix t m
  of_row =
      ap of_words
      (same_members _ _ (insert_shape _ m shape) (conflict_set_shape matrix t m)
      (λ x b. member_insert _ m x (omega (arith, shape.long))
      ∙ ap (λ (v : Bool). v || eqb x m)
      (kinds_has ws t right x b matrix p.kind first second kinds (omega arith) ∙ kinds_all ws t right x b matrix p.kind first second)
      ∙ agree x ∙ sym (has_conflict_set matrix t m x b)))

-- the index is right, and the bytes of m are its row's
pub conflicts_right :
    (ws bs : List ℕ) (t : Table) → Indexed ws t → (matrix m : ℕ) → m < capacity
    → byte bs (kind_at m) ≡ (row t m).kind → byte bs (from_at m) ≡ (row t m).a → byte bs (into_at m) ≡ (row t m).b
    → conflicts_in ws bs matrix m ≡ conflict_set matrix t m
unfolding conflicts_in
conflicts_right ws bs t right matrix m h k a b = rw (k, a, b) (of_row ws t right matrix m h)

-- ---- a posting more

-- two slots of accounts and kinds are one if the accounts and the kinds are
same_slot : (a k c j : ℕ) → k < 4 → j < 4 → eqb (kind_of a k) (kind_of c j) ≡ (eqb c a && eqb k j)
same_slot a k c j h i = elim (ℕ_discrete c a) [
  | yes e ↦ elim (ℕ_discrete k j) [
    | yes f ↦ rw (eq-eqb c a e, eq-eqb k j f) (eq-eqb (kind_of a k) (kind_of c j) (omega arith))
    | no d ↦ rw (eq-eqb c a e, ne_eqb k j d) (ne_eqb (kind_of a k) (kind_of c j) (λ s. d (omega arith)))
  ]
  | no d ↦ rw (ne_eqb c a d) (ne_eqb (kind_of a k) (kind_of c j) (λ s. d (omega arith)))
]

-- ---- a posting that nets every account, in every row

module _ (ws : List ℕ) (m kind : ℕ) where
  long_entered : (n : ℕ) → length (entered_to ws m kind n) ≡ length ws
  unfolding entered_to
  long_entered zero = refl
  long_entered (suc n) = long_added (entered_to ws m kind n) (kind_of n kind) m ∙ long_entered n

  slot_entered_other :
      m < capacity → (other n : ℕ) → ((line : ℕ) → line < n → kind_of line kind ≢ other)
      → slot_set (entered_to ws m kind n) other ≡ slot_set ws other
  unfolding entered_to
  slot_entered_other hm other zero apart = refl
  slot_entered_other hm other (suc n) apart =
      slot_added_other (entered_to ws m kind n) (kind_of n kind) m hm other (apart n (omega arith))
      ∙ slot_entered_other hm other n (λ line h. apart line (omega arith))

  module _ (hm : m < capacity) (hk : kind < kinds) (long : length ws ≡ sets_long) (line k : ℕ) (hl : k < kinds) where
    has_entered :
        (n x : ℕ) → n ≤ index_rows
        → has (slot_set (entered_to ws m kind n) (kind_of line k)) x ≡ (has (slot_set ws (kind_of line k)) x || ((ltb line n && eqb kind k) && eqb x m))
    unfolding entered_to
    has_entered zero x h = rw (le-ltb line 0 (omega arith)) (sym (or-false (has (slot_set ws (kind_of line k)) x)))
    has_entered (suc n) x h =
        has_added (entered_to ws m kind n) (kind_of n kind) m hm (omega arith) (long_entered n ∙ long) (kind_of line k) x
        ∙ rw (has_entered n x (omega arith), same_slot n kind line k hk hl)
        (gathered (has (slot_set ws (kind_of line k)) x) (ltb line n) (eqb line n) (eqb kind k) (eqb x m)
        ∙ ap (λ (v : Bool). has (slot_set ws (kind_of line k)) x || ((v && eqb kind k) && eqb x m)) (below_next line n))

    shape_entered : (n : ℕ) → n ≤ index_rows → Shape (slot_set ws (kind_of line k)) → Shape (slot_set (entered_to ws m kind n) (kind_of line k))
    unfolding entered_to
    shape_entered zero h u = u
    shape_entered (suc n) h u =
        shape_added (entered_to ws m kind n) (kind_of n kind) m hm (omega arith) (long_entered n ∙ long) (kind_of line k) (shape_entered n (omega arith) u)

-- ---- any posting

module _ (ws : List ℕ) (t : Table) (right : Indexed ws t) (long : length ws ≡ sets_long) (p : Posting) (room : t.count < capacity)
    (rows : length t.rows ≡ capacity) (kind : p.kind < kinds) (ok : accounts_ok p.kind p.a p.b ≡ true) where
  abbrev m : ℕ
  m = t.count

  abbrev after : List ℕ
  after = indexing ws m p.kind p.a p.b

  -- in the row of account a; in that of b, too
  abbrev one : List ℕ
  one = adding ws (kind_of p.a p.kind) m

  abbrev two : List ℕ
  two = adding one (kind_of p.b p.kind) m

  long_one : length one ≡ sets_long
  long_one = long_added ws (kind_of p.a p.kind) m ∙ long

  long_two : length two ≡ sets_long
  long_two = long_added one (kind_of p.b p.kind) m ∙ long_one

  new_here : (x : ℕ) → x ≡ m → row (table_with t p) x ≡ p
  unfolding row
  new_here x e = rw e (get_or-set_same t.rows m p no_posting (omega arith))

  new_other : (x : ℕ) → x ≢ m → row (table_with t p) x ≡ row t x
  unfolding row
  new_other x d = get_or-set_other t.rows m x p no_posting d

  offered_here : (x : ℕ) → x ≡ m → offered (table_with t p) x ≡ true
  unfolding offered offered_by
  offered_here x e = rw (lt-ltb x (m + 1) (omega arith), lt-ltb x capacity (omega arith))

  not_before : (x : ℕ) → x ≡ m → offered t x ≡ false
  unfolding offered offered_by
  not_before x e = rw (le-ltb x m (omega arith))

  offered_other : (x : ℕ) → x ≢ m → offered (table_with t p) x ≡ offered t x
  unfolding offered offered_by
  offered_other x d = rw (add-one) (ap (λ (v : Bool). v && ltb x capacity) (sym (below_other x m d)))

  module _ (line k : ℕ) (hl : line < index_rows) (hk : k < kinds) where
    abbrev old : ℕ → Bool
    old x = has (slot_set ws (kind_of line k)) x

    -- the rows that p stands in get m
    has_new : (x : ℕ) → has (slot_set after (kind_of line k)) x ≡ (old x || ((stands_in p line && eqb p.kind k) && eqb x m))
    unfolding indexing stands_in touches_some
    has_new x = elim (test (nets_all p)) [ inl all ↦ every all | inr named ↦ some named (named_accounts p.kind p.a p.b ok named) ]
      where
        every : nets_all p ≡ true → has (slot_set after (kind_of line k)) x ≡ (old x || ((stands_in p line && eqb p.kind k) && eqb x m))
        every all =
            let entered : has (slot_set after (kind_of line k)) x ≡ (old x || ((ltb line index_rows && eqb p.kind k) && eqb x m)) =
            rw all (has_entered ws m p.kind room kind long line k hk index_rows x (omega arith)) in
            entered ∙ ap (λ (v : Bool). old x || ((v && eqb p.kind k) && eqb x m)) (lt-ltb line index_rows hl ∙ sym (stands (ℕ_discrete line every_row)))
          where
            stands : Dec (line ≡ every_row) → cond (eqb line every_row) (touches_some p) (touches p line) ≡ true
            stands (yes y) = rw (eq-eqb line every_row y, all) refl
            stands (no d) = rw (ne_eqb line every_row d) (touches_all p line all (omega arith))

        some : nets_all p ≡ false → (p.a < accounts) × (p.b < accounts)
            → has (slot_set after (kind_of line k)) x ≡ (old x || ((stands_in p line && eqb p.kind k) && eqb x m))
        some named h =
            let ha = h.0 in
            let hb = h.1 in
            rw named (
            has_added two (kind_of every_row p.kind) m room (omega arith) long_two (kind_of line k) x
            ∙ rw (
              has_added one (kind_of p.b p.kind) m room (omega arith) long_one (kind_of line k) x,
              has_added ws (kind_of p.a p.kind) m room (omega arith) long (kind_of line k) x,
              same_slot p.a p.kind line k kind hk,
              same_slot p.b p.kind line k kind hk,
              same_slot every_row p.kind line k kind hk,
            )
            (ap (λ (v : Bool). v || ((eqb line every_row && eqb p.kind k) && eqb x m))
            (gathered (old x) (eqb line p.a) (eqb line p.b) (eqb p.kind k) (eqb x m))
            ∙ gathered (old x) (eqb line p.a || eqb line p.b) (eqb line every_row) (eqb p.kind k) (eqb x m)))
            ∙ ap (λ (v : Bool). old x || ((v && eqb p.kind k) && eqb x m)) (stands (ℕ_discrete line every_row))
          where
            stands : Dec (line ≡ every_row) → ((eqb line p.a || eqb line p.b) || eqb line every_row) ≡ cond (eqb line every_row) (touches_some p) (touches p line)
            stands (yes y) =
                rw (eq-eqb line every_row y, named, lt-ltb p.a accounts h.0) (or_right (eqb line p.a || eqb line p.b) true refl)
            stands (no d) =
                rw (ne_eqb line every_row d, touches_named p line named, lt-ltb line accounts (omega arith))
                (or-false (eqb line p.a || eqb line p.b))

    lists_new :
        (x : ℕ) → x < capacity
        → has (slot_set after (kind_of line k)) x
        ≡ (offered (table_with t p) x && (stands_in (row (table_with t p) x) line && eqb (row (table_with t p) x).kind k))
    lists_new x hx = has_new x ∙ elim (ℕ_discrete x m) [
      | yes e ↦
          rw (right.lists line k x hl hk hx, not_before x e, offered_here x e, new_here x e, eq-eqb x m e)
          (alone (stands_in p line) (eqb p.kind k))
      | no d ↦
          rw (ne_eqb x m d, and-false (stands_in p line && eqb p.kind k), offered_other x d, new_other x d)
          (or-false (old x) ∙ right.lists line k x hl hk hx)
    ]
      where
        alone : (a e : Bool) → (false || ((a && e) && true)) ≡ (true && (a && e))
        alone true true = refl
        alone true false = refl
        alone false e = refl

    shape_new : Shape (slot_set after (kind_of line k))
    unfolding indexing
    shape_new = elim (test (nets_all p)) [
      | inl all ↦ rw all (shape_entered ws m p.kind room kind long line k hk index_rows (omega arith) (right.shape line k hl hk))
      | inr named ↦ rw named (some (named_accounts p.kind p.a p.b ok named))
    ]
      where
        some : (p.a < accounts) × (p.b < accounts) → Shape (slot_set (adding two (kind_of every_row p.kind) m) (kind_of line k))
        some h =
            let ha = h.0 in
            let hb = h.1 in
            shape_added two (kind_of every_row p.kind) m room (omega arith) long_two (kind_of line k)
            (shape_added one (kind_of p.b p.kind) m room (omega arith) long_one (kind_of line k)
            (shape_added ws (kind_of p.a p.kind) m room (omega arith) long (kind_of line k) (right.shape line k hl hk)))

pub indexed_offer :
    {ws : List ℕ} {t : Table} → Indexed ws t → length ws ≡ sets_long → (p : Posting) → t.count < capacity → length t.rows ≡ capacity
    → p.kind < kinds → accounts_ok p.kind p.a p.b ≡ true → Indexed (indexing ws t.count p.kind p.a p.b) (table_with t p)
indexed_offer {ws} {t} right long p room rows kind ok =
    record {
      shape = λ line k hl hk. shape_new ws t right long p room rows kind ok line k hl hk;
      lists = λ line k x hl hk hx. lists_new ws t right long p room rows kind ok line k hl hk x hx;
    }

-- the slots that hold no postings by row and kind
module _ (ws : List ℕ) (m kind a b : ℕ) where
  pub long_indexed : length (indexing ws m kind a b) ≡ length ws
  unfolding indexing
  long_indexed = elim (test (net_of_all kind a b)) [
    | inl all ↦ rw all (long_entered ws m kind index_rows)
    | inr named ↦
        rw named
        (long_added (adding (adding ws (kind_of a kind) m) (kind_of b kind) m) (kind_of every_row kind) m
        ∙ long_added (adding ws (kind_of a kind) m) (kind_of b kind) m ∙ long_added ws (kind_of a kind) m)
  ]

  pub slot_indexed_other :
      m < capacity → kind < kinds → accounts_ok kind a b ≡ true → (other : ℕ) → (other < shown_slots) ⊎ (shown_slots + kind_slots ≤ other)
      → slot_set (indexing ws m kind a b) other ≡ slot_set ws other
  unfolding indexing
  slot_indexed_other hm hk ok other out = elim (test (net_of_all kind a b)) [
    | inl all ↦ rw all (slot_entered_other ws m kind hm other index_rows (λ line h. apart line h out))
    | inr named ↦ rw named (some (named_accounts kind a b ok named))
  ]
    where
      apart : (line : ℕ) → line < index_rows → (other < shown_slots) ⊎ (shown_slots + kind_slots ≤ other) → kind_of line kind ≢ other
      apart line h (inl l) = λ e. absurd (omega arith)
      apart line h (inr l) = λ e. absurd (omega arith)

      some : (a < accounts) × (b < accounts)
          → slot_set (adding (adding (adding ws (kind_of a kind) m) (kind_of b kind) m) (kind_of every_row kind) m) other ≡ slot_set ws other
      some h =
          slot_added_other (adding (adding ws (kind_of a kind) m) (kind_of b kind) m) (kind_of every_row kind) m hm other (apart every_row (omega arith) out)
          ∙ slot_added_other (adding ws (kind_of a kind) m) (kind_of b kind) m hm other (apart b (omega (arith, h.1)) out)
          ∙ slot_added_other ws (kind_of a kind) m hm other (apart a (omega (arith, h.0)) out)

-- ---- nothing offered

pub indexed_empty :
    (ws : List ℕ) (t : Table) → ((line k : ℕ) → line < index_rows → k < kinds → slot_set ws (kind_of line k) ≡ empty_set) → t.count ≡ 0 → Indexed ws t
unfolding offered offered_by
indexed_empty ws t e none =
    record {
      shape = λ line k hl hk. rw (e line k hl hk) (empty_shape words);
      lists = λ line k x hl hk hx. rw (e line k hl hk, le-ltb x t.count (omega arith)) (member_empty words x);
    }
