-- The books of a sound board: its records may be posted, the copy of its records, its books from a sheet of zeros, and a law for each return.
-- Rests on SoundTest and on the laws of books. Assumes nothing.
use Prim.Native.Nat.{ℕ, zero, suc, ◌+◌, ◌*◌, ◌<◌, ◌≤◌}
use mathlib.Core.Path.{◌≡◌, refl, sym, ap, ◌∙◌}
use mathlib.Core.Logic.{inl, inr, ◌≢◌}
use mathlib.Core.Bool.{true}
use mathlib.Core.List.{List, [], ◌∷◌, ◌++◌, map, map-append}
use native.Mathlib.Numerals.{add-one}
use native.Mathlib.Omega.{arith}
use lib.Dec.{leb}
use lib.IntN.{ℤ}
use lib.ListN.{length, get_or, set, take, drop, replicate, length-replicate, length-set, length-map, length-append, get_or-map}
use lib.Seq.{take-suc, take-suc-set, take_all}
use borrow.Author.Tests.{lt-leb, lt-ltb, le-ltb}
use Rattle.sets.proofs.Truth.{test}
use Rattle.sets.proofs.MaskLaws.{has_bit_zero}
use Rattle.posting.specs.declared.Table.{Table}
use Rattle.posting.specs.declared.Record.{Record}
use Rattle.posting.specs.Kinds.{accounts}
use Rattle.site.specs.declared.Site.{Site}
use Rattle.site.specs.declared.Setup.{Setup}
use Rattle.site.specs.Sites.{sites, no_site}
use Rattle.arrays.specs.declared.Arrays.{Arrays}
use Rattle.arrays.specs.Arrays.{arrays}
use Rattle.flight.specs.Flights.{cells}
use Rattle.books.specs.declared.Sheet.{Sheet}
use Rattle.books.specs.declared.Records.{Records}
use Rattle.books.specs.Books.{tabulate, blank, books, numbers, numbers_of_sites, sheet_of}
use Rattle.books.specs.Books as of_books
use Rattle.books.specs.Bounds.{Postable}
use Rattle.books.proofs.Lists.{get_d_tabulate}
use Rattle.books.proofs.Blocks.{length_numbers}
use Rattle.books.proofs.Sheets.{blank_figures}
use Rattle.machine.specs.declared.Board.{Board}
use Rattle.machine.specs.declared.Answer.{Answer}
use Rattle.machine.specs.declared.Answer.TheVariants.{Done, Refused}
use Rattle.machine.specs.Boards.{site_at}
use Rattle.machine.specs.Soundness.{is_sound}
use Rattle.steps.specs.CauseLists.{first_cause, site_causes}
use Rattle.machine.specs.Calls.{answer_of}
use Rattle.machine.specs.Figures.{record_of, figures_of, figures_of_all, shown, showing, showing_all}
use Rattle.views.specs.Views.{site_of, row_of, table_of}
use Rattle.machine.specs.View.{view}
use Rattle.views.specs.Views as view_of
use Rattle.machine.proofs.SoundTest.{sound_facts}
use Rattle.machine.proofs.Local.{site_at_lem, site_record}
use Rattle.machine.proofs.ByteStores.{table_same}

-- beside the answer and the slice, the answer's number and values
pub with_answer : {a b : Answer} {s t : List ℤ} → (a ≡ b) × (s ≡ t) → (a ≡ b) × ((s ≡ t) × (answer_of a ≡ answer_of b))
with_answer e = (e.0, (e.1, ap answer_of e.0))

-- ---- what may be posted

-- the record of a site of a sound board: it names postings offered, no more than the capacity, and their fields are within the rule
pub site_may_post : (b : Board) → length b.flight.masks ≡ cells → is_sound b ≡ true → (p : ℕ) → p < b.setup.n
    → Postable b.table (site_at b p).delivered
site_may_post b long sound p h =
    let facts = sound_facts b long sound in
    let delivered = (facts.each_site p h).delivered in
    record { within = delivered.within; lines = delivered.named; rows = facts.fields }

-- ---- the records of the sites

abbrev pub delivered : Site → Record
delivered s = s.delivered

module _ (b : Board) (records : Records) (copy : records.sites ≡ map delivered b.sites) where
  record_is : (p : ℕ) → of_books.record_no records p ≡ (site_at b p).delivered
  record_is p = rw copy (get_or-map delivered b.sites p no_site)

  pub sites_may_post : length b.flight.masks ≡ cells → is_sound b ≡ true → (p : ℕ) → p < b.setup.n → Postable b.table (of_books.record_no records p)
  sites_may_post long sound p h = rw (record_is p) (site_may_post b long sound p h)

-- the first n records of a list of k are those of the sites
abbrev pub Copied : List Site → ℕ → ℕ → List Record → Type 0
Copied ss k n rs = (length rs ≡ k) × (take n rs ≡ take n (map delivered ss))

pub copied_none : (ss : List Site) (k : ℕ) (r : Record) → Copied ss k 0 (replicate k r)
copied_none ss k r = (length-replicate k r, refl)

module _ (ss : List Site) (k : ℕ) (long : length ss ≡ k) where
  pub copied_more : (rs : List Record) (n : ℕ) → n < k → Copied ss k n rs → Copied ss k (n + 1) (set rs n (get_or ss n no_site).delivered)
  copied_more rs n h c =
      let here : n < length rs = omega arith in
      let there : n < length (map delivered ss) = omega (arith, length-map ss delivered) in (
        length-set rs n (get_or ss n no_site).delivered ∙ c.0,
        rw (add-one, take-suc-set rs n (get_or ss n no_site).delivered here, c.1, take-suc (map delivered ss) n (delivered no_site) there, get_or-map delivered ss n no_site),
      )

  pub copied_all : (rs : List Record) (n : ℕ) → n ≡ k → Copied ss k n rs → rs ≡ map delivered ss
  copied_all rs n e c =
      let whole : length rs ≤ n = omega arith in
      let whole-too : length (map delivered ss) ≤ n = omega (arith, length-map ss delivered) in
      sym (take_all n rs whole) ∙ c.1 ∙ take_all n (map delivered ss) whole-too

-- ---- books from a sheet of zeros

all_figures : (b : Board) (records : Records) → records.sites ≡ map delivered b.sites → (n : ℕ) → numbers_of_sites n blank b.table records ≡ figures_of_all b n
unfolding numbers_of_sites figures_of_all figures_of
all_figures b records copy zero = refl
all_figures b records copy (suc n) = rw (record_is b records copy n, all_figures b records copy n)

pub length_all : (b : Board) (n : ℕ) → length (figures_of_all b n) ≡ 64 * n
unfolding figures_of_all figures_of
length_all b zero = refl
length_all b (suc n) =
    let one = books blank b.table (record_of b n) in
    omega (arith, length-append (figures_of_all b n) (numbers one), length_all b n, length_numbers accounts one)

-- ---- what each return of the code gives

module _ (b : Board) (sound : is_sound b ≡ true) (site : ℕ) (out : List ℤ) where
  -- the code's test of the site takes no site for down
  pub no_site_lem : (why : ℕ) → why ≡ first_cause (site_causes b.setup.n 0 site) → why ≢ 0 → (Refused why ≡ (showing b site out).answer) × (out ≡ (showing b site out).slice)
  unfolding first_cause showing shown
  no_site_lem why e d = elim (test (leb b.setup.n site)) [
    | inl t ↦ let k : why ≡ 7 = rw t at e in rw (k, sound, t) (refl, refl)
    | inr f ↦ absurd (d (rw (f, has_bit_zero site) at e))
  ]

  module _ (there : site < b.setup.n) where
    pub no_room : length out < 64 → (Refused 16 ≡ (showing b site out).answer) × (out ≡ (showing b site out).slice)
    unfolding showing shown
    no_room h = rw (sound, lt-leb b.setup.n site there, lt-ltb (length out) 64 h) (refl, refl)

    pub site_shown : 64 ≤ length out → (opening : Sheet) → opening ≡ sheet_of blank → (left : List ℤ)
        → left ≡ numbers (books (of_books.figures_on opening) b.table (record_of b site)) ++ drop 64 out
        → (Done ≡ (showing b site out).answer) × (left ≡ (showing b site out).slice)
    unfolding showing shown figures_of
    site_shown h opening eo left e =
        rw (sound, lt-leb b.setup.n site there, le-ltb (length out) 64 h, length_numbers accounts (books blank b.table (record_of b site)))
        (refl, e ∙ rw (eo, blank_figures))

module _ (b : Board) (sound : is_sound b ≡ true) (out : List ℤ) where
  pub no_room_all : length out < 64 * b.setup.n → (Refused 16 ≡ (showing_all b out).answer) × (out ≡ (showing_all b out).slice)
  unfolding showing_all shown
  no_room_all h = rw (sound, lt-ltb (length out) (64 * b.setup.n) h) (refl, refl)

  pub all_shown : 64 * b.setup.n ≤ length out → (opening : Sheet) → opening ≡ sheet_of blank → (records : Records) → records.sites ≡ map delivered b.sites
      → (left : List ℤ) → left ≡ numbers_of_sites b.setup.n (of_books.figures_on opening) b.table records ++ drop (64 * b.setup.n) out
      → (Done ≡ (showing_all b out).answer) × (left ≡ (showing_all b out).slice)
  unfolding showing_all shown
  all_shown h opening eo records copy left e =
      rw (sound, le-ltb (length out) (64 * b.setup.n) h, length_all b b.setup.n)
      (refl, e ∙ rw (eo, blank_figures, all_figures b records copy b.setup.n))

-- ---- a board at work

map_table : {A B : Type 0} (g : A → B) (n : ℕ) (f : ℕ → A) → map g (tabulate n f) ≡ tabulate n (λ q. g (f q))
unfolding tabulate
map_table g zero f = refl
map_table g (suc n) f = map-append g (tabulate n f) (f n ∷ []) ∙ rw (map_table g n f)

module _ (setup : Setup) (a : Arrays) (sound : is_sound (view setup a) ≡ true) (table : Table) (records : Records)
    (et : table ≡ table_of a) (er : records.sites ≡ tabulate sites (view_of.record_in a)) (out : List ℤ) where
  copied_at : records.sites ≡ map delivered (view setup a).sites
  unfolding view
  copied_at =
      er ∙ table_same sites (λ q. delivered (site_of a q)) (view_of.record_in a) (λ q h. sym (site_record a q)) ∙ sym (map_table delivered sites (site_of a))

  pub all_shown_at :
      64 * setup.n ≤ length out → (opening : Sheet) → opening ≡ sheet_of blank → (left : List ℤ)
      → left ≡ numbers_of_sites setup.n (of_books.figures_on opening) table records ++ drop (64 * setup.n) out
      → (Done ≡ (showing_all (view setup a) out).answer) × (left ≡ (showing_all (view setup a) out).slice)
  unfolding view
  all_shown_at h opening eo left e = all_shown (view setup a) sound out h opening eo records copied_at left (e ∙ rw et)

-- what the books of a board at work need of its soundness
pub may_post_at :
    (setup : Setup) (a : Arrays) → length a.masks ≡ cells → is_sound (view setup a) ≡ true → setup.n ≤ sites → (p : ℕ) → p < setup.n
    → Postable (table_of a) (view_of.record_in a p)
unfolding view table_of row_of view_of.record_in
may_post_at setup a long sound few p h =
    let there : p < sites = omega arith in
    rw (sym (site_record a p), sym (site_at_lem setup a p there)) (site_may_post (view setup a) long sound p h)

-- the same of the table and records taken off
pub post_at :
    (a : Arrays) (table : Table) (records : Records) → table ≡ table_of a → records.sites ≡ tabulate sites (view_of.record_in a) → (p : ℕ) → p < sites
    → Postable (table_of a) (view_of.record_in a p) → Postable table (of_books.record_no records p)
post_at a table records et er p h k = rw (et, er, get_d_tabulate sites (view_of.record_in a) of_books.no_record p h) k

pub no_room_at :
    (setup : Setup) (a : Arrays) → is_sound (view setup a) ≡ true → (out : List ℤ) → length out < 64 * setup.n
    → (Refused 16 ≡ (showing_all (view setup a) out).answer) × (out ≡ (showing_all (view setup a) out).slice)
unfolding view
no_room_at setup a sound out h = no_room_all (view setup a) sound out h
