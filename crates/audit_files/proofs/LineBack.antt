-- A line that was written says its entry again: numbers by their digits, and fields parted by commas.
-- Rests on Written and on printer's Texts. Assumes nothing.
use Prim.Native.Nat.{ℕ, zero, suc, ◌+◌, ◌*◌, ◌-◌, ◌/◌, ◌<◌, ◌≤◌}
use mathlib.Core.Path.{◌≡◌, refl, sym, ap, ◌∙◌}
use mathlib.Core.Logic.{inl, inr, ◌≢◌}
use mathlib.Core.Bool.{true, false}
use mathlib.Core.List.{List, [], ◌∷◌, ◌++◌, append_assoc, append-nil}
use native.Mathlib.Omega.{arith}
use native.Mathlib.Decide.{dec_lt}
use lib.Dec.{eqb}
use lib.ListN.{length}
use borrow.Author.Tests.{le-leb, lt-leb}
use Rattle.broadcast.specs.Lists.{mem}
use Rattle.broadcast.proofs.Tests.{test, eqb_yes, eqb_no, eqb-false, nope}
use Rattle.audit_rule.specs.Audit.{up_to}
use Rattle.audit_rule.specs.Handed.{place_of}
use Rattle.printer.specs.Output.{last_digit, digits, decimal}
use Rattle.printer.proofs.Texts.{decimal_last, decimal_more}
use Rattle.audit_files.specs.declared.Entry.{Entry}
use Rattle.audit_files.specs.Entries.{comma, line_feed, carriage_return, past, is_digit, is_letter, scanned, badly_begun, number_of, kind_of, no_number, most_number, most_account, most_amount, alone, whole, fields_after, entry_of}
use Rattle.audit_files.specs.Written.{kind_word, line_of, Sayable, of_number, of_fields}

-- ---- lists that lack a byte

-- neither the first nor the others
pub lacks_cons : (x z : ℕ) (l : List ℕ) → mem x (z ∷ l) ≡ false → (z ≢ x) × (mem x l ≡ false)
lacks_cons x z l h = elim (test (eqb x z)) [
  | inl t ↦ let m : mem x (z ∷ l) ≡ true = rw t refl in absurd (nope m h)
  | inr f ↦ let m : mem x (z ∷ l) ≡ mem x l = rw f refl in ((λ e. eqb-false x z f (sym e)), sym m ∙ h)
]

pub lacks_join : (x : ℕ) (l m : List ℕ) → mem x l ≡ false → mem x m ≡ false → mem x (l ++ m) ≡ false
lacks_join x [] m h k = k
lacks_join x (z ∷ l) m h k = let c = lacks_cons x z l h in rw (eqb_no x z (λ e. c.0 (sym e))) (lacks_join x l m c.1 k)

pub up_to_none : (x : ℕ) (l : List ℕ) → mem x l ≡ false → up_to x l ≡ l
up_to_none x [] h = refl
up_to_none x (z ∷ l) h = let c = lacks_cons x z l h in rw (eqb_no z x c.0) (ap (λ (r : List ℕ). z ∷ r) (up_to_none x l c.1))

pub past_none : (x : ℕ) (l : List ℕ) → mem x l ≡ false → past x l ≡ []
unfolding past place_of
past_none x [] h = refl
past_none x (z ∷ l) h = let c = lacks_cons x z l h in rw (eqb_no z x c.0) (past_none x l c.1)

-- parts of a list around its first such byte
module _ (x : ℕ) (m : List ℕ) where
  pub has_first : (l : List ℕ) → mem x (l ++ (x ∷ m)) ≡ true
  has_first [] = rw (eqb_yes x x refl)
  has_first (z ∷ l) = elim (test (eqb x z)) [ inl t ↦ rw t | inr f ↦ rw f (has_first l) ]

  pub up_to_first : (l : List ℕ) → mem x l ≡ false → up_to x (l ++ (x ∷ m)) ≡ l
  up_to_first [] h = rw (eqb_yes x x refl)
  up_to_first (z ∷ l) h = let c = lacks_cons x z l h in rw (eqb_no z x c.0) (ap (λ (r : List ℕ). z ∷ r) (up_to_first l c.1))

  pub past_first : (l : List ℕ) → mem x l ≡ false → past x (l ++ (x ∷ m)) ≡ m
  unfolding past place_of
  past_first [] h = rw (eqb_yes x x refl)
  past_first (z ∷ l) h = let c = lacks_cons x z l h in rw (eqb_no z x c.0) (past_first l c.1)

-- ---- numbers

digit_is : (b : ℕ) → 48 ≤ b → b ≤ 57 → is_digit b ≡ true
unfolding is_digit
digit_is b h k = rw (le-leb 48 b h, le-leb b 57 k)

-- the first digit of a number, which is 0 of 0 alone
record Begins (n : ℕ) (l : List ℕ) : Type 0 where
  head : ℕ
  tail : List ℕ
  is : l ≡ head ∷ tail
  low : 48 ≤ head
  high : head ≤ 57
  no_zero : 0 < n → head ≢ 48

-- by the last digit: what holds of numbers below ten, and with one more digit, holds
by_digits : (P : ℕ → List ℕ → Type 0)
    → ((n : ℕ) → n < 10 → P n (last_digit n ∷ []))
    → ((n : ℕ) → 10 ≤ n → P (n / 10) (decimal (n / 10)) → P n (decimal (n / 10) ++ (last_digit n ∷ [])))
    → (n : ℕ) → P n (decimal n)
by_digits P one more n = go n n (omega arith)
  where
    go : (fuel n : ℕ) → n ≤ fuel → P n (decimal n)
    go zero n h = rw (sym (decimal_last n (omega arith))) (one n (omega arith))
    go (suc fuel) n h = elim (dec_lt n 10) [
      | yes k ↦ rw (sym (decimal_last n k)) (one n k)
      | no k ↦
          let b : 10 ≤ n = omega (arith, k) in
          rw (sym (decimal_more n b)) (more n b (go fuel (n / 10) (omega arith)))
    ]

begins : (n : ℕ) → Begins n (decimal n)
begins = by_digits Begins
    (λ n h. record { head = last_digit n; tail = []; is = refl; low = omega arith; high = omega arith; no_zero = λ p e. omega (arith, h, p, e) })
    (λ n h b. record {
      head = b.head;
      tail = b.tail ++ (last_digit n ∷ []);
      is = ap (λ (l : List ℕ). l ++ (last_digit n ∷ [])) b.is;
      low = b.low;
      high = b.high;
      no_zero = λ p. b.no_zero (omega (arith, h));
    })

pub decimal_lacks : (x : ℕ) → x < 48 → (n : ℕ) → mem x (decimal n) ≡ false
decimal_lacks x low = by_digits (λ n l. mem x l ≡ false)
    (λ n h. rw (eqb_no x (last_digit n) (λ e. omega (arith, low, e))))
    (λ n h before. lacks_join x (decimal (n / 10)) (last_digit n ∷ []) before (rw (eqb_no x (last_digit n) (λ e. omega (arith, low, e)))))

-- one more digit
scan_digit : (most v n : ℕ) (m : List ℕ) → n ≤ most → 10 * v + (last_digit n - 48) ≡ n → scanned most v (last_digit n ∷ m) ≡ scanned most n m
unfolding scanned
scan_digit most v n m h e = rw (digit_is (last_digit n) (omega arith) (omega arith), e, le-leb n most h)

-- the digits of a number, and then others
scan_number : (most n : ℕ) → n ≤ most → (m : List ℕ) → scanned most 0 (decimal n ++ m) ≡ scanned most n m
scan_number most = by_digits (λ n l. n ≤ most → (m : List ℕ) → scanned most 0 (l ++ m) ≡ scanned most n m)
    (λ n low h m. scan_digit most 0 n m h (omega (arith, low)))
    (λ n more before h m.
    ap (scanned most 0) (append_assoc (decimal (n / 10)) (last_digit n ∷ []) m)
    ∙ before (omega (arith, h)) (last_digit n ∷ m)
    ∙ scan_digit most (n / 10) n m h (omega arith))

begun_well : (n : ℕ) → badly_begun (decimal n) ≡ false
unfolding badly_begun decimal digits
begun_well zero = refl
begun_well (suc n) =
    let b = begins (suc n) in
    let d = b.no_zero (omega arith) in
    rw (b.is, eqb_no b.head 48 d, eqb_no (suc (length b.tail)) 0 (omega arith))

pub number_back : (most n : ℕ) → n ≤ most → number_of most (decimal n) ≡ n
unfolding number_of scanned
number_back most n h = rw (begun_well n) (ap (scanned most 0) (sym (append-nil (decimal n))) ∙ scan_number most n h [])

-- ---- kinds

by_kinds : (P : ℕ → Type 0) → P 0 → P 1 → P 2 → P 3 → (k : ℕ) → k < 4 → P k
by_kinds P a b c d zero h = a
by_kinds P a b c d (suc zero) h = b
by_kinds P a b c d (suc (suc zero)) h = c
by_kinds P a b c d (suc (suc (suc zero))) h = d
by_kinds P a b c d (suc (suc (suc (suc k)))) h = absurd (omega arith)

kind_back : (k : ℕ) → k < 4 → kind_of (kind_word k) ≡ k
unfolding kind_of
kind_back = by_kinds (λ k. kind_of (kind_word k) ≡ k) refl refl refl refl

kind_lacks_comma : (k : ℕ) → k < 4 → mem comma (kind_word k) ≡ false
kind_lacks_comma = by_kinds (λ k. mem comma (kind_word k) ≡ false) refl refl refl refl

kind_lacks_feed : (k : ℕ) → k < 4 → mem line_feed (kind_word k) ≡ false
kind_lacks_feed = by_kinds (λ k. mem line_feed (kind_word k) ≡ false) refl refl refl refl

kind_lacks_return : (k : ℕ) → k < 4 → mem carriage_return (kind_word k) ≡ false
kind_lacks_return = by_kinds (λ k. mem carriage_return (kind_word k) ≡ false) refl refl refl refl

-- ---- lines

-- A line that can stand in a file: it has no line end, and begins with no letter.
pub record Plain (line : List ℕ) : Type 0 where
  pub no_feed : mem line_feed line ≡ false
  pub no_return : mem carriage_return line ≡ false
  pub head : ℕ
  pub tail : List ℕ
  pub is : line ≡ head ∷ tail
  pub no_letter : is_letter head ≡ false

digit_no_letter : (b : ℕ) → b ≤ 57 → is_letter b ≡ false
unfolding is_letter
digit_no_letter b h = rw (lt-leb 65 b (omega (arith, h)), lt-leb 97 b (omega (arith, h)))

-- with a number ahead
plain_from : (n : ℕ) (l : List ℕ) → mem line_feed l ≡ false → mem carriage_return l ≡ false → Plain (decimal n ++ l)
plain_from n l feed return =
    let b = begins n in
    record {
      no_feed = lacks_join line_feed (decimal n) l (decimal_lacks line_feed (omega arith) n) feed;
      no_return = lacks_join carriage_return (decimal n) l (decimal_lacks carriage_return (omega arith) n) return;
      head = b.head;
      tail = b.tail ++ l;
      is = ap (λ (t : List ℕ). t ++ l) b.is;
      no_letter = digit_no_letter b.head b.high;
    }

module _ (number : ℕ) (most : number ≤ most_number) where
  alone_line : line_of (alone number) ≡ decimal number
  unfolding line_of alone
  alone_line = rw (eqb_no number no_number (λ e. omega (arith, most, e)))

  alone_back : entry_of (decimal number) ≡ alone number
  unfolding entry_of
  alone_back =
      let none = decimal_lacks comma (omega arith) number in
      rw (none, up_to_none comma (decimal number) none, number_back most_number number most)

module _
    (number kind a b amount : ℕ)
    (number_most : number ≤ most_number) (kind_most : kind < 4) (a_most : a ≤ most_account) (b_most : b ≤ most_account) (amount_most : amount ≤ most_amount)
  where
    abbrev fourth : List ℕ
    fourth = decimal b ++ (comma ∷ decimal amount)

    abbrev third : List ℕ
    third = decimal a ++ (comma ∷ fourth)

    abbrev second : List ℕ
    second = kind_word kind ++ (comma ∷ third)

    whole_line : line_of (whole number kind a b amount) ≡ decimal number ++ (comma ∷ second)
    unfolding line_of whole
    whole_line =
        rw (
          eqb_no number no_number (λ e. omega (arith, number_most, e)),
          eqb_no kind no_number (λ e. omega (arith, kind_most, e)),
          eqb_no a no_number (λ e. omega (arith, a_most, e)),
          eqb_no b no_number (λ e. omega (arith, b_most, e)),
          eqb_no amount no_number (λ e. omega (arith, amount_most, e)),
        )

    whole_back : entry_of (decimal number ++ (comma ∷ second)) ≡ whole number kind a b amount
    unfolding entry_of fields_after
    whole_back =
        let n = decimal_lacks comma (omega arith) number in
        let k = kind_lacks_comma kind kind_most in
        let p = decimal_lacks comma (omega arith) a in
        let q = decimal_lacks comma (omega arith) b in
        rw (
          has_first comma second (decimal number),
          up_to_first comma second (decimal number) n,
          past_first comma second (decimal number) n,
          up_to_first comma third (kind_word kind) k,
          past_first comma third (kind_word kind) k,
          up_to_first comma fourth (decimal a) p,
          past_first comma fourth (decimal a) p,
          up_to_first comma (decimal amount) (decimal b) q,
          past_first comma (decimal amount) (decimal b) q,
          number_back most_number number number_most,
          kind_back kind kind_most,
          number_back most_account a a_most,
          number_back most_account b b_most,
          number_back most_amount amount amount_most,
        )

    -- a byte that no field has, nor parts them
    second_lacks : (x : ℕ) → x < 44 → mem x (kind_word kind) ≡ false → mem x (comma ∷ second) ≡ false
    second_lacks x low none =
        let c : eqb x comma ≡ false = eqb_no x comma (λ e. omega (arith, low, e)) in
        let d : (n : ℕ) → mem x (decimal n) ≡ false = decimal_lacks x (omega (arith, low)) in
        let joined : (l m : List ℕ) → mem x l ≡ false → mem x m ≡ false → mem x (l ++ (comma ∷ m)) ≡ false = λ l m h k. lacks_join x l (comma ∷ m) h (rw c k) in
        rw c (joined (kind_word kind) third none (joined (decimal a) fourth (d a) (joined (decimal b) (decimal amount) (d b) (d amount))))

    whole_plain : Plain (decimal number ++ (comma ∷ second))
    whole_plain =
        plain_from number (comma ∷ second)
        (second_lacks line_feed (omega arith) (kind_lacks_feed kind kind_most))
        (second_lacks carriage_return (omega arith) (kind_lacks_return kind kind_most))

-- a line says its entry
pub line_back : (e : Entry) → Sayable e → entry_of (line_of e) ≡ e
line_back e (of_number number h) = ap entry_of (alone_line number h) ∙ alone_back number h
line_back e (of_fields number kind a b amount n k p q m) = ap entry_of (whole_line number kind a b amount n k p q m) ∙ whole_back number kind a b amount n k p q m

pub line_plain : (e : Entry) → Sayable e → Plain (line_of e)
line_plain e (of_number number h) = rw (alone_line number h, sym (append-nil (decimal number))) (plain_from number [] refl refl)
line_plain e (of_fields number kind a b amount n k p q m) = rw (whole_line number kind a b amount n k p q m) (whole_plain number kind a b amount n k p q m)
