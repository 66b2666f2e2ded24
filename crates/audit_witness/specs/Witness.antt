-- The words of two postings, and of what one or two sites show of them: each sentence can be checked by a search in the sites' files.
-- Rests on amounts and printer for texts, on audit_files for kinds in words, on audit_rule's Handed, on posting, and on audit_input's Answer.
use Rattle.std.specs.Prelude.{ℕ, zero, suc, ◌+◌, cond, ◌&&◌, List, [], ◌∷◌, ◌++◌, eqb, get_or}
use Rattle.posting.specs.Kinds.{trade, rate, nets_all}
use Rattle.posting.specs.Conflicts.{touches}
use Rattle.posting.specs.declared.Posting.{Posting}
use Rattle.printer.specs.Output.{decimal}
use Rattle.amounts.specs.Amounts.{text, units}
use Rattle.audit_rule.specs.Handed.{posting_at, record_of, place_of}
use Rattle.audit_input.specs.declared.Answer.{Answer}
use Rattle.audit_files.specs.Written.{kind_word}

-- ---- a posting

-- "CALL 40"
unfoldable pub posting_words : List ℕ → ℕ → List ℕ
posting_words kinds x = kind_word (get_or kinds x 0) ++ (text " " ++ decimal x)

-- its accounts and its amount
unfoldable pub trade_words : (a b amount : ℕ) → List ℕ
trade_words a b amount = text ": accounts " ++ (decimal a ++ (text " and " ++ (decimal b ++ (text ", " ++ (units amount ++ text ".\n")))))

unfoldable pub rate_words : (a amount : ℕ) → List ℕ
rate_words a amount = text ": account " ++ (decimal a ++ (text ", " ++ (decimal amount ++ text " per 10,000.\n")))

unfoldable pub account_words : ℕ → List ℕ
account_words a = text ": account " ++ (decimal a ++ text ".\n")

unfoldable pub field_words : Posting → List ℕ
field_words p =
    cond (nets_all p) (text ": every account.\n")
    (cond (eqb p.kind trade) (trade_words p.a p.b p.amount) (cond (eqb p.kind rate) (rate_words p.a p.amount) (account_words p.a)))

-- the accounts that two postings touch both, of the first k
unfoldable pub shared_account : Posting → Posting → ℕ → List ℕ
shared_account p q k = cond (touches p k && touches q k) (text " " ++ decimal k) []

unfoldable pub shared_accounts : Posting → Posting → ℕ → List ℕ
shared_accounts p q zero = []
shared_accounts p q (suc k) = shared_accounts p q k ++ shared_account p q k

-- ---- a site's record

-- the line of site p's file that names posting x: `tops` has the number of each file's first line that is no heading
unfoldable pub line_number : (lines ends tops : List ℕ) → (p x : ℕ) → ℕ
line_number lines ends tops p x = get_or tops p 0 + place_of x (record_of lines ends p)

-- what agrees: all that was read ahead of the line
unfoldable pub before_words : List ℕ → Answer → List ℕ
before_words tops r =
    text "All that was read ahead of site "
    ++ (decimal r.site
    ++ (text "'s line "
    ++ (decimal (get_or tops r.site 0 + r.line)
    ++ text " agrees: the sites before it whole, and its own lines above. With that line the records do not agree.\n")))

module _ (kinds lines ends tops : List ℕ) where
  -- "CALL 40 (line 9)"
  unfoldable pub stands_words : (p x : ℕ) → List ℕ
  stands_words p x = posting_words kinds x ++ (text " (line " ++ (decimal (line_number lines ends tops p x) ++ text ")"))

  unfoldable pub booked_words : (p x : ℕ) → List ℕ
  booked_words p x = text "Site " ++ (decimal p ++ (text " booked " ++ stands_words p x))

  -- "Site 2 booked CALL 40 (line 9) ahead of RATE 17 (line 12)."
  unfoldable pub ahead_words : (p x y : ℕ) → List ℕ
  ahead_words p x y = booked_words p x ++ (text " ahead of " ++ (stands_words p y ++ text ".\n"))

  -- "Site 2 booked CALL 40 (line 9) without RATE 17."
  unfoldable pub without_words : (p x y : ℕ) → List ℕ
  without_words p x y = booked_words p x ++ (text " without " ++ (posting_words kinds y ++ text ".\n"))

  -- ---- the finding: 10 crossed, 11 missing, 12 apart

  unfoldable pub finding_words : Answer → List ℕ
  finding_words r =
      cond (eqb r.code 10) (ahead_words r.here r.first r.second ++ ahead_words r.there r.second r.first)
      (cond (eqb r.code 11) (without_words r.here r.second r.first ++ ahead_words r.there r.first r.second)
      (without_words r.here r.first r.second ++ (without_words r.there r.second r.first ++ text "No site booked both.\n")))

-- ---- the pair

module _ (kinds firsts seconds amounts : List ℕ) where
  abbrev posting : ℕ → Posting
  posting x = posting_at kinds firsts seconds amounts x

  unfoldable pub pair_words : (x y : ℕ) → List ℕ
  pair_words x y =
      (posting_words kinds x ++ field_words (posting x))
      ++ ((posting_words kinds y ++ field_words (posting y))
      ++ (text "They conflict on these accounts:" ++ (shared_accounts (posting x) (posting y) 16 ++ text ".\n")))

unfoldable pub witness_words : (kinds firsts seconds amounts lines ends tops : List ℕ) → Answer → List ℕ
witness_words kinds firsts seconds amounts lines ends tops r =
    finding_words kinds lines ends tops r ++ (pair_words kinds firsts seconds amounts r.first r.second ++ before_words tops r)
