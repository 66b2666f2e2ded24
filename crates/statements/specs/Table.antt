-- The table of figures as a statement shows it: the lines of every site, account by account, and whether the sites that are up show the same.
-- Rests on amounts and printer for numbers and words, on books, posting and sets. Figures are a list of numbers; no board is spoken of.
use Rattle.std.specs.Prelude.{ℕ, zero, suc, ◌+◌, ◌*◌, Bool, cond, ◌&&◌, ◌||◌, List, [], ◌∷◌, ◌++◌, ℤ, pos, get_or}
use Rattle.sets.specs.Below.{all_below}
use Rattle.sets.specs.Masks.{has_bit}
use Rattle.posting.specs.Kinds.{accounts}
use Rattle.books.specs.declared.Figures.{Figures}
use Rattle.printer.specs.Output.{decimal, up_word, down_word, newline}
use Rattle.amounts.specs.Amounts.{signed, is_zero, same_number}

-- ---- words, as the bytes of the text that the comment shows, with its spaces; a line ends with the byte 10

-- "Site ", "account "
abbrev pub heading_word : List ℕ
heading_word = 83 ∷ 105 ∷ 116 ∷ 101 ∷ 32 ∷ []

abbrev pub account_word : List ℕ
account_word = 97 ∷ 99 ∷ 99 ∷ 111 ∷ 117 ∷ 110 ∷ 116 ∷ 32 ∷ []

-- " position ", " rate ", " called ", " settled "
abbrev pub position_word : List ℕ
position_word = 32 ∷ 112 ∷ 111 ∷ 115 ∷ 105 ∷ 116 ∷ 105 ∷ 111 ∷ 110 ∷ 32 ∷ []

abbrev pub rate_word : List ℕ
rate_word = 32 ∷ 114 ∷ 97 ∷ 116 ∷ 101 ∷ 32 ∷ []

abbrev pub called_word : List ℕ
called_word = 32 ∷ 99 ∷ 97 ∷ 108 ∷ 108 ∷ 101 ∷ 100 ∷ 32 ∷ []

abbrev pub settled_word : List ℕ
settled_word = 32 ∷ 115 ∷ 101 ∷ 116 ∷ 116 ∷ 108 ∷ 101 ∷ 100 ∷ 32 ∷ []

-- "no figures", and the two closing lines, each with the end of the line
abbrev pub no_figures : List ℕ
no_figures = 110 ∷ 111 ∷ 32 ∷ 102 ∷ 105 ∷ 103 ∷ 117 ∷ 114 ∷ 101 ∷ 115 ∷ 10 ∷ []

abbrev pub same_words : List ℕ
same_words = 65 ∷ 108 ∷ 108 ∷ 32 ∷ 115 ∷ 105 ∷ 116 ∷ 101 ∷ 115 ∷ 32 ∷ 116 ∷ 104 ∷ 97 ∷ 116 ∷ 32 ∷ 97 ∷ 114 ∷ 101 ∷ 32 ∷ 117 ∷ 112 ∷ 32 ∷ 115 ∷ 104 ∷ 111 ∷ 119 ∷ 32 ∷ 116 ∷ 104 ∷ 101 ∷ 32 ∷ 115 ∷ 97 ∷ 109 ∷ 101 ∷ 32 ∷ 102 ∷ 105 ∷ 103 ∷ 117 ∷ 114 ∷ 101 ∷ 115 ∷ 46 ∷ 10 ∷ []

abbrev pub different_words : List ℕ
different_words = 83 ∷ 105 ∷ 116 ∷ 101 ∷ 115 ∷ 32 ∷ 116 ∷ 104 ∷ 97 ∷ 116 ∷ 32 ∷ 97 ∷ 114 ∷ 101 ∷ 32 ∷ 117 ∷ 112 ∷ 32 ∷ 115 ∷ 104 ∷ 111 ∷ 119 ∷ 32 ∷ 100 ∷ 105 ∷ 102 ∷ 102 ∷ 101 ∷ 114 ∷ 101 ∷ 110 ∷ 116 ∷ 32 ∷ 102 ∷ 105 ∷ 103 ∷ 117 ∷ 114 ∷ 101 ∷ 115 ∷ 46 ∷ 10 ∷ []

-- ---- figures, of which there are 64 for each site, and in them four for each account

abbrev pub figure_at : List ℤ → ℕ → ℕ → ℕ → ℤ
figure_at l p k i = get_or l (64 * p + 4 * k + i) (pos 0)

-- the figures of site p's account k
unfoldable pub account_at : List ℤ → ℕ → ℕ → Figures
account_at l p k = record { position = figure_at l p k 0; rate = figure_at l p k 1; called = figure_at l p k 2; settled = figure_at l p k 3 }

-- all four are zeros
unfoldable pub is_blank : Figures → Bool
is_blank a = is_zero a.position && (is_zero a.rate && (is_zero a.called && is_zero a.settled))

-- ---- lines

-- account, position, rate, called, settled
unfoldable pub account_line : ℕ → Figures → List ℕ
account_line k a =
    account_word
    ++ (decimal k
    ++ ((position_word ++ signed a.position)
    ++ ((rate_word ++ signed a.rate) ++ ((called_word ++ signed a.called) ++ ((settled_word ++ signed a.settled) ++ newline)))))

-- an account whose figures are all zeros has no line
unfoldable pub account_part : ℕ → Figures → List ℕ
account_part k a = cond (is_blank a) [] (account_line k a)

-- the lines of the first k accounts of site p
unfoldable pub account_lines : List ℤ → ℕ → ℕ → List ℕ
account_lines l p zero = []
account_lines l p (suc k) = account_lines l p k ++ account_part k (account_at l p k)

-- no account of site p has figures
unfoldable pub has_none : List ℤ → ℕ → Bool
has_none l p = all_below (λ k. is_blank (account_at l p k)) accounts

-- a site, up or down
unfoldable pub site_heading : ℕ → Bool → List ℕ
site_heading p down = heading_word ++ (decimal p ++ (cond down down_word up_word ++ newline))

unfoldable pub accounts_part : List ℤ → ℕ → List ℕ
accounts_part l p = cond (has_none l p) no_figures (account_lines l p accounts)

-- a site and its accounts
unfoldable pub site_part : List ℤ → ℕ → Bool → List ℕ
site_part l p down = site_heading p down ++ accounts_part l p

-- the first n sites, of which some are down
unfoldable pub site_parts : List ℤ → ℕ → ℕ → List ℕ
site_parts l down zero = []
site_parts l down (suc p) = site_parts l down p ++ site_part l p (has_bit down p)

-- ---- whether the sites that are up show the same figures

unfoldable pub same_account : Figures → Figures → Bool
same_account a b =
    same_number a.position b.position
    && (same_number a.rate b.rate && (same_number a.called b.called && same_number a.settled b.settled))

-- sites p and q show the same figures
unfoldable pub same_site : List ℤ → ℕ → ℕ → Bool
same_site l p q = all_below (λ k. same_account (account_at l p k) (account_at l q k)) accounts

-- they do, or one of them is down
unfoldable pub agree : List ℤ → ℕ → ℕ → ℕ → Bool
agree l down p q = has_bit down p || (has_bit down q || same_site l p q)

-- site p agrees with each of n sites
unfoldable pub agree_with : List ℤ → ℕ → ℕ → ℕ → Bool
agree_with l n down p = all_below (agree l down p) n

-- each of n sites does
unfoldable pub all_agree : List ℤ → ℕ → ℕ → Bool
all_agree l n down = all_below (agree_with l n down) n

abbrev pub closing_line : Bool → List ℕ
closing_line same = cond same same_words different_words

-- ---- the whole

-- the statement of the figures of n sites, of which some are down
unfoldable pub statement_text : List ℤ → ℕ → ℕ → List ℕ
statement_text l n down = site_parts l down n ++ closing_line (all_agree l n down)
