-- What a step sends, in order, and what it is to a site.
-- Rests on sets.
use Rattle.std.specs.Prelude.{ℕ, zero, suc, Bool, cond, List, [], ◌∷◌, ◌++◌, eqb}
use Rattle.sets.specs.declared.Set.{Set}
use Rattle.site.specs.declared.Site.{Site}
use Rattle.site.specs.declared.Tally.{Tally}

-- the forms of messages, with document 01's numbers
abbrev pub FIRST : ℕ
FIRST = 0

abbrev pub SECOND : ℕ
SECOND = 1

abbrev pub THIRD : ℕ
THIRD = 2

abbrev pub DELIVER : ℕ
DELIVER = 3

abbrev pub forms : ℕ
forms = 4

-- one send: a message about posting m to a site, a SECOND with its GOOD or BAD, a THIRD with its carried set; or the entry of m, with its set, into the pool
pub data Send : Type 0 where
  first : (m to : ℕ) → Send
  second : (m to : ℕ) → Bool → Send
  third : (m to : ℕ) → Set → Send
  deliver : (m to : ℕ) → Send
  entry : (m : ℕ) → Set → Send

-- the same to all n sites, in rising number
unfoldable pub to_all : ℕ → (ℕ → Send) → List Send
to_all zero send = []
to_all (suc n) send = to_all n send ++ (send n ∷ [])

-- the same to all n sites but p, in rising number
unfoldable pub to_others : ℕ → ℕ → (ℕ → Send) → List Send
to_others zero p send = []
to_others (suc n) p send = to_others n p send ++ cond (eqb n p) [] (send n ∷ [])

-- A step: the site, and the tally of the posting, once the sets have changed; what it sends; what it then delivers.
pub record Step : Type 0 where
  pub site : Site
  pub tally : Tally
  pub sends : List Send
  pub delivers : List ℕ
