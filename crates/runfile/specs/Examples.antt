-- Files by their bytes: a header, a start that is refused, and files that are well formed and malformed.
-- Rests on nothing.
use Rattle.std.specs.Prelude.{ℕ, List, [], ◌∷◌, ◌++◌}

-- mark `RUN`, version 1; n 3, f 1, 0x5B6C
abbrev pub header : List ℕ
header = 82 ∷ 85 ∷ 78 ∷ 0 ∷ 1 ∷ 3 ∷ 1 ∷ 0x5B ∷ 0x6C ∷ []

-- ---- refusals

-- n 8, and F 2
abbrev pub eight_sites : List ℕ
eight_sites = 82 ∷ 85 ∷ 78 ∷ 0 ∷ 1 ∷ 8 ∷ 1 ∷ 0x5B ∷ 0x6C ∷ []

abbrev pub refused_text : ℕ → List ℕ
refused_text digit = 70 ∷ 32 ∷ digit ∷ 10 ∷ []

-- no event; a receive of form 9, cut after 0; a read cut after 254: values inside the fields are judged by the event
unfoldable pub well_formed_files : List (List ℕ)
well_formed_files =
    header
    ∷ (header ++ (2 ∷ 9 ∷ 0 ∷ 0 ∷ 0 ∷ 0 ∷ 0 ∷ 0 ∷ 0 ∷ 0 ∷ []))
    ∷ (header ++ (4 ∷ 0 ∷ 0 ∷ 0 ∷ 0 ∷ 0 ∷ 0 ∷ 0 ∷ 0 ∷ 254 ∷ []))
    ∷ []

unfoldable pub malformed_files : List (List ℕ)
malformed_files =
    -- nothing; another mark; version 2; a byte missing; a byte of an event missing
    []
    ∷ (82 ∷ 85 ∷ 77 ∷ 0 ∷ 1 ∷ 3 ∷ 1 ∷ 0x5B ∷ 0x6C ∷ [])
    ∷ (82 ∷ 85 ∷ 78 ∷ 0 ∷ 2 ∷ 3 ∷ 1 ∷ 0x5B ∷ 0x6C ∷ [])
    ∷ (82 ∷ 85 ∷ 78 ∷ 0 ∷ 1 ∷ 3 ∷ 1 ∷ 0x5B ∷ [])
    ∷ (header ++ (2 ∷ 0 ∷ 0 ∷ 0 ∷ 0 ∷ 0 ∷ 0 ∷ 0 ∷ 0 ∷ []))
    -- codes 0 and 6
    ∷ (header ++ (0 ∷ 0 ∷ 0 ∷ 0 ∷ 0 ∷ 0 ∷ 0 ∷ 0 ∷ 0 ∷ 255 ∷ []))
    ∷ (header ++ (6 ∷ 0 ∷ 0 ∷ 0 ∷ 0 ∷ 0 ∷ 0 ∷ 0 ∷ 0 ∷ 255 ∷ []))
    -- an unused byte of a receive, the first; of an order, the last
    ∷ (header ++ (2 ∷ 0 ∷ 0 ∷ 0 ∷ 0 ∷ 1 ∷ 0 ∷ 0 ∷ 0 ∷ 255 ∷ []))
    ∷ (header ++ (3 ∷ 0 ∷ 0 ∷ 0 ∷ 0 ∷ 0 ∷ 0 ∷ 0 ∷ 1 ∷ 255 ∷ []))
    -- an order and a crash that are cut
    ∷ (header ++ (3 ∷ 0 ∷ 0 ∷ 0 ∷ 0 ∷ 0 ∷ 0 ∷ 0 ∷ 0 ∷ 254 ∷ []))
    ∷ (header ++ (5 ∷ 0 ∷ 0 ∷ 0 ∷ 0 ∷ 0 ∷ 0 ∷ 0 ∷ 0 ∷ 0 ∷ []))
    ∷ []
