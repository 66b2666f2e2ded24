-- Document 01's "Whole case" by its bytes: the run file, and the text that `board` prints for it.
-- Rests on runfile.
use Rattle.std.specs.Prelude.{ℕ, List, [], ◌∷◌, ◌++◌}
use Rattle.runfile.specs.Examples.{header}

-- site 0 offers TRADE 1, 2, 1000, which is 3 × 256 + 232; uncut
abbrev trade_offered : List ℕ
trade_offered = 1 ∷ 0 ∷ 0 ∷ 1 ∷ 2 ∷ 0 ∷ 0 ∷ 3 ∷ 232 ∷ 255 ∷ []

-- FIRST 0 from 0 to 0; uncut
abbrev first_received : List ℕ
first_received = 2 ∷ 0 ∷ 0 ∷ 0 ∷ 0 ∷ 0 ∷ 0 ∷ 0 ∷ 0 ∷ 255 ∷ []

-- n 3, f 1, 0x5B6C; site 0 offers TRADE 1, 2, 1000; site 0 receives FIRST 0 from 0; the same again
abbrev pub whole_file : List ℕ
whole_file = header ++ (trade_offered ++ (first_received ++ first_received))

-- what is printed, line by line; 32 is a space and 10 the end of a line
abbrev pub whole_text : List ℕ
whole_text =
    -- E 1 ok
    69 ∷ 32 ∷ 49 ∷ 32 ∷ 111 ∷ 107 ∷ 10
    -- E 2 ok
    ∷ 69 ∷ 32 ∷ 50 ∷ 32 ∷ 111 ∷ 107 ∷ 10
    -- E 3 no 11
    ∷ 69 ∷ 32 ∷ 51 ∷ 32 ∷ 110 ∷ 111 ∷ 32 ∷ 49 ∷ 49 ∷ 10
    -- S 0 up
    ∷ 83 ∷ 32 ∷ 48 ∷ 32 ∷ 117 ∷ 112 ∷ 10
    -- S 1 up
    ∷ 83 ∷ 32 ∷ 49 ∷ 32 ∷ 117 ∷ 112 ∷ 10
    -- S 2 up
    ∷ 83 ∷ 32 ∷ 50 ∷ 32 ∷ 117 ∷ 112 ∷ 10
    -- L
    ∷ 76 ∷ 10
    -- Q no
    ∷ 81 ∷ 32 ∷ 110 ∷ 111 ∷ 10
    ∷ []
