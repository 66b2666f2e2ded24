-- A statement by its numbers and bytes: two sites that show the same figures, and one that is down and shows none.
-- Rests on nothing.
use Rattle.std.specs.Prelude.{ℕ, List, [], ◌∷◌, ◌++◌, ℤ, pos, negsuc, replicate}

-- account 1 has the position 1000, account 2 the position -1000
unfoldable pub site_figures : List ℤ
site_figures = replicate 4 (pos 0) ++ (pos 1000 ∷ pos 0 ∷ pos 0 ∷ pos 0 ∷ negsuc 999 ∷ replicate 55 (pos 0))

unfoldable pub three_figures : List ℤ
three_figures = site_figures ++ (site_figures ++ replicate 64 (pos 0))

abbrev pub three_text : List ℕ
three_text =
    -- Site 0 up
    83 ∷ 105 ∷ 116 ∷ 101 ∷ 32 ∷ 48 ∷ 32 ∷ 117 ∷ 112 ∷ 10
    -- account 1 position 1000 rate 0 called 0 settled 0
    ∷ 97 ∷ 99 ∷ 99 ∷ 111 ∷ 117 ∷ 110 ∷ 116 ∷ 32 ∷ 49 ∷ 32 ∷ 112 ∷ 111 ∷ 115 ∷ 105 ∷ 116 ∷ 105 ∷ 111 ∷ 110 ∷ 32 ∷ 49 ∷ 48 ∷ 48 ∷ 48 ∷ 32 ∷ 114 ∷ 97 ∷ 116 ∷ 101 ∷ 32 ∷ 48 ∷ 32 ∷ 99 ∷ 97 ∷ 108 ∷ 108 ∷ 101 ∷ 100 ∷ 32 ∷ 48 ∷ 32 ∷ 115 ∷ 101 ∷ 116 ∷ 116 ∷ 108 ∷ 101 ∷ 100 ∷ 32 ∷ 48 ∷ 10
    -- account 2 position -1000 rate 0 called 0 settled 0
    ∷ 97 ∷ 99 ∷ 99 ∷ 111 ∷ 117 ∷ 110 ∷ 116 ∷ 32 ∷ 50 ∷ 32 ∷ 112 ∷ 111 ∷ 115 ∷ 105 ∷ 116 ∷ 105 ∷ 111 ∷ 110 ∷ 32 ∷ 45 ∷ 49 ∷ 48 ∷ 48 ∷ 48 ∷ 32 ∷ 114 ∷ 97 ∷ 116 ∷ 101 ∷ 32 ∷ 48 ∷ 32 ∷ 99 ∷ 97 ∷ 108 ∷ 108 ∷ 101 ∷ 100 ∷ 32 ∷ 48 ∷ 32 ∷ 115 ∷ 101 ∷ 116 ∷ 116 ∷ 108 ∷ 101 ∷ 100 ∷ 32 ∷ 48 ∷ 10
    -- Site 1 up
    ∷ 83 ∷ 105 ∷ 116 ∷ 101 ∷ 32 ∷ 49 ∷ 32 ∷ 117 ∷ 112 ∷ 10
    -- account 1 position 1000 rate 0 called 0 settled 0
    ∷ 97 ∷ 99 ∷ 99 ∷ 111 ∷ 117 ∷ 110 ∷ 116 ∷ 32 ∷ 49 ∷ 32 ∷ 112 ∷ 111 ∷ 115 ∷ 105 ∷ 116 ∷ 105 ∷ 111 ∷ 110 ∷ 32 ∷ 49 ∷ 48 ∷ 48 ∷ 48 ∷ 32 ∷ 114 ∷ 97 ∷ 116 ∷ 101 ∷ 32 ∷ 48 ∷ 32 ∷ 99 ∷ 97 ∷ 108 ∷ 108 ∷ 101 ∷ 100 ∷ 32 ∷ 48 ∷ 32 ∷ 115 ∷ 101 ∷ 116 ∷ 116 ∷ 108 ∷ 101 ∷ 100 ∷ 32 ∷ 48 ∷ 10
    -- account 2 position -1000 rate 0 called 0 settled 0
    ∷ 97 ∷ 99 ∷ 99 ∷ 111 ∷ 117 ∷ 110 ∷ 116 ∷ 32 ∷ 50 ∷ 32 ∷ 112 ∷ 111 ∷ 115 ∷ 105 ∷ 116 ∷ 105 ∷ 111 ∷ 110 ∷ 32 ∷ 45 ∷ 49 ∷ 48 ∷ 48 ∷ 48 ∷ 32 ∷ 114 ∷ 97 ∷ 116 ∷ 101 ∷ 32 ∷ 48 ∷ 32 ∷ 99 ∷ 97 ∷ 108 ∷ 108 ∷ 101 ∷ 100 ∷ 32 ∷ 48 ∷ 32 ∷ 115 ∷ 101 ∷ 116 ∷ 116 ∷ 108 ∷ 101 ∷ 100 ∷ 32 ∷ 48 ∷ 10
    -- Site 2 down
    ∷ 83 ∷ 105 ∷ 116 ∷ 101 ∷ 32 ∷ 50 ∷ 32 ∷ 100 ∷ 111 ∷ 119 ∷ 110 ∷ 10
    -- no figures
    ∷ 110 ∷ 111 ∷ 32 ∷ 102 ∷ 105 ∷ 103 ∷ 117 ∷ 114 ∷ 101 ∷ 115 ∷ 10
    -- All sites that are up show the same figures.
    ∷ 65 ∷ 108 ∷ 108 ∷ 32 ∷ 115 ∷ 105 ∷ 116 ∷ 101 ∷ 115 ∷ 32 ∷ 116 ∷ 104 ∷ 97 ∷ 116 ∷ 32 ∷ 97 ∷ 114 ∷ 101 ∷ 32 ∷ 117 ∷ 112 ∷ 32 ∷ 115 ∷ 104 ∷ 111 ∷ 119 ∷ 32 ∷ 116 ∷ 104 ∷ 101 ∷ 32 ∷ 115 ∷ 97 ∷ 109 ∷ 101 ∷ 32 ∷ 102 ∷ 105 ∷ 103 ∷ 117 ∷ 114 ∷ 101 ∷ 115 ∷ 46 ∷ 10
    ∷ []
