-- Texts as they stand in a chart.
use Rattle.std.specs.Prelude.{ℕ, ◌-◌, nat_le, List, [], ◌∷◌, ◌++◌, codes, length, take, if◌then◌else◌, ◌==◌}
use Rattle.std.specs.List.{flat_map}

-- a byte, where it means something else in a chart by its name
abbrev pub escape : ℕ → List ℕ
escape byte =
    if byte == 38 then codes "&amp;" else (if byte == 60 then codes "&lt;"
    else (if byte == 62 then codes "&gt;" else (if byte == 34 then codes "&quot;" else byte ∷ [])))

abbrev pub escaped : List ℕ → List ℕ
escaped text = flat_map escape text

-- at most that many bytes of a text, the last two of which say that there is more
abbrev pub fitted : ℕ → List ℕ → List ℕ
fitted most text =
    if nat_le (length text) most then escaped text else escaped (take (most - 2) text)
    ++ codes ".."

-- a line of what a box tells when one points at it, where there is one
abbrev pub title_line : List ℕ → List ℕ
title_line [] = []
title_line (first ∷ line) = escaped (first ∷ line) ++ 10 ∷ []
